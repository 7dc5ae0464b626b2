-- The entries of sessions, and when they are runs.
use Rattle.std.proofs.Common.{◌≡◌, ◌≢◌, inl, inr, ℕ, ◌<◌, Bool, true, false, cond, List, [], ◌∷◌, ◌++◌, refl, sym, ap, subst, ◌∙◌, arith}
use Rattle.std.specs.Prelude.{◌==◌}
use Rattle.std.specs.List.{AllByRecursion}
use Rattle.std.proofs.lemmas.List.{append-nil}
use Rattle.std.proofs.lemmas.Bool.{cases_eq}
use Rattle.std.proofs.lemmas.Bool.Decides.{nat_tests}
use Rattle.lease_core.specs.Laws.{RunsGoOn}
use Rattle.lease_core.specs.State.{State, state_after, opening, state_of}
use Rattle.lease_core.specs.Runs.{IsNext, IsRun, IsRunFrom}
use Rattle.lease_core.specs.declared.entry.Entry.{Entry}
use Rattle.lease_core.specs.declared.record.Record.{Record}
use Rattle.durable_journal.specs.Files.{entries_of, AreRuns, IsLawful, IsBatch, Stands, all_of}

from_front : (limit : ℕ) (s : State) (es fs : List Entry) → IsRunFrom limit s (es ++ fs) → IsRunFrom limit s es
from_front limit s [] fs run = tt
from_front limit s (e ∷ es) fs run = (run.0, from_front limit (state_after s e) es fs run.1)

pub run_front : (limit : ℕ) (es fs : List Entry) → IsRun limit (es ++ fs) → IsRun limit es
unfolding IsRun
run_front limit es fs run = from_front limit opening es fs run

pub run_none : (limit : ℕ) → IsRun limit []
unfolding IsRun
run_none limit = tt

onto_same : (s : ℕ) (r : Record) (es : List Entry) (b : Bool) (fs : List Entry) → cond b (r.entry ∷ (es ++ fs)) (es ++ fs) ≡ cond b (r.entry ∷ es) es ++ fs
onto_same s r es true fs = refl
onto_same s r es false fs = refl

pub entries_append : (s : ℕ) (xs ys : List Record) → entries_of s (xs ++ ys) ≡ entries_of s xs ++ entries_of s ys
entries_append s [] ys = refl
entries_append s (r ∷ xs) ys =
    ap (λ (es : List Entry). cond (r.s == s) (r.entry ∷ es) es) (entries_append s xs ys) ∙ onto_same s r (entries_of s xs) (r.s == s) (entries_of s ys)

all_front : (sessions : ℕ) (xs ys : List Record) → AllByRecursion (λ r. r.s < sessions) (xs ++ ys) → AllByRecursion (λ r. r.s < sessions) xs
all_front sessions [] ys all = tt
all_front sessions (r ∷ xs) ys all = (all.0, all_front sessions xs ys all.1)

all_more : (sessions : ℕ) (xs ys : List Record) → AllByRecursion (λ r. r.s < sessions) xs → AllByRecursion (λ r. r.s < sessions) ys → AllByRecursion (λ r. r.s < sessions) (xs ++ ys)
all_more sessions [] ys all more = more
all_more sessions (r ∷ xs) ys all more = (all.0, all_more sessions xs ys all.1 more)

all_last : (sessions : ℕ) (xs : List Record) (r : Record) → AllByRecursion (λ q. q.s < sessions) (xs ++ r ∷ []) → r.s < sessions
all_last sessions [] r all = all.0
all_last sessions (x ∷ xs) r all = all_last sessions xs r all.1

pub runs_front : (sessions leases : ℕ) (xs ys : List Record) → AreRuns sessions leases (xs ++ ys) → AreRuns sessions leases xs
runs_front sessions leases xs ys runs = record {
  in_sessions = all_front sessions xs ys runs.in_sessions;
  runs = λ s. run_front leases (entries_of s xs) (entries_of s ys) (subst (IsRun leases) (entries_append s xs ys) (runs.runs s));
}

pub runs_none : (sessions leases : ℕ) → AreRuns sessions leases []
runs_none sessions leases = record { in_sessions = tt; runs = λ s. run_none leases }

pub entries_same : (s : ℕ) (xs : List Record) (r : Record) → r.s ≡ s → entries_of s (xs ++ r ∷ []) ≡ entries_of s xs ++ r.entry ∷ []
entries_same s xs r is = entries_append s xs (r ∷ []) ∙ ap (λ (es : List Entry). entries_of s xs ++ es) one
  where
    one : entries_of s (r ∷ []) ≡ r.entry ∷ []
    one = grind (arith, nat_tests)

pub entries_other : (s : ℕ) (xs : List Record) (r : Record) → r.s ≢ s → entries_of s (xs ++ r ∷ []) ≡ entries_of s xs
entries_other s xs r is = entries_append s xs (r ∷ []) ∙ (ap (λ (es : List Entry). entries_of s xs ++ es) none ∙ append-nil (entries_of s xs))
  where
    none : entries_of s (r ∷ []) ≡ []
    none = grind (arith, nat_tests)

-- one record more
pub runs_more : RunsGoOn → (sessions leases : ℕ) (xs : List Record) (r : Record) → AreRuns sessions leases xs → r.s < sessions → IsNext leases (state_of (entries_of r.s xs)) r.entry → AreRuns sessions leases (xs ++ r ∷ [])
runs_more go_on sessions leases xs r runs in_range next = record {
  in_sessions = all_more sessions xs (r ∷ []) runs.in_sessions (in_range, tt);
  runs = λ s. elim (cases_eq r.s s) [
    | inl same ↦ subst (IsRun leases) (sym (entries_same s xs r same)) (subst (λ (k : ℕ). IsRun leases (entries_of k xs ++ r.entry ∷ [])) same ((go_on leases (entries_of r.s xs) r.entry).1 (runs.runs r.s, next)))
    | inr other ↦ subst (IsRun leases) (sym (entries_other s xs r other)) (runs.runs s)
  ];
}

pub runs_last : RunsGoOn → (sessions leases : ℕ) (xs : List Record) (r : Record) → AreRuns sessions leases (xs ++ r ∷ []) → IsNext leases (state_of (entries_of r.s xs)) r.entry
runs_last go_on sessions leases xs r runs = ((go_on leases (entries_of r.s xs) r.entry).0 (subst (IsRun leases) (entries_same r.s xs r refl) (runs.runs r.s))).1

pub session_last : (sessions leases : ℕ) (xs : List Record) (r : Record) → AreRuns sessions leases (xs ++ r ∷ []) → r.s < sessions
session_last sessions leases xs r runs = all_last sessions xs r runs.in_sessions

-- ---- what a file holds

lawful_more : (xs ys : List Record) → AllByRecursion IsLawful xs → AllByRecursion IsLawful ys → AllByRecursion IsLawful (xs ++ ys)
lawful_more [] ys all more = more
lawful_more (r ∷ xs) ys all more = (all.0, lawful_more xs ys all.1 more)

lawful_all : (batches : List (List Record)) → AllByRecursion IsBatch batches → AllByRecursion IsLawful (all_of batches)
lawful_all [] each = tt
lawful_all (batch ∷ batches) each = lawful_more batch (all_of batches) each.0.lawful (lawful_all batches each.1)

pub held_lawful : (sessions leases : ℕ) (file : List ℕ) (records : List Record) → Stands sessions leases file records → AllByRecursion IsLawful records
held_lawful sessions leases file records stands = elim stands [
  | inl none ↦ subst (λ (l : List Record). AllByRecursion IsLawful l) (sym none.1) tt
  | inr held ↦ subst (λ (l : List Record). AllByRecursion IsLawful l) (sym held.records_are) (lawful_all held.batches held.is_file.lawful.each)
]

pub held_runs : (sessions leases : ℕ) (file : List ℕ) (records : List Record) → Stands sessions leases file records → AreRuns sessions leases records
held_runs sessions leases file records stands = elim stands [
  | inl none ↦ subst (λ (l : List Record). AreRuns sessions leases l) (sym none.1) (runs_none sessions leases)
  | inr held ↦ subst (λ (l : List Record). AreRuns sessions leases l) (sym held.records_are) held.is_file.lawful.runs
]
