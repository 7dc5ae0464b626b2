-- What is kept of each session beside the records that were read.
use Rattle.std.proofs.Common.{◌≡◌, inl, inr, ℕ, zero, suc, ◌<◌, List, [], ◌∷◌, ◌++◌, length, Some, refl, sym, ap, subst, ◌∙◌, arith}
use Rattle.std.specs.Prelude.{slice_get}
use Rattle.std.proofs.lemmas.Bool.{cases_eq}
use Rattle.std.proofs.lemmas.Option.{slice_get_within}
use Rattle.lease_core.specs.Kept.{Kept}
use Rattle.lease_core.specs.Laws.{RunsGoOn}
use Rattle.lease_core.specs.State.{state_of}
use Rattle.lease_core.specs.Runs.{IsNext}
use Rattle.lease_core.specs.declared.entry.Entry.{Entry}
use Rattle.lease_core.specs.declared.record.Record.{Record}
use Rattle.durable_journal.specs.Files.{AreRuns, entries_of}
use Rattle.durable_journal.specs.Recovered.{AreKept, HaveSameEntries, TakesEntry, RefusesEntry}
use Rattle.durable_journal.proofs.Runs.{runs_more, runs_last, runs_none, session_last, entries_same, entries_other}

got : (xs : List Kept) (i : ℕ) → i < length xs → (x : Kept) × (slice_get xs i ≡ Some x)
got [] i lt = absurd (omega arith)
got (x ∷ xs) zero lt = (x, refl)
got (x ∷ xs) (suc i) lt = got xs i (omega arith)

pub kept_same : (leases : ℕ) (old new : List Kept) (records : List Record) → AreKept leases old records → HaveSameEntries old new → length new ≡ length old → AreKept leases new records
kept_same leases old new records kept same len = record {
  runs = subst (λ (n : ℕ). AreRuns n leases records) (sym len) kept.runs;
  entries = λ s k at. let was = same s k at in was.2 ∙ kept.entries s was.0 was.1;
  limits = λ s k at. let was = same s k at in was.3 ∙ kept.limits s was.0 was.1;
}

pub kept_taken : RunsGoOn → (leases : ℕ) (old new : List Kept) (records : List Record) (r : Record) → AreKept leases old records → TakesEntry old r.s r.entry new → length new ≡ length old → AreKept leases new (records ++ r ∷ [])
kept_taken go_on leases old new records r kept takes len =
    let was = takes.was in
    let entries_were : was.entries ≡ entries_of r.s records = kept.entries r.s was takes.of_session in
    let limit_was : was.leases ≡ leases = kept.limits r.s was takes.of_session in
    let next : IsNext leases (state_of (entries_of r.s records)) r.entry =
    subst (λ (es : List Entry). IsNext leases (state_of es) r.entry) entries_were (subst (λ (n : ℕ). IsNext n (state_of was.entries) r.entry) limit_was takes.next) in
    let in_range : r.s < length old = slice_get_within old r.s was takes.of_session in
    record {
      runs = subst (λ (n : ℕ). AreRuns n leases (records ++ r ∷ [])) (sym len) (runs_more go_on (length old) leases records r kept.runs in_range next);
      entries = λ s k at. elim (cases_eq s r.s) [
        | inl same ↦
            (takes.now k (subst (λ (n : ℕ). slice_get new n ≡ Some k) same at)).0
            ∙ ap (λ (es : List Entry). es ++ r.entry ∷ []) (entries_were ∙ ap (λ (n : ℕ). entries_of n records) (sym same)) ∙ sym (entries_same s records r (sym same))
        | inr other ↦
            let before = takes.others s other k at in
            before.2 ∙ kept.entries s before.0 before.1 ∙ sym (entries_other s records r (λ is. other (sym is)))
      ];
      limits = λ s k at. elim (cases_eq s r.s) [
        | inl same ↦ (takes.now k (subst (λ (n : ℕ). slice_get new n ≡ Some k) same at)).1 ∙ limit_was
        | inr other ↦ let before = takes.others s other k at in before.3 ∙ kept.limits s before.0 before.1
      ];
    }

pub kept_refused : RunsGoOn → (leases : ℕ) (old : List Kept) (records : List Record) (r : Record) → AreKept leases old records → RefusesEntry old r.s r.entry → AreRuns (length old) leases (records ++ r ∷ []) → ⊥
kept_refused go_on leases old records r kept refuses runs =
    let in_range = session_last (length old) leases records r runs in
    let found = got old r.s in_range in
    let was = found.0 in
    let next = runs_last go_on (length old) leases records r runs in
    refuses was found.1 (subst (λ (es : List Entry). IsNext was.leases (state_of es) r.entry) (sym (kept.entries r.s was found.1)) (subst (λ (n : ℕ). IsNext n (state_of (entries_of r.s records)) r.entry) (sym (kept.limits r.s was found.1)) next))

-- no entries yet
pub kept_none : (leases : ℕ) (recoveries : List Kept) → ((s : ℕ) (kept : Kept) → slice_get recoveries s ≡ Some kept → (kept.entries ≡ []) × (kept.leases ≡ leases)) → AreKept leases recoveries []
kept_none leases recoveries each = record {
  runs = runs_none (length recoveries) leases;
  entries = λ s k at. (each s k at).0;
  limits = λ s k at. (each s k at).1;
}

pub each_push : (leases : ℕ) (recoveries : List Kept) (new : Kept) → ((s : ℕ) (kept : Kept) → slice_get recoveries s ≡ Some kept → (kept.entries ≡ []) × (kept.leases ≡ leases)) → new.entries ≡ [] → new.leases ≡ leases
    → (s : ℕ) (kept : Kept) → slice_get (recoveries ++ new ∷ []) s ≡ Some kept → (kept.entries ≡ []) × (kept.leases ≡ leases)
each_push leases [] new each none limit zero kept at = let same : new ≡ kept = grind (arith, at) in (subst (λ (k : Kept). k.entries ≡ []) same none, subst (λ (k : Kept). k.leases ≡ leases) same limit)
each_push leases [] new each none limit (suc s) kept at = absurd (grind (arith, at))
each_push leases (k ∷ recoveries) new each none limit zero kept at = each zero kept at
each_push leases (k ∷ recoveries) new each none limit (suc s) kept at = each_push leases recoveries new (λ n q is. each (suc n) q is) none limit s kept at
