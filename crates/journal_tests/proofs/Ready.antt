-- A journal that is ready stays so.
use Rattle.std.proofs.Common.{◌≡◌, inl, ℕ, ◌≤◌, List, [], ◌∷◌, ◌++◌, length, refl, sym, ap, subst, ◌∙◌, append_assoc}
use Rattle.std.specs.List.{AllByRecursion}
use Rattle.lease_core.specs.declared.record.Record.{Record}
use Rattle.durable_journal.specs.Disk.{bytes_of}
use Rattle.durable_journal.specs.Files.{IsLawful, AreRuns, Stands}
use Rattle.durable_journal.specs.Journal.{JournalState}
use Rattle.durable_journal.specs.Memory.{MemoryState}
use Rattle.journal_tests.specs.Writer.{AreLawful, IsReady}

-- a file stands for one list of records
abbrev pub StandsOnce : Type 0
StandsOnce = (sessions leases : ℕ) (file : List ℕ) (a b : List Record) → Stands sessions leases file a → Stands sessions leases file b → a ≡ b

abbrev pub BeginsWithRuns : Type 0
BeginsWithRuns = (sessions leases : ℕ) (records more : List Record) → AreRuns sessions leases (records ++ more) → AreRuns sessions leases records

pub ready_first : StandsOnce → (journal : JournalState MemoryState) (sessions leases : ℕ) (records rest found : List Record) (file : List ℕ)
    → length file ≤ 1 → Stands sessions leases file found → Stands journal.sessions journal.leases (bytes_of journal.disk.history) found
    → journal.batch ≡ [] → journal.sessions ≡ sessions → journal.leases ≡ leases → rest ≡ records → AreLawful sessions leases records → IsReady journal rest
ready_first once journal sessions leases records rest found file short held keeps none s l same lawful = record {
  kept = [];
  stands = subst (Stands journal.sessions journal.leases (bytes_of journal.disk.history)) (once sessions leases file found [] held (inl (short, refl))) keeps;
  runs = subst (λ (b : List Record). AreRuns journal.sessions journal.leases (b ++ rest)) (sym none)
      (subst (λ (r : List Record). AreRuns journal.sessions journal.leases r) (sym same)
      (subst (λ (n : ℕ). AreRuns n journal.leases records) (sym s) (subst (λ (n : ℕ). AreRuns sessions n records) (sym l) lawful.runs)));
  lawful = subst (AllByRecursion IsLawful) (sym same) lawful.lawful;
}

-- the next record is taken into the batch
module _ (journal : JournalState MemoryState) (event : Record) (rest left : List Record) (ready : IsReady journal rest) (next : rest ≡ event ∷ left) where
  one_further : journal.batch ++ rest ≡ (journal.batch ++ event ∷ []) ++ left
  one_further = ap (λ (r : List Record). journal.batch ++ r) next ∙ sym (append_assoc journal.batch (event ∷ []) left)

  runs_further : AreRuns journal.sessions journal.leases (ready.kept ++ ((journal.batch ++ event ∷ []) ++ left))
  runs_further = subst (λ (r : List Record). AreRuns journal.sessions journal.leases (ready.kept ++ r)) one_further ready.runs

  rest_lawful : AllByRecursion IsLawful (event ∷ left)
  rest_lawful = subst (AllByRecursion IsLawful) next ready.lawful

  pub ready_runs : StandsOnce → BeginsWithRuns → (kept : List Record) → Stands journal.sessions journal.leases (bytes_of journal.disk.history) kept
      → AreRuns journal.sessions journal.leases (kept ++ (journal.batch ++ event ∷ []))
  ready_runs once begins kept stands =
      let same : ready.kept ≡ kept = once journal.sessions journal.leases (bytes_of journal.disk.history) ready.kept kept ready.stands stands in
      let runs = subst (λ (r : List Record). AreRuns journal.sessions journal.leases r) (sym (append_assoc ready.kept (journal.batch ++ event ∷ []) left)) runs_further in
      subst (λ (k : List Record). AreRuns journal.sessions journal.leases (k ++ (journal.batch ++ event ∷ []))) same
      (begins journal.sessions journal.leases (ready.kept ++ (journal.batch ++ event ∷ [])) left runs)

  pub ready_appended : (new : JournalState MemoryState) → new.disk ≡ journal.disk → new.sessions ≡ journal.sessions → new.leases ≡ journal.leases
      → new.batch ≡ journal.batch ++ event ∷ [] → IsReady new left
  ready_appended new disk s l batch = record {
    kept = ready.kept;
    stands = subst (λ (d : MemoryState). Stands new.sessions new.leases (bytes_of d.history) ready.kept) (sym disk)
        (subst (λ (n : ℕ). Stands n new.leases (bytes_of journal.disk.history) ready.kept) (sym s)
        (subst (λ (n : ℕ). Stands journal.sessions n (bytes_of journal.disk.history) ready.kept) (sym l) ready.stands));
    runs = subst (λ (b : List Record). AreRuns new.sessions new.leases (ready.kept ++ (b ++ left))) (sym batch)
        (subst (λ (n : ℕ). AreRuns n new.leases (ready.kept ++ ((journal.batch ++ event ∷ []) ++ left))) (sym s)
        (subst (λ (n : ℕ). AreRuns journal.sessions n (ready.kept ++ ((journal.batch ++ event ∷ []) ++ left))) (sym l) runs_further));
    lawful = rest_lawful.1;
  }

-- the batch is kept
pub ready_synced : (journal new : JournalState MemoryState) (rest : List Record) → (ready : IsReady journal rest)
    → Stands new.sessions new.leases (bytes_of new.disk.history) (ready.kept ++ journal.batch) → new.batch ≡ [] → new.sessions ≡ journal.sessions → new.leases ≡ journal.leases → IsReady new rest
ready_synced journal new rest ready stands none s l = record {
  kept = ready.kept ++ journal.batch;
  stands = stands;
  runs = subst (λ (b : List Record). AreRuns new.sessions new.leases ((ready.kept ++ journal.batch) ++ (b ++ rest))) (sym none)
      (subst (λ (r : List Record). AreRuns new.sessions new.leases r) (sym (append_assoc ready.kept journal.batch rest))
      (subst (λ (n : ℕ). AreRuns n new.leases (ready.kept ++ (journal.batch ++ rest))) (sym s)
      (subst (λ (n : ℕ). AreRuns journal.sessions n (ready.kept ++ (journal.batch ++ rest))) (sym l) ready.runs)));
  lawful = ready.lawful;
}
