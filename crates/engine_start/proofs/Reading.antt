-- Records that are read, one after another, each behind those of its session.
use Rattle.std.proofs.Common.{◌≡◌, ◌≢◌, inl, inr, ℕ, ◌+◌, ◌<◌, ◌≤◌, Bool, true, false, cond, List, [], ◌∷◌, ◌++◌, length, set, replicate, refl, sym, ap, subst, ◌∙◌, append_assoc, arith}
use Rattle.std.specs.Prelude.{◌==◌}
use Rattle.std.specs.List.{AllByRecursion}
use Rattle.std.proofs.lemmas.Bool.{cases_eq}
use Rattle.std.proofs.lemmas.Bool.Decides.{nat_tests}
use Rattle.std.proofs.lemmas.List.{append-nil, get_or-replicate, get_or-set_other, get_or-set_same, length-replicate, length-set, map-append, replicate-append-replicate}
use Rattle.engine_config.specs.declared.config.Config.{Config}
use Rattle.engine_start.specs.Restarts.{AreRecordsOf, CanBeRevived, entries_in, last_expected, read_back, records_of}
use Rattle.engine_start.specs.Revived.{AreRevived, CanGoOn, after_record, new_revived, revived_at, revived_by}
use Rattle.engine_start.specs.declared.reviving.Revived.{Revived}
use Rattle.engine_start.specs.declared.sessions.TheConstants.{FIRST_NUMBER}
use Rattle.lease_core.specs.Laws.{RunsGoOnOver}
use Rattle.lease_core.specs.Runs.{IsNext, IsRun}
use Rattle.lease_core.specs.State.{state_of}
use Rattle.lease_core.specs.declared.record.Record.{Record}
use Rattle.seq_gaps.specs.declared.offered.TheConstants.{MAX_NUMBER}
use Rattle.session_book.specs.Rereading.{after_reading}
use Rattle.session_book.specs.Reviving.{ReadBack, after_read, nothing_read}

own_or_not : (r : Record) (b : Bool) (xs ys : List Record) → cond b (r ∷ (xs ++ ys)) (xs ++ ys) ≡ cond b (r ∷ xs) xs ++ ys
own_or_not r true xs ys = refl
own_or_not r false xs ys = refl

own_append : (s : ℕ) (xs ys : List Record) → records_of s (xs ++ ys) ≡ records_of s xs ++ records_of s ys
own_append s [] ys = refl
own_append s (r ∷ xs) ys =
    ap (λ (rs : List Record). cond (r.s == s) (r ∷ rs) rs) (own_append s xs ys) ∙ own_or_not r (r.s == s) (records_of s xs) (records_of s ys)

own_first : (s : ℕ) (r : Record) (rest : List Record) → r.s ≡ s → records_of s (r ∷ rest) ≡ r ∷ records_of s rest
own_first s r rest is = grind (arith, nat_tests)

own_more : (s : ℕ) (records : List Record) (r : Record) → r.s ≡ s → records_of s (records ++ r ∷ []) ≡ records_of s records ++ r ∷ []
own_more s records r is = own_append s records (r ∷ []) ∙ ap (λ (rs : List Record). records_of s records ++ rs) (own_first s r [] is)

others_stay : (s : ℕ) (records : List Record) (r : Record) → r.s ≢ s → records_of s (records ++ r ∷ []) ≡ records_of s records
others_stay s records r other = own_append s records (r ∷ []) ∙ (ap (λ (rs : List Record). records_of s records ++ rs) none ∙ append-nil (records_of s records))
  where
    none : records_of s (r ∷ []) ≡ []
    none = grind (arith, nat_tests)

-- what is read of one record more
reading_more : (records : List Record) (r : Record) (read : ReadBack) → after_reading (records ++ r ∷ []) read ≡ after_read r.entry r.at r.body (after_reading records read)
reading_more [] r read = refl
reading_more (x ∷ records) r read = reading_more records r (after_read x.entry x.at x.body read)

expected_more : (before : ℕ) (records : List Record) (r : Record) → last_expected before (records ++ r ∷ []) ≡ r.expected
expected_more before [] r = refl
expected_more before (x ∷ records) r = expected_more x.expected records r

revived_more : (leases : ℕ) (records : List Record) (r : Record) → revived_by leases (records ++ r ∷ []) ≡ after_record r (revived_by leases records)
revived_more leases records r =
    ap (λ (read : ReadBack). record (revived_by leases (records ++ r ∷ [])) { revival = read }) (reading_more records r (nothing_read leases))
    ∙ ap (λ (n : ℕ). record (after_record r (revived_by leases records)) { expected = n }) (expected_more FIRST_NUMBER records r)

entries_read : (records : List Record) (read : ReadBack) → (after_reading records read).entries ≡ read.entries ++ entries_in records
entries_read [] read = sym (append-nil read.entries)
entries_read (r ∷ records) read = entries_read records (after_read r.entry r.at r.body read) ∙ append_assoc read.entries (r.entry ∷ []) (entries_in records)

leases_read : (records : List Record) (read : ReadBack) → (after_reading records read).leases ≡ read.leases
leases_read [] read = refl
leases_read (r ∷ records) read = leases_read records (after_read r.entry r.at r.body read)

-- the journal that is read back has the entries of the records
pub entries_back : (leases : ℕ) (records : List Record) → (read_back leases records).entries ≡ entries_in records
entries_back leases records = entries_read records (nothing_read leases)

pub leases_back : (leases : ℕ) (records : List Record) → (read_back leases records).leases ≡ leases
leases_back leases records = leases_read records (nothing_read leases)

-- one session more of which nothing was read
pub one_new_more : (n : ℕ) (x : Revived) → replicate n x ++ x ∷ [] ≡ replicate (n + 1) x
one_new_more n x = replicate-append-replicate n 1 x

-- none was read yet
pub none_read : (leases count : ℕ) (revived : List Revived) → revived ≡ replicate count (new_revived leases) → AreRevived leases count [] revived
none_read leases count revived is = record {
  count_is = ap (λ (xs : List Revived). length xs) is ∙ length-replicate count (new_revived leases);
  each = λ s small. ap (λ xs. revived_at xs s) is ∙ get_or-replicate count s (new_revived leases) (new_revived 0) small;
}

pub first_numbers : (leases count : ℕ) (revived : List Revived) → revived ≡ replicate count (new_revived leases) → CanGoOn count revived
first_numbers leases count revived is =
    let none = none_read leases count revived is in
    record {
      count_is = none.count_is;
      from_one = λ s small. (let number : (revived_at revived s).expected ≡ FIRST_NUMBER = ap (λ (x : Revived). x.expected) (none.each s small) in omega arith);
      to_last = λ s small. (let number : (revived_at revived s).expected ≡ FIRST_NUMBER = ap (λ (x : Revived). x.expected) (none.each s small) in omega arith);
    }

-- the list with one session that read a record more
module _ (count : ℕ) (r : Record) (old new : List Revived) (within : r.s < count) (is : new ≡ set old r.s (after_record r (revived_at old r.s))) (was : length old ≡ count) where
  count_stays : length new ≡ count
  count_stays = ap (λ (xs : List Revived). length xs) is ∙ length-set old r.s (after_record r (revived_at old r.s)) ∙ was

  taken_here : revived_at new r.s ≡ after_record r (revived_at old r.s)
  taken_here = ap (λ xs. revived_at xs r.s) is ∙ get_or-set_same old r.s (after_record r (revived_at old r.s)) (new_revived 0) (omega arith)

  others_are : (s : ℕ) → s ≢ r.s → revived_at new s ≡ revived_at old s
  others_are s other = ap (λ xs. revived_at xs s) is ∙ get_or-set_other old r.s s (after_record r (revived_at old r.s)) (new_revived 0) other

  -- a fact of each session stays
  each_stays : (P : ℕ → Revived → Type 0) → P r.s (after_record r (revived_at old r.s)) → ((s : ℕ) → s < count → P s (revived_at old s)) → (s : ℕ) → s < count → P s (revived_at new s)
  each_stays P here before s small = elim (cases_eq s r.s) [
    | inl same ↦ subst (λ n. P n (revived_at new n)) (sym same) (subst (P r.s) (sym taken_here) here)
    | inr other ↦ subst (P s) (sym (others_are s other)) (before s small)
  ]

  -- a record more was read
  pub revived_one_more : (leases : ℕ) (records : List Record) → AreRevived leases count records old → AreRevived leases count (records ++ r ∷ []) new
  revived_one_more leases records are = record {
    count_is = count_stays;
    each = λ s small. elim (cases_eq s r.s) [
      | inl same ↦ subst (λ n. revived_at new n ≡ revived_by leases (records_of n (records ++ r ∷ []))) (sym same)
          (taken_here ∙ ap (after_record r) (are.each r.s within) ∙ sym (revived_more leases (records_of r.s records) r) ∙ ap (revived_by leases) (sym (own_more r.s records r refl)))
      | inr other ↦ others_are s other ∙ are.each s small ∙ ap (revived_by leases) (sym (others_stay s records r (λ e. other (sym e))))
    ];
  }

  pub numbers_stay : 1 ≤ r.expected → r.expected ≤ MAX_NUMBER + 1 → CanGoOn count old → CanGoOn count new
  numbers_stay from to are = record {
    count_is = count_stays;
    from_one = each_stays (λ s x. 1 ≤ x.expected) from are.from_one;
    to_last = each_stays (λ s x. x.expected ≤ MAX_NUMBER + 1) to are.to_last;
  }

-- what holds of the record behind those that were read
all_at : (P : Record → Type 0) (done rest : List Record) (r : Record) → AllByRecursion P (done ++ r ∷ rest) → P r
all_at P [] rest r all = all.0
all_at P (x ∷ done) rest r all = all_at P done rest r all.1

pub record_at : (config : Config) (records done rest : List Record) (r : Record) → done ++ r ∷ rest ≡ records → AreRecordsOf config records → CanBeRevived (length config.names) r
record_at config records done rest r is are = all_at (CanBeRevived (length config.names)) done rest r (subst (AllByRecursion (CanBeRevived (length config.names))) (sym is) are.each)

-- it follows from those of its session
pub entry_follows : RunsGoOnOver → (config : Config) (records done rest : List Record) (r : Record) (revived : List Revived) → done ++ r ∷ rest ≡ records → AreRecordsOf config records
    → AreRevived config.leases (length config.names) done revived
    → IsNext (revived_at revived r.s).revival.leases (state_of (revived_at revived r.s).revival.entries) r.entry
entry_follows go_on config records done rest r revived is are so_far =
    let can = record_at config records done rest r is are in
    let own = records_of r.s done in
    let behind = entries_in (records_of r.s rest) in
    let split : entries_in (records_of r.s records) ≡ entries_in own ++ r.entry ∷ behind =
    ap (λ (rs : List Record). entries_in (records_of r.s rs)) (sym is)
    ∙ ap entries_in (own_append r.s done (r ∷ rest) ∙ ap (λ (rs : List Record). own ++ rs) (own_first r.s r rest refl))
    ∙ map-append (λ (x : Record). x.entry) own (r ∷ records_of r.s rest) in
    let run = subst (IsRun config.leases) split (are.runs r.s can.session) in
    let next : IsNext config.leases (state_of (entries_in own)) r.entry = ((go_on config.leases (entries_in own) (r.entry ∷ behind)).0 run).1.0 in
    let known = so_far.each r.s can.session in
    let leases = ap (λ (x : Revived). x.revival.leases) known ∙ leases_back config.leases own in
    let entries = ap (λ (x : Revived). x.revival.entries) known ∙ entries_back config.leases own in
    subst (λ n. IsNext n (state_of (revived_at revived r.s).revival.entries) r.entry) (sym leases) (subst (λ es. IsNext config.leases (state_of es) r.entry) (sym entries) next)
