-- How a session goes on that is looked at or taken back.
use Rattle.std.proofs.Common.{◌≡◌, ◌≢◌, inl, inr, ℕ, suc, ◌<◌, ◌≤◌, List, [], ◌∷◌, length, Bool, true, false, refl, sym, ap, subst, ◌∙◌, arith}
use Rattle.std.specs.Prelude.{OnErr, OnOk, Result, Ok, Err, if◌then◌else◌}
use Rattle.lease_core.specs.Laws.{KeepsLease}
use Rattle.lease_core.specs.Lines.{last_line, lines_of}
use Rattle.lease_core.specs.Showable.{owner_by}
use Rattle.lease_core.specs.State.{owner_in, owner_of, state_of}
use Rattle.lease_core.specs.declared.entry.Entry.{Entry}
use Rattle.lease_core.specs.declared.lease.Ending.{Ending}
use Rattle.lease_core.specs.declared.lease.Ending.TheVariants.{GivenBack, Running, TakenBack}
use Rattle.lease_core.specs.declared.lease.Line.{Line}
use Rattle.lease_words.specs.Leases.{is_running, runs}
use Rattle.switchboard.specs.Book.{Book}
use Rattle.switchboard.specs.Board.{Board, book_at}
use Rattle.lease_desk.specs.Desk.{GoesOn, owner_at}
use Rattle.lease_desk.proofs.InStep.{same_or_other}

pub goes_on_further : (first second third : Board) (s : ℕ) → GoesOn first second s → GoesOn second third s → GoesOn first third s
goes_on_further first second third s one two = record {
  inbound = (let a = one.inbound in let b = two.inbound in omega arith);
  lease = λ some.
      let later = two.lease some in
      let before = one.lease (subst (λ n. 0 < n) later.0 some) in
      (later.0 ∙ before.0, later.1 ∙ before.1);
}

pub one_goes_on : ((entries : List Entry) → owner_by (lines_of entries) ≡ owner_of (state_of entries)) → (s : ℕ) (old new : Board) → ((j : ℕ) → j ≢ s → book_at new j ≡ book_at old j) → length (book_at new s).inbound ≡ length (book_at old s).inbound
    → KeepsLease (lines_of (book_at old s).entries) (lines_of (book_at new s).entries) → (j : ℕ) → GoesOn old new j
one_goes_on tell s old new others grown keeps j = elim (same_or_other j s) [
  | inl e ↦ subst (GoesOn old new) (sym e) (record {
    inbound = omega arith;
    lease = λ some.
        let owner : owner_by (lines_of (book_at new s).entries) ≡ owner_at new s = tell (book_at new s).entries in
        let kept = keeps (subst (λ n. 0 < n) (sym owner) some) in
        (sym owner ∙ kept.0 ∙ tell (book_at old s).entries, kept.1);
  })
  | inr other ↦
      let same = others j other in
      record {
        inbound = (let long : length (book_at new j).inbound ≡ length (book_at old j).inbound = ap (λ (b : Book). length b.inbound) same in omega arith);
        lease = λ some. (ap (λ (b : Book). owner_of (state_of b.entries)) same, ap (λ (b : Book). length (lines_of b.entries)) same);
      }
]

nobody : (ending : Ending) (library : ℕ) → runs ending ≡ false → 0 < owner_in ending library → ⊥
nobody Running library ended some = cc
nobody (GivenBack heir) library ended some = omega arith
nobody TakenBack library ended some = omega arith

pub ended_keeps : (old new : List Line) → is_running new ≡ false → KeepsLease old new
ended_keeps old [] ended some = absurd (omega arith)
ended_keeps old (l ∷ ls) ended some = absurd (nobody (last_line (l ∷ ls)).ending (last_line (l ∷ ls)).library ended some)

-- a session whose last lease has ended isn't this library's
pub gone_from : ((entries : List Entry) → owner_by (lines_of entries) ≡ owner_of (state_of entries)) → (entries : List Entry) (library : ℕ) → 1 ≤ library → is_running (lines_of entries) ≡ false → owner_of (state_of entries) ≢ library
gone_from tell entries library some ended same =
    let owner : owner_by (lines_of entries) ≡ library = tell entries ∙ same in
    let kept = ended_keeps [] (lines_of entries) ended (subst (λ n. 0 < n) (sym owner) some) in
    let none : owner_by (lines_of entries) ≡ 0 = kept.0 in
    omega arith

pub on_ok : {A E P Q : Type 0} (r : Result A E) → (P → Q) → OnOk r P → OnOk r Q
on_ok (Ok x) f p = f p
on_ok (Err e) f p = tt

pub on_err : {A E P : Type 0} (r : Result A E) → P → OnErr r P
on_err (Ok x) p = tt
on_err (Err e) p = p
