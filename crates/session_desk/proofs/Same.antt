-- A gathering leaves a session the same one, and the connections with their numbers.
use Rattle.std.proofs.Common.{◌≡◌, ◌⊎◌, inl, inr, ℕ, ◌<◌, List, [], ◌∷◌, length, get_or, set, Option, None, Some, refl, sym, ap, subst, ◌∙◌}
use Rattle.std.proofs.lemmas.List.{get_or-set_other, get_or-set_same, length-set}
use Rattle.std.specs.Prelude.{IfSome}
use Rattle.switchboard.specs.Connection.{ConnectionState}
use Rattle.lease_desk.specs.Desk.{Gathers, bodies_of}
use Rattle.lease_desk.specs.declared.desk.LeaseDesk.{LeaseDesk}
use Rattle.session_book.specs.Book.{Book, IsSameSession}
use Rattle.switchboard.specs.Board.{Board, OutboxChanges, book_at, connection_at, no_connection}
use Rattle.switchboard.specs.Happenings.{Reaches, reserves, shows}
use Rattle.lease_core.specs.declared.word.Word.{Word}
use Rattle.session_desk.specs.Steps.{HaveSameLines}
use Rattle.switchboard.specs.Sound.{IsSameLine}
use Rattle.session_desk.proofs.Agreeing.{same_or_other}

same_line : (c : ConnectionState) → IsSameLine c c
same_line c = record { session = refl; cause = refl; number = refl }

pub lines_stay : (place : Option ℕ) (old new : Board) → OutboxChanges place old new → ((k : ℕ) → place ≡ Some k → k < length old.connections) → HaveSameLines old new
lines_stay None old new same within = record {
  count = ap (λ (cs : List ConnectionState). length cs) same;
  each = λ k. subst (λ (c : ConnectionState). IsSameLine (connection_at old k) c) (ap (λ (cs : List ConnectionState). get_or cs k no_connection) (sym same)) (same_line (connection_at old k));
}
lines_stay (Some k) old new same within =
    let c = record (connection_at old k) { out = (connection_at new k).out } in
    record {
      count = ap (λ (cs : List ConnectionState). length cs) same.0 ∙ length-set old.connections k c;
      each = λ j. subst (λ (x : ConnectionState). IsSameLine (connection_at old j) x) (ap (λ (cs : List ConnectionState). get_or cs j no_connection) (sym same.0))
          (elim (same_or_other j k) [
            | inl e ↦ subst (λ n. IsSameLine (connection_at old n) (get_or (set old.connections k c) n no_connection)) (sym e)
                (subst (λ (x : ConnectionState). IsSameLine (connection_at old k) x) (sym (get_or-set_same old.connections k c no_connection (within k refl))) (record { session = refl; cause = refl; number = refl }))
            | inr other ↦ subst (λ (x : ConnectionState). IsSameLine (connection_at old j) x) (sym (get_or-set_other old.connections k j c no_connection other)) (same_line (connection_at old j))
          ]);
    }

pub same_behind : (s at until : ℕ) (word : Word) (bodies : List (List ℕ)) (old new : Board) → Reaches (reserves s ∷ shows s word bodies at until ∷ []) old new → IsSameSession (book_at old s) (book_at new s)
same_behind s at until word bodies old new reached =
    let first = reached.1.0.goes_on.lawful.same in
    let second = reached.1.1.1.0.goes_on.lawful.same in
    subst (λ (b : Board). IsSameSession (book_at old s) (book_at b s)) (sym reached.1.1.1.1) (record {
      names = second.names ∙ first.names;
      dials = second.dials ∙ first.dials;
    })

pub within_of : (place : Option ℕ) (n : ℕ) → IfSome place (λ k. k < n) → (k : ℕ) → place ≡ Some k → k < n
within_of place n within k is = subst (λ p. IfSome p (λ j. j < n)) is within
