use Rattle.std.proofs.Common.{◌≡◌, inl, inr, ℕ, ◌<◌, ◌≤◌, List, ◌++◌, length, None, Some, refl, sym, ap, subst, ◌∙◌}
use Rattle.std.proofs.lemmas.List.{append-nil}
use Rattle.fix_frame.specs.Cut.{Cut, cut}
use Rattle.fix_frame.specs.declared.layout.TheConstants.{LONGEST_FRAME}
use Rattle.lease_core.specs.declared.entry.Entry.{Entry}
use Rattle.session_core.specs.State.{State}
use Rattle.engine_laws.specs.Account.{IsAccountedFor, StandsOrNamesSession}
use Rattle.engine_laws.proofs.laws.accounts_are_whole.Goals as goal
use Rattle.switchboard.specs.Board.{Board, book_at, connection_at}
use Rattle.switchboard.specs.Brought.{HasHandled, good_bodies}
use Rattle.switchboard.specs.Sound.{bound_of}

module _ (before : ℕ → List Entry) (start : ℕ → State) (at : ℕ) (board : Board) (accounted : IsAccountedFor before start at board) (k : ℕ) (within : k < length board.connections) where
  -- no piece is left
  all_cut : (connection_at board k).cause ≡ None → (accounted.brought k).pieces ≡ (cut LONGEST_FRAME (connection_at board k).taken).pieces
  all_cut stands =
      let pieces = (accounted.brought k).pieces in
      sym (ap (λ (c : Cut). c.pieces) (accounted.given.given k within).so_far.so_far ∙ ap (λ later. pieces ++ later) ((accounted.handled k within).whole refl stands) ∙ append-nil pieces)

  -- no message is in hand
  all_handled : StandsOrNamesSession (connection_at board k) → good_bodies (accounted.brought k).pieces ≡ (accounted.brought k).handled
  all_handled does =
      let handled = (accounted.brought k).handled in
      accounted.given.good k within ∙ ap (λ in_hand. handled ++ in_hand) ((accounted.handled k within).in_hand does) ∙ append-nil handled

  handled_of_session : (s : ℕ) → (connection_at board k).session ≡ Some s
      → HasHandled (bound_of (book_at board s)) (connection_at board k).number (good_bodies (accounted.brought k).pieces) (accounted.history.handled s)
  handled_of_session s names =
      subst (λ bodies. HasHandled (bound_of (book_at board s)) (connection_at board k).number bodies (accounted.history.handled s)) (sym (all_handled (inr (record { session = s; names = names }))))
      (accounted.given.handled s k within names)

  -- none was handled
  at_most_one : (connection_at board k).session ≡ None → length (good_bodies (accounted.brought k).pieces) ≤ 1
  at_most_one none =
      let in_hand = (accounted.brought k).in_hand in
      subst (λ bodies. length bodies ≤ 1) (sym (accounted.given.good k within ∙ ap (λ handled. handled ++ in_hand) (accounted.given.none k within none))) (accounted.handled k within).few

pub returns-clause-stands : goal.returns-clause-stands
returns-clause-stands c = all_cut

pub returns-clause-named : goal.returns-clause-named
returns-clause-named c = λ before start at board accounted k s within. handled_of_session before start at board accounted k within s

pub returns-clause-unbound : goal.returns-clause-unbound
returns-clause-unbound c = at_most_one

pub returns-clause-waiting : goal.returns-clause-waiting
returns-clause-waiting c = λ before start at board accounted k within none stands. all_handled before start at board accounted k within (inl stands) ∙ accounted.given.none k within none
