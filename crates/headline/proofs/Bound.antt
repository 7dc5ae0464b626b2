-- A session is bound to a connection just while that stands and names it.
use Rattle.std.proofs.Common.{◌≡◌, ℕ, ◌<◌, List, length, Option, None, Some, sym, ap, subst, ◌∙◌}
use Rattle.std.proofs.lemmas.Option.{none-some, same_Some}
use Rattle.connection_core.specs.Record.{record_of}
use Rattle.connection_core.specs.declared.records.ConnRecord.{ConnRecord}
use Rattle.engine_end.specs.Records.{IsLeftBy, left_of}
use Rattle.headline.proofs.Found.{connection_found, connection_there, session_found, session_there}
use Rattle.headline.specs.Headline.{EachConnection, EachSession, IsBoundIn, IsBoundToStanding, IsBoundWhileStanding, number_at}
use Rattle.headline.specs.Numbering.{AreInOrder}
use Rattle.lease_core.specs.declared.record.Record.{Record}
use Rattle.library_desk.specs.declared.desk.Stray.{Stray}
use Rattle.run_report.specs.declared.records.RunRecord.{RunRecord}
use Rattle.switchboard.specs.Board.{Board, book_at, connection_at, place_at, session_at}
use Rattle.switchboard.specs.Sound.{IsPlaced, IsPlugged, IsSound, bound_of}

module _ (board : Board) (strays : List Stray) (accepted dialled : ℕ) (added : List Record) (left : RunRecord) (is_left : IsLeftBy board strays accepted added left.engine) (order : AreInOrder accepted dialled board.connections)
    (sound : IsSound board) where
  plugged : (s number : ℕ) (place : Option ℕ) → IsPlaced board s place → bound_of (book_at board s) ≡ Some number → (k : ℕ) × (IsPlugged board s k × ((connection_at board k).number ≡ number))
  plugged s number None none bound = absurd (none-some number (sym none ∙ bound))
  plugged s number (Some k) is bound = (k, (is, same_Some _ _ (sym is.bound ∙ bound)))

  bound_at : (s : ℕ) → s < length board.sessions → IsBoundToStanding left s (left_of (session_at board s))
  bound_at s within number bound =
      let one = plugged s number (place_at board s) (sound.placed s within) bound in
      let plug = one.1.0 in
      let there = connection_there board strays accepted dialled added left is_left order one.0 plug.within in
      (record { place = there.place; c = record_of (connection_at board one.0); at = there.at; number_is = there.number ∙ one.1.1; names = plug.names }, plug.stands)

  pub bound_to_standing : EachSession left (λ s session. IsBoundToStanding left s session)
  bound_to_standing s session has =
      let one = session_found board strays accepted added left is_left s session has in
      subst (IsBoundToStanding left s) (sym one.is) (bound_at s one.within)

  bound_in : (s number k : ℕ) → k < length board.connections → (connection_at board k).number ≡ number → (connection_at board k).session ≡ Some s → (connection_at board k).cause ≡ None → IsBoundIn left s number
  bound_in s number k within number_is names stands =
      let alone = sound.alone k s within names stands in
      let plug : IsPlugged board s k = subst (IsPlaced board s) alone.1 (sound.placed s alone.0) in
      record {
        session = left_of (session_at board s);
        has = session_there board strays accepted added left is_left s alone.0;
        bound = plug.bound ∙ ap Some number_is;
      }

  pub bound_while_standing : EachConnection left (λ place c. IsBoundWhileStanding left place c)
  bound_while_standing place c found s names stands =
      let one = connection_found board strays accepted dialled added left is_left order place c found in
      bound_in s (number_at left place) one.k one.within one.number (sym (ap (λ (x : ConnRecord). x.session) one.is) ∙ names) (sym (ap (λ (x : ConnRecord). x.cause) one.is) ∙ stands)
