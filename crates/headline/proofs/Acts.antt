-- The journals of a record tell the acts of what came on its connections.
use Rattle.std.proofs.Common.{◌≡◌, ◌≢◌, ℕ, ◌<◌, List, [], ◌++◌, get_or, length, map, Option, None, Some, refl, sym, ap, subst, ◌∙◌, arith}
use Rattle.std.proofs.lemmas.List.{append-nil, get_or-map, length-map}
use Rattle.std.specs.List.{All, AllPairs, Contains}
use Rattle.connection_core.specs.Record.{record_of}
use Rattle.connection_core.specs.declared.records.ConnRecord.{ConnRecord}
use Rattle.engine_config.specs.declared.config.Config.{Config}
use Rattle.engine_end.specs.Records.{IsLeftBy, SessionLeft, left_of}
use Rattle.engine_laws.specs.Account.{IsAccountedFor}
use Rattle.fix_frame.specs.Cut.{Cut, CutPiece, cut}
use Rattle.fix_frame.specs.declared.layout.TheConstants.{LONGEST_FRAME}
use Rattle.headline.proofs.Found.{connection_found, connection_there, session_found}
use Rattle.headline.proofs.Lists.{middle_is, middle_within, one_place}
use Rattle.headline.specs.Ends.{AllEndedWhole, StandsOrEndedFromOutside}
use Rattle.headline.specs.Headline.{AreHandedOut, EachConnection, HasSession, IsCutUp, IsHandledOf, TellsItsActs, number_at}
use Rattle.headline.specs.Numbering.{AreInOrder}
use Rattle.lease_core.specs.State.{state_of}
use Rattle.lease_core.specs.declared.entry.Entry.{Entry}
use Rattle.lease_core.specs.declared.record.Record.{Record}
use Rattle.library_desk.specs.declared.desk.Stray.{Stray}
use Rattle.headline.specs.runs.Accounted.{first_machines, no_entries}
use Rattle.headline.specs.Needed.{WholeLaws}
use Rattle.run_report.specs.declared.records.RunRecord.{RunRecord}
use Rattle.session_book.specs.Moments.{TimedRuns}
use Rattle.session_book.specs.Runs.{Handled, IsInside, TellRuns, handled_of}
use Rattle.session_book.specs.Spells.{placed_from, spells_behind}
use Rattle.session_core.specs.declared.causes.Cause.{Cause}
use Rattle.switchboard.specs.Board.{Board, book_at, connection_at, no_connection, session_at}
use Rattle.switchboard.specs.Brought.{HasHandled}

-- the messages that were handled of a connection stand with it among what a session handled
pub bodies_are : (handled : List Handled) (bound : Option ℕ) (number : ℕ) (bodies : List (List ℕ)) → AllPairs (λ one later. one.connection ≢ later.connection) handled → HasHandled bound number bodies handled
    → (i : ℕ) (d : Handled) → i < length handled → (get_or handled i d).connection ≡ number → (get_or handled i d).bodies ≡ bodies
bodies_are handled bound number bodies apart has i d within same =
    let there : length has.past < length handled = subst (λ all. length has.past < length all) (sym has.are) (middle_within has.past has.later (handled_of number bodies)) in
    let is : get_or handled (length has.past) d ≡ handled_of number bodies = ap (λ all. get_or all (length has.past) d) has.are ∙ middle_is has.past has.later (handled_of number bodies) d in
    let place : i ≡ length has.past = one_place (λ (h : Handled). h.connection) handled d i (length has.past) apart within there (same ∙ sym (ap (λ (h : Handled). h.connection) is)) in
    ap (λ n. (get_or handled n d).bodies) place ∙ ap (λ (h : Handled). h.bodies) is

handled_has : (handled : List Handled) (bound : Option ℕ) (number : ℕ) (bodies : List (List ℕ)) → HasHandled bound number bodies handled → Contains (map (λ h. h.connection) handled) number
handled_has handled bound number bodies has =
    let there : length has.past < length handled = subst (λ all. length has.past < length all) (sym has.are) (middle_within has.past has.later (handled_of number bodies)) in
    let d = handled_of 0 [] in
    let is : get_or handled (length has.past) d ≡ handled_of number bodies = ap (λ all. get_or all (length has.past) d) has.are ∙ middle_is has.past has.later (handled_of number bodies) d in
    let many = length-map handled (λ (h : Handled). h.connection) in
    (length has.past, omega arith, get_or-map (λ (h : Handled). h.connection) handled (length has.past) d number there ∙ ap (λ (h : Handled). h.connection) is)

module _ (config : Config) (board : Board) (strays : List Stray) (accepted dialled : ℕ) (added : List Record) (left : RunRecord) (is_left : IsLeftBy board strays accepted added left.engine) (order : AreInOrder accepted dialled board.connections)
    (laws : WholeLaws) (at : ℕ) (account : IsAccountedFor no_entries (first_machines config) at board) (ended : AllEndedWhole board) where
  abbrev pieces_at : ℕ → List CutPiece
  pieces_at k = (account.brought k).pieces

  -- they are all, unless a message ended the connection
  all_of_it : (k : ℕ) → k < length board.connections → (cause : Option Cause) → (connection_at board k).cause ≡ cause → StandsOrEndedFromOutside cause → pieces_at k ≡ (cut LONGEST_FRAME (connection_at board k).taken).pieces
  all_of_it k within None is outside = laws.stands no_entries (first_machines config) at board account k within is
  all_of_it k within (Some cause) is outside =
      let none = ended k no_connection within cause is outside in
      sym (ap (λ (c : Cut). c.pieces) (account.given.given k within).so_far.so_far ∙ ap (λ later. pieces_at k ++ later) none ∙ append-nil (pieces_at k))

  -- the pieces that were handed out of a connection
  handed_out : (k : ℕ) → k < length board.connections → AreHandedOut (record_of (connection_at board k)) (pieces_at k)
  handed_out k within =
      let given = account.given.given k within in
      record {
        begin = record { rest = (cut LONGEST_FRAME (connection_at board k).held).pieces; is = sym (ap (λ (c : Cut). c.pieces) given.so_far.so_far) };
        whole = all_of_it k within (connection_at board k).cause refl;
        garbled = given.counted;
      }

  pub cut_up : EachConnection left (λ place c. IsCutUp c)
  cut_up place c found =
      let one = connection_found board strays accepted dialled added left is_left order place c found in
      subst IsCutUp (sym one.is) (record {
        pieces = pieces_at one.k;
        handed_out = handed_out one.k one.within;
        few = λ none. laws.unbound no_entries (first_machines config) at board account one.k one.within none;
        none = λ none stands. laws.waiting no_entries (first_machines config) at board account one.k one.within none stands;
      })

  -- what a session handled
  abbrev pub handled_at : ℕ → List Handled
  handled_at s = account.history.handled s

  pub one_handled : (s i : ℕ) (d : Handled) → i < length (handled_at s) → IsHandledOf left s (get_or (handled_at s) i d)
  one_handled s i d within =
      let of = (account.connections s).each i d within in
      let there = connection_there board strays accepted dialled added left is_left order of.place of.within in
      let named = laws.named no_entries (first_machines config) at board account of.place s of.within of.names in
      record {
        connection = record {
          place = there.place;
          c = record_of (connection_at board of.place);
          at = there.at;
          number_is = there.number ∙ of.number_is;
          names = of.names;
        };
        pieces = pieces_at of.place;
        handed_out = handed_out of.place of.within;
        good = bodies_are (handled_at s) _ _ _ (account.connections s).once named i d within (sym of.number_is);
      }

  pub all_handled : (s : ℕ) → EachConnection left (λ place c. c.session ≡ Some s → Contains (map (λ h. h.connection) (handled_at s)) (number_at left place))
  all_handled s place c found names =
      let one = connection_found board strays accepted dialled added left is_left order place c found in
      let named : (connection_at board one.k).session ≡ Some s = sym (ap (λ (x : ConnRecord). x.session) one.is) ∙ names in
      subst (Contains (map (λ h. h.connection) (handled_at s))) one.number (handled_has (handled_at s) _ _ _ (laws.named no_entries (first_machines config) at board account one.k s one.within named))

  abbrev pub session_tells : (s : ℕ) → s < length board.sessions → TellsItsActs config left s (left_of (session_at board s))
  session_tells s within =
      let timed = account.told.runs s within in
      let run = timed.run in
      let book = book_at board s in
      let entries : run.added ≡ book.entries = sym run.entries_are in
      record {
        handled = handled_at s;
        each = one_handled s;
        once = (account.connections s).once;
        all = all_handled s;
        told = subst (λ (es : List Entry). TellRuns book.inbound book.outbound (first_machines config s) (handled_at s) (spells_behind [] es)) entries run.told;
        inside = subst (λ (es : List Entry). All IsInside (placed_from (state_of []) es)) entries run.inside;
        heartbeats = subst (λ (es : List Entry). TimedRuns book.outbound (first_machines config s) (handled_at s) (spells_behind [] es)) entries timed.timed;
      }

  pub tells_its_acts : (s : ℕ) (session : SessionLeft) → HasSession left s session → TellsItsActs config left s session
  tells_its_acts s session has =
      let one = session_found board strays accepted added left is_left s session has in
      subst (TellsItsActs config left s) (sym one.is) (session_tells s one.within)
