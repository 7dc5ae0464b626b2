-- A run that is served until it is over leaves nothing to wait for.
use Rattle.std.proofs.Common.{◌≡◌, ◌≢◌, ℕ, suc, ◌+◌, ◌<◌, ◌≤◌, Bool, true, false, cond, List, [], ◌∷◌, length, Option, None, Some, refl, sym, ap, subst, ◌∙◌, arith}
use Rattle.std.proofs.lemmas.List.{length-append, length-map}
use Rattle.std.proofs.lemmas.List.Elements.{All-cons, All-nil}
use Rattle.std.proofs.lemmas.Option.{none-some}
use Rattle.std.specs.List.{All}
use Rattle.std.specs.Prelude.{map, not}
use Rattle.connection_core.specs.Connection.{ConnectionState}
use Rattle.connection_core.specs.Record.{record_of}
use Rattle.connection_core.specs.declared.records.ConnRecord.{ConnRecord}
use Rattle.engine_end.specs.Records.{IsLeftBy, accepted_of, dialled_of}
use Rattle.headline.proofs.Found.{as_many, connection_found}
use Rattle.headline.specs.Finished.{IsFinished}
use Rattle.headline.specs.Headline.{EachConnection}
use Rattle.headline.specs.Numbering.{AreInOrder}
use Rattle.gate_io.specs.declared.wires.TheConstants.{FIRST_DIALLED}
use Rattle.lease_core.specs.declared.record.Record.{Record}
use Rattle.library_desk.specs.declared.desk.Stray.{Stray}
use Rattle.run_report.specs.declared.records.LibReport.{LibReport}
use Rattle.run_report.specs.declared.records.RunRecord.{RunRecord}
use Rattle.serve_run.specs.Serves.{first_unfinished, spent_by}
use Rattle.session_core.specs.declared.causes.Cause.{Cause}
use Rattle.switchboard.specs.Board.{Board, connection_at}
use Rattle.switchboard.specs.Going.{GoesOnTo, IsSameConnection}

-- each connection was accepted or dialled
one_more : (c : ConnectionState) (accepted dialled : List ConnectionState) (count : ℕ) (b : Bool) → length accepted + length dialled ≡ count
    → length (cond (not b) (c ∷ accepted) accepted) + length (cond b (c ∷ dialled) dialled) ≡ suc count
one_more c accepted dialled count true is = omega arith
one_more c accepted dialled count false is = omega arith

both_count : (cs : List ConnectionState) → length (accepted_of cs) + length (dialled_of cs) ≡ length cs
both_count [] = refl
both_count (c ∷ cs) = one_more c (accepted_of cs) (dialled_of cs) (length cs) c.dialled (both_count cs)

in_order_count : (accepted dialled : ℕ) (cs : List ConnectionState) → AreInOrder accepted dialled cs → length cs ≡ accepted + dialled
in_order_count accepted dialled cs order =
    let first = as_many 0 accepted (accepted_of cs) order.accepted_are in
    let second = as_many FIRST_DIALLED dialled (dialled_of cs) order.dialled_are in
    let both = both_count cs in
    omega arith

-- no plan was given up
one_finished : (report : LibReport) (reports : List LibReport) (b : Bool) → report.finished ≡ b → cond b (first_unfinished reports) (Some report.number) ≡ None → (report.finished ≡ true) × (first_unfinished reports ≡ None)
one_finished report reports true is none = (is, none)
one_finished report reports false is none = absurd (none-some report.number (sym none))

all_finished : (reports : List LibReport) → first_unfinished reports ≡ None → All (λ (report : LibReport). report.finished ≡ true) reports
all_finished [] none = All-nil (λ (report : LibReport). report.finished ≡ true)
all_finished (report ∷ reports) none = (
    let one = one_finished report reports report.finished refl none in
    All-cons (λ (report : LibReport). report.finished ≡ true) report reports one.0 (all_finished reports one.1))

pub none_spent : (over : Bool) (reports : List LibReport) → None ≡ spent_by over reports → (over ≡ true) × (first_unfinished reports ≡ None)
none_spent true reports is = (refl, sym is)
none_spent false reports is = absurd (none-some 0 is)

-- what has ended stays ended
still_ended : (old new : ConnectionState) (cause : Option Cause) → old.cause ≡ cause → cause ≢ None → IsSameConnection old new → new.cause ≢ None
still_ended old new None is ended same = absurd (ended refl)
still_ended old new (Some cause) is ended same = λ none. none-some cause (sym none ∙ same.ended cause is)

module _ (connections dials accepted dialled : ℕ) (last board : Board) (left : RunRecord) (strays : List Stray) (added : List Record) (is_left : IsLeftBy board strays accepted added left.engine)
    (last_order : AreInOrder accepted dialled last.connections) (order : AreInOrder accepted dialled board.connections) (goes_on : GoesOnTo last board)
    (accepted_few : accepted ≤ connections) (dialled_few : dialled ≤ dials) (came : length last.connections ≡ connections + dials) (ended : (k : ℕ) → k < length last.connections → (connection_at last k).cause ≢ None) where
  same_count : length board.connections ≡ length last.connections
  same_count = in_order_count accepted dialled board.connections order ∙ sym (in_order_count accepted dialled last.connections last_order)

  record_count : length left.engine.connections ≡ connections + dials
  record_count =
      ap length is_left.connections ∙ length-append (map record_of (accepted_of board.connections)) (map record_of (dialled_of board.connections))
      ∙ ap (λ n. n + length (map record_of (dialled_of board.connections))) (length-map (accepted_of board.connections) record_of)
      ∙ ap (λ n. length (accepted_of board.connections) + n) (length-map (dialled_of board.connections) record_of) ∙ both_count board.connections ∙ same_count ∙ came

  each_ended : EachConnection left (λ place c. c.cause ≢ None)
  each_ended place c found =
      let one = connection_found board strays accepted dialled added left is_left order place c found in
      let within : one.k < length last.connections = subst (λ n. one.k < n) same_count one.within in
      subst (λ (x : ConnRecord). x.cause ≢ None) (sym one.is)
      (still_ended (connection_at last one.k) (connection_at board one.k) (connection_at last one.k).cause refl (ended one.k within) (goes_on.each one.k within))

  all_accepted : left.engine.accepted ≡ connections
  all_accepted =
      let both = in_order_count accepted dialled last.connections last_order in
      let all : accepted ≡ connections = omega arith in
      is_left.accepted_is ∙ all

  pub finished : first_unfinished left.libraries ≡ None → IsFinished connections dials left
  finished none = record { accepted = all_accepted; came = record_count; ended = each_ended; plans = all_finished left.libraries none }
