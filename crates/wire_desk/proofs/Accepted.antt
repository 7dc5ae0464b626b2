-- A connection that was accepted or dialled is on the wire.
use Rattle.std.proofs.Common.{◌≡◌, ℕ, ◌+◌, ◌<◌, ◌≤◌, List, [], ◌∷◌, ◌++◌, length, get_or, Option, None, Some, sym, ap, subst, ◌∙◌, arith}
use Rattle.std.proofs.Math.Seq.{get_or-append_seam}
use Rattle.std.specs.Prelude.{IfSome}
use Rattle.connection_core.specs.Connection.{ConnectionState, fresh, room}
use Rattle.connection_core.specs.Outgoing.{Outgoing, no_outgoing, written_text}
use Rattle.connection_core.specs.declared.limits.TheConstants.{MOST_READ}
use Rattle.gate_io.specs.Wire.{Accepts as TheWireAccepts, Door, Link, OthersStay}
use Rattle.gate_io.specs.declared.wires.Accepted.TheVariants.{New}
use Rattle.gate_io.specs.declared.wires.TheConstants.{FIRST_DIALLED}
use Rattle.switchboard.specs.Board.{Board, connection_at, no_connection}
use Rattle.switchboard.specs.Happenings.{Accepts}
use Rattle.wire_desk.specs.Lines.{IsWired}
use Rattle.wire_desk.proofs.Coming.{came_first}

unwritten : (written : Option (List ℕ)) (out : Outgoing) → out ≡ no_outgoing → IfSome written (λ bytes. bytes ≡ []) → IfSome written (λ bytes. bytes ≡ written_text out)
unwritten None out none is = tt
unwritten (Some bytes) out none is = is ∙ sym (ap written_text none)

pub accepted_wired : (number at : ℕ) (old new : Board) (first last : List ℕ) (door after_door : Door) (before after : ℕ → Link) → door.accepted < FIRST_DIALLED → Accepts number at old new → MOST_READ ≤ room (connection_at new (length old.connections))
    → TheWireAccepts door after_door after (New number) → OthersStay before after door.accepted → IsWired old (first ++ last) door before → IsWired new ((first ++ length old.connections ∷ []) ++ last) after_door after
accepted_wired number at old new first last door after_door before after few is roomy answer others was =
    let k = length old.connections in
    let c = fresh number at (connection_at new k).out in
    let connections : new.connections ≡ old.connections ++ c ∷ [] = ap (λ (b : Board). b.connections) is.connection in
    let here : connection_at new k ≡ c = ap (λ (cs : List ConnectionState). get_or cs k no_connection) connections ∙ get_or-append_seam old.connections c [] no_connection in
    let number_is : number ≡ door.accepted = answer.0 in
    let accepted : after_door.accepted ≡ door.accepted + 1 = ap (λ (d : Door). d.accepted) answer.1 in
    let dialled : after_door.dialled ≡ door.dialled = ap (λ (d : Door). d.dialled) answer.1 in
    came_first old new c door after_door before after connections (omega arith) (omega arith) is.new_number
    (subst (OthersStay before after) (sym number_is) others)
    (record {
      numbered = record { accepted = λ small. omega arith; dialled = λ large. absurd (omega arith) };
      stands = λ none. answer.2.open_still;
      roomy = λ none. subst (λ (x : ConnectionState). MOST_READ ≤ room x) here roomy;
      written = unwritten (after number).written (connection_at new k).out.outgoing is.none_waits answer.2.unwritten;
    })
    answer.2.open_still first last was
