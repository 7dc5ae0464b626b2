-- Where memory was wanting, and an engine that does nothing more.
use Rattle.std.proofs.Common.{◌≡◌, ◌⊎◌, inl, inr, ℕ, zero, suc, List, [], ◌∷◌, get_or, set, Result, Ok, Err, OnErr, true, refl, sym, subst}
use Rattle.std.proofs.lemmas.List.{length-set}
use Rattle.connection_core.specs.Connection.{ConnectionState, after_end}
use Rattle.gate_io.specs.Wire.{Link}
use Rattle.gate_io.specs.declared.wires.Accepted.{Accepted}
use Rattle.library_desk.specs.declared.serving.LibTurn.{LibTurn}
use Rattle.session_core.specs.declared.causes.Cause.{Cause}
use Rattle.session_core.specs.declared.causes.Cause.TheVariants.{Silent}
use Rattle.session_desk.specs.Steps.{parting}
use Rattle.switchboard.specs.Board.{Board, connection_at, no_connection}
use Rattle.switchboard.specs.Happenings.{EndsUnbound, Happens}
use Rattle.switchboard.specs.Stops.{IsSameStream, NothingIsTold}
use Rattle.wire_desk.specs.Steps.{LeavesIfTardy, Sessions}
use Rattle.engine_loop.specs.Turns.{AcceptsNext, AtWire, at_wire, with_moment}
use Rattle.engine_loop.specs.declared.engine.Engine.{Engine}
use Rattle.engine_loop.specs.Stops.{StopsBehindAccepting, StopsBehindDials, StopsBehindReads, StopsBehindServing, StopsBehindTicks, StopsCallingAll, StopsReadingAll, StopsReadingBehind, StopsServingAll, StopsServingBehind, StopsTaking, StopsTickingAll, StopsTickingBehind}

-- what holds, holds of an error
pub on_err : {T E P : Type 0} (r : Result T E) → P → OnErr r P
on_err (Ok x) holds = tt
on_err (Err e) holds = holds

-- of one connection nothing comes, and the others are as they were
still : (c : ConnectionState) → IsSameStream c c
still c = record { number = refl; dialled = refl; session = refl; came = record { taken = refl; held = refl; garbled = refl } }

one_still : (k : ℕ) (c : ConnectionState) (cs : List ConnectionState) → IsSameStream (get_or cs k no_connection) c → (j : ℕ) → IsSameStream (get_or cs j no_connection) (get_or (set cs k c) j no_connection)
one_still zero c [] same j = still no_connection
one_still (suc k) c [] same j = still no_connection
one_still zero c (x ∷ xs) same zero = same
one_still zero c (x ∷ xs) same (suc j) = still (get_or xs j no_connection)
one_still (suc k) c (x ∷ xs) same zero = still x
one_still (suc k) c (x ∷ xs) same (suc j) = one_still k c xs same j

-- nothing is told where nothing happened, and where a connection ends that was bound to no session
pub nothing_told : (board : Board) → NothingIsTold board board
nothing_told board = record { sessions = refl; books = λ s. refl; count = refl; streams = λ k within. still (connection_at board k) }

end_untold : (k : ℕ) (cause : Cause) (old new : Board) → EndsUnbound k cause old new → NothingIsTold old new
end_untold k cause old new ends = subst (λ (b : Board). NothingIsTold old b) (sym ends.changes.others) (record {
  sessions = refl;
  books = λ s. refl;
  count = length-set old.connections k (after_end cause (connection_at old k));
  streams = λ j within. one_still k (after_end cause (connection_at old k)) old.connections (record { number = refl; dialled = refl; session = refl; came = record { taken = refl; held = refl; garbled = refl } }) j;
})

-- so it is where a connection ends on which no Logon came in time
pub tardy_untold : (k at : ℕ) (old new : Sessions) → LeavesIfTardy k at old new → NothingIsTold old.desk.board new.desk.board
tardy_untold k at old new (inl is) =
    let cause = Silent (connection_at old.desk.board k).since in
    end_untold k cause old.desk.board new.desk.board (subst (λ s. Happens (parting s k cause) old.desk.board new.desk.board) is.0.late.unbound is.1.parts)
tardy_untold k at old new (inr is) = subst (λ (s : Sessions). NothingIsTold old.desk.board s.desk.board) (sym is.1) (nothing_told old.desk.board)

-- a connection was accepted at the turn's moment, or none was, and what follows isn't all done
pub accepted_then : (reading : ℕ) (old : AtWire) (start : Engine) (answer : Accepted) (accepted : AtWire) (new : Engine) → start ≡ with_moment reading old.engine → AcceptsNext answer (at_wire start old.door old.links) accepted
    → StopsCallingAll accepted new ⊎ StopsReadingBehind accepted new → StopsTaking reading old new
accepted_then reading old start answer accepted new moment accepts stops = inr (record {
  answer = answer;
  accepted = accepted;
  accepts = subst (λ (e : Engine). AcceptsNext answer (at_wire e old.door old.links) accepted) moment accepts;
  stops = stops;
})

-- the engine does nothing more: its sessions stay as they are
abbrev pub standing_still : Engine → Engine
standing_still e = record e { failed = true }

behind_serving : (served : Engine) (turns : List LibTurn) (old new : Engine) → StopsBehindServing served turns old new → StopsBehindServing served turns old (standing_still new)
behind_serving served turns old new is = record { serves = is.serves; stops = is.stops }

serving_all : (old new : Engine) → StopsServingAll old new → StopsServingAll old (standing_still new)
serving_all old new is = record { count = is.count; between = is.between; serves = is.serves; stops = is.stops }

behind_ticks : (old new : Engine) → StopsBehindTicks old new → StopsBehindTicks old (standing_still new)
behind_ticks old new (inl is) = inl (serving_all old new is)
behind_ticks old new (inr is) = inr (is.0, (is.1.0, behind_serving is.0 is.1.0 old new is.1.1))

ticking_all : (old new : Engine) → StopsTickingAll old new → StopsTickingAll old (standing_still new)
ticking_all old new is = record { count = is.count; between = is.between; ticks = is.ticks; stops = is.stops }

serving_behind : (old new : Engine) → StopsServingBehind old new → StopsServingBehind old (standing_still new)
serving_behind old new is = record { ticked = is.ticked; ticks = is.ticks; stops = behind_ticks is.ticked new is.stops }

behind_reads : (old new : Engine) → StopsBehindReads old new → StopsBehindReads old (standing_still new)
behind_reads old new (inl is) = inl (ticking_all old new is)
behind_reads old new (inr is) = inr (serving_behind old new is)

reading_all : (old : Engine) (links : ℕ → Link) (new : Engine) → StopsReadingAll old links new → StopsReadingAll old links (standing_still new)
reading_all old links new is = record { count = is.count; between = is.between; reads = is.reads; stops = is.stops }

ticking_behind : (old : Engine) (links : ℕ → Link) (new : Engine) → StopsTickingBehind old links new → StopsTickingBehind old links (standing_still new)
ticking_behind old links new is = record { read = is.read; links_read = is.links_read; got = is.got; reads = is.reads; stops = behind_reads is.read new is.stops }

behind_dials : (old : AtWire) (new : Engine) → StopsBehindDials old new → StopsBehindDials old (standing_still new)
behind_dials old new (inl is) = inl (reading_all old.engine old.links new is)
behind_dials old new (inr is) = inr (ticking_behind old.engine old.links new is)

calling_all : (old : AtWire) (new : Engine) → StopsCallingAll old new → StopsCallingAll old (standing_still new)
calling_all old new is = record { count = is.count; between = is.between; dials = is.dials; stops = is.stops }

reading_behind : (old : AtWire) (new : Engine) → StopsReadingBehind old new → StopsReadingBehind old (standing_still new)
reading_behind old new is = record { dialled = is.dialled; dials = is.dials; stops = behind_dials is.dialled new is.stops }

behind_accepted : (old : AtWire) (new : Engine) → StopsCallingAll old new ⊎ StopsReadingBehind old new → StopsCallingAll old (standing_still new) ⊎ StopsReadingBehind old (standing_still new)
behind_accepted old new (inl is) = inl (calling_all old new is)
behind_accepted old new (inr is) = inr (reading_behind old new is)

behind_accepting : (old : AtWire) (new : Engine) → StopsBehindAccepting old new → StopsBehindAccepting old (standing_still new)
behind_accepting old new is = record { answer = is.answer; accepted = is.accepted; accepts = is.accepts; stops = behind_accepted is.accepted new is.stops }

pub taking : (reading : ℕ) (old : AtWire) (new : Engine) → StopsTaking reading old new → StopsTaking reading old (standing_still new)
taking reading old new (inl is) = inl is
taking reading old new (inr is) = inr (behind_accepting _ new is)
