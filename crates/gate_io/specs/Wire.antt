use Rattle.std.specs.Prelude.{◌≡◌, ◌≢◌, ℕ, ◌+◌, ◌<◌, ◌≤◌, Bool, false, List, [], ◌++◌, Option, None, Some, IfSome, length, take, drop}
use Rattle.gate_io.specs.Counts.{HasRisen}
use Rattle.gate_io.specs.Plan.{LinkPlan, DoorPlan, planned_read, plan_after_read, planned_write, plan_after_write, planned_accept, plan_after_accept, planned_dial}
use Rattle.gate_io.specs.declared.wires.TheConstants.{FIRST_DIALLED}
use Rattle.gate_io.specs.declared.wires.WireGot.{WireGot}
use Rattle.gate_io.specs.declared.wires.WireGot.TheVariants as got
use Rattle.gate_io.specs.declared.wires.WireWrote.{WireWrote}
use Rattle.gate_io.specs.declared.wires.WireWrote.TheVariants as wrote
use Rattle.gate_io.specs.declared.wires.Accepted.{Accepted}
use Rattle.gate_io.specs.declared.wires.Accepted.TheVariants as accept
use Rattle.gate_io.specs.declared.wires.Listened.{Listened}
use Rattle.gate_io.specs.declared.wires.Listened.TheVariants as listen
use Rattle.gate_io.specs.declared.dials.Dialled.{Dialled}
use Rattle.gate_io.specs.declared.dials.Dialled.TheVariants as dial

-- what a wire tells of one of its connections
pub record Link : Type 0 where
  -- the bytes that can still be read and the bytes that were written, where the wire tells them
  pub left : Option (List ℕ)
  pub written : Option (List ℕ)
  pub closed : Bool
  -- how often a read failed, found nothing yet, found the end, and how often a write failed or was blocked
  pub read_faults : ℕ
  pub read_blocks : ℕ
  pub ends : ℕ
  pub write_faults : ℕ
  pub write_blocks : ℕ
  -- what it answers next, where the wire tells that
  pub plan : Option LinkPlan

-- what a wire tells beside its connections
pub record Door : Type 0 where
  -- how many connections were accepted, and how many dialled
  pub accepted : ℕ
  pub dialled : ℕ
  -- how often a listen, an accept and a dial failed, and how often an accept found nothing
  pub listen_faults : ℕ
  pub accept_faults : ℕ
  pub dial_faults : ℕ
  pub idle_accepts : ℕ
  -- what the wire answers next that is asked for connections, where it tells that
  pub plan : Option DoorPlan

-- no count of a connection falls
pub record LinkGoesOn (old new : Link) : Type 0 where
  pub read_faults : old.read_faults ≤ new.read_faults
  pub read_blocks : old.read_blocks ≤ new.read_blocks
  pub ends : old.ends ≤ new.ends
  pub write_faults : old.write_faults ≤ new.write_faults
  pub write_blocks : old.write_blocks ≤ new.write_blocks

-- no count of the wire falls
pub record DoorGoesOn (old new : Door) : Type 0 where
  pub accepted : old.accepted ≤ new.accepted
  pub dialled : old.dialled ≤ new.dialled
  pub listen_faults : old.listen_faults ≤ new.listen_faults
  pub accept_faults : old.accept_faults ≤ new.accept_faults
  pub dial_faults : old.dial_faults ≤ new.dial_faults
  pub idle_accepts : old.idle_accepts ≤ new.idle_accepts

-- every connection but this one is as it was
abbrev pub OthersStay : (ℕ → Link) → (ℕ → Link) → ℕ → Type 0
OthersStay old new c = (d : ℕ) → d ≢ c → new d ≡ old d

-- A connection that was accepted or dialled and isn't closed. Accepted ones have the numbers from 0 on, dialled ones
-- those from the first dialled number on.
pub record IsOpen (door : Door) (links : ℕ → Link) (c : ℕ) : Type 0 where
  pub accepted : c < FIRST_DIALLED → c < door.accepted
  pub dialled : FIRST_DIALLED ≤ c → c < FIRST_DIALLED + door.dialled
  pub open_still : (links c).closed ≡ false

-- a connection that begins is open, and nothing was written to it
pub record IsNew (link : Link) : Type 0 where
  pub open_still : link.closed ≡ false
  pub unwritten : IfSome link.written (λ bytes. bytes ≡ [])

-- a read into this much room gives at least one byte and no more than fit
abbrev pub WireGotWithin : ℕ → WireGot → Type 0
WireGotWithin room (got.Bytes n) = (0 < n) × (n ≤ room)
WireGotWithin room got.End = Unit {0}
WireGotWithin room got.Blocked = Unit {0}
WireGotWithin room got.Failed = Unit {0}

-- Where the bytes that are left are told, a read takes the first of them and puts them at the buffer's front,
-- the end comes only with nothing left, and a block or a failure takes nothing. Where they aren't told, they aren't
-- told later.
abbrev pub WireGivesFrom : Option (List ℕ) → WireGot → List ℕ → Option (List ℕ) → Type 0
WireGivesFrom None result buf after = after ≡ None
WireGivesFrom (Some left) (got.Bytes n) buf after = (n ≤ length left) × (take n buf ≡ take n left) × (after ≡ Some (drop n left))
WireGivesFrom (Some left) got.End buf after = (left ≡ []) × (after ≡ Some [])
WireGivesFrom (Some left) got.Blocked buf after = after ≡ Some left
WireGivesFrom (Some left) got.Failed buf after = after ≡ Some left

-- End, Blocked and Failed each come only where their own count rose
abbrev pub ReadHasCause : Link → Link → WireGot → Type 0
ReadHasCause old new (got.Bytes n) = Unit {0}
ReadHasCause old new got.End = HasRisen old.ends new.ends
ReadHasCause old new got.Blocked = HasRisen old.read_blocks new.read_blocks
ReadHasCause old new got.Failed = HasRisen old.read_faults new.read_faults

-- Where the bytes that are left and the plan are told, a read into this much room answers as planned, and the plan behind
-- it is told.
abbrev pub ReadsAsPlanned : Link → ℕ → WireGot → Link → Type 0
ReadsAsPlanned old room answer new =
    IfSome old.left (λ left. IfSome old.plan (λ plan. (answer ≡ planned_read plan left room) × (new.plan ≡ Some (plan_after_read plan))))

-- a write of this many bytes takes at least one and no more than there are
abbrev pub WireWroteWithin : ℕ → WireWrote → Type 0
WireWroteWithin len (wrote.Bytes n) = (0 < n) × (n ≤ len)
WireWroteWithin len wrote.Blocked = Unit {0}
WireWroteWithin len wrote.Failed = Unit {0}

-- Where the bytes that were written are told, a write puts the first of the piece behind them, and a block or a
-- failure nothing. Where they aren't told, they aren't told later.
abbrev pub WireTakesFrom : Option (List ℕ) → WireWrote → List ℕ → Option (List ℕ) → Type 0
WireTakesFrom None result piece after = after ≡ None
WireTakesFrom (Some written) (wrote.Bytes n) piece after = after ≡ Some (written ++ take n piece)
WireTakesFrom (Some written) wrote.Blocked piece after = after ≡ Some written
WireTakesFrom (Some written) wrote.Failed piece after = after ≡ Some written

-- Blocked and Failed each come only where their own count rose
abbrev pub WriteHasCause : Link → Link → WireWrote → Type 0
WriteHasCause old new (wrote.Bytes n) = Unit {0}
WriteHasCause old new wrote.Blocked = HasRisen old.write_blocks new.write_blocks
WriteHasCause old new wrote.Failed = HasRisen old.write_faults new.write_faults

-- Where the plan is told, a write of this many bytes answers as planned, and the plan behind it is told.
abbrev pub WritesAsPlanned : Link → ℕ → WireWrote → Link → Type 0
WritesAsPlanned old len answer new = IfSome old.plan (λ plan. (answer ≡ planned_write plan len) × (new.plan ≡ Some (plan_after_write answer plan)))

-- A new connection has the number of those accepted before it. Nothing and Failed accept none, and each comes only
-- where its own count rose. No other count changes, and the plan only by a failure that is met.
abbrev pub Accepts : Door → Door → (ℕ → Link) → Accepted → Type 0
Accepts old new links (accept.New c) = (c ≡ old.accepted) × (new ≡ record old { accepted = old.accepted + 1 }) × IsNew (links c)
Accepts old new links accept.Nothing = (new ≡ record old { idle_accepts = new.idle_accepts }) × HasRisen old.idle_accepts new.idle_accepts
Accepts old new links accept.Failed = (new ≡ record old { accept_faults = new.accept_faults; plan = new.plan }) × HasRisen old.accept_faults new.accept_faults

-- A planned accept: the plan behind it is told, and the connection that is next is told as before.
pub record IsPlannedAccept (plan : DoorPlan) (old new : Door) (links_old links_new : ℕ → Link) (answer : Accepted) : Type 0 where
  pub answers : answer ≡ planned_accept plan old.accepted
  pub behind : new.plan ≡ Some (plan_after_accept plan)
  pub next_stays : links_new old.accepted ≡ links_old old.accepted

-- Where the plan is told, an accept answers as planned.
abbrev pub AcceptsAsPlanned : Door → Door → (ℕ → Link) → (ℕ → Link) → Accepted → Type 0
AcceptsAsPlanned old new links_old links_new answer = IfSome old.plan (λ plan. IsPlannedAccept plan old new links_old links_new answer)

-- A new connection has the first dialled number and on top of it the number of those dialled before it. Failed dials
-- none, and comes only where its own count rose. No other count changes.
abbrev pub Dials : Door → Door → (ℕ → Link) → Dialled → Type 0
Dials old new links (dial.New c) = (c ≡ FIRST_DIALLED + old.dialled) × (new ≡ record old { dialled = old.dialled + 1 }) × IsNew (links c)
Dials old new links dial.Failed = (new ≡ record old { dial_faults = new.dial_faults }) × HasRisen old.dial_faults new.dial_faults

-- A planned dial: the plan stays, and the connection that is next is told as before.
pub record IsPlannedDial (plan : DoorPlan) (old new : Door) (links_old links_new : ℕ → Link) (answer : Dialled) : Type 0 where
  pub answers : answer ≡ planned_dial plan old.dialled
  pub behind : new.plan ≡ Some plan
  pub next_stays : links_new (FIRST_DIALLED + old.dialled) ≡ links_old (FIRST_DIALLED + old.dialled)

-- Where the plan is told, a dial answers as planned.
abbrev pub DialsAsPlanned : Door → Door → (ℕ → Link) → (ℕ → Link) → Dialled → Type 0
DialsAsPlanned old new links_old links_new answer = IfSome old.plan (λ plan. IsPlannedDial plan old new links_old links_new answer)

-- listening fails only where its count rose; want of memory raises none, and no other count changes
abbrev pub Listens : Door → Door → Listened → Type 0
Listens old new listen.Ready = new ≡ old
Listens old new listen.OutOfMemory = new ≡ old
Listens old new listen.Failed = (new ≡ record old { listen_faults = new.listen_faults }) × HasRisen old.listen_faults new.listen_faults
