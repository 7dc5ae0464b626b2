-- A turn as a walk of steps, and reading and writing connections as walks of moves: what each of them keeps, a turn keeps.
use Rattle.std.specs.Prelude.{◌≡◌, ◌≢◌, ℕ, ◌+◌, ◌⊎◌, List, [], ◌∷◌, Option, None, Some}
use Rattle.engine_laws.specs.Account.{Progress, cutting, done, handling}
use Rattle.engine_loop.specs.Turns.{AcceptsNext, AtWire, DialsSession, NotesSession, PublishesSession, Reading, ReadsIfStands, ServesOne, Serving, TicksSession, WritesAll, at_wire}
use Rattle.engine_loop.specs.declared.engine.Engine.{Engine}
use Rattle.fix_frame.specs.Cut.{garbled, good}
use Rattle.gate_io.specs.Wire.{Door, Link}
use Rattle.gate_io.specs.declared.wires.Accepted.{Accepted}
use Rattle.lease_desk.specs.declared.desk.LeaseDesk.{LeaseDesk}
use Rattle.session_core.specs.declared.causes.Cause.{Cause}
use Rattle.session_core.specs.declared.causes.Cause.TheVariants.{End, ReadFault, Silent}
use Rattle.session_desk.specs.Steps.{Greets, Hears, parting}
use Rattle.session_desk.specs.declared.routes.Routes.{Routes}
use Rattle.switchboard.specs.Board.{Board, connection_at}
use Rattle.switchboard.specs.Happenings.{Happening, Happens, gives, next_pieces, prepares, takes, writes}
use Rattle.wire_desk.specs.Steps.{IsTardy, Sessions, cause_behind}
use Rattle.wire_desk.specs.declared.written.Stop.{Stop}

-- steps of a kind, one behind another
pub data Walk {T : Type 0} (Step : T → T → Type 0) : T → T → Type 0 where
  nothing : (at : T) → Walk Step at at
  one : (old new : T) → Step old new → Walk Step old new
  further : (first second third : T) → Walk Step first second → Walk Step second third → Walk Step first third

-- A step of a turn by which no connection comes: at the wire as it is, but for what is read and written.
pub data QuietStep : AtWire → AtWire → Type 0 where
  read : (k : ℕ) (door : Door) (old new : Reading) → ReadsIfStands k old new → QuietStep (at_wire old.engine door old.links) (at_wire new.engine door new.links)
  ticked : (s : ℕ) (door : Door) (links : ℕ → Link) (old new : Engine) → TicksSession s old new → QuietStep (at_wire old door links) (at_wire new door links)
  served : (i : ℕ) (door : Door) (links : ℕ → Link) (old new : Serving) → ServesOne (i + 1) old new → QuietStep (at_wire old.engine door links) (at_wire new.engine door links)
  noted : (s : ℕ) (door : Door) (links : ℕ → Link) (old new : Engine) → NotesSession s old new → QuietStep (at_wire old door links) (at_wire new door links)
  published : (s : ℕ) (door : Door) (links : ℕ → Link) (old new : Engine) → PublishesSession s old new → QuietStep (at_wire old door links) (at_wire new door links)
  written : (door : Door) (links_old links_new : ℕ → Link) (old new : Engine) (bytes : ℕ) → WritesAll links_old links_new old new bytes → QuietStep (at_wire old door links_old) (at_wire new door links_new)

-- a step of a turn
pub data TurnStep : AtWire → AtWire → Type 0 where
  accepted : (answer : Accepted) (old new : AtWire) → AcceptsNext answer old new → TurnStep old new
  dialled : (s : ℕ) (old new : AtWire) → DialsSession s old new → TurnStep old new
  quiet : (old new : AtWire) → QuietStep old new → TurnStep old new

-- one thing happens, and the engine's seat stays
abbrev pub HappensAlone : Happening → LeaseDesk → LeaseDesk → Type 0
HappensAlone happening old new = Happens happening old.board new.board × (new.seat ≡ old.seat)

-- sessions and connections while one of these is read, and how far what came on that one is handled
pub record ReadSoFar : Type 0 where
  pub progress : Progress
  pub desk : LeaseDesk

abbrev pub read_so_far : Progress → LeaseDesk → ReadSoFar
read_so_far progress desk = record { progress = progress; desk = desk }

-- why a connection ends as it is read, but for what a message asks: by the wire's answer, or since no Logon came in time
abbrev pub EndsReading : Board → ℕ → ℕ → Cause → Type 0
EndsReading board k at cause = (cause ≡ End) ⊎ ((cause ≡ ReadFault) ⊎ (IsTardy board k at × (cause ≡ Silent (connection_at board k).since)))

-- A move as a connection is read: bytes come; a piece is handed out, which is garbled or has a message; that is handled; there is no further piece, or none wants
-- it; the connection ends.
pub data ReadMove (routes : Routes) (k at until : ℕ) : ReadSoFar → ReadSoFar → Type 0 where
  bytes_come : (bytes : List ℕ) (old new : LeaseDesk) → HappensAlone (takes k bytes) old new → ReadMove routes k at until (read_so_far done old) (read_so_far cutting new)
  garbled_out : (size : ℕ) (old new : LeaseDesk) → next_pieces (connection_at old.board k) ≡ garbled size ∷ [] → HappensAlone (gives k) old new
      → ReadMove routes k at until (read_so_far cutting old) (read_so_far cutting new)
  body_out : (body : List ℕ) (old new : LeaseDesk) → next_pieces (connection_at old.board k) ≡ good body ∷ [] → HappensAlone (gives k) old new
      → ReadMove routes k at until (read_so_far cutting old) (read_so_far (handling body) new)
  heard : (s : ℕ) (body : List ℕ) (end : Option Cause) (old new : Sessions) → (connection_at old.desk.board k).session ≡ Some s → Hears s k body at until old.desk new.desk old.unkept new.unkept end
      → ReadMove routes k at until (read_so_far (handling body) old.desk) (read_so_far cutting new.desk)
  greeted : (body : List ℕ) (end : Option Cause) (old new : Sessions) → (connection_at old.desk.board k).session ≡ None → Greets routes k body at until old.desk new.desk old.unkept new.unkept end
      → ReadMove routes k at until (read_so_far (handling body) old.desk) (read_so_far cutting new.desk)
  none_out : (old new : LeaseDesk) → next_pieces (connection_at old.board k) ≡ [] → HappensAlone (gives k) old new → ReadMove routes k at until (read_so_far cutting old) (read_so_far done new)
  had_ended : (desk : LeaseDesk) → (connection_at desk.board k).cause ≢ None → ReadMove routes k at until (read_so_far cutting desk) (read_so_far done desk)
  parted : (cause : Cause) (old new : LeaseDesk) → EndsReading old.board k at cause → HappensAlone (parting (connection_at old.board k).session k cause) old new
      → ReadMove routes k at until (read_so_far done old) (read_so_far done new)

-- A move as connections are written to: texts are made, bytes are written, and a connection ends behind that, or stays.
pub data WriteMove : LeaseDesk → LeaseDesk → Type 0 where
  made : (s k : ℕ) (old new : LeaseDesk) → HappensAlone (prepares s k) old new → WriteMove old new
  wrote : (k n : ℕ) (old new : LeaseDesk) → HappensAlone (writes k n) old new → WriteMove old new
  left : (k : ℕ) (stop : Stop) (cause : Cause) (old new : LeaseDesk) → cause_behind stop (connection_at old.board k) ≡ Some cause → HappensAlone (parting (connection_at old.board k).session k cause) old new
      → WriteMove old new
  stayed : (old new : LeaseDesk) → new.board ≡ old.board → new.seat ≡ old.seat → WriteMove old new
