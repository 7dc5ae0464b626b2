-- What the engine does for a library, in order: it hears its beat, takes its sessions back where it fell silent, answers what it asks, and pumps.
use Rattle.std.specs.Prelude.{◌≡◌, ◌≢◌, ℕ, ◌+◌, ◌-◌, ◌<◌, ◌≤◌, ◌⊎◌, List, [], ◌∷◌, ◌++◌, length, map, slice_get, slice_index_or, slice_set, Some}
use Rattle.catchup_pump.specs.Pump.{FoundFull, messages_from}
use Rattle.catchup_pump.specs.declared.cursor.Cursor.{Cursor}
use Rattle.lease_core.specs.Lines.{lines_of}
use Rattle.lease_core.specs.declared.entry.Why.TheVariants.{UnknownSession}
use Rattle.lease_core.specs.declared.limits.TheConstants.{MOST_LIBRARIES}
use Rattle.lease_core.specs.declared.messages.Command.TheVariants.{Done, Request}
use Rattle.lease_core.specs.declared.messages.Notice.{Notice}
use Rattle.lease_core.specs.declared.messages.Notice.TheVariants.{Granted, Refused}
use Rattle.lease_core.specs.declared.messages.Reply.{Reply}
use Rattle.lease_core.specs.declared.messages.Reply.TheVariants as reply
use Rattle.lease_core.specs.State.{state_of}
use Rattle.lease_core.specs.Steps.{reply_to}
use Rattle.lease_desk.specs.Desk.{InTurn, IsInStep, TakesBackFrom, owner_at, seat_after_reply}
use Rattle.lease_words.specs.Sees.{after_beats}
use Rattle.lease_words.specs.Views.{heard_of, with_heard}
use Rattle.lease_words.specs.declared.layout.TheConstants.{LANE_SLOTS}
use Rattle.library_clock.specs.Watched.{Watched, kept_after, kept_of}
use Rattle.library_desk.specs.declared.ends.EngineEnds.{EngineEnds}
use Rattle.library_desk.specs.declared.desk.LibraryDesk.{LibraryDesk}
use Rattle.library_desk.specs.declared.serving.LibTurn.{LibTurn}
use Rattle.library_desk.specs.declared.serving.LibTurn.TheVariants.{Answered, Ended, NoCommand, NoRoom}
use Rattle.library_desk.specs.declared.shared.Shared.{Shared}
use Rattle.library_desk.specs.declared.ends.Next.{Next}
use Rattle.library_desk.specs.declared.ends.Next.TheVariants.{Full, Nothing, Popped}
use Rattle.ring_links.specs.Ends.{HasRoom, IsFull}
use Rattle.switchboard.specs.Acts.{after_request}
use Rattle.session_core.specs.declared.routing.TheConstants.{MOST_SESSIONS}
use Rattle.switchboard.specs.Board.{Board, book_at, session_at, with_session}
use Rattle.switchboard.specs.Happenings.{Happens, requests}

-- the seat belongs to the table, and the ends to the rings, one of each for each library
pub record IsLinked (shared : Shared) (d : LibraryDesk) : Type 0 where
  pub table : d.desk.seat.table ≡ shared.leases
  pub depth : shared.leases.shape.depth ≤ LANE_SLOTS
  pub sessions : length d.desk.board.sessions ≡ shared.leases.shape.sessions
  pub few : shared.leases.shape.sessions ≤ MOST_SESSIONS
  pub libraries : length d.ends.items ≡ shared.leases.shape.libraries
  pub known : shared.leases.shape.libraries ≤ MOST_LIBRARIES
  pub watched : length d.watch.kept ≡ length d.ends.items
  pub commands : map (λ (e : EngineEnds). e.head.ring) d.ends.items ≡ shared.commands.items
  pub notices : map (λ (e : EngineEnds). e.tail.ring) d.ends.items ≡ shared.notices.items

abbrev pub no_cursor : Cursor
no_cursor = record { s = 0; lease = 0; at = 0 }

abbrev pub cursor_at : List Cursor → ℕ → Cursor
cursor_at cursors s = slice_index_or cursors s no_cursor

-- The cursor is the session's and stands within its log. While a library has the session, it is that of its lease.
pub record IsCursorOf (board : Board) (s : ℕ) (cursor : Cursor) : Type 0 where
  pub session : cursor.s ≡ s
  pub within : cursor.at ≤ length (book_at board s).inbound
  pub lease : 0 < owner_at board s → cursor.lease ≡ length (lines_of (book_at board s).entries)

pub record AreCursors (board : Board) (cursors : List Cursor) : Type 0 where
  pub count : length cursors ≡ length board.sessions
  pub each : (s : ℕ) → s < length board.sessions → IsCursorOf board s (cursor_at cursors s)

-- what holds between two calls
pub record IsInOrder (d : LibraryDesk) : Type 0 where
  pub in_step : IsInStep d.desk.board d.desk.seat
  pub cursors : AreCursors d.desk.board d.cursors.items

-- a library's beat is loaded and noted
pub record Hears (library at beat : ℕ) (old new : LibraryDesk) : Type 0 where
  pub seat : new.desk.seat ≡ record (old.desk.seat) { knows = with_heard old.desk.seat.knows library (after_beats (heard_of old.desk.seat.knows library) beat) }
  pub later : (heard_of old.desk.seat.knows library).count ≤ beat
  pub kept : kept_of new.watch library ≡ kept_after (kept_of old.watch library) beat at
  pub others : (other : ℕ) → 1 ≤ other → other ≢ library → kept_of new.watch other ≡ kept_of old.watch other
  pub timeout : new.watch.timeout ≡ old.watch.timeout
  pub rest : new ≡ record old { desk = record (old.desk) { seat = new.desk.seat }; watch = new.watch }

-- the library fell silent: its beat is the one that was kept, and that stood still for the timeout
pub record IsSilent (watch : Watched) (library at beat : ℕ) : Type 0 where
  pub stands : beat ≡ (kept_of watch library).beat
  pub waited : (kept_of watch library).since + watch.timeout ≤ at

-- What the engine finds at a library's rings: no room for a notice, no command, or a command that it popped.
abbrev pub Finds : ℕ → EngineEnds → EngineEnds → Next → Type 0
Finds capacity old new (Full pushed taken) = (pushed ≡ length old.tail.pushed) × (taken ≡ new.tail.taken) × IsFull capacity pushed taken × (new.head ≡ old.head)
Finds capacity old new Nothing = HasRoom capacity (length old.tail.pushed) new.tail.taken × (new.head.popped ≡ old.head.popped) × (new.head.pushed ≡ length old.head.popped)
Finds capacity old new (Popped command) = HasRoom capacity (length old.tail.pushed) new.tail.taken × (new.head.popped ≡ old.head.popped ++ command ∷ [])

-- the taken count of the notices was loaded, and nothing was pushed; both ends are those of the same rings
pub record Looks (old new : EngineEnds) : Type 0 where
  pub loads : new.tail.loads ≡ old.tail.loads + 1
  pub later : old.tail.taken ≤ new.tail.taken
  pub pushed : new.tail.pushed ≡ old.tail.pushed
  pub told : new.tail.told ≡ old.tail.told
  pub notices : new.tail.ring ≡ old.tail.ring
  pub commands : new.head.ring ≡ old.head.ring

-- a notice was pushed
pub record Tells (notice : Notice) (old new : EngineEnds) : Type 0 where
  pub pushed : new.tail.pushed ≡ old.tail.pushed ++ notice ∷ []
  pub loads : new.tail.loads ≡ old.tail.loads + 1
  pub later : old.tail.taken ≤ new.tail.taken
  pub told : new.tail.told ≡ old.tail.told
  pub notices : new.tail.ring ≡ old.tail.ring
  pub head : new.head ≡ old.head

-- what a library is told of the answer to its request
abbrev pub notice_of : ℕ → ℕ → ℕ → Reply → Notice
notice_of nr s from (reply.Granted lease start) = Granted nr s lease from start
notice_of nr s from (reply.Refused why) = Refused nr s why

-- the pump of a granted session begins where the replay was asked to begin
abbrev pub cursors_after : ℕ → ℕ → Reply → List Cursor → List Cursor
cursors_after s from (reply.Granted lease start) cursors = slice_set cursors s (record { s = s; lease = lease; at = from })
cursors_after s from (reply.Refused why) cursors = cursors

-- a request for a session that is configured is answered by its registry
pub record Replies (library nr s from : ℕ) (old new : LibraryDesk) (notice : Notice) : Type 0 where
  pub reply : Reply
  pub reply_is : reply ≡ reply_to (book_at old.desk.board s).leases (state_of (book_at old.desk.board s).entries) library from
  pub book : book_at new.desk.board s ≡ after_request library nr from (book_at old.desk.board s)
  pub others : new.desk.board ≡ with_session s (session_at new.desk.board s) old.desk.board
  pub happens : Happens (requests s library nr from) old.desk.board new.desk.board
  pub seat : new.desk.seat ≡ seat_after_reply s library reply old.desk.seat
  pub cursors : new.cursors.items ≡ cursors_after s from reply old.cursors.items
  pub notice_is : notice ≡ notice_of nr s from reply
  pub rest : new ≡ record old { desk = new.desk; cursors = new.cursors }

-- one for a session that isn't is a stray
pub record Strays (library nr s : ℕ) (old new : LibraryDesk) (notice : Notice) : Type 0 where
  pub stray : new.strays.items ≡ old.strays.items ++ record { library = library; nr = nr; s = s } ∷ []
  pub notice_is : notice ≡ Refused nr s (UnknownSession s)
  pub rest : new ≡ record old { strays = new.strays }

abbrev pub RepliesTo : ℕ → ℕ → ℕ → ℕ → LibraryDesk → LibraryDesk → Notice → Type 0
RepliesTo library nr s from old new notice =
    ((s < length old.desk.board.sessions) × Replies library nr s from old new notice) ⊎ ((length old.desk.board.sessions ≤ s) × Strays library nr s old new notice)

-- The messages of a session go to the library that has it, from its cursor on, and the cursor moves behind them. Nothing else changes.
pub record Pumps (library s : ℕ) (old new : LibraryDesk) : Type 0 where
  pub before : EngineEnds
  pub after : EngineEnds
  pub found : slice_get old.ends.items (library - 1) ≡ Some before
  pub ends : new.ends.items ≡ slice_set old.ends.items (library - 1) after
  pub cursors : new.cursors.items ≡ slice_set old.cursors.items s (cursor_at new.cursors.items s)
  pub cursor : cursor_at new.cursors.items s ≡ record (cursor_at old.cursors.items s) { at = (cursor_at new.cursors.items s).at }
  pub forward : (cursor_at old.cursors.items s).at ≤ (cursor_at new.cursors.items s).at
  pub within : (cursor_at new.cursors.items s).at ≤ length (book_at old.desk.board s).inbound
  pub pushed : after.tail.pushed ≡ before.tail.pushed ++ messages_from (cursor_at old.cursors.items s) (book_at old.desk.board s).inbound ((cursor_at new.cursors.items s).at - (cursor_at old.cursors.items s).at)
  pub head : after.head ≡ before.head
  pub rest : new ≡ record old { cursors = new.cursors; ends = new.ends }

-- It went on up to the end of the log, or until the ring had no room by the count that was loaded last.
abbrev pub PumpsOut : ℕ → ℕ → LibraryDesk → LibraryDesk → Type 0
PumpsOut library s old new = (pumps : Pumps library s old new) × (((cursor_at new.cursors.items s).at ≡ length (book_at old.desk.board s).inbound) ⊎ FoundFull pumps.before.tail pumps.after.tail (length pumps.after.tail.pushed) pumps.after.tail.taken)

-- a session that the library has is pumped, and another one isn't
abbrev pub PumpsTo : ℕ → ℕ → LibraryDesk → LibraryDesk → Type 0
PumpsTo library s old new = ((owner_at old.desk.board s ≡ library) × PumpsOut library s old new) ⊎ ((owner_at old.desk.board s ≢ library) × (new ≡ old))

-- the engine looks at the ends of a library, and nothing else changes
pub record LooksAt (library : ℕ) (next : Next) (old new : LibraryDesk) : Type 0 where
  pub before : EngineEnds
  pub after : EngineEnds
  pub found : slice_get old.ends.items (library - 1) ≡ Some before
  pub finds : Finds before.tail.ring.capacity before after next
  pub looks : Looks before after
  pub ends : new.ends.items ≡ slice_set old.ends.items (library - 1) after
  pub rest : new ≡ record old { ends = new.ends }

-- a library is told something, and nothing else changes
pub record TellsTo (library : ℕ) (notice : Notice) (old new : LibraryDesk) : Type 0 where
  pub before : EngineEnds
  pub after : EngineEnds
  pub found : slice_get old.ends.items (library - 1) ≡ Some before
  pub tells : Tells notice before after
  pub ends : new.ends.items ≡ slice_set old.ends.items (library - 1) after
  pub rest : new ≡ record old { ends = new.ends }

-- a request was popped, is answered, and its library is told
pub record AnswersRequest (library nr : ℕ) (old new : LibraryDesk) : Type 0 where
  pub s : ℕ
  pub from : ℕ
  pub popped : LibraryDesk
  pub replied : LibraryDesk
  pub notice : Notice
  pub looks : LooksAt library (Popped (Request nr s from)) old popped
  pub replies : RepliesTo library nr s from popped replied notice
  pub tells : TellsTo library notice replied new

-- what became of a library's command
abbrev pub Answers : ℕ → LibraryDesk → LibraryDesk → LibTurn → Type 0
Answers library old new (NoRoom pushed taken) = LooksAt library (Full pushed taken) old new
Answers library old new NoCommand = LooksAt library Nothing old new
Answers library old new (Answered nr) = AnswersRequest library nr old new
Answers library old new (Ended finished) = LooksAt library (Popped (Done finished)) old new

-- a silent library's sessions are taken back
pub record TakesAllBack (library at until : ℕ) (old new : LibraryDesk) : Type 0 where
  pub taken_back : InTurn (TakesBackFrom library at until) (length old.desk.board.sessions) old.desk new.desk
  pub rest : new ≡ record old { desk = new.desk }

-- where it fell silent
abbrev pub Expires : ℕ → ℕ → ℕ → Watched → ℕ → LibraryDesk → LibraryDesk → Type 0
Expires library at until watch beat old new = (IsSilent watch library at beat × TakesAllBack library at until old new) ⊎ ((IsSilent watch library at beat → ⊥) × (new ≡ old))

-- one library in a turn
pub record Serves (library at until : ℕ) (old new : LibraryDesk) (turn : LibTurn) : Type 0 where
  pub beat : ℕ
  pub heard : LibraryDesk
  pub expired : LibraryDesk
  pub answered : LibraryDesk
  pub hears : Hears library at beat old heard
  pub expires : Expires library at until old.watch beat heard expired
  pub answers : Answers library expired answered turn
  pub pumps : InTurn (PumpsTo library) (length answered.desk.board.sessions) answered new

-- a library's ring of notices has room by the counts that were loaded last
abbrev pub HasRoomFor : ℕ → LibraryDesk → Type 0
HasRoomFor library d = (e : EngineEnds) → slice_get d.ends.items (library - 1) ≡ Some e → HasRoom e.tail.ring.capacity (length e.tail.pushed) e.tail.taken

abbrev pub OnPopped : Next → Type 0 → Type 0
OnPopped (Popped command) P = P
OnPopped _ P = Unit {0}
