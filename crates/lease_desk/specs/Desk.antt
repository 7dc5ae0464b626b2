-- What the engine does with leases, at the lease table and in the journals.
use Rattle.std.specs.Prelude.{◌≡◌, ◌≢◌, ℕ, zero, suc, Bool, true, false, ◌≤◌, ◌<◌, ◌+◌, ◌⊎◌, List, [], ◌∷◌, length, map}
use Rattle.lease_core.specs.Lines.{lines_of, missing_sends, raised, word_of}
use Rattle.lease_core.specs.State.{owner_of, state_of}
use Rattle.lease_core.specs.declared.limits.TheConstants.{MOST_LEASES}
use Rattle.lease_core.specs.declared.messages.Reply.{Reply}
use Rattle.lease_core.specs.declared.messages.Reply.TheVariants.{Granted, Refused}
use Rattle.lease_core.specs.declared.word.Word.{Word}
use Rattle.lease_desk.specs.declared.desk.LeaseDesk.{LeaseDesk}
use Rattle.lease_desk.specs.declared.desk.TheConstants.{GATHERED}
use Rattle.lease_words.specs.declared.item.Item.{Item}
use Rattle.lease_words.specs.declared.view.EngineSession.{EngineSession}
use Rattle.lease_words.specs.Sees.{after_grant, after_look, after_revoke, after_take}
use Rattle.lease_words.specs.Views.{EngineView, engine_at, last_library, pending, with_engine_at}
use Rattle.switchboard.specs.Words.{after_timeout, after_word}
use Rattle.switchboard.specs.Board.{Board, DeskChanges, book_at, desk_at, outlet_at, place_at, session_at}
use Rattle.switchboard.specs.Happenings.{Happening, Happens, Reaches, requests, reserves, shows, times_out}
use Rattle.switchboard.specs.Sound.{IsSound, bound_of}
use Rattle.switchboard.specs.Stops.{NothingIsTold}

-- The lines of leases that the session's journal tells are those that the seat has seen; all that they show was taken; and what is published isn't
-- above the inbound log's length.
pub record Agrees (board : Board) (seat : EngineView) (s : ℕ) : Type 0 where
  pub lines : lines_of (book_at board s).entries ≡ (engine_at seat s).lines
  pub taken : pending (engine_at seat s) ≡ 0
  pub published : (engine_at seat s).published ≤ length (book_at board s).inbound

abbrev pub AllAgree : Board → EngineView → Type 0
AllAgree board seat = (s : ℕ) → s < length board.sessions → Agrees board seat s

-- the engine took items of the last lease's library, one after another
abbrev pub after_takes : List Item → EngineSession → EngineSession
after_takes [] es = es
after_takes (item ∷ items) es = after_takes items (after_take es (last_library es) (item ∷ []))

abbrev pub bodies_of : List Item → List (List ℕ)
bodies_of items = map (λ item. item.body) items

-- these are the bodies of the items that were taken of a session
pub record TakesItems (s : ℕ) (old new : EngineView) (bodies : List (List ℕ)) : Type 0 where
  pub items : List Item
  pub bodies_are : bodies ≡ bodies_of items
  pub seat : new ≡ with_engine_at old s (after_takes items (engine_at old s))
  pub known : engine_at new s ≡ after_takes items (engine_at old s)

-- The word was found, which the lines then stand for, and as many items were taken as it has sends more.
pub record Finds (old : EngineSession) (word : Word) (items : List Item) : Type 0 where
  pub stands : word_of (raised old.lines word) ≡ word
  pub count : length items ≡ missing_sends old.lines word

-- A session is gathered: a word is looked at, its items are taken, and both go to the journal, the outbound log and the bound connection.
pub record Gathers (s at until : ℕ) (old new : LeaseDesk) : Type 0 where
  pub word : Word
  pub items : List Item
  pub finds : Finds (engine_at old.seat s) word items
  pub seat : new.seat ≡ with_engine_at old.seat s (after_takes items (after_look (engine_at old.seat s) word))
  pub known : engine_at new.seat s ≡ after_takes items (after_look (engine_at old.seat s) word)
  pub desk : desk_at new.board s ≡ after_word at until word (bodies_of items) (desk_at old.board s)
  pub others : DeskChanges s (place_at old.board s) old.board new.board
  pub bound : bound_of (book_at new.board s) ≡ bound_of (book_at old.board s)
  pub reaches : Reaches (reserves s ∷ shows s word (bodies_of items) at until ∷ []) old.board new.board

-- A session is taken back, in the same way.
pub record TakesBack (s at until : ℕ) (old new : LeaseDesk) : Type 0 where
  pub word : Word
  pub items : List Item
  pub finds : Finds (engine_at old.seat s) word items
  pub seat : new.seat ≡ with_engine_at old.seat s (after_takes items (after_revoke (engine_at old.seat s) word))
  pub known : engine_at new.seat s ≡ after_takes items (after_revoke (engine_at old.seat s) word)
  pub desk : desk_at new.board s ≡ after_timeout at until word (bodies_of items) (desk_at old.board s)
  pub others : DeskChanges s (place_at old.board s) old.board new.board
  pub bound : bound_of (book_at new.board s) ≡ bound_of (book_at old.board s)
  pub reaches : Reaches (reserves s ∷ times_out s word (bodies_of items) at until ∷ []) old.board new.board

-- nothing changes of a session but for how much more there is room
pub record Rests (s : ℕ) (old new : LeaseDesk) : Type 0 where
  pub seat : new.seat ≡ old.seat
  pub desk : desk_at new.board s ≡ desk_at old.board s
  pub others : DeskChanges s (place_at old.board s) old.board new.board
  pub happens : Happens (reserves s) old.board new.board

-- a granted session is the library's by one lease more
abbrev pub seat_after_reply : ℕ → ℕ → Reply → EngineView → EngineView
seat_after_reply s library (Granted lease start) seat = with_engine_at seat s (after_grant (engine_at seat s) library)
seat_after_reply s library (Refused why) seat = seat

-- a session, and what waits on its connection, have room for what a gathering records
pub record HasRoom (s : ℕ) (board : Board) : Type 0 where
  pub session : GATHERED ≤ (session_at board s).spare
  pub outbox : GATHERED ≤ (outlet_at board (place_at board s)).spare

-- Sessions and connections are sound, each journal agrees with the seat, and no session can be granted more often than the lease word can number.
pub record IsInStep (board : Board) (seat : EngineView) : Type 0 where
  pub sound : IsSound board
  pub agree : AllAgree board seat
  pub few : (s : ℕ) → s < length board.sessions → (book_at board s).leases ≤ MOST_LEASES

-- the library that has a session by its journal, or 0 for the engine
abbrev pub owner_at : Board → ℕ → ℕ
owner_at board s = owner_of (state_of (book_at board s).entries)

-- one step for each session, in order, from the first on, up to this number
abbrev pub InTurn : {T : Type 0} → (ℕ → T → T → Type 0) → ℕ → T → T → Type 0
InTurn P zero old new = new ≡ old
InTurn {T} P (suc n) old new = (mid : T) × InTurn P n old mid × P n mid new

-- a session that a library has is taken back, and another one stays
abbrev pub TakesBackFrom : ℕ → ℕ → ℕ → ℕ → LeaseDesk → LeaseDesk → Type 0
TakesBackFrom library at until s old new = ((owner_at old.board s ≡ library) × TakesBack s at until old new) ⊎ ((owner_at old.board s ≢ library) × (new ≡ old))

-- what a granted request tells: the next lease, the inbound log's length, and that the replay begins within the log
pub record IsGrant (board : Board) (s from lease start : ℕ) : Type 0 where
  pub next : lease ≡ length (lines_of (book_at board s).entries) + 1
  pub end : start ≡ length (book_at board s).inbound
  pub within : from ≤ length (book_at board s).inbound

abbrev pub OnGranted : Reply → (ℕ → ℕ → Type 0) → Type 0
OnGranted (Granted lease start) P = P lease start
OnGranted (Refused why) P = Unit {0}

-- A session goes on by no new lease: its inbound log isn't shorter, and a library that has it had it before, by the same lease.
pub record GoesOn (old new : Board) (s : ℕ) : Type 0 where
  pub inbound : length (book_at old s).inbound ≤ length (book_at new s).inbound
  pub lease : 0 < owner_at new s → (owner_at new s ≡ owner_at old s) × (length (lines_of (book_at new s).entries) ≡ length (lines_of (book_at old s).entries))

-- what the leases do, and not the connections or the clock
abbrev pub is_of_leases : Happening → Bool
is_of_leases (shows s w bodies at until) = true
is_of_leases (times_out s w bodies at until) = true
is_of_leases (requests s library nr from) = true
is_of_leases _ = false

-- Sessions that a library has are taken back, and then memory is wanting: of the next one nothing is told.
pub record TakesBackSome (library at until : ℕ) (old new : LeaseDesk) : Type 0 where
  pub count : ℕ
  pub few : count < length old.board.sessions
  pub between : LeaseDesk
  pub taken_back : InTurn (TakesBackFrom library at until) count old between
  pub stops : NothingIsTold between.board new.board
