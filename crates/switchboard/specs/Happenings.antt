-- What can happen to sessions and connections, and what becomes of a board by it.
use Rattle.std.specs.Prelude.{◌≡◌, ◌≢◌, ℕ, ◌<◌, ◌≤◌, length, List, [], ◌∷◌, ◌++◌, slice_set, true, Option, None, Some, IsNone}
use Rattle.connection_core.specs.Connection.{ConnectionState, IsGiven, after_end, after_next, after_taking, fresh, fresh_dial}
use Rattle.connection_core.specs.Outgoing.{HasMore, after_writing, no_outgoing, waiting_text}
use Rattle.fix_frame.specs.Cut.{CutPiece, Found, piece_at}
use Rattle.fix_frame.specs.declared.layout.TheConstants.{LONGEST_FRAME}
use Rattle.lease_core.specs.Lines.{lines_of, missing_sends}
use Rattle.lease_core.specs.Showable.{CanTimeOut}
use Rattle.lease_core.specs.declared.word.Word.{Word}
use Rattle.session_core.specs.Receive.{receive}
use Rattle.session_core.specs.Runs.{binds as is_logon}
use Rattle.session_core.specs.declared.causes.Cause.{Cause}
use Rattle.session_core.specs.declared.names.Names.{Names}
use Rattle.session_core.specs.declared.phases.Phase.TheVariants.{Off}
use Rattle.session_book.specs.Acts.{after_binding, after_dial, after_end as after_leaving, after_lapse, after_message, after_request, after_ticking}
use Rattle.session_book.specs.Book.{Book, IsSameSession, with_outbox}
use Rattle.session_book.specs.Words.{after_timeout, after_word, shown_sends}
use Rattle.switchboard.specs.Board.{Board, DeskChanges, PlugChanges, book_at, connection_at, desk_at, desk_with, names_at, place_at, session_at, with_connection, with_connections, with_session}
use Rattle.switchboard.specs.Sound.{IsLawful, bound_of}

-- A call that changes a board, with what it was handed: a session by its number, a connection by its place.
pub data Happening : Type 0 where
  -- a connection is accepted, or dialled for a session
  accepts : (number at : ℕ) → Happening
  dials : (s number at : ℕ) → Happening
  -- bytes come on a connection; its next piece is handed out, if there is one
  takes : (k : ℕ) (bytes : List ℕ) → Happening
  gives : (k : ℕ) → Happening
  -- a session is bound to a connection by its Logon; where that ends the connection, the session leaves it at once
  binds : (s k : ℕ) (body : List ℕ) (at : ℕ) → Happening
  binds_and_ends : (s k : ℕ) (body : List ℕ) (at : ℕ) (cause : Cause) → Happening
  -- a message comes on the connection of a session; the Logon of a dialled connection is answered
  receives : (s k : ℕ) (body : List ℕ) (at : ℕ) → Happening
  answers : (k : ℕ) → Happening
  -- the clock stands at a moment
  ticks : (s at : ℕ) → Happening
  -- what the leases of a session do
  shows : (s : ℕ) (w : Word) (bodies : List (List ℕ)) (at until : ℕ) → Happening
  times_out : (s : ℕ) (old : Word) (bodies : List (List ℕ)) (at until : ℕ) → Happening
  requests : (s library nr from : ℕ) → Happening
  lapses : (s : ℕ) → Happening
  -- a connection ends that was bound to no session, or one to which a session is bound
  ends_unbound : (k : ℕ) (cause : Cause) → Happening
  ends_bound : (s k : ℕ) (cause : Cause) → Happening
  -- texts are made of what waits on the connection of a session; so many bytes of a connection are written
  prepares : (s k : ℕ) → Happening
  writes : (k n : ℕ) → Happening
  -- room is made for a session
  reserves : (s : ℕ) → Happening

-- no connection has this number
abbrev pub IsNewNumber : Board → ℕ → Type 0
IsNewNumber board number = (k : ℕ) → k < length board.connections → (connection_at board k).number ≢ number

-- the same session, of which holds what holds of every one
pub record StaysLawful (old new : Book) : Type 0 where
  pub same : IsSameSession old new
  pub lawful : IsLawful new

-- one connection becomes another, and nothing else changes
pub record ConnectionChanges (k : ℕ) (connection : ConnectionState) (old new : Board) : Type 0 where
  pub within : k < length old.connections
  pub others : new ≡ with_connection k connection old

-- one session goes on, with what waits on its connection, and nothing else changes
pub record SessionGoesOn (s : ℕ) (old new : Board) : Type 0 where
  pub within : s < length old.sessions
  pub others : DeskChanges s (place_at old s) old new
  pub bound : bound_of (book_at new s) ≡ bound_of (book_at old s)
  pub on : (book_at old s).machine.phase ≢ Off → (book_at new s).machine.phase ≢ Off
  pub lawful : StaysLawful (book_at old s) (book_at new s)

-- the connection is the last one, and nothing was queued on it
pub record Accepts (number at : ℕ) (old new : Board) : Type 0 where
  pub new_number : IsNewNumber old number
  pub connection : new ≡ with_connections (old.connections ++ fresh number at (connection_at new (length old.connections)).out ∷ []) old
  pub none_waits : (connection_at new (length old.connections)).out.outgoing ≡ no_outgoing

-- a session that is bound to none is bound to a connection, the last one, on which its Logon is queued
pub record Dials (s number at : ℕ) (old new : Board) : Type 0 where
  pub within : s < length old.sessions
  pub new_number : IsNewNumber old number
  pub free : bound_of (book_at old s) ≡ None
  pub desk : desk_with new s (Some (length old.connections)) ≡ after_dial at number (with_outbox (book_at old s) no_outgoing)
  pub connection : new.connections ≡ old.connections ++ fresh_dial number at s (connection_at new (length old.connections)).out ∷ []
  pub sessions : new.sessions ≡ slice_set old.sessions s (session_at new s)
  pub places : new.places ≡ slice_set old.places s (Some (length old.connections))
  pub nowhere : new.nowhere ≡ old.nowhere
  pub bound : bound_of (book_at new s) ≡ Some number
  pub on : (book_at new s).machine.phase ≢ Off
  pub lawful : StaysLawful (book_at old s) (book_at new s)

-- bytes come and pieces are handed out while a connection stands
pub record Takes (k : ℕ) (bytes : List ℕ) (old new : Board) : Type 0 where
  pub stands : IsNone (connection_at old k).cause
  pub changes : ConnectionChanges k (after_taking bytes (connection_at old k)) old new
  pub given : (pieces : List CutPiece) → IsGiven (connection_at old k) pieces → IsGiven (connection_at new k) pieces

-- the piece that stands at the beginning of what is held, if one does
abbrev pub piece_list : Option Found → List CutPiece
piece_list None = []
piece_list (Some found) = found.piece ∷ []

abbrev pub next_pieces : ConnectionState → List CutPiece
next_pieces connection = piece_list (piece_at LONGEST_FRAME connection.held)

pub record Gives (k : ℕ) (old new : Board) : Type 0 where
  pub stands : IsNone (connection_at old k).cause
  pub changes : ConnectionChanges k (after_next (connection_at old k)) old new
  pub given : (pieces : List CutPiece) → IsGiven (connection_at old k) pieces → IsGiven (connection_at new k) (pieces ++ next_pieces (connection_at old k))

-- a session that accepts and is bound to none is bound to a connection that stands, by a Logon of some names
pub record BindsTo (s k : ℕ) (body : List ℕ) (at : ℕ) (old new : Board) : Type 0 where
  pub within : s < length old.sessions
  pub connection_within : k < length old.connections
  pub names : List Names
  pub logon : is_logon names body ≡ true
  pub accepts : (book_at old s).machine.dials ≡ None
  pub free : bound_of (book_at old s) ≡ None
  pub unbound : IsNone (connection_at old k).session
  pub stands : IsNone (connection_at old k).cause
  pub desk : desk_with new s (Some k) ≡ after_binding at (connection_at old k).number body (desk_with old s (Some k))
  pub plugged : PlugChanges s k (Some k) old new
  pub connection : connection_at new k ≡ record (connection_at old k) { session = Some s; out = (connection_at new k).out }
  pub bound : bound_of (book_at new s) ≡ Some (connection_at old k).number
  pub lawful : StaysLawful (book_at old s) (book_at new s)

-- the connection goes on, and the session is on
pub record Binds (s k : ℕ) (body : List ℕ) (at : ℕ) (old new : Board) : Type 0 where
  pub binding : BindsTo s k body at old new
  pub stays : (receive (book_at old s).machine body at).end ≡ None
  pub on : (book_at new s).machine.phase ≢ Off

-- the session to which it is bound leaves a connection, which has a cause from then on
pub record EndsBound (s k : ℕ) (cause : Cause) (old new : Board) : Type 0 where
  pub within : s < length old.sessions
  pub placed : place_at old s ≡ Some k
  pub book : book_at new s ≡ after_leaving (connection_at old k).number (book_at old s)
  pub connection : connection_at new k ≡ after_end cause (connection_at old k)
  pub unplugged : PlugChanges s k None old new
  pub bound : bound_of (book_at new s) ≡ None
  pub lawful : StaysLawful (book_at old s) (book_at new s)

-- the Logon ends the connection by the cause
pub record BindsAndEnds (s k : ℕ) (body : List ℕ) (at : ℕ) (cause : Cause) (old new : Board) : Type 0 where
  pub between : Board
  pub binding : BindsTo s k body at old between
  pub ends : (receive (book_at old s).machine body at).end ≡ Some cause
  pub leaves : EndsBound s k cause between new

-- the session machine receives a body at a moment
pub record Receives (s k : ℕ) (body : List ℕ) (at : ℕ) (old new : Board) : Type 0 where
  pub placed : place_at old s ≡ Some k
  pub desk : desk_at new s ≡ after_message at body (desk_at old s)
  pub goes_on : SessionGoesOn s old new

-- it does what is due at a moment
pub record Ticks (s at : ℕ) (old new : Board) : Type 0 where
  pub desk : desk_at new s ≡ after_ticking at (desk_at old s)
  pub goes_on : SessionGoesOn s old new

-- what a word of the last lease shows is recorded, with these bodies of its sends
pub record Shows (s : ℕ) (w : Word) (bodies : List (List ℕ)) (at until : ℕ) (old new : Board) : Type 0 where
  pub bodies_are : length bodies ≡ shown_sends (book_at old s).entries w
  pub desk : desk_at new s ≡ after_word at until w bodies (desk_at old s)
  pub goes_on : SessionGoesOn s old new

-- the engine took the session back: what the old word shows is recorded, and that
pub record TimesOut (s : ℕ) (w : Word) (bodies : List (List ℕ)) (at until : ℕ) (old new : Board) : Type 0 where
  pub can : CanTimeOut (lines_of (book_at old s).entries) w
  pub bodies_are : length bodies ≡ missing_sends (lines_of (book_at old s).entries) w
  pub desk : desk_at new s ≡ after_timeout at until w bodies (desk_at old s)
  pub goes_on : SessionGoesOn s old new

-- one session becomes this, and nothing else changes
pub record BookChanges (s : ℕ) (book : Book) (old new : Board) : Type 0 where
  pub within : s < length old.sessions
  pub becomes : book_at new s ≡ book
  pub others : new ≡ with_session s (session_at new s) old
  pub bound : bound_of (book_at new s) ≡ bound_of (book_at old s)
  pub on : (book_at old s).machine.phase ≢ Off → (book_at new s).machine.phase ≢ Off
  pub lawful : StaysLawful (book_at old s) (book_at new s)

-- a connection that was bound to no session has a cause from then on
pub record EndsUnbound (k : ℕ) (cause : Cause) (old new : Board) : Type 0 where
  pub unbound : IsNone (connection_at old k).session
  pub changes : ConnectionChanges k (after_end cause (connection_at old k)) old new

-- some items more have text, with the names and the log of the session that the connection names
pub record Prepares (s k : ℕ) (old new : Board) : Type 0 where
  pub names : (connection_at old k).session ≡ Some s
  pub changes : ConnectionChanges k (record (connection_at old k) { out = (connection_at new k).out }) old new
  pub more : HasMore (names_at old s) (book_at old s).outbound (connection_at old k).out.outgoing (connection_at new k).out.outgoing

-- so many of the bytes that wait are written
pub record Writes (k n : ℕ) (old new : Board) : Type 0 where
  pub within : n ≤ length (waiting_text (connection_at old k).out.outgoing)
  pub changes : ConnectionChanges k (record (connection_at old k) { out = (connection_at new k).out }) old new
  pub outgoing : (connection_at new k).out.outgoing ≡ after_writing n (connection_at old k).out.outgoing

-- nothing but room changes
pub record Reserves (s : ℕ) (old new : Board) : Type 0 where
  pub desk : desk_at new s ≡ desk_at old s
  pub goes_on : SessionGoesOn s old new

-- it happened, and the old board became the new one by it
abbrev pub Happens : Happening → Board → Board → Type 0
Happens (accepts number at) old new = Accepts number at old new
Happens (dials s number at) old new = Dials s number at old new
Happens (takes k bytes) old new = Takes k bytes old new
Happens (gives k) old new = Gives k old new
Happens (binds s k body at) old new = Binds s k body at old new
Happens (binds_and_ends s k body at cause) old new = BindsAndEnds s k body at cause old new
Happens (receives s k body at) old new = Receives s k body at old new
Happens (answers k) old new = ConnectionChanges k (record (connection_at old k) { answered = true }) old new
Happens (ticks s at) old new = Ticks s at old new
Happens (shows s w bodies at until) old new = Shows s w bodies at until old new
Happens (times_out s w bodies at until) old new = TimesOut s w bodies at until old new
Happens (requests s library nr from) old new = BookChanges s (after_request library nr from (book_at old s)) old new
Happens (lapses s) old new = BookChanges s (after_lapse (book_at old s)) old new
Happens (ends_unbound k cause) old new = EndsUnbound k cause old new
Happens (ends_bound s k cause) old new = EndsBound s k cause old new
Happens (prepares s k) old new = Prepares s k old new
Happens (writes k n) old new = Writes k n old new
Happens (reserves s) old new = Reserves s old new

-- they happened one after another
abbrev pub Reaches : List Happening → Board → Board → Type 0
Reaches [] old new = new ≡ old
Reaches (happening ∷ happenings) old new = (between : Board) × (Happens happening old between × Reaches happenings between new)
