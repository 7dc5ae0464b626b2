-- What the connections brought: the pieces that were handed out of each, and that the bodies of the good ones are those that its session handled.
use Rattle.std.specs.Prelude.{◌≡◌, ◌≢◌, ℕ, ◌<◌, ◌≤◌, length, take, drop, List, [], ◌∷◌, ◌++◌, Option, None, Some}
use Rattle.connection_core.specs.Connection.{IsGiven}
use Rattle.fix_frame.specs.Cut.{CutPiece, garbled, good}
use Rattle.session_book.specs.Runs.{Handled, handled_of}
use Rattle.switchboard.specs.Board.{Board, book_at, connection_at}
use Rattle.switchboard.specs.Happenings.{Happening, Reaches, accepts, binds, binds_and_ends, dials, gives, next_pieces, receives}
use Rattle.switchboard.specs.Sound.{bound_of}
use Rattle.switchboard.specs.Told.{History, changed_at}

-- the pieces that were handed out of a connection, the messages that its session handled, and those in hand: handed out whole, and not handled
pub record Brought : Type 0 where
  pub pieces : List CutPiece
  pub handled : List (List ℕ)
  pub in_hand : List (List ℕ)

abbrev pub nothing_brought : Brought
nothing_brought = record { pieces = []; handled = []; in_hand = [] }

-- the bodies of the good pieces
abbrev pub good_bodies : List CutPiece → List (List ℕ)
good_bodies [] = []
good_bodies (good body ∷ pieces) = body ∷ good_bodies pieces
good_bodies (garbled size ∷ pieces) = good_bodies pieces

-- further pieces are handed out
abbrev pub with_pieces : List CutPiece → Brought → Brought
with_pieces more brought = record brought { pieces = brought.pieces ++ more; in_hand = brought.in_hand ++ good_bodies more }

-- the first message in hand is handled
abbrev pub with_first_handled : List ℕ → Brought → Brought
with_first_handled body brought = record brought { handled = brought.handled ++ body ∷ []; in_hand = drop 1 brought.in_hand }

-- once this happened to the old board
abbrev pub brought_after : Happening → Board → (ℕ → Brought) → ℕ → Brought
brought_after (accepts number at) old brought = changed_at (length old.connections) (λ none. nothing_brought) brought
brought_after (dials s number at) old brought = changed_at (length old.connections) (λ none. nothing_brought) brought
brought_after (gives k) old brought = changed_at k (with_pieces (next_pieces (connection_at old k))) brought
brought_after (binds s k body at) old brought = changed_at k (with_first_handled body) brought
brought_after (binds_and_ends s k body at cause) old brought = changed_at k (with_first_handled body) brought
brought_after (receives s k body at) old brought = changed_at k (with_first_handled body) brought
brought_after _ old brought = brought

abbrev pub brought_over : (happenings : List Happening) (old new : Board) → Reaches happenings old new → (ℕ → Brought) → ℕ → Brought
brought_over [] old new reached brought = brought
brought_over (happening ∷ happenings) old new reached brought = brought_over happenings reached.0 new reached.1.1 (brought_after happening old brought)

-- the first message in hand of a connection
abbrev pub IsInHand : List ℕ → Brought → Type 0
IsInHand body brought = take 1 brought.in_hand ≡ body ∷ []

-- a session handles no message but the first in hand of its connection
abbrev pub TakesWhatIsInHand : Happening → (ℕ → Brought) → Type 0
TakesWhatIsInHand (binds s k body at) brought = IsInHand body (brought k)
TakesWhatIsInHand (binds_and_ends s k body at cause) brought = IsInHand body (brought k)
TakesWhatIsInHand (receives s k body at) brought = IsInHand body (brought k)
TakesWhatIsInHand _ brought = Unit {0}

abbrev pub TakeWhatIsInHand : (happenings : List Happening) (old new : Board) → Reaches happenings old new → (ℕ → Brought) → Type 0
TakeWhatIsInHand [] old new reached brought = Unit {0}
TakeWhatIsInHand (happening ∷ happenings) old new reached brought =
    TakesWhatIsInHand happening brought × TakeWhatIsInHand happenings reached.0 new reached.1.1 (brought_after happening old brought)

-- These messages were handled of connection c, which is one of those that a session handled: the last one just while it is bound to that.
pub record HasHandled (bound : Option ℕ) (c : ℕ) (bodies : List (List ℕ)) (handled : List Handled) : Type 0 where
  pub past : List Handled
  pub later : List Handled
  pub are : handled ≡ past ++ (handled_of c bodies ∷ later)
  pub stands : bound ≡ Some c → later ≡ []
  pub other : (d : ℕ) → bound ≡ Some d → d ≢ c → 1 ≤ length later

-- The pieces that were handed out of each connection are those of the cut of all that was taken, up to what is held. The good ones are those that its
-- session handled, in order, and behind them those in hand.
pub record IsBrought (history : History) (brought : ℕ → Brought) (board : Board) : Type 0 where
  pub given : (k : ℕ) → k < length board.connections → IsGiven (connection_at board k) (brought k).pieces
  pub good : (k : ℕ) → k < length board.connections → good_bodies (brought k).pieces ≡ (brought k).handled ++ (brought k).in_hand
  pub handled : (s k : ℕ) → k < length board.connections → (connection_at board k).session ≡ Some s
      → HasHandled (bound_of (book_at board s)) (connection_at board k).number (brought k).handled (history.handled s)
  pub none : (k : ℕ) → k < length board.connections → (connection_at board k).session ≡ None → (brought k).handled ≡ []
