-- Whether the Logon of a dialled connection was answered: what is kept of it is what the first message says that came on the connection.
use Rattle.std.specs.Prelude.{◌≡◌, ℕ, ◌<◌, Bool, true, false, is_ok, List, [], ◌∷◌, ◌++◌, length, None, Some}
use Rattle.std.specs.Result.{result_ok}
use Rattle.connection_core.specs.Connection.{ConnectionState, IsGiven}
use Rattle.fix_fields.specs.Reading.{fields_of}
use Rattle.fix_frame.specs.Cut.{CutPiece}
use Rattle.session_core.specs.Route.{answer_in}
use Rattle.session_core.specs.declared.names.Names.{Names}
use Rattle.session_core.specs.declared.phases.Phase.TheVariants.{Asked}
use Rattle.switchboard.specs.Board.{Board, book_at, connection_at}
use Rattle.switchboard.specs.Brought.{good_bodies}

-- The first of these messages answers the Logon of a session with these names and this HeartBtInt, also where its number is low.
abbrev pub answers_logon : Names → ℕ → List (List ℕ) → Bool
answers_logon names heart [] = false
answers_logon names heart (body ∷ bodies) = is_ok (answer_in names heart (result_ok (fields_of body)))

-- A dialled connection names a session that dials. These pieces were handed out of it and handled, and those in hand were handed out behind them. Its Logon
-- counts as answered where the first of the handled messages answers it; and while it stands and isn't answered, none was handled and the session waits.
pub record IsDialledSo (board : Board) (c : ConnectionState) (in_hand : List CutPiece) : Type 0 where
  pub session : ℕ
  pub names : c.session ≡ Some session
  pub heart : ℕ
  pub dials : (book_at board session).machine.dials ≡ Some heart
  pub pieces : List CutPiece
  pub given : IsGiven c (pieces ++ in_hand)
  pub answered : c.answered ≡ answers_logon (book_at board session).machine.names heart (good_bodies pieces)
  pub waits : c.answered ≡ false → c.cause ≡ None → (good_bodies pieces ≡ []) × ((book_at board session).machine.phase ≡ Asked heart)

-- and so it is of each, where these pieces are in hand of the connections
abbrev pub DialledAreSoWith : (ℕ → List CutPiece) → Board → Type 0
DialledAreSoWith in_hand board = (k : ℕ) → k < length board.connections → (connection_at board k).dialled ≡ true → IsDialledSo board (connection_at board k) (in_hand k)

abbrev pub nothing_in_hand : ℕ → List CutPiece
nothing_in_hand k = []

abbrev pub DialledAreSo : Board → Type 0
DialledAreSo board = DialledAreSoWith nothing_in_hand board
