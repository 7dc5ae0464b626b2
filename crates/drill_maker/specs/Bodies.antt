-- The texts of a drill.
use Rattle.std.specs.Prelude.{ℕ, ◌+◌, List, [], ◌∷◌, ◌++◌, codes, decimal}
use Rattle.fix_fields.specs.Field.{Field, text_of}
use Rattle.drill_maker.specs.declared.bodies.Piece.{Piece}

-- the counterparties are P0, P1 and so on
abbrev pub counterparty : ℕ → List ℕ
counterparty c = codes "P" ++ decimal c

abbrev pub gateway : List ℕ
gateway = codes "GATE"

-- the moment of the drill, as SendingTime (52) has it
abbrev pub sending_time : List ℕ
sending_time = codes "20260105-09:30:00.000"

abbrev pub field : ℕ → List ℕ → Field
field tag value = record { tag = tag; value = value }

-- the field that a piece of a body is
abbrev pub field_of : Piece → Field
field_of piece = field piece.tag piece.value.now

-- a counterparty's Logon
unfoldable pub logon_of : ℕ → List ℕ
logon_of c = text_of (
    field 35 (codes "A") ∷ field 49 (counterparty c) ∷ field 56 gateway ∷ field 34 (codes "1")
    ∷ field 52 sending_time ∷ field 98 (codes "0") ∷ field 108 (codes "30") ∷ [])

-- a counterparty's order of a round: its number follows those of the Logon and of the rounds before
unfoldable pub order_of : ℕ → ℕ → List ℕ
order_of c round = text_of (
    field 35 (codes "D") ∷ field 49 (counterparty c) ∷ field 56 gateway ∷ field 34 (decimal (round + 2))
    ∷ field 52 sending_time ∷ field 11 (decimal round) ∷ [])

-- what a library sends in a round
unfoldable pub answer_of : ℕ → List ℕ
answer_of round = text_of (field 35 (codes "8") ∷ field 37 (decimal round) ∷ [])
