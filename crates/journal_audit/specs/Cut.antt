-- Where a text is cut into lines, and the line of a call into the call and its answer.
use Rattle.std.specs.Prelude.{ℕ, ◌==◌, if◌then◌else◌, List, [], ◌∷◌, Option, Some, None}
use Rattle.std.specs.Option.{option_map}
use Rattle.std.specs.Borrow.{Bor}

-- the lines of a text, each of which ends at LF, and what stands behind the last LF
pub record Cut : Type 0 where
  pub lines : List (List ℕ)
  pub rest : List ℕ

-- with one more line in front
abbrev pub with_line : List ℕ → Cut → Cut
with_line line cut = record { lines = line ∷ cut.lines; rest = cut.rest }

-- with one more byte in front
abbrev pub onto_first : ℕ → List (List ℕ) → List ℕ → Cut
onto_first b [] rest = record { lines = []; rest = b ∷ rest }
onto_first b (line ∷ lines) rest = record { lines = (b ∷ line) ∷ lines; rest = rest }

-- 10 is the code of LF
unfoldable pub cut_of : List ℕ → Cut
cut_of [] = record { lines = []; rest = [] }
cut_of (b ∷ bytes) = let cut = cut_of bytes in if b == 10 then with_line [] cut else onto_first b cut.lines cut.rest

-- what stands before a byte, and what stands behind it
pub record Parts : Type 0 where
  pub before : List ℕ
  pub behind : List ℕ

-- the same, where the text is lent
abbrev pub lent_parts : Option (Bor (List ℕ) × Bor (List ℕ)) → Option Parts
lent_parts parts = option_map (λ p. record { before = p.0.now; behind = p.1.now }) parts

abbrev pub colon_here : ℕ → List ℕ → Option Parts
colon_here b bytes = if b == 58 then Some (record { before = []; behind = bytes }) else None

abbrev pub colon_later : ℕ → List ℕ → Option Parts → Option Parts
colon_later b bytes None = colon_here b bytes
colon_later b bytes (Some parts) = Some (record { before = b ∷ parts.before; behind = parts.behind })

-- what stands before the last colon, whose code is 58, and behind it
unfoldable pub at_last_colon : List ℕ → Option Parts
at_last_colon [] = None
at_last_colon (b ∷ bytes) = colon_later b bytes (at_last_colon bytes)
