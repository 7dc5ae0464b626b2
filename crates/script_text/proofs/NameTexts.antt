-- A name is a text.
use Rattle.std.proofs.Common.{◌≡◌, ℕ, zero, suc, ◌<◌, ◌≤◌, true, List, [], ◌∷◌, IsUtf8, arith}
use Rattle.std.proofs.lemmas.Bool.{and_parts, leb-true}
use Rattle.std.proofs.lemmas.Str.{IsUtf8-from_ascii}
use Rattle.std.specs.List.{list_all}
use Rattle.std.specs.Prelude.{slice_index}
use Rattle.script_text.specs.Words.{is_name, is_name_byte}

low : (b : ℕ) → is_name_byte b ≡ true → b < 128
low b e =
    let parts = and_parts _ _ e in
    let bounds = and_parts _ _ parts.0 in
    let most : b ≤ 126 = leb-true _ _ bounds.1 in
    omega arith

all_low : (word : List ℕ) → list_all is_name_byte word ≡ true → (i : ℕ) → slice_index word i < 128
all_low [] e i = omega arith
all_low (b ∷ bytes) e zero = low b (and_parts _ _ e).0
all_low (b ∷ bytes) e (suc i) = all_low bytes (and_parts _ _ e).1 i

pub is_name_utf8 : (word : List ℕ) → is_name word ≡ true → IsUtf8 word
unfolding is_name
is_name_utf8 word named = IsUtf8-from_ascii word (all_low word (and_parts _ _ named).1)
