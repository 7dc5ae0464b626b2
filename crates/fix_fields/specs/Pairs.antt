-- The fields that hold bytes of any kind, each behind a field that says how many.
use Rattle.std.specs.Prelude.{ℕ, Bool, false, ◌==◌, ◌||◌, if◌then◌else◌, List, [], ◌∷◌, Option, Some, None, is_some, find}
use Rattle.std.specs.Option.{option_and_then, option_map_or}

-- the tags of each length field and of its data field
abbrev pub pairs : List (ℕ × ℕ)
pairs =
    (90, 91) ∷ (93, 89) ∷ (95, 96) ∷ (212, 213) ∷ (348, 349) ∷ (350, 351) ∷ (352, 353) ∷ (354, 355)
    ∷ (356, 357) ∷ (358, 359) ∷ (360, 361) ∷ (362, 363) ∷ (364, 365) ∷ (445, 446) ∷ (618, 619)
    ∷ (621, 622) ∷ []

-- the pair of which a tag is one
unfoldable pub pair_of : ℕ → Option (ℕ × ℕ)
pair_of tag = find (λ pair. (pair.0 == tag) || (pair.1 == tag)) pairs

-- the tag of the data field that belongs to a length field of this tag
unfoldable pub data_tag_of : ℕ → Option ℕ
data_tag_of tag =
    option_and_then (λ pair. if pair.0 == tag then Some pair.1 else None) (pair_of tag)

-- whether the tag is one of a pair
unfoldable pub is_paired : ℕ → Bool
is_paired tag = is_some (pair_of tag)

-- whether the second tag is that of the data field that belongs to a length field of the first
abbrev pub is_data_of : ℕ → ℕ → Bool
is_data_of length_tag tag = option_map_or (λ data_tag. data_tag == tag) (data_tag_of length_tag) false
