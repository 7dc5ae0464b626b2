-- A loop that looks for the byte at which a list is split.
use Rattle.std.proofs.Common.{◌≡◌, ℕ, ◌+◌, ◌<◌, ◌≤◌, List, [], ◌∷◌, ◌++◌, length, get_or, take, drop, Option, Some, None, refl, sym, ap, ◌∙◌, append_assoc, append-nil}
use Rattle.std.proofs.lemmas.List.{drop_more, take_more, drop_all}
use Rattle.std.specs.Option.{option_map}
use Rattle.fix_fields.specs.Reading.{onto_first}

abbrev pub Parts : Type 0
Parts = List ℕ × List ℕ

-- with more bytes before the first part
abbrev pub with_front : List ℕ → Parts → Parts
with_front front parts = (front ++ parts.0, parts.1)

front_none : (o : Option Parts) → option_map (with_front []) o ≡ o
front_none None = refl
front_none (Some p) = refl

front_more : (front : List ℕ) (byte : ℕ) (o : Option Parts) → option_map (with_front front) (option_map (onto_first byte) o) ≡ option_map (with_front (front ++ byte ∷ [])) o
front_more front byte None = refl
front_more front byte (Some p) = ap (λ (xs : List ℕ). Some (xs, p.1)) (sym (append_assoc front (byte ∷ []) p.0))

-- the bytes before the place were passed
abbrev pub Passed : (List ℕ → Option Parts) → List ℕ → ℕ → Type 0
Passed split bytes i = split bytes ≡ option_map (with_front (take i bytes)) (split (drop i bytes))

pub passed_none : (split : List ℕ → Option Parts) (bytes : List ℕ) → Passed split bytes 0
passed_none split bytes = sym (front_none (split bytes))

pub passed_more : (split : List ℕ → Option Parts) (bytes : List ℕ) (i : ℕ) → i < length bytes → split (get_or bytes i 0 ∷ drop (i + 1) bytes) ≡ option_map (onto_first (get_or bytes i 0)) (split (drop (i + 1) bytes)) → Passed split bytes i → Passed split bytes (i + 1)
passed_more split bytes i lt step passed =
    passed ∙ ap (option_map (with_front (take i bytes))) (ap split (drop_more bytes i 0 lt) ∙ step)
    ∙ front_more (take i bytes) (get_or bytes i 0) (split (drop (i + 1) bytes))
    ∙ ap (λ (xs : List ℕ). option_map (with_front xs) (split (drop (i + 1) bytes))) (sym (take_more bytes i 0 lt))

pub passed_found : (split : List ℕ → Option Parts) (bytes : List ℕ) (i : ℕ) → i < length bytes → split (get_or bytes i 0 ∷ drop (i + 1) bytes) ≡ Some ([], drop (i + 1) bytes) → Passed split bytes i → split bytes ≡ Some (take i bytes, drop (i + 1) bytes)
passed_found split bytes i lt found passed =
    passed ∙ ap (option_map (with_front (take i bytes))) (ap split (drop_more bytes i 0 lt) ∙ found)
    ∙ ap (λ (xs : List ℕ). Some (xs, drop (i + 1) bytes)) (append-nil (take i bytes))

pub passed_stop : (split : List ℕ → Option Parts) (bytes : List ℕ) (i : ℕ) → i < length bytes → split (get_or bytes i 0 ∷ drop (i + 1) bytes) ≡ None → Passed split bytes i → split bytes ≡ None
passed_stop split bytes i lt none passed =
    passed ∙ ap (option_map (with_front (take i bytes))) (ap split (drop_more bytes i 0 lt) ∙ none)

pub passed_all : (split : List ℕ → Option Parts) (bytes : List ℕ) (i : ℕ) → length bytes ≤ i → split [] ≡ None → Passed split bytes i → split bytes ≡ None
passed_all split bytes i le none passed =
    passed ∙ ap (option_map (with_front (take i bytes))) (ap split (drop_all i bytes le) ∙ none)
