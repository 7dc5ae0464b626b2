-- The words of a list, by what stands at its places.
use Rattle.std.proofs.Common.{◌≡◌, ◌≤◌, ℕ, List, [], ◌∷◌, Some, None, arith, length, ap, sym, ◌∙◌, Option, String, Global, map, string_bytes}
use Rattle.std.specs.List.{list_all}
use Rattle.std.proofs.lemmas.List.Folds.{list_all-map}
use Rattle.command_words.specs.Words.{is_word}
use Rattle.std.specs.Prelude.{option_map, slice_get}
use Rattle.std.specs.Borrow.{Bor}
use Rattle.command_words.specs.Places.{AreAt}
use Rattle.command_words.specs.declared.places.Placed.{Placed}

abbrev lent : Option (Bor (List ℕ)) → Option (List ℕ)
lent = option_map (λ word. word.now)

pub two_words : (words : List (List ℕ)) (a b : List ℕ) → Some a ≡ slice_get words 0 → Some b ≡ slice_get words 1 → None ≡ slice_get words 2 → words ≡ a ∷ b ∷ []
two_words [] a b first second third = cc
two_words (x ∷ []) a b first second third = cc
two_words (x ∷ y ∷ []) a b first second third = cc
two_words (x ∷ y ∷ z ∷ rest) a b first second third = cc

pub four_words : (words : List (List ℕ)) (a b c d : List ℕ) → Some a ≡ slice_get words 0 → Some b ≡ slice_get words 1 → Some c ≡ slice_get words 2 → Some d ≡ slice_get words 3 → length words ≤ 4
    → words ≡ a ∷ b ∷ c ∷ d ∷ []
four_words [] a b c d first second third fourth few = cc
four_words (x ∷ []) a b c d first second third fourth few = cc
four_words (x ∷ y ∷ []) a b c d first second third fourth few = cc
four_words (x ∷ y ∷ z ∷ []) a b c d first second third fourth few = cc
four_words (x ∷ y ∷ z ∷ w ∷ []) a b c d first second third fourth few = cc
four_words (x ∷ y ∷ z ∷ w ∷ v ∷ rest) a b c d first second third fourth few = absurd (omega arith)

-- what stands at the places of two words, and of four
pub two_placed : (placed : Placed) (words : List (List ℕ)) (a b : Bor (List ℕ)) → AreAt placed words → placed.command ≡ Some a → placed.subject ≡ Some b → placed.address ≡ None
    → words ≡ a.now ∷ b.now ∷ []
two_placed placed words a b at first second third = two_words words a.now b.now
    (ap lent (sym first) ∙ at.command) (ap lent (sym second) ∙ at.subject) (ap lent (sym third) ∙ at.address)

pub four_placed : (placed : Placed) (words : List (List ℕ)) (a b c d : Bor (List ℕ)) → AreAt placed words → placed.command ≡ Some a → placed.subject ≡ Some b → placed.address ≡ Some c → placed.turns ≡ Some d
    → words ≡ a.now ∷ b.now ∷ c.now ∷ d.now ∷ []
four_placed placed words a b c d at first second third fourth = four_words words a.now b.now c.now d.now
    (ap lent (sym first) ∙ at.command) (ap lent (sym second) ∙ at.subject) (ap lent (sym third) ∙ at.address) (ap lent (sym fourth) ∙ at.turns) at.few

pub stand_mapped : (words : List (String Global)) → list_all is_word (map string_bytes words) ≡ list_all (λ word. is_word (string_bytes word)) words
stand_mapped words = list_all-map is_word string_bytes words
