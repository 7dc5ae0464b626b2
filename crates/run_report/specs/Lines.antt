-- Lines of the report: words with one space before each.
use Rattle.std.specs.Prelude.{ℕ, ◌+◌, List, [], ◌∷◌, ◌++◌, decimal, min}
use Rattle.fix_fields.specs.Stamp.{stamp_of}
use Rattle.std.specs.List.{flat_map}
use Rattle.gate_io.specs.declared.clocks.TheConstants.{LAST_MOMENT}
use Rattle.run_report.specs.declared.words.ReportWord.{ReportWord}
use Rattle.run_report.specs.declared.words.ReportWord.TheVariants.{Word, Number, Stamp, Printed}
use Rattle.script_text.specs.Printed.{printed_text}

-- words with a space before each
abbrev pub spaced_words : List (List ℕ) → List ℕ
spaced_words words = flat_map (λ word. 32 ∷ word) words

-- a line that begins with a space, or the rest of one
abbrev pub indented_line : List (List ℕ) → List ℕ
indented_line words = spaced_words words ++ 10 ∷ []

-- a line that begins with a word
abbrev pub line : List ℕ → List (List ℕ) → List ℕ
line head words = head ++ indented_line words

-- texts of values in order, each with its number, of which this is the first
abbrev pub numbered_texts : {X : Type 0} → (ℕ → X → List ℕ) → ℕ → List X → List ℕ
numbered_texts text n [] = []
numbered_texts text n (x ∷ xs) = text n x ++ numbered_texts text (n + 1) xs

-- a moment as it is printed: a later one than the last is taken as that one
unfoldable pub stamp_word : ℕ → List ℕ
stamp_word ms = stamp_of (min ms LAST_MOMENT)

-- the text of a word
abbrev pub word_text : ReportWord → List ℕ
word_text (Word text) = text.now
word_text (Number n) = decimal n
word_text (Stamp ms) = stamp_word ms
word_text (Printed bytes) = printed_text bytes.now
