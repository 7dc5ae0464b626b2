-- The words of a line, in the strict form in which a report has them. What is behind a word is nothing, or what follows its space.
use Rattle.std.specs.Prelude.{ℕ, Bool, false, ◌&&◌, ◌==◌, nat_lt, nat_le, if◌then◌else◌, List, length, slice_index, Option, Some, None, is_none}
use Rattle.std.specs.Str.{bytes_eq}
use Rattle.fix_fields.specs.Options.{◌>>=◌}
use Rattle.fix_fields.specs.Stamp.{moment_of}
use Rattle.script_text.specs.Args.{keyword_at, later}
use Rattle.script_text.specs.Printed.{bytes_of_text, printed_text}
use Rattle.script_text.specs.Words.{natural_of}
use Rattle.journal_audit.specs.declared.words.TheConstants.{STAMP_LENGTH}

-- what numbers of 8, 16, 32 and 64 bits hold
abbrev pub BYTE : ℕ
BYTE = 255

abbrev pub HALF : ℕ
HALF = 65_535

abbrev pub WORD : ℕ
WORD = 4_294_967_295

abbrev pub LONG : ℕ
LONG = 18_446_744_073_709_551_615

-- a number that 64 bits hold, without leading zeros; 48 is the code of 0
unfoldable pub number_in : List ℕ → Option ℕ
number_in word = if nat_lt 1 (length word) && (slice_index word 0 == 48) then None else natural_of word

-- the next word, as a number
abbrev pub number_at : Option (List ℕ) → Option ℕ
number_at args = keyword_at args >>= number_in

-- as a number up to the most
abbrev pub number_to : ℕ → Option (List ℕ) → Option ℕ
number_to most args = number_at args >>= λ n. if nat_le n most then Some n else None

-- a number of 16 bits
abbrev pub half_in : List ℕ → Option ℕ
half_in word = number_in word >>= λ n. if nat_le n HALF then Some n else None

abbrev is_word : List ℕ → Option (List ℕ) → Bool
is_word label None = false
is_word label (Some word) = bytes_eq word label

-- the next word is this one
abbrev pub label_at : List ℕ → Option (List ℕ) → Bool
label_at label args = is_word label (keyword_at args)

-- the number behind the next word, which is this one
abbrev pub named_to : List ℕ → ℕ → Option (List ℕ) → Option ℕ
named_to label most args = if label_at label args then number_to most (later args) else None

-- a timestamp with milliseconds
unfoldable pub stamp_in : List ℕ → Option ℕ
stamp_in word = if length word == STAMP_LENGTH then moment_of word else None

-- the next word, as the moment of one
abbrev pub stamp_at : Option (List ℕ) → Option ℕ
stamp_at args = keyword_at args >>= stamp_in

-- the bytes that are printed as the text
unfoldable pub printed_in : List ℕ → Option (List ℕ)
printed_in text = bytes_of_text text >>= λ bytes. if bytes_eq (printed_text bytes) text then Some bytes else None

-- all that follows, as the bytes that are printed so
abbrev pub printed_at : Option (List ℕ) → Option (List ℕ)
printed_at args = args >>= printed_in

-- a part with which the line ends
abbrev pub ending : {A : Type 0} → Option (List ℕ) → A → Option A
ending args part = if is_none args then Some part else None
