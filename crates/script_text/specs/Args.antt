-- What stands in a line behind its first word. What is behind a word is nothing, or what follows its space.
use Rattle.std.specs.Prelude.{ℕ, Bool, false, ◌&&◌, ◌==◌, nat_le, if◌then◌else◌, List, [], ◌∷◌, length, take, drop, Option, Some, None, Result, Ok, Err, codes, is_none}
use Rattle.std.specs.Borrow.{Bor}
use Rattle.std.specs.Option.{option_map, option_and_then, ok_or}
use Rattle.std.specs.Str.{bytes_eq}
use Rattle.fix_fields.specs.Stamp.{moment_of}
use Rattle.fix_frame.specs.Frame.{frame_of}
use Rattle.fix_frame.specs.declared.layout.TheConstants.{LONGEST_FRAME}
use Rattle.script_text.specs.Kinds.{◌>>=◌, demand}
use Rattle.script_text.specs.Printed.{bytes_of_text}
use Rattle.script_text.specs.Words.{word_in, behind_word, natural_of, is_name}
use Rattle.script_text.specs.declared.kinds.ScriptKind.{ScriptKind}
use Rattle.script_text.specs.declared.kinds.ScriptKind.TheVariants.{BadShape, BadNumber, BadText, OutOfRange}

-- what is behind a word, where the text is lent
abbrev pub lent_args : Option (Bor (List ℕ)) → Option (List ℕ)
lent_args args = option_map (λ text. text.now) args

-- a word, where the text is lent
abbrev pub lent_word : Result (Bor (List ℕ)) ScriptKind → Result (List ℕ) ScriptKind
lent_word (Ok word) = Ok word.now
lent_word (Err kind) = Err kind

-- the next word, which may be empty, if there is one
abbrev pub keyword_at : Option (List ℕ) → Option (List ℕ)
keyword_at args = option_map word_in args

-- what stands behind the next word
unfoldable pub later : Option (List ℕ) → Option (List ℕ)
later args = option_and_then behind_word args

abbrev unless_empty : List ℕ → Result (List ℕ) ScriptKind
unless_empty [] = Err BadShape
unless_empty (b ∷ bytes) = Ok (b ∷ bytes)

-- a part with which the line has to end
abbrev pub ends : {A : Type 0} → Option (List ℕ) → Result A ScriptKind → Result A ScriptKind
ends args part = demand (is_none args) BadShape part

-- the next word, which has to be there and not be empty
unfoldable pub word_at : Option (List ℕ) → Result (List ℕ) ScriptKind
word_at None = Err BadShape
word_at (Some text) = unless_empty (word_in text)

-- the next word, as a number
unfoldable pub number_at : Option (List ℕ) → Result ℕ ScriptKind
number_at args = word_at args >>= λ word. ok_or (natural_of word) BadNumber

-- a number in a range
unfoldable pub number_within : ℕ → ℕ → Option (List ℕ) → Result ℕ ScriptKind
number_within low high args =
    number_at args >>= λ n. if nat_le low n && nat_le n high then Ok n else Err OutOfRange

-- a number in a range, with which the line ends
unfoldable pub number_line : ℕ → ℕ → Option (List ℕ) → Result ℕ ScriptKind
number_line low high args = ends (later args) (number_within low high args)

-- the next word, as the moment of a timestamp
unfoldable pub moment_at : Option (List ℕ) → Result ℕ ScriptKind
moment_at args = word_at args >>= λ word. ok_or (moment_of word) BadNumber

-- the next word, as a name
unfoldable pub name_at : Option (List ℕ) → Result (List ℕ) ScriptKind
name_at args = word_at args >>= λ word. if is_name word then Ok word else Err BadText

-- all that follows, as the bytes that it stands for
unfoldable pub text_at : Option (List ℕ) → Result (List ℕ) ScriptKind
text_at None = Err BadShape
text_at (Some text) = ok_or (bytes_of_text text) BadText

-- the last byte is 1
abbrev pub ends_field : List ℕ → Bool
ends_field [] = false
ends_field (b ∷ []) = b == 1
ends_field (b ∷ c ∷ bytes) = ends_field (c ∷ bytes)

-- begins with `35=`, and ends behind it with byte 1
abbrev pub is_body_text : List ℕ → Bool
is_body_text bytes = bytes_eq (take 3 bytes) (codes "35=") && ends_field (drop 3 bytes)

-- the body of a frame that isn't too long
unfoldable pub is_framed : List ℕ → Bool
is_framed bytes = is_body_text bytes && nat_le (length (frame_of bytes)) LONGEST_FRAME

-- all that follows, as the body of a frame
unfoldable pub body_at : Option (List ℕ) → Result (List ℕ) ScriptKind
body_at args = text_at args >>= λ bytes. if is_framed bytes then Ok bytes else Err BadText
