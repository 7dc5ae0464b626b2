-- What holds of the definitions.
use Rattle.std.specs.Prelude.{◌≡◌, ◌↔◌, ◌⊎◌, ℕ, suc, ◌+◌, ◌<◌, ◌≤◌, ◌==◌, Bool, true, not, List, [], ◌∷◌, ◌++◌, length, All, Option, Some, None, Result, Ok, Err}
use Rattle.std.specs.List.{flat_map, list_all}
use Rattle.script_text.specs.Grammar.{line_of}
use Rattle.script_text.specs.Meaning.{lines_of, script_of}
use Rattle.script_text.specs.Printed.{is_printable, printed_text, bytes_of_text}
use Rattle.script_text.specs.SoFar.{SoFar, no_lines, said_with, script_said}
use Rattle.script_text.specs.declared.kinds.ScriptError.TheVariants.{Fault}
use Rattle.script_text.specs.declared.reading.TheConstants.{LONGEST_SCRIPT}
use Rattle.script_text.specs.declared.kinds.ScriptKind.{ScriptKind}
use Rattle.script_text.specs.declared.kinds.ScriptKind.TheVariants.{TooLong}
use Rattle.script_text.specs.declared.lines.Line.{Line}
use Rattle.script_text.specs.declared.steps.Script.{Script}

-- what is printed for bytes is read as them
abbrev pub PrintedTextsReadAgain : Type 0
PrintedTextsReadAgain = (bytes : List ℕ) → All (λ b. b < 256) bytes → bytes_of_text (printed_text bytes) ≡ Some bytes

-- what is printed for bytes has printable bytes alone
abbrev pub PrintedTextsArePrintable : Type 0
PrintedTextsArePrintable = (bytes : List ℕ) → All (λ b. b < 256) bytes → list_all is_printable (printed_text bytes) ≡ true

-- no byte is LF
abbrev pub is_unbroken : List ℕ → Bool
is_unbroken line = list_all (λ b. not (b == 10)) line

-- lines, each with LF behind it
abbrev pub text_of_lines : List (List ℕ) → List ℕ
text_of_lines lines = flat_map (λ line. line ++ 10 ∷ []) lines

-- the lines of a text: none has LF in it, and with LF behind each they are the text, or the text whose last line lacks it
pub record AreLines (text : List ℕ) (lines : List (List ℕ)) : Type 0 where
  pub unbroken : list_all is_unbroken lines ≡ true
  pub whole : (text_of_lines lines ≡ text) ⊎ (text_of_lines lines ≡ text ++ 10 ∷ [])

-- a text is cut into its lines
abbrev pub TextsAreCutIntoLines : Type 0
TextsAreCutIntoLines = (text : List ℕ) → AreLines text (lines_of text)

abbrev pub said_on : (Line → Option SoFar) → Result Line ScriptKind → Option SoFar
said_on next (Ok line) = next line
said_on next (Err kind) = None

-- what lines say from line n on, where none of them has a fault
unfoldable pub said_by : Bool → ℕ → SoFar → List (List ℕ) → Option SoFar
said_by serving n said [] = Some said
said_by serving n said (text ∷ texts) =
    said_on (λ line. said_by serving (suc n) (said_with n line said) texts) (line_of serving said text)

-- no line of the text has a fault, and together they say the script
pub record IsRead (serving : Bool) (text : List ℕ) (script : Script) : Type 0 where
  pub said : SoFar
  pub short : length text ≤ LONGEST_SCRIPT
  pub lines : said_by serving 1 no_lines (lines_of text) ≡ Some said
  pub whole : script_said serving said ≡ script

-- line n has this fault, and no line before it has one
pub record IsFirstFault (serving : Bool) (text : List ℕ) (n : ℕ) (kind : ScriptKind) : Type 0 where
  pub before : List (List ℕ)
  pub line : List ℕ
  pub behind : List (List ℕ)
  pub said : SoFar
  pub short : length text ≤ LONGEST_SCRIPT
  pub cut : lines_of text ≡ before ++ line ∷ behind
  pub number : n ≡ 1 + length before
  pub lawful : said_by serving 1 no_lines before ≡ Some said
  pub fault : line_of serving said line ≡ Err kind

-- a text is a script just where no line has a fault
abbrev pub ScriptsAreRead : Type 0
ScriptsAreRead = (serving : Bool) (text : List ℕ) (script : Script) → (script_of serving text ≡ Ok script) ↔ IsRead serving text script

-- the fault of a text that isn't too long is that of its first line with one
abbrev pub FaultsAreFirst : Type 0
FaultsAreFirst =
    (serving : Bool) (text : List ℕ) (n : ℕ) (kind : ScriptKind) → 0 < n
    → (script_of serving text ≡ Err (Fault n kind)) ↔ IsFirstFault serving text n kind

-- line 0 stands for a text that is too long
abbrev pub LongTextsAreLineZero : Type 0
LongTextsAreLineZero =
    (serving : Bool) (text : List ℕ) (kind : ScriptKind)
    → (script_of serving text ≡ Err (Fault 0 kind)) ↔ ((kind ≡ TooLong) × (LONGEST_SCRIPT < length text))
