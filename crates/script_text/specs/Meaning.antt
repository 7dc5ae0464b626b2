-- The meaning of a whole script.
use Rattle.std.specs.Prelude.{◌≡◌, ℕ, suc, Bool, ◌==◌, nat_lt, if◌then◌else◌, List, [], ◌∷◌, length, Result, Ok, Err}
use Rattle.script_text.specs.SoFar.{SoFar, no_lines, said_with, script_said}
use Rattle.script_text.specs.Grammar.{line_of}
use Rattle.script_text.specs.declared.reading.TheConstants.{LONGEST_SCRIPT}
use Rattle.script_text.specs.declared.kinds.ScriptError.{ScriptError}
use Rattle.script_text.specs.declared.kinds.ScriptError.TheVariants.{OutOfMemory, Fault}
use Rattle.script_text.specs.declared.kinds.ScriptKind.{ScriptKind}
use Rattle.script_text.specs.declared.kinds.ScriptKind.TheVariants.{TooLong}
use Rattle.script_text.specs.declared.lines.Line.{Line}
use Rattle.script_text.specs.declared.steps.Script.{Script}

-- with one more byte at the front of the first line
abbrev pub onto_first : ℕ → List (List ℕ) → List (List ℕ)
onto_first byte [] = (byte ∷ []) ∷ []
onto_first byte (text ∷ texts) = (byte ∷ text) ∷ texts

-- the lines of a text: each ends at LF, which the last may lack
unfoldable pub lines_of : List ℕ → List (List ℕ)
lines_of [] = []
lines_of (byte ∷ bytes) = if byte == 10 then [] ∷ lines_of bytes else onto_first byte (lines_of bytes)

-- the fault of line n, or what is read on behind it
abbrev pub read_on : ℕ → (Line → Result Script ScriptError) → Result Line ScriptKind → Result Script ScriptError
read_on n read_behind (Ok line) = read_behind line
read_on n read_behind (Err kind) = Err (Fault n kind)

-- what lines say, from line n on, behind what is said so far
unfoldable pub script_from : Bool → ℕ → SoFar → List (List ℕ) → Result Script ScriptError
script_from serving n said [] = Ok (script_said serving said)
script_from serving n said (text ∷ texts) =
    read_on n (λ line. script_from serving (suc n) (said_with n line said) texts) (line_of serving said text)

-- What a script says to the command that reads it, `serve` or `replay`, or its fault: it is too long, or else the first
-- line that is outside the grammar, and what is wrong with it.
unfoldable pub script_of : Bool → List ℕ → Result Script ScriptError
script_of serving text =
    if nat_lt LONGEST_SCRIPT (length text) then Err (Fault 0 TooLong) else script_from serving 1 no_lines (lines_of text)

-- the text is outside the grammar with this fault; want of memory is no fault of the text's
abbrev pub IsFaultOf : Bool → List ℕ → ScriptError → Type 0
IsFaultOf serving text OutOfMemory = Unit {0}
IsFaultOf serving text (Fault line kind) = script_of serving text ≡ Err (Fault line kind)
