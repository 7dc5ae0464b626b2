-- What can be wrong with a line, and which of several faults counts.
use Rattle.std.specs.Prelude.{ℕ, Bool, true, false, nat_le, if◌then◌else◌, List, ◌++◌, Result, Ok, Err, codes, decimal}
use Rattle.script_text.specs.declared.kinds.ScriptKind.{ScriptKind}
use Rattle.script_text.specs.declared.kinds.ScriptKind.TheVariants.{BadByte, UnknownWord, BadShape, BadNumber, BadText, OutOfRange, Misplaced, Backward, TooLong}
use Rattle.script_text.specs.declared.kinds.ScriptError.{ScriptError}
use Rattle.script_text.specs.declared.kinds.ScriptError.TheVariants.{OutOfMemory, Fault}

-- the printed words of a kind
abbrev pub kind_text : ScriptKind → List ℕ
kind_text BadByte = codes "bad byte"
kind_text UnknownWord = codes "unknown word"
kind_text BadShape = codes "bad shape"
kind_text BadNumber = codes "bad number"
kind_text BadText = codes "bad text"
kind_text OutOfRange = codes "out of range"
kind_text Misplaced = codes "misplaced"
kind_text Backward = codes "backward"
kind_text TooLong = codes "too long"

-- the printed words of an error
abbrev pub error_text : ScriptError → List ℕ
error_text OutOfMemory = codes "out of memory"
error_text (Fault line kind) = codes "script line " ++ (decimal line ++ (codes ": " ++ kind_text kind))

-- the place of a kind in the order in which faults count
abbrev pub rank : ScriptKind → ℕ
rank BadByte = 1
rank UnknownWord = 2
rank BadShape = 3
rank BadNumber = 4
rank BadText = 5
rank OutOfRange = 6
rank Misplaced = 7
rank Backward = 8
rank TooLong = 9

-- the one of two faults that counts
abbrev pub first_fault : ScriptKind → ScriptKind → ScriptKind
first_fault a b = if nat_le (rank a) (rank b) then a else b

infixl 10 ◌>>=◌
abbrev pub ◌>>=◌ : {A B : Type 0} → Result A ScriptKind → (A → Result B ScriptKind) → Result B ScriptKind
(Ok x) >>= next = next x
(Err kind) >>= next = Err kind

-- a part of a line, put as a part of something else
abbrev pub as_part : {A B : Type 0} → (A → B) → Result A ScriptKind → Result B ScriptKind
as_part make (Ok x) = Ok (make x)
as_part make (Err kind) = Err kind

-- a part of a line of which something is asked besides: the fault where it isn't so, unless another one counts
abbrev pub demand : {A : Type 0} → Bool → ScriptKind → Result A ScriptKind → Result A ScriptKind
demand true fault part = part
demand false fault (Ok x) = Err fault
demand false fault (Err kind) = Err (first_fault fault kind)

-- two parts of a line: both, or of their faults the one that counts
abbrev pub both : {A B : Type 0} → Result A ScriptKind → Result B ScriptKind → Result (A × B) ScriptKind
both (Ok x) (Ok y) = Ok (x, y)
both (Ok x) (Err kind) = Err kind
both (Err kind) (Ok y) = Err kind
both (Err kind) (Err other) = Err (first_fault kind other)

-- two parts, put as parts of something else
abbrev pub as_parts : {A B C : Type 0} → (A → B → C) → Result A ScriptKind → Result B ScriptKind → Result C ScriptKind
as_parts make first second = as_part (λ parts. make parts.0 parts.1) (both first second)
