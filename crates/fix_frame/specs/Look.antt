-- What stands at the beginning of bytes, told by places in them.
use Rattle.std.specs.Prelude.{◌≡◌, ℕ, ◌+◌, ◌<◌, ◌≤◌, IsTrue, IsFalse, List, ◌++◌, length, take, drop}
use Rattle.fix_frame.specs.declared.look.Front.{Front}
use Rattle.fix_frame.specs.declared.look.Front.TheVariants.{Rest, Stray, Shaped}
use Rattle.fix_frame.specs.Frame.{stretch_of, IsCheckField}
use Rattle.fix_frame.specs.Cut.{standing_at, waiting, stray, whole, agrees, form}

-- nothing is found before so many bytes are there, whatever they are
abbrev pub IsQuiet : ℕ → List ℕ → ℕ → Type 0
IsQuiet limit bytes quiet = (more : List ℕ) → length bytes + length more < quiet → standing_at limit (bytes ++ more) ≡ waiting

-- a whole stretch of so many bytes, whose body begins at that place
pub record IsStretch (limit : ℕ) (bytes : List ℕ) (at size : ℕ) : Type 0 where
  pub field : List ℕ
  pub body : List ℕ
  pub digits : List ℕ
  pub stands : standing_at limit bytes ≡ whole field body digits
  pub text : take size bytes ≡ stretch_of field body digits
  pub place : at ≡ 13 + length field
  pub check_field : IsCheckField digits
  pub within : size ≤ length bytes

-- the text of a stretch whose body begins at that place
pub record IsStretchText (text : List ℕ) (at : ℕ) (field body digits : List ℕ) : Type 0 where
  pub whole : text ≡ stretch_of field body digits
  pub place : at ≡ 13 + length field
  pub check_field : IsCheckField digits

-- what stands at the beginning
abbrev pub IsFront : ℕ → List ℕ → Front → Type 0
IsFront limit bytes (Rest quiet) = (standing_at limit bytes ≡ waiting) × IsQuiet limit bytes quiet
IsFront limit bytes Stray = standing_at limit bytes ≡ stray
IsFront limit bytes (Shaped at size) = IsStretch limit bytes at size

-- less than a body and its checksum, without a fault
pub record IsPart (bytes : List ℕ) (at n quiet : ℕ) : Type 0 where
  pub formed : IsTrue (agrees (form n) (drop at bytes))
  pub short : length bytes < at + n + 7
  pub bound : quiet ≤ at + n
  pub goes_on : (more : List ℕ) → length bytes + length more < quiet → IsTrue (agrees (form n) (drop at (bytes ++ more)))

-- a body and its checksum
pub record IsFormed (bytes : List ℕ) (at n size : ℕ) : Type 0 where
  pub formed : IsTrue (agrees (form n) (drop at bytes))
  pub end : size ≡ at + n + 7
  pub within : size ≤ length bytes

-- what stands behind a whole head and length field, where a body of n bytes begins
abbrev pub IsBehind : List ℕ → ℕ → ℕ → Front → Type 0
IsBehind bytes at n (Rest quiet) = IsPart bytes at n quiet
IsBehind bytes at n Stray = IsFalse (agrees (form n) (drop at bytes))
IsBehind bytes at n (Shaped place size) = (place ≡ at) × IsFormed bytes at n size
