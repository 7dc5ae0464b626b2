-- What a frame is: `8=FIX.4.4|9=len|body10=ccc|`, where `|` is byte 1.
use Rattle.std.specs.Prelude.{◌≡◌, ℕ, ◌+◌, ◌-◌, ◌*◌, ◌/◌, ◌%◌, ◌<◌, ◌≤◌, IsTrue, List, [], ◌∷◌, ◌++◌, length, codes, decimal, sum}
use Rattle.std.specs.Char.{is_ascii_digit}
use Rattle.std.specs.List.{list_all}
use Rattle.fix_frame.specs.declared.layout.TheConstants.{MOST_DIGITS}

-- what stands before the digits of a body's length: `8=FIX.4.4|9=`
abbrev pub head : List ℕ
head = codes "8=FIX.4.4" ++ 1 ∷ codes "9="

-- each byte is a decimal digit
abbrev pub AreDigits : List ℕ → Type 0
AreDigits digits = IsTrue (list_all is_ascii_digit digits)

-- the number that decimal digits stand for when they follow those of n
abbrev pub number_after : ℕ → List ℕ → ℕ
number_after n [] = n
number_after n (c ∷ cs) = number_after (10 * n + (c - 48)) cs

-- the number that decimal digits stand for
abbrev pub number_of : List ℕ → ℕ
number_of digits = number_after 0 digits

-- begins with `35=`, and ends with the byte that ends a field
pub record IsBody (body : List ℕ) : Type 0 where
  pub middle : List ℕ
  pub text : body ≡ codes "35=" ++ (middle ++ 1 ∷ [])

-- one to nine digits that stand for n
pub record IsLengthField (field : List ℕ) (n : ℕ) : Type 0 where
  pub digits : AreDigits field
  pub least : 1 ≤ length field
  pub most : length field ≤ MOST_DIGITS
  pub number : number_of field ≡ n

-- three digits
pub record IsCheckField (field : List ℕ) : Type 0 where
  pub digits : AreDigits field
  pub three : length field ≡ 3

-- what the sum goes over: all bytes before `10=`
abbrev pub summed_bytes : List ℕ → List ℕ → List ℕ
summed_bytes field body = head ++ (field ++ 1 ∷ body)

-- the sum of all bytes before `10=`, modulo 256
abbrev pub checksum : List ℕ → List ℕ → ℕ
checksum field body = sum (summed_bytes field body) % 256

-- the text with this length field, this body and these digits of a checksum
abbrev pub stretch_of : List ℕ → List ℕ → List ℕ → List ℕ
stretch_of field body digits = head ++ (field ++ 1 ∷ (body ++ (codes "10=" ++ (digits ++ 1 ∷ []))))

-- a text with the form of a frame of at most limit bytes, whatever its checksum says
pub record IsShaped (limit : ℕ) (text field body digits : List ℕ) : Type 0 where
  pub length_field : IsLengthField field (length body)
  pub is_body : IsBody body
  pub check_field : IsCheckField digits
  pub whole : text ≡ stretch_of field body digits
  pub short : length text ≤ limit

-- a frame of at most limit bytes that has this body, with any lawful length field
pub record IsFrame (limit : ℕ) (text body : List ℕ) : Type 0 where
  pub field : List ℕ
  pub digits : List ℕ
  pub shaped : IsShaped limit text field body digits
  pub right : number_of digits ≡ checksum field body

-- a stretch that has the form of a frame of at most limit bytes, and a wrong checksum
pub record IsMissummed (limit : ℕ) (text : List ℕ) : Type 0 where
  pub field : List ℕ
  pub body : List ℕ
  pub digits : List ℕ
  pub shaped : IsShaped limit text field body digits
  pub wrong : number_of digits ≡ checksum field body → ⊥

-- a frame of this body begins the bytes, and has so many
pub record BeginsFrame (limit : ℕ) (bytes body : List ℕ) (size : ℕ) : Type 0 where
  pub frame : List ℕ
  pub rest : List ℕ
  pub is_frame : IsFrame limit frame body
  pub text : bytes ≡ frame ++ rest
  pub long : size ≡ length frame

-- a stretch with a wrong checksum begins the bytes, and has so many
pub record BeginsMissummed (limit : ℕ) (bytes : List ℕ) (size : ℕ) : Type 0 where
  pub stretch : List ℕ
  pub rest : List ℕ
  pub is_missummed : IsMissummed limit stretch
  pub text : bytes ≡ stretch ++ rest
  pub long : size ≡ length stretch

-- the bytes are a proper prefix of some shaped stretch
pub record IsProperPrefix (limit : ℕ) (bytes : List ℕ) : Type 0 where
  pub more : List ℕ
  pub field : List ℕ
  pub body : List ℕ
  pub digits : List ℕ
  pub some : 0 < length more
  pub shaped : IsShaped limit (bytes ++ more) field body digits

-- no shaped stretch begins the bytes, nor are they a proper prefix of one
pub record IsStray (limit : ℕ) (bytes : List ℕ) : Type 0 where
  pub no_frame : (body : List ℕ) (size : ℕ) → BeginsFrame limit bytes body size → ⊥
  pub no_missummed : (size : ℕ) → BeginsMissummed limit bytes size → ⊥
  pub no_prefix : IsProperPrefix limit bytes → ⊥

-- three decimal digits of a number below a thousand
abbrev pub three_digits : ℕ → List ℕ
three_digits n = (48 + n / 100) ∷ (48 + n / 10 % 10) ∷ (48 + n % 10) ∷ []

-- the frame of a body as it is written: no leading zero in its length, and the right checksum
abbrev pub frame_of : List ℕ → List ℕ
frame_of body = stretch_of (decimal (length body)) body (three_digits (checksum (decimal (length body)) body))
