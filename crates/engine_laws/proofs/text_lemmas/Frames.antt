-- A frame of a body that isn't longer than can be counted is no two frames.
use Rattle.std.proofs.Common.{◌≡◌, ◌≢◌, ℕ, zero, suc, ◌+◌, ◌/◌, ◌%◌, ◌^◌, ◌<◌, ◌≤◌, Bool, true, false, List, [], ◌∷◌, ◌++◌, append_assoc, drop, length, Option, None, Some, refl, sym, ap, ◌∙◌, arith}
use Rattle.std.proofs.lemmas.Fmt.{decimal_injective}
use Rattle.std.proofs.lemmas.List.{length-append, nil_from_length}
use Rattle.std.specs.Fmt.{decimal, digit_glyph, digits, digits_onto}
use Rattle.std.specs.Prelude.{◌==◌, codes, if◌then◌else◌, nat_lt}
use Rattle.fix_fields.specs.declared.limits.TheConstants.{LONGEST_APPLICATION_BODY}
use Rattle.fix_frame.specs.Frame.{checksum, frame_of, three_digits}
use Rattle.message_log.specs.declared.entry.OutEntry.{OutEntry}
use Rattle.resend_plan.specs.Fit.{AreShort, HasFitBodies}
use Rattle.resend_plan.specs.Wire.{NamesEntry, behind_type, body_of, entry_of, field_of, header, message, reset_type, stamp, times, type_field}
use Rattle.resend_plan.specs.declared.item.Names2.{Names2}
use Rattle.resend_plan.specs.declared.item.WireItem.{WireItem}
use Rattle.resend_plan.specs.declared.item.WireItem.TheVariants.{Again, GapFill, New}

-- what is so of both is so of what is chosen
either : {T : Type 0} (b : Bool) (P : T → Type 0) (x y : T) → P x → P y → P (if b then x else y)
either true P x y first second = first
either false P x y first second = second

-- the byte that ends a field isn't among these
abbrev EndsNone : List ℕ → Type 0
EndsNone [] = Unit {0}
EndsNone (b ∷ bytes) = (b ≢ 1) × EndsNone bytes

glyph_ends_none : (upper : Bool) (d : ℕ) → digit_glyph upper d ≢ 1
glyph_ends_none upper d =
    either (nat_lt d 10) (λ g. g ≢ 1) (48 + d) (if upper then 55 + d else 87 + d) (λ same. absurd (omega arith))
    (either upper (λ g. g ≢ 1) (55 + d) (87 + d) (λ same. absurd (omega arith)) (λ same. absurd (omega arith)))

digits_end_none : (k base : ℕ) (upper : Bool) (n : ℕ) (bytes : List ℕ) → EndsNone bytes → EndsNone (digits_onto k base upper n bytes)
digits_end_none zero base upper n bytes none = none
digits_end_none (suc k) base upper n bytes none =
    let more = digit_glyph upper (n % base) ∷ bytes in
    let all : EndsNone more = (glyph_ends_none upper (n % base), none) in
    either (n / base == 0) EndsNone more (digits_onto k base upper (n / base) more) all (digits_end_none k base upper (n / base) more all)

digits_short : (k base : ℕ) (upper : Bool) (n : ℕ) (bytes : List ℕ) → length (digits_onto k base upper n bytes) ≤ k + length bytes
digits_short zero base upper n bytes = omega arith
digits_short (suc k) base upper n bytes =
    let more = digit_glyph upper (n % base) ∷ bytes in
    either (n / base == 0) (λ ds. length ds ≤ suc k + length bytes) more (digits_onto k base upper (n / base) more) (omega arith) (let short = digits_short k base upper (n / base) more in omega arith)

decimal_ends_none : (n : ℕ) → EndsNone (decimal n)
unfolding digits
decimal_ends_none n = digits_end_none 64 10 false n [] tt

decimal_short : (n : ℕ) → length (decimal n) ≤ 64
unfolding digits
decimal_short n = digits_short 64 10 false n []

-- what stands before the first such byte is the same
same_before : (xs ys us ts : List ℕ) → EndsNone xs → EndsNone ys → xs ++ 1 ∷ us ≡ ys ++ 1 ∷ ts → xs ≡ ys
same_before [] [] us ts first second same = refl
same_before [] (y ∷ ys) us ts first second same = absurd (second.0 (let at : 1 ≡ y = cc in sym at))
same_before (x ∷ xs) [] us ts first second same = absurd (first.0 (cc))
same_before (x ∷ xs) (y ∷ ys) us ts first second same =
    let at : x ≡ y = cc in
    let rest : xs ++ 1 ∷ us ≡ ys ++ 1 ∷ ts = cc in
    let behind = same_before xs ys us ts first.1 second.1 rest in
    cc

-- The parts of a message, and how many bytes they have at most.
field_short : (tag : ℕ) (value : List ℕ) → length (field_of tag value) ≤ 66 + length value
field_short tag value =
    let short = decimal_short tag in
    omega (arith, length-append (decimal tag ++ (61 ∷ value)) (1 ∷ []), length-append (decimal tag) (61 ∷ value))

stamp_length : (at : ℕ) → length (stamp at) ≡ 21
unfolding stamp
stamp_length at = refl

times_short : (at : ℕ) (original : Option ℕ) → length (times at original) ≤ 300
unfolding times
times_short at None = (let short = field_short 52 (stamp at) in let long = stamp_length at in omega arith)
times_short at (Some original) =
    let mark = field_of 43 (codes "Y") in
    let sent = field_of 52 (stamp at) in
    let first = field_of 122 (stamp original) in
    let marked = field_short 43 (codes "Y") in
    let short = field_short 52 (stamp at) in
    let then_short = field_short 122 (stamp original) in
    let long = stamp_length at in
    let then_long = stamp_length original in
    omega (arith, length-append (mark ++ sent) first, length-append mark sent)

header_short : (names : Names2) (kind : List ℕ) (number : ℕ) → length (header names kind number) ≤ 300 + length kind + length names.us + length names.them
unfolding header
header_short names kind number =
    let us = field_of 49 names.us in
    let them = field_of 56 names.them in
    let numbered = field_of 34 (decimal number) in
    let one = field_short 49 names.us in
    let two = field_short 56 names.them in
    let three = field_short 34 (decimal number) in
    let digits_are = decimal_short number in
    omega (arith, length-append ((kind ++ us) ++ them) numbered, length-append (kind ++ us) them, length-append kind us)

message_short : (names : Names2) (kind : List ℕ) (number at : ℕ) (original : Option ℕ) (rest : List ℕ) → length (message names kind number (times at original) rest) ≤ 600 + length kind + length names.us + length names.them + length rest
message_short names kind number at original rest =
    let first = header_short names kind number in
    let second = times_short at original in
    omega (arith, length-append (header names kind number ++ times at original) rest, length-append (header names kind number) (times at original))

type_short : (body : List ℕ) → length (type_field body) ≤ length body
type_short [] = omega arith
type_short (b ∷ bytes) = either (b == 1) (λ (bs : List ℕ). length bs ≤ suc (length bytes)) (b ∷ []) (b ∷ type_field bytes) (omega arith) (let short = type_short bytes in omega arith)

behind_short : (body : List ℕ) → length (behind_type body) ≤ length body
behind_short [] = omega arith
behind_short (b ∷ bytes) = either (b == 1) (λ (bs : List ℕ). length bs ≤ suc (length bytes)) bytes (behind_type bytes) (omega arith) (let short = behind_short bytes in omega arith)

entry_short : (names : Names2) (body : List ℕ) (number at : ℕ) (original : Option ℕ) → AreShort names → length body ≤ LONGEST_APPLICATION_BODY
    → length (message names (type_field body) number (times at original) (behind_type body)) < 2 ^ 64
entry_short names body number at original short fit =
    let us = short.us in
    let them = short.them in
    let kind = type_short body in
    let rest = behind_short body in
    let whole = message_short names (type_field body) number at original (behind_type body) in
    omega arith

-- the text of an item has a body that isn't longer than can be counted
pub body_short : (names : Names2) (log : List (List OutEntry)) (item : WireItem) → AreShort names → HasFitBodies log → NamesEntry log item → length (body_of names log item) < 2 ^ 64
unfolding body_of
body_short names log (New series number) short fit named = entry_short names (entry_of log series number).body number (entry_of log series number).at None short (fit series number named).short
body_short names log (Again series number at) short fit named = entry_short names (entry_of log series number).body number at (Some (entry_of log series number).at) short (fit series number named).short
body_short names log (GapFill series number to at) short fit named =
    let us = short.us in
    let them = short.them in
    let rest = field_of 123 (codes "Y") ++ field_of 36 (decimal to) in
    let one = field_short 123 (codes "Y") in
    let two = field_short 36 (decimal to) in
    let digits_are = decimal_short to in
    let joined = length-append (field_of 123 (codes "Y")) (field_of 36 (decimal to)) in
    let whole = message_short names reset_type number at (Some at) rest in
    omega arith

-- what stands behind the head of a frame
abbrev behind_head : List ℕ → List ℕ
behind_head body = decimal (length body) ++ 1 ∷ (body ++ (codes "10=" ++ (three_digits (checksum (decimal (length body)) body) ++ 1 ∷ [])))

length_behind : (body : List ℕ) → length (behind_head body) ≡ length (decimal (length body)) + length body + 8
length_behind body =
    let sum = three_digits (checksum (decimal (length body)) body) in
    let trailer = codes "10=" ++ (sum ++ 1 ∷ []) in
    let last : length trailer ≡ 7 = refl in
    omega (arith, length-append (decimal (length body)) (1 ∷ (body ++ trailer)), length-append body trailer)

-- a frame with something behind it is no other frame
pub one_frame : (one two more : List ℕ) → length two < 2 ^ 64 → frame_of one ++ more ≡ frame_of two → more ≡ []
one_frame one two more short same =
    let behind : behind_head one ++ more ≡ behind_head two = ap (drop 12) same in
    let first = decimal (length one) in
    let second = decimal (length two) in
    let tail_of : List ℕ → List ℕ = λ body. body ++ (codes "10=" ++ (three_digits (checksum (decimal (length body)) body) ++ 1 ∷ [])) in
    let regrouped : first ++ 1 ∷ (tail_of one ++ more) ≡ second ++ 1 ∷ tail_of two = sym (append_assoc first (1 ∷ tail_of one) more) ∙ behind in
    let digits_same : first ≡ second = same_before first second (tail_of one ++ more) (tail_of two) (decimal_ends_none (length one)) (decimal_ends_none (length two)) regrouped in
    let digits_long : length first ≡ length second = ap (λ (ds : List ℕ). length ds) digits_same in
    let one_long = length_behind one in
    let two_long = length_behind two in
    let both : length (behind_head one ++ more) ≡ length (behind_head two) = ap (λ (bs : List ℕ). length bs) behind in
    let joined = length-append (behind_head one) more in
    let small : length one < 2 ^ 64 = omega arith in
    let lengths : length one ≡ length two = decimal_injective (length one) (length two) small short digits_same in
    nil_from_length more (omega arith)
