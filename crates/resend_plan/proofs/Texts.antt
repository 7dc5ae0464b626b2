-- The text of an item as the body of a frame, and how long it is.
use Rattle.std.proofs.Common.{◌≡◌, ◌⊎◌, ℕ, suc, ◌+◌, ◌^◌, ◌<◌, ◌≤◌, ◌==◌, Bool, true, false, cond, List, [], ◌∷◌, ◌++◌, length, codes, decimal, Option, Some, None, refl, sym, ap, subst, ◌∙◌, inl, inr, arith, append_assoc, length-append}
use Rattle.std.proofs.lemmas.Bool.{cond_both, eqb-true}
use Rattle.std.proofs.lemmas.List.{append-nil}
use Rattle.std.proofs.lemmas.Fmt.{length-decimal-le}
use Rattle.fix_frame.specs.Frame.{IsBody, frame_of, three_digits, checksum}
use Rattle.message_log.specs.declared.entry.OutEntry.{OutEntry}
use Rattle.resend_plan.specs.declared.item.Names2.{Names2}
use Rattle.resend_plan.specs.declared.item.WireItem.{WireItem}
use Rattle.resend_plan.specs.declared.item.WireItem.TheVariants.{New, Again, GapFill}
use Rattle.resend_plan.specs.Wire.{type_field, behind_type, field_of, reset_type, stamp, times, header, message, body_of, entry_of, NamesEntry}
use Rattle.resend_plan.specs.Fit.{HasFrameBody, longest_content, longest_text, HasNumbersInRange, AreShort, HasFitBodies}

-- the bytes end with the one that ends a field
abbrev EndsField : List ℕ → Type 0
EndsField bytes = (before : List ℕ) × (bytes ≡ before ++ 1 ∷ [])

ends_behind : (bytes more : List ℕ) → EndsField more → EndsField (bytes ++ more)
ends_behind bytes more ends = (bytes ++ ends.0, ap (λ ts. bytes ++ ts) ends.1 ∙ sym (append_assoc bytes ends.0 (1 ∷ [])))

ends_field : (tag : ℕ) (value : List ℕ) → EndsField (field_of tag value)
ends_field tag value = (decimal tag ++ (61 ∷ value), refl)

-- the first field of bytes that end a field, and what lies behind it
ends_type : (bytes : List ℕ) → EndsField (type_field (bytes ++ 1 ∷ []))
ends_type [] = ([], refl)
ends_type (b ∷ bytes) =
    let rest = ends_type bytes in
    cond_both (b == 1) (b ∷ []) (b ∷ type_field (bytes ++ 1 ∷ [])) EndsField (λ e. ([], ap (λ c. c ∷ []) (eqb-true b 1 e))) (λ _. (b ∷ rest.0, ap (λ ts. b ∷ ts) rest.1))

abbrev EndsOrIsEmpty : List ℕ → Type 0
EndsOrIsEmpty bytes = (bytes ≡ []) ⊎ EndsField bytes

ends_behind_type : (bytes : List ℕ) → EndsOrIsEmpty (behind_type (bytes ++ 1 ∷ []))
ends_behind_type [] = inl refl
ends_behind_type (b ∷ bytes) =
    let rest = ends_behind_type bytes in
    cond_both (b == 1) (bytes ++ 1 ∷ []) (behind_type (bytes ++ 1 ∷ [])) EndsOrIsEmpty (λ _. inr (bytes, refl)) (λ _. rest)

ends_with_more : (bytes more : List ℕ) → EndsField bytes → EndsOrIsEmpty more → EndsField (bytes ++ more)
ends_with_more bytes more ends or_none = elim or_none [
  | inl none ↦ (ends.0, ap (λ ts. bytes ++ ts) none ∙ append-nil bytes ∙ ends.1)
  | inr behind ↦ ends_behind bytes more behind
]

ends_times : (at : ℕ) (original : Option ℕ) → EndsField (times at original)
unfolding times
ends_times at None = ends_field 52 (stamp at)
ends_times at (Some original) =
    ends_behind (field_of 43 (codes "Y") ++ field_of 52 (stamp at)) (field_of 122 (stamp original)) (ends_field 122 (stamp original))

module _ (names : Names2) (number : ℕ) (at : ℕ) (original : Option ℕ) where
  -- what stands before the times, with this type
  abbrev front : List ℕ → List ℕ
  front kind = kind ++ field_of 49 names.us ++ field_of 56 names.them ++ field_of 34 (decimal number)

  is_body-kind : (kind rest : List ℕ) → EndsOrIsEmpty rest → IsBody (message names (codes "35=" ++ kind) number (times at original) rest)
  unfolding header
  is_body-kind kind rest or_none =
      let ends = ends_with_more (front kind ++ times at original) rest (ends_behind (front kind) (times at original) (ends_times at original)) or_none in
      record { middle = ends.0; text = ap (λ ts. codes "35=" ++ ts) ends.1 }

  is_body-entry : (body : List ℕ) → IsBody body → IsBody (message names (type_field body) number (times at original) (behind_type body))
  is_body-entry body is =
      subst (λ (b : List ℕ). IsBody (message names (type_field b) number (times at original) (behind_type b))) (sym is.text) (
      is_body-kind (type_field (is.middle ++ 1 ∷ [])) (behind_type (is.middle ++ 1 ∷ [])) (ends_behind_type is.middle))

pub is_body-text : (names : Names2) (log : List (List OutEntry)) (item : WireItem) → HasFrameBody log item → IsBody (body_of names log item)
unfolding body_of
is_body-text names log (New series number) is = is_body-entry names number (entry_of log series number).at None (entry_of log series number).body is
is_body-text names log (Again series number at) is = is_body-entry names number at (Some (entry_of log series number).at) (entry_of log series number).body is
is_body-text names log (GapFill series number to at) is =
    is_body-kind names number at (Some at) (codes "4" ++ 1 ∷ []) (field_of 123 (codes "Y") ++ field_of 36 (decimal to)) (
    inr (ends_behind (field_of 123 (codes "Y")) (field_of 36 (decimal to)) (ends_field 36 (decimal to))))

-- a field whose tag has so many digits at most
length-field_of : (width tag : ℕ) (value : List ℕ) → 0 < width → tag < 10 ^ width → tag < 2 ^ 64 → length (field_of tag value) ≤ width + length value + 2
length-field_of width tag value some short small =
    omega (arith, length-append (decimal tag ++ (61 ∷ value)) (1 ∷ []), length-append (decimal tag) (61 ∷ value), length-decimal-le width tag some short small)

short_tag : (tag : ℕ) (value : List ℕ) → tag < 100 → length (field_of tag value) ≤ length value + 4
short_tag tag value short = let most = length-field_of 2 tag value (omega arith) short (omega arith) in omega arith

long_tag : (tag : ℕ) (value : List ℕ) → tag < 1000 → length (field_of tag value) ≤ length value + 5
long_tag tag value short = let most = length-field_of 3 tag value (omega arith) short (omega arith) in omega arith

length-stamp : (at : ℕ) → length (stamp at) ≡ 21
unfolding stamp
length-stamp at = refl

length-decimal : (n : ℕ) → n < 2 ^ 64 → length (decimal n) ≤ 20
length-decimal n h = length-decimal-le 20 n (omega arith) (omega arith) h

length-times : (at : ℕ) (original : Option ℕ) → length (times at original) ≤ 56
unfolding times
length-times at None = omega (arith, short_tag 52 (stamp at) (omega arith), length-stamp at)
length-times at (Some original) =
    let mark = field_of 43 (codes "Y") in
    let sent = field_of 52 (stamp at) in
    let first = field_of 122 (stamp original) in
    omega (arith, length-append (mark ++ sent) first, length-append mark sent, short_tag 43 (codes "Y") (omega arith), short_tag 52 (stamp at) (omega arith), long_tag 122 (stamp original) (omega arith), length-stamp at, length-stamp original)

length-type : (body : List ℕ) → length (type_field body) + length (behind_type body) ≡ length body
length-type [] = refl
length-type (b ∷ body) = at_byte (b == 1) (length-type body)
  where
    at_byte : (ends : Bool) → length (type_field body) + length (behind_type body) ≡ length body → length (cond ends (b ∷ []) (b ∷ type_field body)) + length (cond ends body (behind_type body)) ≡ suc (length body)
    at_byte true rest = omega arith
    at_byte false rest = omega arith

length-header : (names : Names2) (kind : List ℕ) (number : ℕ) → number < 2 ^ 64 → length (header names kind number) ≤ length kind + length names.us + length names.them + 32
unfolding header
length-header names kind number h =
    let us = field_of 49 names.us in
    let them = field_of 56 names.them in
    let last = field_of 34 (decimal number) in
    omega (arith, length-append (kind ++ us ++ them) last, length-append (kind ++ us) them, length-append kind us, short_tag 49 names.us (omega arith), short_tag 56 names.them (omega arith), short_tag 34 (decimal number) (omega arith), length-decimal number h)

length-message : (names : Names2) (kind : List ℕ) (number at : ℕ) (original : Option ℕ) (rest : List ℕ) → number < 2 ^ 64 → length (message names kind number (times at original) rest) ≤ 88 + length names.us + length names.them + (length kind + length rest)
length-message names kind number at original rest h =
    omega (arith, length-append (header names kind number ++ times at original) rest, length-append (header names kind number) (times at original), length-header names kind number h, length-times at original)

pub length-text : (names : Names2) (log : List (List OutEntry)) (item : WireItem) → HasNumbersInRange item → length (body_of names log item) ≤ longest_text names log item
unfolding body_of
length-text names log (New series number) h =
    let entry = entry_of log series number in
    omega (arith, length-message names (type_field entry.body) number entry.at None (behind_type entry.body) h, length-type entry.body)
length-text names log (Again series number at) h =
    let entry = entry_of log series number in
    omega (arith, length-message names (type_field entry.body) number at (Some entry.at) (behind_type entry.body) h, length-type entry.body)
length-text names log (GapFill series number to at) h =
    let mark = field_of 123 (codes "Y") in
    let next = field_of 36 (decimal to) in
    omega (arith, length-message names reset_type number at (Some at) (mark ++ next) h.0, length-append mark next, long_tag 123 (codes "Y") (omega arith), short_tag 36 (decimal to) (omega arith), length-decimal to h.1)

length-frame : (body : List ℕ) → length body < 10_000 → length (frame_of body) ≤ 65_536
length-frame body short =
    let digits = decimal (length body) in
    let three = three_digits (checksum digits body) in
    let size = length-decimal-le 4 (length body) (omega arith) (omega arith) (omega arith) in
    omega (arith, length-append digits (1 ∷ (body ++ (codes "10=" ++ (three ++ 1 ∷ [])))), length-append body (codes "10=" ++ (three ++ 1 ∷ [])))

fit_content : (log : List (List OutEntry)) (item : WireItem) → HasFitBodies log → NamesEntry log item → longest_content log item ≤ 8_192
fit_content log (New series number) fit named = (fit series number named).short
fit_content log (Again series number at) fit named = (fit series number named).short
fit_content log (GapFill series number to at) fit named = omega arith

pub has_frame_body : (log : List (List OutEntry)) (item : WireItem) → HasFitBodies log → NamesEntry log item → HasFrameBody log item
has_frame_body log (New series number) fit named = (fit series number named).is_body
has_frame_body log (Again series number at) fit named = (fit series number named).is_body
has_frame_body log (GapFill series number to at) fit named = tt

pub frame_fits : (names : Names2) (log : List (List OutEntry)) (item : WireItem) → AreShort names → HasFitBodies log → NamesEntry log item → HasNumbersInRange item → length (frame_of (body_of names log item)) ≤ 65_536
frame_fits names log item short fit named h =
    length-frame (body_of names log item) (omega (arith, length-text names log item h, fit_content log item fit named, short.us, short.them))
