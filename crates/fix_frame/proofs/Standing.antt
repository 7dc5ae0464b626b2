-- What stands at the beginning of bytes, told by the stretches that begin there.
use Rattle.std.proofs.Common.{◌≡◌, ℕ, suc, ◌+◌, ◌-◌, ◌≤◌, ◌<◌, Bool, true, false, cond, ◌&&◌, ltb, eqb, List, [], ◌∷◌, ◌++◌, length, take, drop, replicate, codes, refl, sym, ap, ap₂, ◌∙◌, subst, arith, inl, inr, ◌⊎◌, append_assoc, append-nil, length-append, length-drop, drop_at, le-ltb}
use Rattle.std.proofs.lemmas.Bool.{and_parts, and_from, eqb-true, ltb-true, ltb-false, cases_lt, cases_Bool, both_ways, false_from_ne_true, and_right}
use Rattle.std.proofs.lemmas.List.{length-replicate, drop-append-le, drop_all, nil_from_length}
use Rattle.std.proofs.lemmas.List.Folds.{list_all-append}
use Rattle.std.specs.Char.{is_ascii_digit}
use Rattle.std.specs.List.{list_all}
use Rattle.fix_frame.specs.Frame.{head, number_of, IsBody, IsCheckField, IsShaped, IsProperPrefix, stretch_of}
use Rattle.fix_frame.specs.Cut.{Standing, waiting, stray, whole, agrees, exactly, form, digits_at, fits, can_become, behind_head, behind_field, behind_start, standing_at}
use Rattle.fix_frame.proofs.Agrees.{agrees-left, agrees-long, agrees-exactly, exactly-short, agrees-filled}
use Rattle.fix_frame.proofs.Form.{check_text, form-agrees, form_parts, body_part, check_part}
use Rattle.fix_frame.proofs.Digits.{digits_at-digits, digits_at-split, digits_at-field, digits_at-stops, digits_at-runs, fits_parts, fits_from, becomes, can_become_before}

-- ---- which way a test went

pub chosen : {A : Type 0} (b : Bool) (x y z : A) → cond b x y ≡ z → ((b ≡ true) × (x ≡ z)) ⊎ ((b ≡ false) × (y ≡ z))
chosen true x y z e = inl (refl, e)
chosen false x y z e = inr (refl, e)

waiting-whole : {A : Type 0} (f b d : List ℕ) → waiting ≡ whole f b d → A
waiting-whole f b d e = absurd cc

stray-whole : {A : Type 0} (f b d : List ℕ) → stray ≡ whole f b d → A
stray-whole f b d e = absurd cc

stray-waiting : {A : Type 0} → stray ≡ waiting → A
stray-waiting e = absurd cc

-- ---- stretches

pub length-stretch : (f b d : List ℕ) → length d ≡ 3 → length (stretch_of f b d) ≡ 20 + length f + length b
length-stretch f b d three =
    omega (arith, length-append f (1 ∷ (b ++ check_text d [])), length-append b (check_text d []), length-append d (1 ∷ []))

pub stretch-append : (f b d rest : List ℕ) → stretch_of f b d ++ rest ≡ head ++ (f ++ 1 ∷ (b ++ check_text d rest))
stretch-append f b d rest = simp append_assoc

field_fits : (limit : ℕ) (t f b d : List ℕ) → IsShaped limit t f b d → fits limit (length f) (number_of f) ≡ true
field_fits limit t f b d h =
    let number : number_of f ≡ length b = h.length_field.number in
    let four : length b ≡ suc (suc (suc (length (h.is_body.middle ++ 1 ∷ [])))) = ap length h.is_body.text in
    let size : length t ≡ 20 + length f + length b = ap length h.whole ∙ length-stretch f b d h.check_field.three in
    fits_from limit (length f) (number_of f) h.length_field.least h.length_field.most (omega (arith, length-append h.is_body.middle (1 ∷ []))) (omega (arith, h.short))

shaped_from : (limit : ℕ) (f b d : List ℕ) → fits limit (length f) (number_of f) ≡ true → length b ≡ number_of f → IsBody b → IsCheckField d
    → (digits : (k : ℕ) × (x : List ℕ) × (f ≡ digits_at k x)) → IsShaped limit (stretch_of f b d) f b d
shaped_from limit f b d fit size body check digits =
    let p = fits_parts limit (length f) (number_of f) fit in
    record {
      length_field = record { digits = rw digits.2 (digits_at-digits digits.0 digits.1); least = p.some; most = p.most; number = sym size };
      is_body = body;
      check_field = check;
      whole = refl;
      short = omega (arith, length-stretch f b d check.three, p.short);
    }

-- ---- a stretch that begins bytes stands there

behind_head-is : (f b d rest : List ℕ) → IsBody b → IsCheckField d → length b ≡ number_of f → behind_head f (b ++ check_text d rest) ≡ whole f b d
unfolding behind_head
behind_head-is f b d rest body check size =
    let n = number_of f in
    let bytes = b ++ check_text d rest in
    let form : agrees (form n) bytes ≡ true = form-agrees b d rest n body check size in
    let long : ltb (length bytes) (n + 7) ≡ false = le-ltb (length bytes) (n + 7) (omega (arith, length-append b (check_text d rest), length-append d (1 ∷ rest), check.three)) in
    rw (form, long, body_part n bytes b d rest size refl, check_part n bytes b d rest size check refl) refl

pub standing-shaped : (limit : ℕ) (t f b d rest : List ℕ) → IsShaped limit t f b d → standing_at limit (t ++ rest) ≡ whole f b d
unfolding standing_at behind_start behind_field
standing-shaped limit t f b d rest h =
    let tail = b ++ check_text d rest in
    let text : t ++ rest ≡ head ++ (f ++ 1 ∷ tail) = ap (λ (x : List ℕ). x ++ rest) h.whole ∙ stretch-append f b d rest in
    let field : digits_at 9 (f ++ 1 ∷ tail) ≡ f = digits_at-field 9 f tail h.length_field.digits h.length_field.most in
    let behind : drop (length f) (f ++ 1 ∷ tail) ≡ 1 ∷ tail = drop_at f (1 ∷ tail) (length f) refl in
    let fit : fits limit (length f) (number_of f) ≡ true = field_fits limit t f b d h in
    let at_end : behind_field limit f (1 ∷ tail) ≡ whole f b d = rw fit (behind_head-is f b d rest h.is_body h.check_field (sym h.length_field.number)) in
    ap (standing_at limit) text ∙ (ap (λ (g : List ℕ). behind_field limit g (drop (length g) (f ++ 1 ∷ tail))) field ∙ (ap (behind_field limit f) behind ∙ at_end))

-- ---- what stands as a stretch is one that begins the bytes

whole_parts : (f b d f' b' d' : List ℕ) → whole f b d ≡ whole f' b' d' → (f ≡ f') × (b ≡ b') × (d ≡ d')
whole_parts f b d f' b' d' e = (cc, cc, cc)

behind_head-whole : (field y f b d : List ℕ) → 4 ≤ number_of field → behind_head field y ≡ whole f b d
    → (field ≡ f) × ((rest : List ℕ) × IsBody b × IsCheckField d × (length b ≡ number_of field) × (y ≡ b ++ check_text d rest))
unfolding behind_head
behind_head-whole field y f b d least e =
    let n = number_of field in
    elim (chosen (agrees (form n) y) _ _ _ e) [
      | inr fails ↦ stray-whole f b d fails.1
      | inl passes ↦
          elim (chosen (ltb (length y) (n + 7)) _ _ _ passes.1) [
            | inl short ↦ waiting-whole f b d short.1
            | inr long ↦
                let same = whole_parts field (take n y) (take 3 (drop (n + 3) y)) f b d long.1 in
                let p = form_parts n y least (omega (arith, ltb-false (length y) (n + 7) long.0)) passes.0 in
                let is_b : p.body ≡ b = sym (body_part n y p.body p.digits p.rest p.size p.text) ∙ same.1 in
                let is_d : p.digits ≡ d = sym (check_part n y p.body p.digits p.rest p.size p.is_check p.text) ∙ same.2 in
                (same.0, (p.rest, subst IsBody is_b p.is_body, subst IsCheckField is_d p.is_check, ap length (sym is_b) ∙ p.size, p.text ∙ (ap (λ (x : List ℕ). x ++ check_text p.digits p.rest) is_b ∙ ap (λ (x : List ℕ). b ++ check_text x p.rest) is_d)))
          ]
    ]

-- what stands behind a field that ends
record FieldEnds (limit : ℕ) (field y : List ℕ) (s : Standing) : Type 0 where
  tail : List ℕ
  text : y ≡ 1 ∷ tail
  fit : fits limit (length field) (number_of field) ≡ true
  behind : behind_head field tail ≡ s

behind_field-whole : (limit : ℕ) (field y f b d : List ℕ) → behind_field limit field y ≡ whole f b d → FieldEnds limit field y (whole f b d)
unfolding behind_field
behind_field-whole limit field [] f b d e =
    elim (chosen (can_become limit (length field) (number_of field)) _ _ _ e) [
      | inl yes' ↦ waiting-whole f b d yes'.1
      | inr no' ↦ stray-whole f b d no'.1
    ]
behind_field-whole limit field (c ∷ y) f b d e =
    elim (chosen (eqb c 1 && fits limit (length field) (number_of field)) _ _ _ e) [
      | inr no' ↦ stray-whole f b d no'.1
      | inl yes' ↦
          let q = and_parts (eqb c 1) (fits limit (length field) (number_of field)) yes'.0 in
          record { tail = y; text = ap (λ (x : ℕ). x ∷ y) (eqb-true c 1 q.0); fit = q.1; behind = yes'.1 }
    ]

-- bytes that agree with the head have it whole, or begin it
head_parts : (x : List ℕ) → agrees (exactly head) x ≡ true → (x ≡ head ++ drop 12 x) ⊎ ((length x < 12) × (drop 12 x ≡ []) × (head ≡ x ++ drop (length x) head))
head_parts x e =
    elim (cases_lt (length x) 12) [
      | inr long ↦ inl (agrees-exactly head x long e)
      | inl short ↦ inr (short, drop_all 12 x (omega arith), exactly-short head x (omega arith) e)
    ]

pub record WholeParts (limit : ℕ) (bytes f b d : List ℕ) : Type 0 where
  pub rest : List ℕ
  pub shaped : IsShaped limit (stretch_of f b d) f b d
  pub text : bytes ≡ stretch_of f b d ++ rest

pub standing-whole : (limit : ℕ) (bytes f b d : List ℕ) → standing_at limit bytes ≡ whole f b d → WholeParts limit bytes f b d
unfolding standing_at behind_start
standing-whole limit bytes f b d e =
    elim (chosen (agrees (exactly head) bytes) _ _ _ e) [
      | inr no' ↦ stray-whole f b d no'.1
      | inl yes' ↦
          let u = drop 12 bytes in
          let field = digits_at 9 u in
          let p = behind_field-whole limit field (drop (length field) u) f b d yes'.1 in
          let least : 4 ≤ number_of field = (fits_parts limit (length field) (number_of field) p.fit).least in
          let q = behind_head-whole field p.tail f b d least p.behind in
          let r = q.1 in
          let text : u ≡ field ++ 1 ∷ (b ++ check_text d r.0) =
          digits_at-split 9 u ∙ ap (λ (x : List ℕ). field ++ x) (p.text ∙ ap (λ (x : List ℕ). 1 ∷ x) r.4) in
          let shaped : IsShaped limit (stretch_of field b d) field b d = shaped_from limit field b d p.fit r.3 r.1 r.2 (9, u, refl) in
          elim (head_parts bytes yes'.0) [
            | inl long ↦
                let all : bytes ≡ stretch_of field b d ++ r.0 = long ∙ (ap (λ (x : List ℕ). head ++ x) text ∙ sym (stretch-append field b d r.0)) in
                subst (λ (x : List ℕ). WholeParts limit bytes x b d) q.0 (record { rest = r.0; shaped = shaped; text = all })
            | inr short ↦
                let none : length u ≡ 0 = ap length short.1 in
                absurd (omega (arith, ap length text, length-append field (1 ∷ (b ++ check_text d r.0))))
          ]
    ]

-- ---- a byte with which no stretch begins is one with any bytes behind it

fails_longer : (p : List (ℕ → Bool)) (x y : List ℕ) → agrees p x ≡ false → agrees p (x ++ y) ≡ false
fails_longer p x y e = false_from_ne_true (agrees p (x ++ y)) (λ h. both_ways (agrees p x) e (agrees-left p x y h))

behind_head-stray : (field y more : List ℕ) → behind_head field y ≡ stray → behind_head field (y ++ more) ≡ stray
unfolding behind_head
behind_head-stray field y more e =
    let n = number_of field in
    elim (chosen (agrees (form n) y) _ _ _ e) [
      | inr fails ↦ rw (fails_longer (form n) y more fails.0) refl
      | inl passes ↦
          elim (chosen (ltb (length y) (n + 7)) _ _ _ passes.1) [
            | inl short ↦ stray-waiting (sym short.1)
            | inr long ↦ stray-whole _ _ _ (sym long.1)
          ]
    ]

-- digits that can become no field are strays, whatever stands behind them
no_field : (limit : ℕ) (field more y : List ℕ) → list_all is_ascii_digit (field ++ more) ≡ true → can_become limit (length field) (number_of field) ≡ false
    → behind_field limit (field ++ more) y ≡ stray
unfolding behind_field
no_field limit field more [] digits e =
    let never : can_become limit (length (field ++ more)) (number_of (field ++ more)) ≡ false =
    false_from_ne_true _ (λ h.
    let p = becomes limit (field ++ more) digits h in
    let fit = rw (append_assoc field more p.0) at p.2 in
    both_ways _ e (can_become_before limit field (more ++ p.0) fit)) in
    rw never refl
no_field limit field more (c ∷ y) digits e =
    let never : fits limit (length (field ++ more)) (number_of (field ++ more)) ≡ false =
    false_from_ne_true _ (λ h. both_ways _ e (can_become_before limit field more h)) in
    rw (and_right (eqb c 1) (fits limit (length (field ++ more)) (number_of (field ++ more))) never) refl

behind_field-stray : (limit : ℕ) (field y more : List ℕ) (c : ℕ) → behind_field limit field (c ∷ y) ≡ stray → behind_field limit field (c ∷ (y ++ more)) ≡ stray
unfolding behind_field
behind_field-stray limit field y more c e =
    elim (chosen (eqb c 1 && fits limit (length field) (number_of field)) _ _ _ e) [
      | inr no' ↦ rw no'.0 refl
      | inl yes' ↦ rw yes'.0 (behind_head-stray field y more yes'.1)
    ]

none_becomes : (limit : ℕ) (field : List ℕ) → behind_field limit field [] ≡ stray → can_become limit (length field) (number_of field) ≡ false
unfolding behind_field
none_becomes limit field e =
    elim (chosen (can_become limit (length field) (number_of field)) _ _ _ e) [
      | inl yes' ↦ stray-waiting (sym yes'.1)
      | inr no' ↦ no'.0
    ]

-- by what stands behind the digits
start-stray : (limit : ℕ) (u more v : List ℕ) → drop (length (digits_at 9 u)) u ≡ v → behind_field limit (digits_at 9 u) v ≡ stray → behind_start limit (u ++ more) ≡ stray
unfolding behind_start
start-stray limit u more [] is e =
    let field = digits_at 9 u in
    let all : u ≡ field = digits_at-split 9 u ∙ (ap (λ (x : List ℕ). field ++ x) is ∙ append-nil field) in
    let runs : digits_at 9 (u ++ more) ≡ u ++ digits_at (9 - length u) more = digits_at-runs 9 u more (omega (arith, ap length all)) in
    let never : can_become limit (length u) (number_of u) ≡ false = rw (← all) at (none_becomes limit field e) in
    let digits : list_all is_ascii_digit (u ++ digits_at (9 - length u) more) ≡ true = rw runs at (digits_at-digits 9 (u ++ more)) in
    rw runs (no_field limit u (digits_at (9 - length u) more) (drop (length (u ++ digits_at (9 - length u) more)) (u ++ more)) digits never)
start-stray limit u more (c ∷ v) is e =
    let field = digits_at 9 u in
    let shorter : length field < length u = omega (arith, ap length is, length-drop (length field) u) in
    let same : digits_at 9 (u ++ more) ≡ field = digits_at-stops 9 u more shorter in
    let behind : drop (length field) (u ++ more) ≡ c ∷ (v ++ more) = drop-append-le (length field) u more (omega arith) ∙ ap (λ (x : List ℕ). x ++ more) is in
    ap (λ (g : List ℕ). behind_field limit g (drop (length g) (u ++ more))) same ∙ (ap (behind_field limit field) behind ∙ behind_field-stray limit field v more c e)

behind_start-stray : (limit : ℕ) (u more : List ℕ) → behind_start limit u ≡ stray → behind_start limit (u ++ more) ≡ stray
unfolding behind_start
behind_start-stray limit u more e = start-stray limit u more (drop (length (digits_at 9 u)) u) refl e

pub standing-stray : (limit : ℕ) (x more : List ℕ) → standing_at limit x ≡ stray → standing_at limit (x ++ more) ≡ stray
unfolding standing_at
standing-stray limit x more e =
    elim (chosen (agrees (exactly head) x) _ _ _ e) [
      | inr no' ↦ rw (fails_longer (exactly head) x more no'.0) refl
      | inl yes' ↦
          elim (cases_lt (length x) 12) [
            | inr long ↦
                rw (agrees-long (exactly head) x more long, yes'.0, drop-append-le 12 x more long) (behind_start-stray limit (drop 12 x) more yes'.1)
            | inl short ↦
                let none : drop 12 x ≡ [] = drop_all 12 x (omega arith) in
                let start : behind_start limit [] ≡ stray = rw none at yes'.1 in
                elim (cases_Bool (agrees (exactly head) (x ++ more))) [
                  | inr other ↦ rw other refl
                  | inl same ↦ rw same (behind_start-stray limit [] (drop 12 (x ++ more)) start)
                ]
          ]
    ]

-- ---- bytes that wait are a proper prefix of some shaped stretch

-- a body of n bytes, and a checksum
fill_body : ℕ → List ℕ
fill_body n = codes "35=" ++ (replicate (n - 4) 0 ++ 1 ∷ [])

fill_body-is : (n : ℕ) → IsBody (fill_body n)
unfolding fill_body
fill_body-is n = record { middle = replicate (n - 4) 0; text = refl }

length-fill_body : (n : ℕ) → 4 ≤ n → length (fill_body n) ≡ n
unfolding fill_body
length-fill_body n least = omega (arith, length-append {A = ℕ} (replicate (n - 4) 0) (1 ∷ []), length-replicate {A = ℕ} (n - 4) 0)

abbrev fill_check : List ℕ
fill_check = codes "000"

fill_check-is : IsCheckField fill_check
fill_check-is = record { digits = refl; three = refl }

same_shaped : (limit : ℕ) (t t' f b d : List ℕ) → t ≡ t' → IsShaped limit t f b d → IsShaped limit t' f b d
same_shaped limit t t' f b d e h = subst (λ (x : List ℕ). IsShaped limit x f b d) e h

-- a stretch goes on behind its head and a part of its field, behind a part of its head, or behind a part of what follows its field
behind_field_part : (x f more end : List ℕ) → x ≡ head ++ drop 12 x → drop 12 x ≡ f → end ≡ f ++ more → head ++ end ≡ x ++ more
behind_field_part x f more end whole_head field e =
    ap (λ (y : List ℕ). head ++ y) (e ∙ ap (λ (y : List ℕ). y ++ more) (sym field)) ∙ (sym (append_assoc head (drop 12 x) more) ∙ ap (λ (y : List ℕ). y ++ more) (sym whole_head))

behind_head_part : (x f more end : List ℕ) → f ≡ [] → head ≡ x ++ drop (length x) head → end ≡ f ++ more → head ++ end ≡ x ++ (drop (length x) head ++ more)
behind_head_part x f more end none part e =
    ap (λ (y : List ℕ). head ++ y) (e ∙ ap (λ (y : List ℕ). y ++ more) none) ∙ (ap (λ (y : List ℕ). y ++ more) part ∙ append_assoc x (drop (length x) head) more)

behind_body_part : (x f y more end : List ℕ) → x ≡ head ++ (f ++ 1 ∷ y) → y ++ more ≡ end → head ++ (f ++ 1 ∷ end) ≡ x ++ more
behind_body_part x f y more end text ends =
    ap (λ (v : List ℕ). head ++ (f ++ 1 ∷ v)) (sym ends) ∙ (ap (λ (v : List ℕ). head ++ v) (sym (append_assoc f (1 ∷ y) more)) ∙ ap (λ (v : List ℕ). v ++ more) (sym text))

-- a head and digits that can go on
waits_in_head : (limit : ℕ) (x f : List ℕ) (k : ℕ) (from : List ℕ) → f ≡ digits_at k from → agrees (exactly head) x ≡ true → drop 12 x ≡ f
    → can_become limit (length f) (number_of f) ≡ true → IsProperPrefix limit x
waits_in_head limit x f k from is agree field can =
    let all_digits : list_all is_ascii_digit f ≡ true = rw is (digits_at-digits k from) in
    let p = becomes limit f all_digits can in
    let whole_field = f ++ p.0 in
    let n = number_of whole_field in
    let q = fits_parts limit (length whole_field) n p.2 in
    let b = fill_body n in
    let digits : list_all is_ascii_digit whole_field ≡ true = list_all-append is_ascii_digit f p.0 ∙ and_from _ _ all_digits p.1 in
    let shaped : IsShaped limit (stretch_of whole_field b fill_check) whole_field b fill_check =
    record {
      length_field = record { digits = digits; least = q.some; most = q.most; number = sym (length-fill_body n q.least) };
      is_body = fill_body-is n;
      check_field = fill_check-is;
      whole = refl;
      short = omega (arith, length-stretch whole_field b fill_check refl, length-fill_body n q.least, q.short);
    } in
    let tail = p.0 ++ 1 ∷ (b ++ check_text fill_check []) in
    let long : 0 < length tail = omega (arith, length-append p.0 (1 ∷ (b ++ check_text fill_check []))) in
    let end : whole_field ++ 1 ∷ (b ++ check_text fill_check []) ≡ f ++ tail = append_assoc f p.0 (1 ∷ (b ++ check_text fill_check [])) in
    elim (head_parts x agree) [
      | inl whole_head ↦
          let text : stretch_of whole_field b fill_check ≡ x ++ tail = behind_field_part x f tail (whole_field ++ 1 ∷ (b ++ check_text fill_check [])) whole_head field end in
          record { more = tail; field = whole_field; body = b; digits = fill_check; some = long; shaped = same_shaped limit _ _ whole_field b fill_check text shaped }
      | inr part ↦
          let none : f ≡ [] = sym field ∙ part.1 in
          let text : stretch_of whole_field b fill_check ≡ x ++ (drop (length x) head ++ tail) = behind_head_part x f tail (whole_field ++ 1 ∷ (b ++ check_text fill_check [])) none part.2 end in
          record { more = drop (length x) head ++ tail; field = whole_field; body = b; digits = fill_check; some = omega (arith, length-append (drop (length x) head) tail); shaped = same_shaped limit _ _ whole_field b fill_check text shaped }
    ]

-- a whole head, and a body and its checksum with more bytes
completed : (limit : ℕ) (x f y more : List ℕ) (k : ℕ) (from : List ℕ) → f ≡ digits_at k from → x ≡ head ++ (f ++ 1 ∷ y) → fits limit (length f) (number_of f) ≡ true
    → agrees (form (number_of f)) (y ++ more) ≡ true → length (y ++ more) ≡ number_of f + 7 → 0 < length more → IsProperPrefix limit x
completed limit x f y more k from is text fit filled long some =
    let n = number_of f in
    let p = form_parts n (y ++ more) (fits_parts limit (length f) n fit).least (omega arith) filled in
    let last : p.rest ≡ [] = nil_from_length p.rest (omega (arith, ap length p.text, p.size, p.is_check.three, length-append p.body (check_text p.digits p.rest), length-append p.digits (1 ∷ p.rest))) in
    let ends : y ++ more ≡ p.body ++ check_text p.digits [] = p.text ∙ ap (λ (r : List ℕ). p.body ++ check_text p.digits r) last in
    let whole_text : stretch_of f p.body p.digits ≡ x ++ more = behind_body_part x f y more (p.body ++ check_text p.digits []) text ends in
    record {
      more = more;
      field = f;
      body = p.body;
      digits = p.digits;
      some = some;
      shaped = same_shaped limit _ _ f p.body p.digits whole_text (shaped_from limit f p.body p.digits fit p.size p.is_body p.is_check (k, from, is));
    }

-- a whole head, and less than a body and its checksum
waits_behind_head : (limit : ℕ) (x f y : List ℕ) (k : ℕ) (from : List ℕ) → f ≡ digits_at k from → x ≡ head ++ (f ++ 1 ∷ y) → fits limit (length f) (number_of f) ≡ true
    → agrees (form (number_of f)) y ≡ true → length y < number_of f + 7 → IsProperPrefix limit x
waits_behind_head limit x f y k from is text fit agree short =
    let n = number_of f in
    let q = fits_parts limit (length f) n fit in
    let b = fill_body n in
    let w = b ++ check_text fill_check [] in
    let size : length w ≡ n + 7 = omega (arith, length-append b (check_text fill_check []), length-fill_body n q.least) in
    let model : agrees (form n) w ≡ true = form-agrees b fill_check [] n (fill_body-is n) fill_check-is (length-fill_body n q.least) in
    let lacks : length (drop (length y) w) ≡ length w - length y = length-drop (length y) w in
    completed limit x f y (drop (length y) w) k from is text fit (agrees-filled (form n) y w (omega arith) agree model) (omega (arith, length-append y (drop (length y) w))) (omega arith)

behind_head-waiting : (field y : List ℕ) → behind_head field y ≡ waiting → (agrees (form (number_of field)) y ≡ true) × (length y < number_of field + 7)
unfolding behind_head
behind_head-waiting field y e =
    let n = number_of field in
    elim (chosen (agrees (form n) y) _ _ _ e) [
      | inr fails ↦ stray-waiting fails.1
      | inl passes ↦
          elim (chosen (ltb (length y) (n + 7)) _ _ _ passes.1) [
            | inl short ↦ (passes.0, ltb-true (length y) (n + 7) short.0)
            | inr long ↦ waiting-whole _ _ _ (sym long.1)
          ]
    ]

-- by what stands behind the digits
waits_at : (limit : ℕ) (x v : List ℕ) → agrees (exactly head) x ≡ true → drop (length (digits_at 9 (drop 12 x))) (drop 12 x) ≡ v → behind_field limit (digits_at 9 (drop 12 x)) v ≡ waiting → IsProperPrefix limit x
unfolding behind_field
waits_at limit x [] agree is e =
    let u = drop 12 x in
    let field = digits_at 9 u in
    let all : u ≡ field = digits_at-split 9 u ∙ (ap (λ (y : List ℕ). field ++ y) is ∙ append-nil field) in
    elim (chosen (can_become limit (length field) (number_of field)) _ _ _ e) [
      | inr no' ↦ stray-waiting no'.1
      | inl yes' ↦ waits_in_head limit x field 9 u refl agree all yes'.0
    ]
waits_at limit x (c ∷ v) agree is e =
    let u = drop 12 x in
    let field = digits_at 9 u in
    elim (chosen (eqb c 1 && fits limit (length field) (number_of field)) _ _ _ e) [
      | inr no' ↦ stray-waiting no'.1
      | inl yes' ↦
          let q = and_parts (eqb c 1) (fits limit (length field) (number_of field)) yes'.0 in
          let p = behind_head-waiting field v yes'.1 in
          let split : u ≡ field ++ 1 ∷ v = digits_at-split 9 u ∙ ap (λ (y : List ℕ). field ++ y) (is ∙ ap (λ (b : ℕ). b ∷ v) (eqb-true c 1 q.0)) in
          elim (head_parts x agree) [
            | inl long ↦ waits_behind_head limit x field v 9 u refl (long ∙ ap (λ (y : List ℕ). head ++ y) split) q.1 p.0 p.1
            | inr short ↦ absurd (omega (arith, ap length short.1, ap length split, length-append field (1 ∷ v)))
          ]
    ]

pub standing-waiting : (limit : ℕ) (x : List ℕ) → standing_at limit x ≡ waiting → IsProperPrefix limit x
unfolding standing_at behind_start
standing-waiting limit x e =
    elim (chosen (agrees (exactly head) x) _ _ _ e) [
      | inr no' ↦ stray-waiting no'.1
      | inl yes' ↦ waits_at limit x _ yes'.0 refl yes'.1
    ]

-- ---- a proper prefix of a shaped stretch waits

-- a value with the equation that names it
named : (s : Standing) → (r : Standing) × (s ≡ r)
named s = (s, refl)

waits-by : (limit : ℕ) (x more f b d : List ℕ) (s : Standing) → IsShaped limit (x ++ more) f b d → 0 < length more → standing_at limit x ≡ s → standing_at limit x ≡ waiting
waits-by limit x more f b d waiting h some e = e
waits-by limit x more f b d stray h some e =
    let there : standing_at limit (x ++ more) ≡ whole f b d = ap (standing_at limit) (sym (append-nil (x ++ more))) ∙ standing-shaped limit (x ++ more) f b d [] h in
    stray-whole f b d (sym (standing-stray limit x more e) ∙ there)
waits-by limit x more f b d (whole f' b' d') h some e =
    let p = standing-whole limit x f' b' d' e in
    let t = stretch_of f' b' d' in
    let text : x ++ more ≡ t ++ (p.rest ++ more) = ap (λ (y : List ℕ). y ++ more) p.text ∙ append_assoc t p.rest more in
    let here : standing_at limit (x ++ more) ≡ whole f' b' d' = ap (standing_at limit) text ∙ standing-shaped limit t f' b' d' (p.rest ++ more) p.shaped in
    let there : standing_at limit (x ++ more) ≡ whole f b d = ap (standing_at limit) (sym (append-nil (x ++ more))) ∙ standing-shaped limit (x ++ more) f b d [] h in
    let same = whole_parts f' b' d' f b d (sym here ∙ there) in
    let size : length t ≡ length (x ++ more) =
    length-stretch f' b' d' p.shaped.check_field.three ∙ (ap₂ (λ (i j : ℕ). 20 + i + j) (ap length same.0) (ap length same.1) ∙ (sym (length-stretch f b d h.check_field.three) ∙ sym (ap length h.whole))) in
    absurd (omega (arith, ap length p.text, length-append t p.rest, length-append x more))

pub standing-prefix : (limit : ℕ) (x more f b d : List ℕ) → IsShaped limit (x ++ more) f b d → 0 < length more → standing_at limit x ≡ waiting
standing-prefix limit x more f b d h some = waits-by limit x more f b d (standing_at limit x) h some refl

-- a stretch that stands there stands there with any bytes behind it
pub standing-stays : (limit : ℕ) (x more f b d : List ℕ) → standing_at limit x ≡ whole f b d → standing_at limit (x ++ more) ≡ whole f b d
standing-stays limit x more f b d e =
    let p = standing-whole limit x f b d e in
    let t = stretch_of f b d in
    let text : x ++ more ≡ t ++ (p.rest ++ more) = ap (λ (y : List ℕ). y ++ more) p.text ∙ append_assoc t p.rest more in
    ap (standing_at limit) text ∙ standing-shaped limit t f b d (p.rest ++ more) p.shaped
