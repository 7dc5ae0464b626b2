-- The bytes behind a head: a body of so many bytes, and its checksum.
use Rattle.std.proofs.Common.{◌≡◌, ℕ, ◌+◌, ◌-◌, ◌≤◌, ◌<◌, Bool, true, ◌&&◌, List, [], ◌∷◌, ◌++◌, length, take, drop, replicate, codes, refl, sym, ap, ap₂, ◌∙◌, subst, arith, append_assoc, length-append, length-drop, length-take, take-append-drop, take_at, drop_at, drop-drop}
use Rattle.std.proofs.lemmas.List.{length-replicate}
use Rattle.std.specs.Char.{is_ascii_digit}
use Rattle.std.specs.List.{list_all}
use Rattle.fix_frame.specs.Frame.{IsBody, IsCheckField}
use Rattle.fix_frame.specs.Cut.{agrees, exactly, trailer, form}
use Rattle.fix_frame.proofs.Agrees.{Tests, any, agrees-append, agrees_parts, agrees_both, agrees-exactly, agrees-any, agrees-any_append, agrees-any_short, agrees-long, agrees-each}

-- the tests from the end of the body on
abbrev pub ending : Tests
ending = exactly (1 ∷ codes "10=") ++ trailer

-- the tests for a body with k bytes between its begin and its end
abbrev pub form_with : ℕ → Tests
form_with k = exactly (codes "35=") ++ (replicate k any ++ ending)

pub form_is : (k n : ℕ) → k + 4 ≡ n → form n ≡ form_with k
form_is k n e = ap form_with {y = k} (omega arith)

-- what stands behind a body
abbrev pub check_text : List ℕ → List ℕ → List ℕ
check_text digits rest = codes "10=" ++ (digits ++ 1 ∷ rest)

-- a text with so many digits, by cases
three : (digits : List ℕ) → length digits ≡ 3 → (a b c : ℕ) × (digits ≡ a ∷ b ∷ c ∷ [])
three [] e = absurd (omega arith)
three (a ∷ []) e = absurd (omega arith)
three (a ∷ b ∷ []) e = absurd (omega arith)
three (a ∷ b ∷ c ∷ []) e = (a, b, c, refl)
three (a ∷ b ∷ c ∷ d ∷ ds) e = absurd (omega arith)

trailer-agrees : (digits rest : List ℕ) → IsCheckField digits → agrees trailer (digits ++ 1 ∷ rest) ≡ true
trailer-agrees digits rest h =
    let e : length digits ≡ 3 = h.three in
    let front : agrees (replicate 3 is_ascii_digit) (digits ++ 1 ∷ rest) ≡ true =
    subst (λ k. agrees (replicate k is_ascii_digit) (digits ++ 1 ∷ rest) ≡ true) e (agrees-each is_ascii_digit digits (1 ∷ rest) ∙ h.digits) in
    let back : drop 3 (digits ++ 1 ∷ rest) ≡ 1 ∷ rest = drop_at digits (1 ∷ rest) 3 e in
    agrees_both (replicate 3 is_ascii_digit) (exactly (1 ∷ [])) (digits ++ 1 ∷ rest) front (ap (agrees (exactly (1 ∷ []))) back)

ending-agrees : (digits rest : List ℕ) → IsCheckField digits → agrees ending (1 ∷ check_text digits rest) ≡ true
ending-agrees digits rest h = trailer-agrees digits rest h

-- a body and three digits have the form, whatever stands behind them
pub form-agrees : (body digits rest : List ℕ) (n : ℕ) → IsBody body → IsCheckField digits → length body ≡ n → agrees (form n) (body ++ check_text digits rest) ≡ true
form-agrees body digits rest n b h e =
    let m = b.middle in
    let len : length m + 4 ≡ n = omega (arith, ap length b.text, length-append m (1 ∷ [])) in
    let text : body ++ check_text digits rest ≡ codes "35=" ++ (m ++ 1 ∷ check_text digits rest) =
    ap (λ (x : List ℕ). x ++ check_text digits rest) b.text ∙ ap (λ (x : List ℕ). codes "35=" ++ x) (append_assoc m (1 ∷ []) (check_text digits rest)) in
    rw (form_is (length m) n len, text) (agrees-any_append m ending (1 ∷ check_text digits rest) ∙ ending-agrees digits rest h)

-- what bytes of this form are
pub record FormParts (n : ℕ) (bytes : List ℕ) : Type 0 where
  pub body : List ℕ
  pub digits : List ℕ
  pub rest : List ℕ
  pub is_body : IsBody body
  pub is_check : IsCheckField digits
  pub size : length body ≡ n
  pub text : bytes ≡ body ++ check_text digits rest

-- the end of bytes that agree with the tests of a checksum
trailer_parts : (y : List ℕ) → 4 ≤ length y → agrees trailer y ≡ true → IsCheckField (take 3 y) × (y ≡ take 3 y ++ 1 ∷ drop 4 y)
trailer_parts y long e =
    let q = agrees_parts (replicate 3 is_ascii_digit) (exactly (1 ∷ [])) y e in
    let len : length (take 3 y) ≡ 3 = omega (arith, length-take 3 y) in
    let whole : take 3 y ++ drop 3 y ≡ y = take-append-drop 3 y in
    let front : agrees (replicate (length (take 3 y)) is_ascii_digit) (take 3 y ++ drop 3 y) ≡ true = rw (len, whole) q.0 in
    let digits : list_all is_ascii_digit (take 3 y) ≡ true = sym (agrees-each is_ascii_digit (take 3 y) (drop 3 y)) ∙ front in
    let back : drop 3 y ≡ 1 ∷ drop 1 (drop 3 y) = agrees-exactly (1 ∷ []) (drop 3 y) (omega (arith, length-drop 3 y)) q.1 in
    (record { digits = digits; three = len }, sym whole ∙ ap (λ (x : List ℕ). take 3 y ++ x) (back ∙ ap (λ (x : List ℕ). 1 ∷ x) (drop-drop 1 3 y)))

pub form_parts : (n : ℕ) (y : List ℕ) → 4 ≤ n → n + 7 ≤ length y → agrees (form n) y ≡ true → FormParts n y
form_parts n y least long e =
    let k = n - 4 in
    let y1 = drop 3 y in
    let y2 = drop k y1 in
    let y3 = drop 4 y2 in
    let long1 : length y1 + 3 ≡ length y = omega (arith, length-drop 3 y) in
    let long2 : length y2 + k ≡ length y1 = omega (arith, length-drop k y1) in
    let long3 : length y3 + 4 ≡ length y2 = omega (arith, length-drop 4 y2) in
    let e0 : agrees (form_with k) y ≡ true = sym (ap (λ (p : Tests). agrees p y) (form_is k n (omega arith))) ∙ e in
    let q1 = agrees_parts (exactly (codes "35=")) (replicate k any ++ ending) y e0 in
    let t1 : y ≡ codes "35=" ++ y1 = agrees-exactly (codes "35=") y (omega arith) q1.0 in
    let q2 = agrees_parts (replicate k any) ending y1 q1.1 in
    let e2 : agrees ending y2 ≡ true = sym (ap (λ (i : ℕ). agrees ending (drop i y1)) (length-replicate k any)) ∙ q2.1 in
    let t2 : y1 ≡ take k y1 ++ y2 = sym (take-append-drop k y1) in
    let q3 = agrees_parts (exactly (1 ∷ codes "10=")) trailer y2 e2 in
    let t3 : y2 ≡ (1 ∷ codes "10=") ++ y3 = agrees-exactly (1 ∷ codes "10=") y2 (omega arith) q3.0 in
    let p4 = trailer_parts y3 (omega arith) q3.1 in
    let m = take k y1 in
    let end = check_text (take 3 y3) (drop 4 y3) in
    let t4 : y2 ≡ 1 ∷ end = t3 ∙ ap (λ (x : List ℕ). (1 ∷ codes "10=") ++ x) p4.1 in
    let t5 : y ≡ codes "35=" ++ (m ++ 1 ∷ end) = t1 ∙ ap (λ (x : List ℕ). codes "35=" ++ x) (t2 ∙ ap (λ (x : List ℕ). m ++ x) t4) in
    let len : length m ≡ k = omega (arith, length-take k y1) in
    record {
      body = codes "35=" ++ (m ++ 1 ∷ []);
      digits = take 3 y3;
      rest = drop 4 y3;
      is_body = record { middle = m; text = refl };
      is_check = p4.0;
      size = omega (arith, length-append m (1 ∷ []));
      text = t5 ∙ ap (λ (x : List ℕ). codes "35=" ++ x) (sym (append_assoc m (1 ∷ []) end));
    }

-- where a body ends, and where its checksum stands
pub body_part : (n : ℕ) (bytes body digits rest : List ℕ) → length body ≡ n → bytes ≡ body ++ check_text digits rest → take n bytes ≡ body
body_part n bytes body digits rest len e = ap (take n) e ∙ take_at body (check_text digits rest) n len

pub check_part : (n : ℕ) (bytes body digits rest : List ℕ) → length body ≡ n → IsCheckField digits → bytes ≡ body ++ check_text digits rest → take 3 (drop (n + 3) bytes) ≡ digits
check_part n bytes body digits rest len h e =
    let behind : drop n bytes ≡ check_text digits rest = ap (drop n) e ∙ drop_at body (check_text digits rest) n len in
    let three : drop (n + 3) bytes ≡ digits ++ 1 ∷ rest = sym (drop-drop 3 n bytes) ∙ ap (drop 3) behind in
    ap (take 3) three ∙ take_at digits (1 ∷ rest) 3 h.three

-- a begin of a body that is long enough for its first test settles what comes before its end
pub form-quiet : (n : ℕ) (y more : List ℕ) → 4 ≤ n → 3 ≤ length y → length y + length more < n → agrees (exactly (codes "35=")) y ≡ true → agrees (form n) (y ++ more) ≡ true
form-quiet n y more least long short e =
    let k = n - 4 in
    let front : agrees (exactly (codes "35=")) (y ++ more) ≡ true = agrees-long (exactly (codes "35=")) y more long ∙ e in
    let len : length (drop 3 (y ++ more)) ≤ k = omega (arith, length-drop 3 (y ++ more), length-append y more) in
    let back : agrees (replicate k any ++ ending) (drop 3 (y ++ more)) ≡ true = agrees-any_short k ending (drop 3 (y ++ more)) len in
    ap (λ (p : Tests). agrees p (y ++ more)) (form_is k n (omega arith)) ∙ agrees_both (exactly (codes "35=")) (replicate k any ++ ending) (y ++ more) front back

-- the same in three tests, each from its place on
pub form_tests : (n : ℕ) (y : List ℕ) → 4 ≤ n → agrees (form n) y ≡ (agrees (exactly (codes "35=")) y && (agrees (exactly (1 ∷ codes "10=")) (drop (n - 1) y) && agrees trailer (drop (n + 3) y)))
form_tests n y least =
    let k = n - 4 in
    let end = drop k (drop 3 y) in
    let none : (agrees (replicate k any) (drop 3 y) && agrees ending (drop (length (replicate k any)) (drop 3 y))) ≡ agrees ending end =
    ap₂ (λ (b : Bool) (i : ℕ). b && agrees ending (drop i (drop 3 y))) (agrees-any k (drop 3 y)) (length-replicate k any) in
    let at_end : end ≡ drop (n - 1) y = drop-drop k 3 y ∙ ap (λ (i : ℕ). drop i y) {x = 3 + k} (omega arith) in
    let at_check : drop 4 end ≡ drop (n + 3) y = ap (drop 4) (drop-drop k 3 y) ∙ (drop-drop 4 (3 + k) y ∙ ap (λ (i : ℕ). drop i y) {x = 3 + k + 4} (omega arith)) in
    ap (λ (p : Tests). agrees p y) (form_is k n (omega arith)) ∙ (agrees-append (exactly (codes "35=")) (replicate k any ++ ending) y
    ∙ ap (λ (b : Bool). agrees (exactly (codes "35=")) y && b) (agrees-append (replicate k any) ending (drop 3 y) ∙ (none ∙ (agrees-append (exactly (1 ∷ codes "10=")) trailer end
    ∙ ap₂ (λ (u v : List ℕ). agrees (exactly (1 ∷ codes "10=")) u && agrees trailer v) at_end at_check))))
