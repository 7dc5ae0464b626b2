-- What stands at the beginning of bytes, by tests at places in them.
use Rattle.std.proofs.Common.{◌≡◌, ℕ, ◌+◌, ◌-◌, ◌≤◌, ◌<◌, Bool, true, false, cond, ◌&&◌, eqb, List, [], ◌∷◌, ◌++◌, length, get_or, take, drop, codes, refl, sym, ap, ap₂, ◌∙◌, arith, length-append, length-drop, take_at, drop-drop, lt-ltb, le-ltb, eq-eqb}
use Rattle.std.proofs.lemmas.Bool.{and_from, and_left, and_right}
use Rattle.std.proofs.lemmas.List.{drop_all, drop_more, drop-append-le, get_or_append_left}
use Rattle.fix_frame.specs.declared.look.Front.{Front}
use Rattle.fix_frame.specs.declared.look.Front.TheVariants.{Rest, Stray, Shaped}
use Rattle.fix_frame.specs.Frame.{head, number_of, stretch_of}
use Rattle.fix_frame.specs.Cut.{waiting, stray, whole, agrees, exactly, trailer, form, digits_at, fits, can_become, behind_head, behind_field, behind_start, standing_at}
use Rattle.fix_frame.specs.Look.{IsFront, IsPart, IsBehind}
use Rattle.fix_frame.proofs.Agrees.{agrees-long}
use Rattle.fix_frame.proofs.Form.{form_tests, form-quiet}
use Rattle.fix_frame.proofs.Digits.{digits_at-stops}
use Rattle.fix_frame.proofs.Standing.{standing-whole, length-stretch}

-- ---- behind a whole head

-- the three tests behind a head, each from its place on
pub tests_at : (n at : ℕ) (x : List ℕ) → 4 ≤ n
    → agrees (form n) (drop at x) ≡ (agrees (exactly (codes "35=")) (drop at x) && (agrees (exactly (1 ∷ codes "10=")) (drop (at + n - 1) x) && agrees trailer (drop (at + n + 4 - 1) x)))
tests_at n at x least =
    let end : drop (n - 1) (drop at x) ≡ drop (at + n - 1) x = drop-drop (n - 1) at x ∙ ap (λ (i : ℕ). drop i x) {x = at + (n - 1)} (omega arith) in
    let check : drop (n + 3) (drop at x) ≡ drop (at + n + 4 - 1) x = drop-drop (n + 3) at x ∙ ap (λ (i : ℕ). drop i x) {x = at + (n + 3)} (omega arith) in
    form_tests n (drop at x) least ∙ ap₂ (λ (u v : List ℕ). agrees (exactly (codes "35=")) (drop at x) && (agrees (exactly (1 ∷ codes "10=")) u && agrees trailer v)) end check

pub fails_first : (n at : ℕ) (x : List ℕ) → 4 ≤ n → agrees (exactly (codes "35=")) (drop at x) ≡ false → agrees (form n) (drop at x) ≡ false
fails_first n at x least e = tests_at n at x least ∙ and_left _ _ e

pub fails_second : (n at : ℕ) (x : List ℕ) → 4 ≤ n → agrees (exactly (1 ∷ codes "10=")) (drop (at + n - 1) x) ≡ false → agrees (form n) (drop at x) ≡ false
fails_second n at x least e = tests_at n at x least ∙ and_right _ _ (and_left _ _ e)

pub fails_third : (n at : ℕ) (x : List ℕ) → 4 ≤ n → agrees trailer (drop (at + n + 4 - 1) x) ≡ false → agrees (form n) (drop at x) ≡ false
fails_third n at x least e = tests_at n at x least ∙ and_right _ _ (and_right _ _ e)

pub passes_all : (n at : ℕ) (x : List ℕ) → 4 ≤ n → agrees (exactly (codes "35=")) (drop at x) ≡ true → agrees (exactly (1 ∷ codes "10=")) (drop (at + n - 1) x) ≡ true
    → agrees trailer (drop (at + n + 4 - 1) x) ≡ true → agrees (form n) (drop at x) ≡ true
passes_all n at x least e f g = tests_at n at x least ∙ and_from _ _ e (and_from _ _ f g)

pub part_from_none : (n at : ℕ) (x : List ℕ) → agrees (form n) (drop at x) ≡ true → length x < at + n + 7 → IsPart x at n 0
part_from_none n at x e short = record { formed = e; short = short; bound = omega arith; goes_on = λ more h. absurd (omega arith) }

pub part_from_begin : (n at : ℕ) (x : List ℕ) → 4 ≤ n → at + 3 ≤ length x → agrees (exactly (codes "35=")) (drop at x) ≡ true → agrees (form n) (drop at x) ≡ true → length x < at + n + 7 → IsPart x at n (at + n)
part_from_begin n at x least long begins e short =
    record {
      formed = e;
      short = short;
      bound = omega arith;
      goes_on = λ more h.
          ap (agrees (form n)) (drop-append-le at x more (omega arith))
          ∙ form-quiet n (drop at x) more least (omega (arith, length-drop at x)) (omega (arith, length-drop at x)) begins;
    }

-- ---- from the beginning on

pub front_other : (limit : ℕ) (x : List ℕ) → agrees (exactly head) x ≡ false → standing_at limit x ≡ stray
unfolding standing_at
front_other limit x e = rw e refl

pub front_short : (limit : ℕ) (x : List ℕ) → agrees (exactly head) x ≡ true → length x ≤ 12 + length (digits_at 9 (drop 12 x))
    → standing_at limit x ≡ cond (can_become limit (length (digits_at 9 (drop 12 x))) (number_of (digits_at 9 (drop 12 x)))) waiting stray
unfolding standing_at behind_start behind_field
front_short limit x e short =
    let f = digits_at 9 (drop 12 x) in
    let none : drop (length f) (drop 12 x) ≡ [] = drop_all (length f) (drop 12 x) (omega (arith, length-drop 12 x)) in
    rw e (ap (behind_field limit f) none)

pub front_long : (limit : ℕ) (x : List ℕ) → agrees (exactly head) x ≡ true → 12 + length (digits_at 9 (drop 12 x)) < length x
    → standing_at limit x ≡ cond (eqb (get_or x (12 + length (digits_at 9 (drop 12 x))) 0) 1 && fits limit (length (digits_at 9 (drop 12 x))) (number_of (digits_at 9 (drop 12 x))))
    (behind_head (digits_at 9 (drop 12 x)) (drop (12 + length (digits_at 9 (drop 12 x)) + 1) x)) stray
unfolding standing_at behind_start behind_field
front_long limit x e long =
    let f = digits_at 9 (drop 12 x) in
    let next : drop (length f) (drop 12 x) ≡ get_or x (12 + length f) 0 ∷ drop (12 + length f + 1) x = drop-drop (length f) 12 x ∙ drop_more x (12 + length f) 0 long in
    rw e (ap (behind_field limit f) next)

-- what is known of a head that is whole
pub record WholeHead (limit : ℕ) (x : List ℕ) (at n : ℕ) : Type 0 where
  pub agree : agrees (exactly head) x ≡ true
  pub long : 12 + length (digits_at 9 (drop 12 x)) < length x
  pub ends : get_or x (12 + length (digits_at 9 (drop 12 x))) 0 ≡ 1
  pub fit : fits limit (length (digits_at 9 (drop 12 x))) (number_of (digits_at 9 (drop 12 x))) ≡ true
  pub place : at ≡ 12 + length (digits_at 9 (drop 12 x)) + 1
  pub number : n ≡ number_of (digits_at 9 (drop 12 x))

front_whole : (limit : ℕ) (x : List ℕ) (at n : ℕ) → WholeHead limit x at n → standing_at limit x ≡ behind_head (digits_at 9 (drop 12 x)) (drop at x)
front_whole limit x at n h =
    let f = digits_at 9 (drop 12 x) in
    front_long limit x h.agree h.long
    ∙ (ap (λ (b : Bool). cond b (behind_head f (drop (12 + length f + 1) x)) stray) (and_from _ _ (eq-eqb _ 1 h.ends) h.fit)
    ∙ ap (λ (i : ℕ). behind_head f (drop i x)) (sym h.place))

-- a head that is whole stays so with more bytes
head_stays : (limit : ℕ) (x more : List ℕ) (at n : ℕ) → WholeHead limit x at n → (digits_at 9 (drop 12 (x ++ more)) ≡ digits_at 9 (drop 12 x)) × WholeHead limit (x ++ more) at n
head_stays limit x more at n h =
    let f = digits_at 9 (drop 12 x) in
    let behind : drop 12 (x ++ more) ≡ drop 12 x ++ more = drop-append-le 12 x more (omega (arith, h.long)) in
    let same : digits_at 9 (drop 12 (x ++ more)) ≡ f = ap (digits_at 9) behind ∙ digits_at-stops 9 (drop 12 x) more (omega (arith, h.long, length-drop 12 x)) in (
      same,
      record {
        agree = agrees-long (exactly head) x more (omega (arith, h.long)) ∙ h.agree;
        long = omega (arith, ap length same, h.long, length-append x more);
        ends = ap (λ (g : List ℕ). get_or (x ++ more) (12 + length g) 0) same ∙ (get_or_append_left x more 0 (12 + length f) h.long ∙ h.ends);
        fit = ap (λ (g : List ℕ). fits limit (length g) (number_of g)) same ∙ h.fit;
        place = h.place ∙ ap (λ (g : List ℕ). 12 + length g + 1) (sym same);
        number = h.number ∙ ap number_of (sym same);
      },
    )

head_waits : (f y : List ℕ) (n : ℕ) → n ≡ number_of f → agrees (form n) y ≡ true → length y < n + 7 → behind_head f y ≡ waiting
unfolding behind_head
head_waits f y n is e short =
    let e' : agrees (form (number_of f)) y ≡ true = ap (λ (i : ℕ). agrees (form i) y) (sym is) ∙ e in
    rw (e', lt-ltb (length y) (number_of f + 7) (omega arith)) refl

head_strays : (f y : List ℕ) (n : ℕ) → n ≡ number_of f → agrees (form n) y ≡ false → behind_head f y ≡ stray
unfolding behind_head
head_strays f y n is e =
    let e' : agrees (form (number_of f)) y ≡ false = ap (λ (i : ℕ). agrees (form i) y) (sym is) ∙ e in
    rw e' refl

head_whole : (f y : List ℕ) (n : ℕ) → n ≡ number_of f → agrees (form n) y ≡ true → n + 7 ≤ length y → behind_head f y ≡ whole f (take n y) (take 3 (drop (n + 3) y))
unfolding behind_head
head_whole f y n is e long =
    let e' : agrees (form (number_of f)) y ≡ true = ap (λ (i : ℕ). agrees (form i) y) (sym is) ∙ e in
    let here : behind_head f y ≡ whole f (take (number_of f) y) (take 3 (drop (number_of f + 3) y)) = rw (e', le-ltb (length y) (number_of f + 7) (omega arith)) refl in
    here ∙ ap (λ (i : ℕ). whole f (take i y) (take 3 (drop (i + 3) y))) (sym is)

pub front_from_behind : (limit : ℕ) (x : List ℕ) (at n : ℕ) (front : Front) → WholeHead limit x at n → IsBehind x at n front → IsFront limit x front
front_from_behind limit x at n (Rest quiet) h p =
    let f = digits_at 9 (drop 12 x) in (
      front_whole limit x at n h ∙ head_waits f (drop at x) n h.number p.formed (omega (arith, length-drop at x, p.short, h.long, h.place)),
      λ more short.
          let s = head_stays limit x more at n h in
          let size : length (drop at (x ++ more)) < n + 7 = omega (arith, length-drop at (x ++ more), length-append x more, p.bound, h.long, h.place) in
          front_whole limit (x ++ more) at n s.1 ∙ (ap (λ (g : List ℕ). behind_head g (drop at (x ++ more))) s.0 ∙ head_waits f (drop at (x ++ more)) n h.number (p.goes_on more short) size),
    )
front_from_behind limit x at n Stray h p = front_whole limit x at n h ∙ head_strays (digits_at 9 (drop 12 x)) (drop at x) n h.number p
front_from_behind limit x at n (Shaped place size) h p =
    let f = digits_at 9 (drop 12 x) in
    let y = drop at x in
    let b = take n y in
    let d = take 3 (drop (n + 3) y) in
    let e : standing_at limit x ≡ whole f b d = front_whole limit x at n h ∙ head_whole f y n h.number p.1.formed (omega (arith, length-drop at x, p.1.end, p.1.within)) in
    let w = standing-whole limit x f b d e in
    let long : size ≡ length (stretch_of f b d) = omega (arith, length-stretch f b d w.shaped.check_field.three, w.shaped.length_field.number, h.number, h.place, p.1.end) in
    record {
      field = f;
      body = b;
      digits = d;
      stands = e;
      text = ap (take size) w.text ∙ take_at (stretch_of f b d) w.rest size (sym long);
      place = omega (arith, p.0, h.place);
      check_field = w.shaped.check_field;
      within = p.1.within;
    }
