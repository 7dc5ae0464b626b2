-- Bytes that pass a test in each place.
use Rattle.std.proofs.Common.{◌≡◌, ℕ, zero, suc, ◌+◌, ◌-◌, ◌≤◌, Bool, true, false, ◌&&◌, List, [], ◌∷◌, ◌++◌, length, take, drop, replicate, refl, subst, sym, ap, ◌∙◌, arith, eqb, eq-eqb}
use Rattle.std.proofs.lemmas.Bool.{and_parts, and_from, eqb-true}
use Rattle.std.proofs.lemmas.List.{take-append-drop, take-append-le, drop-append-le, length-drop}
use Rattle.std.specs.List.{list_all}
use Rattle.fix_frame.specs.Cut.{agrees, exactly}

abbrev pub Tests : Type 0
Tests = List (ℕ → Bool)

pub agrees-nil : (p : Tests) → agrees p [] ≡ true
agrees-nil [] = refl
agrees-nil (t ∷ p) = refl

-- a prefix agrees too
pub agrees-left : (p : Tests) (x y : List ℕ) → agrees p (x ++ y) ≡ true → agrees p x ≡ true
agrees-left [] x y h = refl
agrees-left (t ∷ p) [] y h = refl
agrees-left (t ∷ p) (b ∷ x) y h =
    let q = and_parts (t b) (agrees p (x ++ y)) h in
    and_from (t b) (agrees p x) q.0 (agrees-left p x y q.1)

-- what stands behind the last test isn't looked at
pub agrees-long : (p : Tests) (x y : List ℕ) → length p ≤ length x → agrees p (x ++ y) ≡ agrees p x
agrees-long [] x y h = refl
agrees-long (t ∷ p) [] y h = absurd (omega arith)
agrees-long (t ∷ p) (b ∷ x) y h = ap (λ r. t b && r) (agrees-long p x y (omega arith))

and-assoc : (a b c : Bool) → (a && (b && c)) ≡ ((a && b) && c)
and-assoc true b c = refl
and-assoc false b c = refl

-- two lists of tests, one behind the other
pub agrees-append : (p q : Tests) (x : List ℕ) → agrees (p ++ q) x ≡ (agrees p x && agrees q (drop (length p) x))
agrees-append [] q x = refl
agrees-append (t ∷ p) q [] = sym (agrees-nil q)
agrees-append (t ∷ p) q (b ∷ x) =
    ap (λ r. t b && r) (agrees-append p q x) ∙ and-assoc (t b) (agrees p x) (agrees q (drop (length p) x))

-- bytes that agree with a text begin with it
pub agrees-exactly : (t x : List ℕ) → length t ≤ length x → agrees (exactly t) x ≡ true → x ≡ t ++ drop (length t) x
agrees-exactly [] x h e = refl
agrees-exactly (c ∷ t) [] h e = absurd (omega arith)
agrees-exactly (c ∷ t) (b ∷ x) h e =
    let q = and_parts (eqb b c) (agrees (exactly t) x) e in
    let same : b ≡ c = eqb-true b c q.0 in
    let rest : x ≡ t ++ drop (length t) x = agrees-exactly t x (omega arith) q.1 in
    cc

pub exactly-agrees : (t x : List ℕ) → agrees (exactly t) (t ++ x) ≡ true
exactly-agrees [] x = refl
exactly-agrees (c ∷ t) x = and_from (eqb c c) (agrees (exactly t) (t ++ x)) (eq-eqb c c refl) (exactly-agrees t x)

-- bytes that begin with a text, as a slice of them is compared with it
pub begins_agrees : (t x : List ℕ) → take (length t) x ≡ t → agrees (exactly t) x ≡ true
begins_agrees t x e =
    let parts : t ++ drop (length t) x ≡ x = ap (λ (y : List ℕ). y ++ drop (length t) x) (sym e) ∙ take-append-drop (length t) x in
    subst (λ (y : List ℕ). agrees (exactly t) y ≡ true) parts (exactly-agrees t (drop (length t) x))

-- a text that stands in the first of two slices
pub stands_in_front : (t front back : List ℕ) (at : ℕ) → at + length t ≤ length front → take (length t) (drop at front) ≡ t → take (length t) (drop at (front ++ back)) ≡ t
stands_in_front t front back at h e =
    let behind : drop at (front ++ back) ≡ drop at front ++ back = drop-append-le at front back (omega (arith, h)) in
    let size : length (drop at front) ≡ length front - at = length-drop at front in
    ap (take (length t)) behind ∙ (take-append-le (length t) (drop at front) back (omega (arith, h, size)) ∙ e)

-- bytes that begin a text
pub exactly-short : (t x : List ℕ) → length x ≤ length t → agrees (exactly t) x ≡ true → t ≡ x ++ drop (length x) t
exactly-short t [] h e = refl
exactly-short [] (b ∷ x) h e = absurd (omega arith)
exactly-short (c ∷ t) (b ∷ x) h e =
    let q = and_parts (eqb b c) (agrees (exactly t) x) e in
    let same : b ≡ c = eqb-true b c q.0 in
    let rest : t ≡ x ++ drop (length x) t = exactly-short t x (omega arith) q.1 in
    cc

-- no test at all, as often as there are bytes
abbrev pub any : ℕ → Bool
any b = true

pub agrees-any : (k : ℕ) (x : List ℕ) → agrees (replicate k any) x ≡ true
agrees-any zero x = refl
agrees-any (suc k) [] = refl
agrees-any (suc k) (b ∷ x) = agrees-any k x

pub agrees-any_append : (m : List ℕ) (q : Tests) (x : List ℕ) → agrees (replicate (length m) any ++ q) (m ++ x) ≡ agrees q x
agrees-any_append [] q x = refl
agrees-any_append (b ∷ m) q x = agrees-any_append m q x

pub agrees-any_short : (k : ℕ) (q : Tests) (x : List ℕ) → length x ≤ k → agrees (replicate k any ++ q) x ≡ true
agrees-any_short zero q [] h = agrees-nil q
agrees-any_short zero q (b ∷ x) h = absurd (omega arith)
agrees-any_short (suc k) q [] h = refl
agrees-any_short (suc k) q (b ∷ x) h = agrees-any_short k q x (omega arith)

-- what bytes lack is filled up from bytes that agree
pub agrees-filled : (p : Tests) (x w : List ℕ) → length x ≤ length w → agrees p x ≡ true → agrees p w ≡ true → agrees p (x ++ drop (length x) w) ≡ true
agrees-filled [] x w h e f = refl
agrees-filled (t ∷ p) [] w h e f = f
agrees-filled (t ∷ p) (b ∷ x) [] h e f = absurd (omega arith)
agrees-filled (t ∷ p) (b ∷ x) (c ∷ w) h e f =
    let q = and_parts (t b) (agrees p x) e in
    let r = and_parts (t c) (agrees p w) f in
    and_from (t b) (agrees p (x ++ drop (length x) w)) q.0 (agrees-filled p x w (omega arith) q.1 r.1)

-- one test again and again
pub agrees-each : (test : ℕ → Bool) (x y : List ℕ) → agrees (replicate (length x) test) (x ++ y) ≡ list_all test x
agrees-each test [] y = refl
agrees-each test (b ∷ x) y = ap (λ r. test b && r) (agrees-each test x y)

-- both lists of tests are passed
pub agrees_parts : (p q : Tests) (x : List ℕ) → agrees (p ++ q) x ≡ true → (agrees p x ≡ true) × (agrees q (drop (length p) x) ≡ true)
agrees_parts p q x e = and_parts (agrees p x) (agrees q (drop (length p) x)) (sym (agrees-append p q x) ∙ e)

pub agrees_both : (p q : Tests) (x : List ℕ) → agrees p x ≡ true → agrees q (drop (length p) x) ≡ true → agrees (p ++ q) x ≡ true
agrees_both p q x e f = agrees-append p q x ∙ and_from (agrees p x) (agrees q (drop (length p) x)) e f
