-- Tests and digits from a place of the bytes on, one byte after the other.
use Rattle.std.proofs.Common.{◌≡◌, ℕ, suc, ◌+◌, ◌-◌, ◌≤◌, ◌<◌, Bool, true, false, cond, ◌&&◌, ◌||◌, List, [], ◌∷◌, ◌++◌, length, get_or, drop, replicate, sym, ap, ap₂, ◌∙◌, arith}
use Rattle.std.proofs.lemmas.List.{drop_all, drop_more}
use Rattle.std.specs.Char.{is_ascii_digit}
use Rattle.std.specs.List.{list_any}
use Rattle.fix_frame.specs.Cut.{agrees, digits_at}
use Rattle.fix_frame.proofs.Agrees.{Tests, agrees-nil}

pub agrees-past : (p : Tests) (x : List ℕ) (i : ℕ) → length x ≤ i → agrees p (drop i x) ≡ true
agrees-past p x i h = ap (agrees p) (drop_all i x h) ∙ agrees-nil p

-- one of the places of a test that stands n times
pub each_step : (test : ℕ → Bool) (q : Tests) (x : List ℕ) (at k n : ℕ) → k < n → at + k < length x
    → agrees (replicate (n - k) test ++ q) (drop (at + k) x) ≡ (test (get_or x (at + k) 0) && agrees (replicate (n - (k + 1)) test ++ q) (drop (at + (k + 1)) x))
each_step test q x at k n small within =
    let left : n - k ≡ suc (n - (k + 1)) = omega arith in
    let next : drop (at + k) x ≡ get_or x (at + k) 0 ∷ drop (at + (k + 1)) x =
    drop_more x (at + k) 0 within ∙ ap (λ (i : ℕ). get_or x (at + k) 0 ∷ drop i x) {x = at + k + 1} (omega arith) in
    ap₂ (λ (i : ℕ) (y : List ℕ). agrees (replicate i test ++ q) y) left next

pub each_fails : (test : ℕ → Bool) (q : Tests) (x : List ℕ) (at k n b : ℕ) → k < n → at + k < length x → b ≡ get_or x (at + k) 0 → test b ≡ false
    → agrees (replicate (n - k) test ++ q) (drop (at + k) x) ≡ false
each_fails test q x at k n b small within is e =
    each_step test q x at k n small within ∙ ap (λ (v : Bool). v && agrees (replicate (n - (k + 1)) test ++ q) (drop (at + (k + 1)) x)) (ap test (sym is) ∙ e)

pub each_passes : (test : ℕ → Bool) (q : Tests) (x : List ℕ) (at k n b : ℕ) → k < n → at + k < length x → b ≡ get_or x (at + k) 0 → test b ≡ true
    → agrees (replicate (n - k) test ++ q) (drop (at + k) x) ≡ agrees (replicate (n - (k + 1)) test ++ q) (drop (at + (k + 1)) x)
each_passes test q x at k n b small within is e =
    each_step test q x at k n small within ∙ ap (λ (v : Bool). v && agrees (replicate (n - (k + 1)) test ++ q) (drop (at + (k + 1)) x)) (ap test (sym is) ∙ e)

-- one of the digits of a length
pub digits_step : (x : List ℕ) (at k n : ℕ) → k < n → at + k < length x
    → digits_at (n - k) (drop (at + k) x) ≡ cond (is_ascii_digit (get_or x (at + k) 0)) (get_or x (at + k) 0 ∷ digits_at (n - (k + 1)) (drop (at + (k + 1)) x)) []
digits_step x at k n small within =
    let left : n - k ≡ suc (n - (k + 1)) = omega arith in
    let next : drop (at + k) x ≡ get_or x (at + k) 0 ∷ drop (at + (k + 1)) x =
    drop_more x (at + k) 0 within ∙ ap (λ (i : ℕ). get_or x (at + k) 0 ∷ drop i x) {x = at + k + 1} (omega arith) in
    ap₂ (λ (i : ℕ) (y : List ℕ). digits_at i y) left next

pub digits_end : (x : List ℕ) (at k n b : ℕ) → k < n → at + k < length x → b ≡ get_or x (at + k) 0 → is_ascii_digit b ≡ false → digits_at (n - k) (drop (at + k) x) ≡ []
digits_end x at k n b small within is e =
    digits_step x at k n small within ∙ ap (λ (v : Bool). cond v (get_or x (at + k) 0 ∷ digits_at (n - (k + 1)) (drop (at + (k + 1)) x)) []) (ap is_ascii_digit (sym is) ∙ e)

pub digits_more : (x : List ℕ) (at k n b : ℕ) → k < n → at + k < length x → b ≡ get_or x (at + k) 0 → is_ascii_digit b ≡ true
    → digits_at (n - k) (drop (at + k) x) ≡ b ∷ digits_at (n - (k + 1)) (drop (at + (k + 1)) x)
digits_more x at k n b small within is e =
    digits_step x at k n small within ∙ (ap (λ (v : Bool). cond v (get_or x (at + k) 0 ∷ digits_at (n - (k + 1)) (drop (at + (k + 1)) x)) []) (ap is_ascii_digit (sym is) ∙ e)
    ∙ ap (λ (c : ℕ). c ∷ digits_at (n - (k + 1)) (drop (at + (k + 1)) x)) (sym is))

-- one of some numbers that are tried in order
pub tried : (test : ℕ → Bool) (xs : List ℕ) (i n : ℕ) → i < length xs → get_or xs i 0 ≡ n → test n ≡ false → list_any test (drop (i + 1) xs) ≡ list_any test (drop i xs)
tried test xs i n within is e =
    sym (ap (list_any test) (drop_more xs i 0 within) ∙ ap (λ (v : Bool). v || list_any test (drop (i + 1) xs)) (ap test is ∙ e))
