-- Bytes in a buffer that go on at its beginning where they come to its end.
use Rattle.std.proofs.Common.{◌≡◌, ℕ, ◌+◌, ◌-◌, ◌≤◌, List, ◌++◌, length, take, drop, sym, ap, ◌∙◌, arith, rules, length-take}
use Rattle.std.proofs.lemmas.List.{drop_all, places, same_lists}
use Rattle.fix_frame.specs.Store.{in_ring}

pub ring-skip_near : (s n c : ℕ) (buffer : List ℕ) → s + c ≤ length buffer → c ≤ n → n ≤ length buffer → in_ring (s + c) (n - c) buffer ≡ drop c (in_ring s n buffer)
ring-skip_near s n c buffer a b d = same_lists _ _ (search (rules, places)) (λ k e h. grind (arith, places))

pub ring-skip_past : (s n c : ℕ) (buffer : List ℕ) → s ≤ length buffer → length buffer ≤ s + c → c ≤ n → n ≤ length buffer → in_ring (c - (length buffer - s)) (n - c) buffer ≡ drop c (in_ring s n buffer)
ring-skip_past s n c buffer a a' b d = same_lists _ _ (search (rules, places)) (λ k e h. grind (arith, places))

-- a ring that begins at its buffer's beginning
pub ring-straight : (s n : ℕ) (buffer : List ℕ) → s ≤ length buffer → n ≤ length buffer → in_ring 0 n (drop s buffer ++ take s buffer) ≡ in_ring s n buffer
ring-straight s n buffer a b = same_lists _ _ (search (rules, places)) (λ k e h. grind (arith, places))

-- bytes that go on behind the buffer's end
pub ring-append_past : (s n : ℕ) (buffer piece new : List ℕ) → s ≤ length buffer → length buffer ≤ s + n → n + length piece ≤ length buffer
    → new ≡ take (n - (length buffer - s)) buffer ++ (piece ++ drop (n - (length buffer - s) + length piece) buffer) → in_ring s (n + length piece) new ≡ in_ring s n buffer ++ piece
ring-append_past s n buffer piece new a b d e = rw e (same_lists _ _ (search (rules, places)) (λ k e h. grind (arith, places)))

-- bytes that end before the buffer does
pub ring-append_near : (s n : ℕ) (buffer piece new : List ℕ) → s + n + length piece ≤ length buffer
    → new ≡ take (s + n) buffer ++ (piece ++ drop (s + n + length piece) buffer) → in_ring s (n + length piece) new ≡ in_ring s n buffer ++ piece
ring-append_near s n buffer piece new a e = rw e (same_lists _ _ (search (rules, places)) (λ k e h. grind (arith, places)))

-- bytes that reach the buffer's end and go on at its beginning
pub ring-append_over : (s n i : ℕ) (buffer piece middle new : List ℕ) → s + n + i ≡ length buffer → i ≤ length piece → n + length piece ≤ length buffer
    → middle ≡ take (s + n) buffer ++ (take i piece ++ drop (s + n + length (take i piece)) buffer) → new ≡ take 0 middle ++ (take (length piece - i) (drop i piece) ++ drop (0 + length (take (length piece - i) (drop i piece))) middle)
    → in_ring s (n + length piece) new ≡ in_ring s n buffer ++ piece
ring-append_over s n i buffer piece middle new a b d e f = rw (f, e) (same_lists _ _ (search (rules, places)) (λ k e h. grind (arith, places)))

-- nothing is left of bytes that all go
pub ring-skip_all : (s n c : ℕ) (buffer : List ℕ) → n ≡ c → in_ring 0 (n - c) buffer ≡ drop c (in_ring s n buffer)
ring-skip_all s n c buffer e =
    let none : n - c ≡ 0 = omega arith in
    ap (λ (i : ℕ). in_ring 0 i buffer) none ∙ sym (drop_all c (in_ring s n buffer) (omega (arith, length-take n (drop s buffer ++ take s buffer))))

-- bytes that lie in one part of the buffer
pub ring-front : (s n c : ℕ) (buffer : List ℕ) → s + c ≤ length buffer → c ≤ n → take (s + c - s) (drop s buffer) ≡ take c (in_ring s n buffer)
ring-front s n c buffer a b = same_lists _ _ (search (rules, places)) (λ k e h. grind (arith, places))

pub count_in_ring : (s n c : ℕ) (buffer : List ℕ) → c ≤ length (in_ring s n buffer) → c ≤ n
count_in_ring s n c buffer h = omega (arith, length-take n (drop s buffer ++ take s buffer))
