-- The head of a record is read as it was written, and in one way.
use Rattle.std.proofs.Common.{◌≡◌, ℕ, ◌<◌, ◌^◌, List, ◌∷◌, ◌++◌, length, take, drop, refl, sym, ap, ◌∙◌, arith, append_assoc, length-append}
use Rattle.std.specs.Int.{to_be_bytes, from_be_bytes, w16, w32, w64}
use Rattle.std.proofs.lemmas.List.{take_at, drop_at}
use Rattle.std.proofs.lemmas.Nat.{from_be_bytes-to_be_bytes_2, from_be_bytes-to_be_bytes_4, from_be_bytes-to_be_bytes_8}
use Rattle.durable_journal.specs.declared.numbers.Numbers.{Numbers}
use Rattle.durable_journal.specs.declared.head.Head.{Head}
use Rattle.durable_journal.specs.RecordText.{numbers_text, head_text, NumbersHaveTypes, HeadHasTypes}

-- one part behind another
pub written : (t u v a b : List ℕ) → u ≡ t ++ a → v ≡ u ++ b → v ≡ t ++ (a ++ b)
written t u v a b p q = q ∙ ap (λ (l : List ℕ). l ++ b) p ∙ append_assoc t a b

pub read : (a b r s t : List ℕ) → r ≡ a ++ s → s ≡ b ++ t → r ≡ (a ++ b) ++ t
read a b r s t p q = p ∙ ap (λ (l : List ℕ). a ++ l) q ∙ sym (append_assoc a b t)

pub five_written : (t t1 t2 t3 t4 t5 a b c d e : List ℕ) → t1 ≡ t ++ a → t2 ≡ t1 ++ b → t3 ≡ t2 ++ c → t4 ≡ t3 ++ d → t5 ≡ t4 ++ e → t5 ≡ t ++ (a ++ (b ++ (c ++ (d ++ e))))
five_written t t1 t2 t3 t4 t5 a b c d e p1 p2 p3 p4 p5 =
    written t t1 t5 a (b ++ (c ++ (d ++ e))) p1 (written t1 t2 t5 b (c ++ (d ++ e)) p2 (written t2 t3 t5 c (d ++ e) p3 (written t3 t4 t5 d e p4 p5)))

pub five_read : (a b c d e r r1 r2 r3 r4 r5 : List ℕ) → r ≡ a ++ r1 → r1 ≡ b ++ r2 → r2 ≡ c ++ r3 → r3 ≡ d ++ r4 → r4 ≡ e ++ r5 → r ≡ (a ++ (b ++ (c ++ (d ++ e)))) ++ r5
five_read a b c d e r r1 r2 r3 r4 r5 p1 p2 p3 p4 p5 =
    read a (b ++ (c ++ (d ++ e))) r r1 r5 p1 (read b (c ++ (d ++ e)) r1 r2 r5 p2 (read c (d ++ e) r2 r3 r5 p3 (read d e r3 r4 r5 p4 p5)))

-- parts of the same length are the same
pub same_front : (a b x y : List ℕ) → length a ≡ length b → a ++ x ≡ b ++ y → a ≡ b
same_front a b x y len is = sym (take_at a x (length a) refl) ∙ ap (λ (l : List ℕ). take (length a) l) is ∙ take_at b y (length a) (sym len)

pub same_rest : (a b x y : List ℕ) → length a ≡ length b → a ++ x ≡ b ++ y → x ≡ y
same_rest a b x y len is = sym (drop_at a x (length a) refl) ∙ ap (λ (l : List ℕ). drop (length a) l) is ∙ drop_at b y (length a) (sym len)

pub once_16 : (m n : ℕ) → m < 2 ^ 16 → n < 2 ^ 16 → to_be_bytes w16 m ≡ to_be_bytes w16 n → m ≡ n
once_16 m n p q is = sym (from_be_bytes-to_be_bytes_2 m p) ∙ ap (from_be_bytes w16) is ∙ from_be_bytes-to_be_bytes_2 n q

pub once_32 : (m n : ℕ) → m < 2 ^ 32 → n < 2 ^ 32 → to_be_bytes w32 m ≡ to_be_bytes w32 n → m ≡ n
once_32 m n p q is = sym (from_be_bytes-to_be_bytes_4 m p) ∙ ap (from_be_bytes w32) is ∙ from_be_bytes-to_be_bytes_4 n q

pub once_64 : (m n : ℕ) → m < 2 ^ 64 → n < 2 ^ 64 → to_be_bytes w64 m ≡ to_be_bytes w64 n → m ≡ n
once_64 m n p q is = sym (from_be_bytes-to_be_bytes_8 m p) ∙ ap (from_be_bytes w64) is ∙ from_be_bytes-to_be_bytes_8 n q

-- five parts, each of its length
pub record FiveSame (a b c d e a' b' c' d' e' : List ℕ) : Type 0 where
  pub first : a ≡ a'
  pub second : b ≡ b'
  pub third : c ≡ c'
  pub fourth : d ≡ d'
  pub fifth : e ≡ e'

pub five_same : (a b c d e a' b' c' d' e' : List ℕ) → length a ≡ length a' → length b ≡ length b' → length c ≡ length c' → length d ≡ length d'
    → a ++ (b ++ (c ++ (d ++ e))) ≡ a' ++ (b' ++ (c' ++ (d' ++ e'))) → FiveSame a b c d e a' b' c' d' e'
five_same a b c d e a' b' c' d' e' la lb lc ld is =
    let is1 : b ++ (c ++ (d ++ e)) ≡ b' ++ (c' ++ (d' ++ e')) = same_rest a a' (b ++ (c ++ (d ++ e))) (b' ++ (c' ++ (d' ++ e'))) la is in
    let is2 : c ++ (d ++ e) ≡ c' ++ (d' ++ e') = same_rest b b' (c ++ (d ++ e)) (c' ++ (d' ++ e')) lb is1 in
    let is3 : d ++ e ≡ d' ++ e' = same_rest c c' (d ++ e) (d' ++ e') lc is2 in
    record {
      first = same_front a a' (b ++ (c ++ (d ++ e))) (b' ++ (c' ++ (d' ++ e'))) la is;
      second = same_front b b' (c ++ (d ++ e)) (c' ++ (d' ++ e')) lb is1;
      third = same_front c c' (d ++ e) (d' ++ e') lc is2;
      fourth = same_front d d' e e' ld is3;
      fifth = same_rest d d' e e' ld is3;
    }

pub length-numbers_text : (n : Numbers) → length (numbers_text n) ≡ 41
unfolding numbers_text
length-numbers_text n = refl

pub length-head_text : (h : Head) → length (head_text h) ≡ 59
unfolding head_text
length-head_text h = omega (arith, length-append (to_be_bytes w16 h.s) (numbers_text h.numbers ++ (to_be_bytes w64 h.at ++ (to_be_bytes w32 h.expected ++ to_be_bytes w32 h.length))), length-append (numbers_text h.numbers) (to_be_bytes w64 h.at ++ (to_be_bytes w32 h.expected ++ to_be_bytes w32 h.length)), length-numbers_text h.numbers)

tail_same : (m n : ℕ) (x y : List ℕ) → m ∷ x ≡ n ∷ y → x ≡ y
tail_same m n x y is = ap (drop 1) is

head_same : (m n : ℕ) (x y : List ℕ) → m ∷ x ≡ n ∷ y → m ≡ n
head_same m n x y is = grind arith

pub numbers_once : (n m : Numbers) → NumbersHaveTypes n → NumbersHaveTypes m → numbers_text n ≡ numbers_text m → n ≡ m
unfolding numbers_text
numbers_once n m tn tm is =
    let kind : n.kind ≡ m.kind = head_same n.kind m.kind _ _ is in
    let five = five_same (to_be_bytes w64 n.a) (to_be_bytes w64 n.b) (to_be_bytes w64 n.c) (to_be_bytes w64 n.d) (to_be_bytes w64 n.e) (to_be_bytes w64 m.a) (to_be_bytes w64 m.b) (to_be_bytes w64 m.c) (to_be_bytes w64 m.d) (to_be_bytes w64 m.e) refl refl refl refl (tail_same n.kind m.kind _ _ is) in
    let a : n.a ≡ m.a = once_64 n.a m.a tn.a tm.a five.first in
    let b : n.b ≡ m.b = once_64 n.b m.b tn.b tm.b five.second in
    let c : n.c ≡ m.c = once_64 n.c m.c tn.c tm.c five.third in
    let d : n.d ≡ m.d = once_64 n.d m.d tn.d tm.d five.fourth in
    let e : n.e ≡ m.e = once_64 n.e m.e tn.e tm.e five.fifth in
    λ i. record { kind = kind i; a = a i; b = b i; c = c i; d = d i; e = e i }

pub head_once : (h k : Head) → HeadHasTypes h → HeadHasTypes k → head_text h ≡ head_text k → h ≡ k
unfolding head_text
head_once h k th tk is =
    let five = five_same (to_be_bytes w16 h.s) (numbers_text h.numbers) (to_be_bytes w64 h.at) (to_be_bytes w32 h.expected) (to_be_bytes w32 h.length) (to_be_bytes w16 k.s) (numbers_text k.numbers) (to_be_bytes w64 k.at) (to_be_bytes w32 k.expected) (to_be_bytes w32 k.length) refl (length-numbers_text h.numbers ∙ sym (length-numbers_text k.numbers)) refl refl is in
    let s : h.s ≡ k.s = once_16 h.s k.s th.s tk.s five.first in
    let numbers : h.numbers ≡ k.numbers = numbers_once h.numbers k.numbers th.numbers tk.numbers five.second in
    let at : h.at ≡ k.at = once_64 h.at k.at th.at tk.at five.third in
    let expected : h.expected ≡ k.expected = once_32 h.expected k.expected th.expected tk.expected five.fourth in
    let len : h.length ≡ k.length = once_32 h.length k.length th.length tk.length five.fifth in
    λ i. record { s = s i; numbers = numbers i; at = at i; expected = expected i; length = len i }
