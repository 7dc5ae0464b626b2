-- The parts of a stretch, by their places.
use Rattle.std.proofs.Common.{◌≡◌, ℕ, ◌+◌, ◌-◌, ◌%◌, Bool, cond, List, [], ◌∷◌, ◌++◌, length, take, drop, codes, sum, sym, ap, ◌∙◌, arith, append_assoc, length-append, take_at, drop_at, eq-eqb, ne_eqb}
use Rattle.fix_frame.specs.Frame.{head, number_of, checksum, summed_bytes, stretch_of}
use Rattle.fix_frame.specs.Cut.{good, garbled, piece_of}
use Rattle.fix_frame.specs.Look.{IsStretchText}
use Rattle.fix_frame.proofs.Form.{check_text}
use Rattle.fix_frame.proofs.Standing.{length-stretch}

length-summed_bytes : (f b : List ℕ) → length (summed_bytes f b) ≡ 13 + length f + length b
length-summed_bytes f b = omega (arith, length-append f (1 ∷ b))

-- what is summed, and what stands behind it
stretch-summed_bytes : (f b d : List ℕ) → stretch_of f b d ≡ summed_bytes f b ++ check_text d []
stretch-summed_bytes f b d = simp append_assoc

module _ (s : List ℕ) (at : ℕ) (f b d : List ℕ) (h : IsStretchText s at f b d) where
  pub length-text : length s ≡ 20 + length f + length b
  length-text = ap length h.whole ∙ length-stretch f b d h.check_field.three

  text : s ≡ summed_bytes f b ++ check_text d []
  text = h.whole ∙ stretch-summed_bytes f b d

  pub summed_part : take (length s - 7) s ≡ summed_bytes f b
  summed_part = ap (λ (x : List ℕ). take (length s - 7) x) text ∙ take_at (summed_bytes f b) (check_text d []) (length s - 7) (omega (arith, length-text, length-summed_bytes f b))

  pub body_part : take (length s - 7 - at) (drop at s) ≡ b
  body_part =
      let front = head ++ (f ++ 1 ∷ []) in
      let regroup : s ≡ front ++ (b ++ check_text d []) = h.whole ∙ ap (λ (x : List ℕ). head ++ x) (sym (append_assoc f (1 ∷ []) (b ++ check_text d []))) in
      let size : length front ≡ at = omega (arith, length-append f (1 ∷ []), h.place) in
      let behind : drop at s ≡ b ++ check_text d [] = ap (drop at) regroup ∙ drop_at front (b ++ check_text d []) at size in
      ap (λ (x : List ℕ). take (length s - 7 - at) x) behind ∙ take_at b (check_text d []) (length s - 7 - at) (omega (arith, length-text, h.place))

  pub digits_part : take (length s - 7 + 4 - 1 + 3 - (length s - 7 + 4 - 1)) (drop (length s - 7 + 4 - 1) s) ≡ d
  digits_part =
      let front = summed_bytes f b ++ codes "10=" in
      let regroup : s ≡ front ++ (d ++ 1 ∷ []) = text ∙ sym (append_assoc (summed_bytes f b) (codes "10=") (d ++ 1 ∷ [])) in
      let size : length front ≡ length s - 7 + 4 - 1 = omega (arith, length-append (summed_bytes f b) (codes "10="), length-summed_bytes f b, length-text) in
      let behind : drop (length s - 7 + 4 - 1) s ≡ d ++ 1 ∷ [] = ap (drop (length s - 7 + 4 - 1)) regroup ∙ drop_at front (d ++ 1 ∷ []) (length s - 7 + 4 - 1) size in
      ap (λ (x : List ℕ). take (length s - 7 + 4 - 1 + 3 - (length s - 7 + 4 - 1)) x) behind ∙ take_at d (1 ∷ []) (length s - 7 + 4 - 1 + 3 - (length s - 7 + 4 - 1)) (omega (arith, h.check_field.three))

  -- the two sums as the code takes them
  abbrev pub written : ℕ
  written = number_of (take (length s - 7 + 4 - 1 + 3 - (length s - 7 + 4 - 1)) (drop (length s - 7 + 4 - 1) s))

  abbrev pub found : ℕ
  found = sum (take (length s - 7) s) % 256

  pub is_good : written ≡ found → good (take (length s - 7 - at) (drop at s)) ≡ piece_of f b d
  is_good e =
      let same : number_of d ≡ checksum f b = ap number_of (sym digits_part) ∙ (e ∙ ap (λ (x : List ℕ). sum x % 256) summed_part) in
      ap good body_part ∙ ap (λ (t : Bool). cond t (good b) (garbled (length (stretch_of f b d)))) (sym (eq-eqb _ _ same))

  pub is_garbled : (written ≡ found → ⊥) → garbled (length s) ≡ piece_of f b d
  is_garbled e =
      let other : number_of d ≡ checksum f b → ⊥ = λ same. e (ap number_of digits_part ∙ (same ∙ ap (λ (x : List ℕ). sum x % 256) (sym summed_part))) in
      ap (λ (x : List ℕ). garbled (length x)) h.whole ∙ ap (λ (t : Bool). cond t (good b) (garbled (length (stretch_of f b d)))) (sym (ne_eqb _ _ other))
