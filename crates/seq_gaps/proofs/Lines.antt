-- What holds of every line is kept by each call.
use Rattle.std.proofs.Common.{◌≡◌, ℕ, ◌+◌, ◌<◌, ◌≤◌, true, false, cond, Some, None, is_some, nat_le, max, refl, sym, ap, ◌∙◌, inl, inr, arith}
use Rattle.std.specs.Ordering.{nat_cmp, eq_by_cmp}
use Rattle.std.specs.Cmp.{unsigned_tied}
use Rattle.std.proofs.lemmas.Cmp.{nat_cmp_total}
use Rattle.std.proofs.lemmas.Bool.{ne_eqb, eq-eqb, lt-leb, false≢true, cases_lt}
use Rattle.std.specs.FinMap.{FinMap, get, insert, remove, retain_keys, len, get-empty, get-insert, get-remove, get-retain_keys, len-empty, len-insert, len-remove, nat_cmp-IsAntisymmetric}
use Rattle.seq_gaps.specs.declared.offered.TheConstants.{MAX_NUMBER, HELD_LIMIT}
use Rattle.seq_gaps.specs.Line.{Line, IsLine, fresh_line, after_fill, after_clear}
use Rattle.seq_gaps.proofs.Maps.{len-retain_keys}

module _ {X : Type 0} where
  pub line_opening : IsLine (fresh_line {T = X})
  line_opening = record {
    from_one = omega arith;
    to_end = omega arith;
    none_below = λ n l. get-empty nat_cmp n;
    none_above = λ n l. get-empty nat_cmp n;
    few = rw (len-empty nat_cmp X) (omega arith);
    horizon = omega arith;
  }

  pub line_cleared : (line : Line X) → IsLine line → IsLine (after_clear line)
  line_cleared line p = record {
    from_one = p.from_one;
    to_end = p.to_end;
    none_below = λ n l. get-empty nat_cmp n;
    none_above = λ n l. get-empty nat_cmp n;
    few = rw (len-empty nat_cmp X) (omega arith);
    horizon = omega arith;
  }

  -- the expected number is counted, and was not held
  pub line_counted : (line : Line X) → IsLine line → line.expected ≤ MAX_NUMBER → get line.held line.expected ≡ None → IsLine (record { expected = line.expected + 1; held = line.held; horizon = line.horizon })
  line_counted line p l none = record {
    from_one = omega arith;
    to_end = omega arith;
    none_below = λ n m. elim (cases_lt n line.expected) [
      | inl less ↦ p.none_below n less
      | inr more ↦ let same : n ≡ line.expected = omega arith in ap (get line.held) same ∙ none
    ];
    none_above = p.none_above;
    few = p.few;
    horizon = p.horizon;
  }

  -- a number that is held is at most the horizon
  pub held_within : (line : Line X) (n : ℕ) → IsLine line → is_some (get line.held n) ≡ true → n ≤ line.horizon
  held_within line n p h = elim (cases_lt line.horizon n) [ inl above ↦ absurd (false≢true (sym (ap is_some (p.none_above n above)) ∙ h)) | inr within ↦ within ]

  get-remove_other : (m : FinMap nat_cmp X) (n q : ℕ) → get m q ≡ None → get (remove m n) q ≡ None
  get-remove_other m n q h = get-remove nat_cmp_total m n q ∙ elim (eq_by_cmp nat_cmp q n) as (λ b. cond b None (get m q) ≡ None) [ true ↦ refl | false ↦ h ]

  -- the expected number was held, and leaves
  pub line_taken : (line : Line X) → IsLine line → is_some (get line.held line.expected) ≡ true → IsLine (record { expected = line.expected + 1; held = remove line.held line.expected; horizon = line.horizon })
  line_taken line p h =
      let within = held_within line line.expected p h in
      record {
        from_one = omega arith;
        to_end = omega (arith, p.horizon);
        none_below = λ n m. elim (cases_lt n line.expected) [
          | inl less ↦ get-remove_other line.held line.expected n (p.none_below n less)
          | inr more ↦ get-remove nat_cmp_total line.held line.expected n ∙ ap (λ b. cond b None (get line.held n)) (unsigned_tied n line.expected ∙ eq-eqb n line.expected (omega arith))
        ];
        none_above = λ n m. get-remove_other line.held line.expected n (p.none_above n m);
        few = rw (len-remove nat_cmp_total line.held line.expected, h) (omega (arith, p.few));
        horizon = p.horizon;
      }

  get-insert_other : (m : FinMap nat_cmp X) (n q : ℕ) (x : X) → (q ≡ n → ⊥) → get (insert m n x) q ≡ get m q
  get-insert_other m n q x h = get-insert nat_cmp_total m n x q ∙ ap (λ b. cond b (Some x) (get m q)) (unsigned_tied q n ∙ ne_eqb q n h)

  -- an early item is held, for which there was room
  pub line_held : (line : Line X) (n : ℕ) (x : X) → IsLine line → line.expected < n → n ≤ MAX_NUMBER → get line.held n ≡ None → len line.held < HELD_LIMIT → IsLine (record { expected = line.expected; held = insert line.held n x; horizon = max line.horizon n })
  line_held line n x p early l none room = record {
    from_one = p.from_one;
    to_end = p.to_end;
    none_below = λ q m. get-insert_other line.held n q x (λ same. omega arith) ∙ p.none_below q m;
    none_above = λ q m. get-insert_other line.held n q x (λ same. omega arith) ∙ p.none_above q (omega arith);
    few = rw (len-insert nat_cmp_total line.held n x, none) (omega arith);
    horizon = omega (arith, p.horizon);
  }

  get-retain_other : (m : FinMap nat_cmp X) (to q : ℕ) → get m q ≡ None → get (retain_keys m (nat_le to)) q ≡ None
  get-retain_other m to q h = get-retain_keys m (nat_le to) q (λ x tied. ap (nat_le to) (sym (nat_cmp-IsAntisymmetric q x tied))) ∙ elim (nat_le to q) as (λ b. cond b (get m q) None ≡ None) [ true ↦ h | false ↦ refl ]

  get-retain_below : (m : FinMap nat_cmp X) (to q : ℕ) → q < to → get (retain_keys m (nat_le to)) q ≡ None
  get-retain_below m to q l = get-retain_keys m (nat_le to) q (λ x tied. ap (nat_le to) (sym (nat_cmp-IsAntisymmetric q x tied))) ∙ rw (lt-leb to q l)

  pub line_filled : (line : Line X) (to : ℕ) → IsLine line → line.expected ≤ to → to ≤ MAX_NUMBER + 1 → IsLine (after_fill line to)
  line_filled line to p forward l = record {
    from_one = omega (arith, p.from_one);
    to_end = l;
    none_below = λ q m. get-retain_below line.held to q m;
    none_above = λ q m. get-retain_other line.held to q (p.none_above q m);
    few = omega (arith, len-retain_keys line.held (nat_le to), p.few);
    horizon = p.horizon;
  }
