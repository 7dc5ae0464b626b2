-- The lines of a text are the text.
use Rattle.std.proofs.Common.{◌≡◌, inl, inr, ℕ, ◌==◌, not, cond, subst, true, false, List, [], ◌∷◌, length, refl, sym, ap, arith, eqb-true}
use Rattle.std.proofs.lemmas.Bool.{and_parts, and_from}
use Rattle.std.specs.List.{list_all}
use Rattle.script_text.specs.Laws.{AreLines, is_unbroken}
use Rattle.script_text.specs.Meaning.{lines_of, onto_first}

lines_LF : (bytes : List ℕ) (lines : List (List ℕ)) → AreLines bytes lines → AreLines (10 ∷ bytes) ([] ∷ lines)
lines_LF bytes lines h =
    record {
      unbroken = h.unbroken;
      whole = elim h.whole [
        | inl is ↦ inl (ap (λ (xs : List ℕ). 10 ∷ xs) is)
        | inr is ↦ inr (ap (λ (xs : List ℕ). 10 ∷ xs) is)
      ];
    }

lines_other : (b : ℕ) (bytes : List ℕ) (lines : List (List ℕ)) → b == 10 ≡ false → AreLines bytes lines → AreLines (b ∷ bytes) (onto_first b lines)
lines_other b [] [] other h =
    record { unbroken = and_from _ _ (and_from _ _ (ap not other) refl) refl; whole = inr refl }
lines_other b (c ∷ bytes) [] other h =
    elim h.whole [
      | inl is ↦ absurd (let sizes = ap length is in omega (arith, sizes))
      | inr is ↦ absurd (let sizes = ap length is in omega (arith, sizes))
    ]
lines_other b bytes (line ∷ lines) other h =
    let parts = and_parts (is_unbroken line) (list_all is_unbroken lines) h.unbroken in
    record {
      unbroken = and_from _ _ (and_from _ _ (ap not other) parts.0) parts.1;
      whole = elim h.whole [
        | inl is ↦ inl (ap (λ (xs : List ℕ). b ∷ xs) is)
        | inr is ↦ inr (ap (λ (xs : List ℕ). b ∷ xs) is)
      ];
    }

pub lines-whole_text : (text : List ℕ) → AreLines text (lines_of text)
unfolding lines_of
lines-whole_text [] = record { unbroken = refl; whole = inl refl }
lines-whole_text (b ∷ bytes) =
    elim (b == 10) as (λ v. b == 10 ≡ v → AreLines (b ∷ bytes) (cond v ([] ∷ lines_of bytes) (onto_first b (lines_of bytes)))) [
      | true ↦ λ e. subst (λ n. AreLines (n ∷ bytes) ([] ∷ lines_of bytes)) (sym (eqb-true b 10 e)) (lines_LF bytes (lines_of bytes) (lines-whole_text bytes))
      | false ↦ λ e. lines_other b bytes (lines_of bytes) e (lines-whole_text bytes)
    ] refl
