-- When bytes are the body of a frame.
use Rattle.std.proofs.Common.{◌≡◌, ℕ, true, false, List, [], ◌∷◌, ◌++◌, length, take, drop, refl, sym, ap, ◌∙◌, codes, nat_le, subst, eqb-true}
use Rattle.std.proofs.lemmas.Bool.{and_parts}
use Rattle.std.proofs.lemmas.List.{take-append-drop}
use Rattle.std.proofs.lemmas.Slice.Eq.{bytes_eq-Decides}
use Rattle.fix_frame.specs.Frame.{IsBody, frame_of}
use Rattle.fix_frame.specs.declared.layout.TheConstants.{LONGEST_FRAME}
use Rattle.script_text.specs.Args.{ends_field, is_body_text, is_framed}

ends_field-split : (xs : List ℕ) → ends_field xs ≡ true → (m : List ℕ) × (xs ≡ m ++ 1 ∷ [])
ends_field-split [] e = cc
ends_field-split (b ∷ []) e = ([], ap (λ n. n ∷ []) (eqb-true b 1 e))
ends_field-split (b ∷ c ∷ xs) e = let rest = ends_field-split (c ∷ xs) e in (b ∷ rest.0, ap (λ ys. b ∷ ys) rest.1)

ends_field-end : (m : List ℕ) → ends_field (m ++ 1 ∷ []) ≡ true
ends_field-end [] = refl
ends_field-end (b ∷ []) = refl
ends_field-end (b ∷ c ∷ m) = ends_field-end (c ∷ m)

pub IsBody-from_text : (bytes : List ℕ) → is_body_text bytes ≡ true → IsBody bytes
IsBody-from_text bytes e =
    let parts = and_parts _ _ e in
    let head : take 3 bytes ≡ codes "35=" = (bytes_eq-Decides (take 3 bytes) (codes "35=")).0 parts.0 in
    let rest = ends_field-split (drop 3 bytes) parts.1 in
    record {
      middle = rest.0;
      text = sym (take-append-drop 3 bytes) ∙ ap (λ xs. xs ++ drop 3 bytes) head ∙ ap (λ xs. codes "35=" ++ xs) rest.1;
    }

pub is_body_text-from : (bytes : List ℕ) → IsBody bytes → is_body_text bytes ≡ true
is_body_text-from bytes h = subst (λ (xs : List ℕ). is_body_text xs ≡ true) (sym h.text) (ends_field-end h.middle)

pub framed_not : (bytes : List ℕ) → is_body_text bytes ≡ false → false ≡ is_framed bytes
unfolding is_framed
framed_not bytes e = rw e refl

pub framed_is : (bytes : List ℕ) → IsBody bytes → nat_le (length (frame_of bytes)) LONGEST_FRAME ≡ is_framed bytes
unfolding is_framed
framed_is bytes h = rw (is_body_text-from bytes h) refl

pub not_body : (bytes : List ℕ) → (IsBody bytes → ⊥) → is_body_text bytes ≡ false
not_body bytes none = elim (is_body_text bytes) as (λ v. is_body_text bytes ≡ v → is_body_text bytes ≡ false) [ true ↦ λ e. absurd (none (IsBody-from_text bytes e)) | false ↦ λ e. e ] refl
