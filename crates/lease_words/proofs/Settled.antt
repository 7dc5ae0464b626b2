-- A settled library's lane is taken whole where nothing is pending.
use Rattle.std.proofs.Common.{◌≡◌, ℕ, ◌-◌, ◌≤◌, List, [], ◌∷◌, ◌++◌, length, refl, sym, ap, ◌∙◌, arith, length-append, append-nil}
use native.Mathlib.Decide.{ℕ_discrete}
use mathlib.Core.List.{IsPrefix}
use Rattle.lease_words.specs.declared.view.EngineSession.{EngineSession}
use Rattle.lease_words.specs.declared.view.LibraryKnows.{LibraryKnows}
use Rattle.lease_words.specs.Views.{pending, taken_of, library_session, last_library, shown_sends}
use Rattle.lease_words.specs.Facts.{OthersTaken}
use Rattle.lease_words.specs.Tells.{IsSettled}

-- a beginning as long as the whole is the whole
whole : {A : Type 0} (xs ys : List A) → IsPrefix xs ys → length xs ≡ length ys → xs ≡ ys
whole {A} xs ys p same = sym (append-nil xs) ∙ (ap (λ (l : List A). xs ++ l) (sym (none_left p.0 (let e = ap length p.1 in omega (arith, length-append xs p.0)))) ∙ p.1)
  where
    none_left : (l : List A) → length l ≡ 0 → l ≡ []
    none_left [] e = refl
    none_left (x ∷ xs) e = absurd (omega arith)

all_taken : (libraries : ℕ) (es : EngineSession) (library : ℕ) → OthersTaken libraries es → pending es ≡ 0 → 1 ≤ library → library ≤ libraries → Dec (library ≡ last_library es) → length (taken_of es library) ≡ shown_sends es library
all_taken libraries es library others none one most (yes last) =
    let le : length (taken_of es library) ≤ shown_sends es library = (others library one most).0 in
    let left : shown_sends es library - length (taken_of es library) ≡ 0 = ap (λ (n : ℕ). shown_sends es n - length (taken_of es n)) last ∙ none in
    omega arith
all_taken libraries es library others none one most (no other) = (others library one most).1 other

pub settled_taken : (libraries s : ℕ) (es : EngineSession) (k : LibraryKnows) → IsSettled s es k → OthersTaken libraries es → pending es ≡ 0 → 1 ≤ k.number → k.number ≤ libraries → taken_of es k.number ≡ (library_session k s).items
settled_taken libraries s es k is others none one most =
    whole (taken_of es k.number) (library_session k s).items is.taken (all_taken libraries es k.number others none one most (ℕ_discrete k.number (last_library es)) ∙ sym is.all)
