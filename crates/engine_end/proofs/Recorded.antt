-- The records of sessions, and the seats that are taken in, one after another.
use Rattle.std.proofs.Common.{◌≡◌, List, [], ◌∷◌, ◌++◌, map, Result, Ok, Err, OnErr, sym, ap, ◌∙◌}
use Rattle.std.proofs.lemmas.List.{map-append, reverse-append}
use Rattle.lease_words.specs.Views.{LibraryView}
use Rattle.lease_words.specs.declared.view.LibraryKnows.{LibraryKnows}
use Rattle.engine_end.specs.Finishing.{settled_behind}

-- one element more on both sides, of which both tell the same
pub one_more : {A B C : Type 0} (f : A → C) (g : B → C) (xs xs' : List A) (ys : List B) (x : A) (y : B) → xs' ≡ xs ++ x ∷ [] → f x ≡ g y → map f xs ≡ map g ys → map f xs' ≡ map g (ys ++ y ∷ [])
one_more f g xs xs' ys x y pushed same before =
    ap (map f) pushed ∙ map-append f xs (x ∷ []) ∙ ap (λ zs. zs ++ f x ∷ []) before ∙ ap (λ z. map g ys ++ z ∷ []) same ∙ sym (map-append g ys (y ∷ []))

-- one seat more
pub settled_more : (seats : List LibraryView) (seat : LibraryView) (settled : List LibraryKnows) → settled_behind (seats ++ seat ∷ []) settled ≡ seat.knows ∷ settled_behind seats settled
settled_more seats seat settled = ap (λ (vs : List LibraryView). map (λ v. v.knows) vs ++ settled) (reverse-append seats (seat ∷ []))

-- what holds, holds of an error
pub on_err : {T E P : Type 0} (r : Result T E) → P → OnErr r P
on_err (Ok x) holds = tt
on_err (Err e) holds = holds
