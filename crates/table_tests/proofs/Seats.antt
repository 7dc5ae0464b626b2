-- The seats that come with a new table.
use Rattle.std.proofs.Common.{◌≡◌, ℕ, zero, suc, List, [], ◌∷◌, refl, sym, ap, ◌∙◌, subst}
use Rattle.lease_words.specs.declared.view.Shape.{Shape}
use Rattle.lease_words.specs.Tokens.{new_engine_seat, new_library_seats}
use Rattle.lease_words.specs.Views.{TableRef, EngineView, LibraryView, engine_at, engine_session, no_engine_session, new_engine_sessions}

abbrev first_table : TableRef → List LibraryView → TableRef
first_table t [] = t
first_table t (seat ∷ seats) = seat.table

first_new : (t : TableRef) (n : ℕ) → first_table t (new_library_seats t 1 n) ≡ t
first_new t zero = refl
first_new t (suc n) = refl

pub first_seat : (t : TableRef) (n : ℕ) (seat : LibraryView) (others : List LibraryView) → new_library_seats t 1 n ≡ seat ∷ others → seat.table ≡ t
first_seat t n seat others e = ap (first_table t) (sym e) ∙ first_new t n

published_first : (t : TableRef) (n : ℕ) → t.shape.sessions ≡ n → (engine_at (new_engine_seat t) 0).published ≡ 0
published_first t zero e = subst (λ m. (engine_session (record { sessions = new_engine_sessions t.shape 0 m; beats = (new_engine_seat t).knows.beats; taking = 0 }) 0).published ≡ 0) (sym e) refl
published_first t (suc n) e = subst (λ m. (engine_session (record { sessions = new_engine_sessions t.shape 0 m; beats = (new_engine_seat t).knows.beats; taking = 0 }) 0).published ≡ 0) (sym e) refl

pub new_unpublished : (engine : EngineView) (t : TableRef) → engine ≡ new_engine_seat t → (engine_at engine 0).published ≡ 0
new_unpublished engine t e = subst (λ v. (engine_at v 0).published ≡ 0) (sym e) (published_first t t.shape.sessions refl)
