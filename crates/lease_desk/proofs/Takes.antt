-- What a seat knows of a session, once items were taken.
use Rattle.std.proofs.Common.{◌≡◌, ℕ, zero, suc, ◌≤◌, List, [], ◌∷◌, ◌++◌, length, set, None, refl, sym, ap, ◌∙◌}
use Rattle.std.proofs.lemmas.List.{set-get_or}
use Rattle.fix_fields.specs.Fit.{unfit_at}
use Rattle.fix_fields.specs.declared.limits.TheConstants.{LONGEST_APPLICATION_BODY}
use Rattle.fix_fields.specs.Frame.{IsBody}
use Rattle.switchboard.specs.Fit.{IsFit}
use Rattle.lease_words.specs.declared.item.Item.{Item}
use Rattle.lease_words.specs.declared.view.EngineSession.{EngineSession}
use Rattle.lease_words.specs.Sees.{after_take}
use Rattle.lease_words.specs.Views.{EngineView, engine_at, last_library, no_engine_session, with_engine_at}
use Rattle.lease_desk.specs.Desk.{TakesItems, after_takes, bodies_of}

set_again : {T : Type 0} (xs : List T) (i : ℕ) (a b : T) → set (set xs i a) i b ≡ set xs i b
set_again [] i a b = refl
set_again (x ∷ xs) zero a b = refl
set_again (x ∷ xs) (suc i) a b = ap (λ ys. x ∷ ys) (set_again xs i a b)

-- a seat that knows of a session what it knows
pub seat_same : (v : EngineView) (s : ℕ) → v ≡ with_engine_at v s (engine_at v s)
seat_same v s = ap (λ sessions. record v { knows = record (v.knows) { sessions = sessions } }) (sym (set-get_or v.knows.sessions s no_engine_session))

pub seat_again : (v : EngineView) (s : ℕ) (a b : EngineSession) → with_engine_at (with_engine_at v s a) s b ≡ with_engine_at v s b
seat_again v s a b = ap (λ sessions. record v { knows = record (v.knows) { sessions = sessions } }) (set_again v.knows.sessions s a b)

-- one item more was taken
pub takes_more : (items : List Item) (item : Item) (es : EngineSession) → after_takes (items ++ item ∷ []) es ≡ after_take (after_takes items es) (last_library (after_takes items es)) (item ∷ [])
takes_more [] item es = refl
takes_more (first ∷ items) item es = takes_more items item (after_take es (last_library es) (first ∷ []))

pub bodies_more : (items : List Item) (item : Item) → bodies_of (items ++ item ∷ []) ≡ bodies_of items ++ item.body ∷ []
bodies_more [] item = refl
bodies_more (first ∷ items) item = ap (λ bodies. first.body ∷ bodies) (bodies_more items item)

pub first_take : (v : EngineView) (s : ℕ) → TakesItems s v v []
first_take v s = record { items = []; bodies_are = refl; seat = seat_same v s; known = refl }

pub next_take : (s : ℕ) (old mid new : EngineView) (bodies : List (List ℕ)) (item : Item) → TakesItems s old mid bodies
    → new ≡ with_engine_at mid s (after_take (engine_at mid s) (last_library (engine_at mid s)) (item ∷ []))
    → engine_at new s ≡ after_take (engine_at mid s) (last_library (engine_at mid s)) (item ∷ [])
    → TakesItems s old new (bodies ++ item.body ∷ [])
next_take s old mid new bodies item taken seat known =
    let one = λ (es : EngineSession). after_take es (last_library es) (item ∷ []) in
    let more : one (engine_at mid s) ≡ after_takes (taken.items ++ item ∷ []) (engine_at old s) = ap one taken.known ∙ sym (takes_more taken.items item (engine_at old s)) in
    record {
      items = taken.items ++ item ∷ [];
      bodies_are = ap (λ bs. bs ++ item.body ∷ []) taken.bodies_are ∙ sym (bodies_more taken.items item);
      seat = seat ∙ ap (λ v. with_engine_at v s (one (engine_at mid s))) taken.seat ∙ seat_again old s (after_takes taken.items (engine_at old s)) (one (engine_at mid s)) ∙ ap (λ es. with_engine_at old s es) more;
      known = known ∙ more;
    }

-- the body of an item can be written
pub item_fit : ((body : List ℕ) → unfit_at body ≡ None → IsBody body) → (body : List ℕ) → unfit_at body ≡ None → length body ≤ LONGEST_APPLICATION_BODY → IsFit body
item_fit law body fit short = record { is_body = law body fit; short = short }
