-- What a connection handles is what came first.
use Rattle.std.proofs.Common.{◌≡◌, ℕ, Bool, true, false, List, [], ◌∷◌, ◌++◌, ap, refl, if◌then◌else◌}
use Rattle.std.specs.Prelude.{Option, None, Some, not, is_some, ◌||◌}
use Rattle.session_core.specs.declared.causes.Cause.{Cause}
use Rattle.session_core.specs.Receive.{receive}
use Rattle.session_core.specs.Laws.{HandlesWhatCameFirst}
use Rattle.session_core.specs.Runs.{behind, binds, unless_ended, until_end}
use Rattle.session_core.specs.State.{State}

onward : (body : List ℕ) (ended : Option Cause) (some all : List (List ℕ)) → (rest : List (List ℕ)) × (some ++ rest ≡ all) → (rest : List (List ℕ)) × ((body ∷ unless_ended ended some) ++ rest ≡ body ∷ all)
onward body None some all more = (more.0, ap (λ bodies. body ∷ bodies) more.1)
onward body (Some cause) some all more = (all, refl)

first_until_end : (bodies : List (List ℕ)) (state : State) → (rest : List (List ℕ)) × (until_end state bodies ++ rest ≡ bodies)
first_until_end [] state = ([], refl)
first_until_end (body ∷ bodies) state =
    onward body (receive state body 0).end (until_end (behind state body) bodies) bodies (first_until_end bodies (behind state body))

either : (refused : Bool) (state : State) (body : List ℕ) (bodies : List (List ℕ)) → (rest : List (List ℕ)) × ((if refused then body ∷ [] else until_end state (body ∷ bodies)) ++ rest ≡ body ∷ bodies)
either true state body bodies = (bodies, refl)
either false state body bodies = first_until_end (body ∷ bodies) state

pub handles_what_came_first : HandlesWhatCameFirst
handles_what_came_first names state bound [] = ([], refl)
handles_what_came_first names state bound (body ∷ bodies) = either (not (binds names body) || is_some bound) state body bodies
