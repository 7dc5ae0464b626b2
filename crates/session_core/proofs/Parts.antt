-- Runs over messages and connections, told in two parts.
use Rattle.std.proofs.Common.{◌≡◌, ℕ, ◌⊎◌, List, [], ◌∷◌, ◌++◌, ap, sym, ◌∙◌, subst, refl, inl, inr}
use Rattle.std.specs.Prelude.{Option, None, Some, IsNone, IsSome}
use Rattle.std.proofs.lemmas.List.{append_assoc}
use Rattle.session_core.specs.Laws.{RunsInParts, HandledInParts}
use Rattle.session_core.specs.Receive.{receive}
use Rattle.session_core.specs.Runs.{behind, behind_all, acts_on, acts_of, connection_acts, after_connection, after_connections, unless_ended, until_end, NoneEnds, LastEnds}
use Rattle.session_core.specs.State.{State}
use Rattle.session_core.specs.declared.causes.Cause.{Cause}

behind_parts : (first second : List (List ℕ)) (state : State) → behind_all state (first ++ second) ≡ behind_all (behind_all state first) second
behind_parts [] second state = refl
behind_parts (body ∷ first) second state = behind_parts first second (behind state body)

acts_parts : (first second : List (List ℕ)) (state : State) → acts_on state (first ++ second) ≡ acts_on state first ++ acts_on (behind_all state first) second
acts_parts [] second state = refl
acts_parts (body ∷ first) second state =
    ap (λ acts. (receive state body 0).acts ++ acts) (acts_parts first second (behind state body))
    ∙ sym (append_assoc (receive state body 0).acts (acts_on (behind state body) first) (acts_on (behind_all (behind state body) first) second))

connections_parts : (first second : List (List (List ℕ))) (state : State) → acts_of state (first ++ second) ≡ acts_of state first ++ acts_of (after_connections state first) second
connections_parts [] second state = refl
connections_parts (bodies ∷ first) second state =
    ap (λ acts. connection_acts state bodies ++ acts) (connections_parts first second (after_connection state bodies))
    ∙ sym (append_assoc (connection_acts state bodies) (acts_of (after_connection state bodies) first) (acts_of (after_connections (after_connection state bodies) first) second))

behind_connections_parts : (first second : List (List (List ℕ))) (state : State) → after_connections state (first ++ second) ≡ after_connections (after_connections state first) second
behind_connections_parts [] second state = refl
behind_connections_parts (bodies ∷ first) second state = behind_connections_parts first second (after_connection state bodies)

pub runs_in_parts : RunsInParts
runs_in_parts = record {
  behind = λ state first second. behind_parts first second state;
  acts = λ state first second. acts_parts first second state;
  connections = λ state first second. connections_parts first second state;
  behind_connections = λ state first second. behind_connections_parts first second state;
}

-- where a message doesn't end the connection, the next ones follow
unless_none : (end : Option Cause) (bodies : List (List ℕ)) → IsNone end → unless_ended end bodies ≡ bodies
unless_none None bodies none = refl
unless_none (Some cause) bodies none = absurd cc

all_handled : (bodies : List (List ℕ)) (state : State) → NoneEnds state bodies → until_end state bodies ≡ bodies
all_handled [] state none = refl
all_handled (body ∷ bodies) state none =
    ap (λ rest. body ∷ rest) (unless_none (receive state body 0).end _ none.0 ∙ all_handled bodies (behind state body) none.1)

goes_on : (first second : List (List ℕ)) (state : State) → NoneEnds state first → until_end state (first ++ second) ≡ first ++ until_end (behind_all state first) second
goes_on [] second state none = refl
goes_on (body ∷ first) second state none =
    ap (λ rest. body ∷ rest) (unless_none (receive state body 0).end _ none.0 ∙ goes_on first second (behind state body) none.1)

-- a message more in front
last_behind : (state : State) (body : List ℕ) (bodies : List (List ℕ)) → IsNone (receive state body 0).end → LastEnds (behind state body) bodies → LastEnds state (body ∷ bodies)
last_behind state body bodies none last = record {
  before = body ∷ last.before;
  last = last.last;
  are = ap (λ rest. body ∷ rest) last.are;
  none_before = (none, last.none_before);
  ends = last.ends;
}

one_more : (state : State) (body : List ℕ) (bodies : List (List ℕ)) (end : Option Cause) → (receive state body 0).end ≡ end → NoneEnds (behind state body) bodies ⊎ LastEnds (behind state body) (until_end (behind state body) bodies) → NoneEnds state (body ∷ bodies) ⊎ LastEnds state (body ∷ unless_ended end (until_end (behind state body) bodies))
one_more state body bodies None is (inl none) = inl (subst (λ (o : Option Cause). IsNone o) (sym is) refl, none)
one_more state body bodies None is (inr last) = inr (last_behind state body _ (subst (λ (o : Option Cause). IsNone o) (sym is) refl) last)
one_more state body bodies (Some cause) is rest =
    inr (record { before = []; last = body; are = refl; none_before = tt; ends = subst (λ (o : Option Cause). IsSome o) (sym is) refl })

one_ends : (bodies : List (List ℕ)) (state : State) → NoneEnds state bodies ⊎ LastEnds state (until_end state bodies)
one_ends [] state = inl tt
one_ends (body ∷ bodies) state = one_more state body bodies (receive state body 0).end refl (one_ends bodies (behind state body))

more_or_ended : (state : State) (body : List ℕ) (first second : List (List ℕ)) (end : Option Cause) → (receive state body 0).end ≡ end → NoneEnds (behind state body) first ⊎ (until_end (behind state body) (first ++ second) ≡ until_end (behind state body) first) → NoneEnds state (body ∷ first) ⊎ (body ∷ unless_ended end (until_end (behind state body) (first ++ second)) ≡ body ∷ unless_ended end (until_end (behind state body) first))
more_or_ended state body first second None is (inl none) = inl (subst (λ (o : Option Cause). IsNone o) (sym is) refl, none)
more_or_ended state body first second None is (inr same) = inr (ap (λ rest. body ∷ rest) same)
more_or_ended state body first second (Some cause) is rest = inr refl

-- none of the messages ends the connection, or later ones change nothing
pub none_or_ended : (first second : List (List ℕ)) (state : State) → NoneEnds state first ⊎ (until_end state (first ++ second) ≡ until_end state first)
none_or_ended [] second state = inl tt
none_or_ended (body ∷ first) second state = more_or_ended state body first second (receive state body 0).end refl (none_or_ended first second (behind state body))

pub handled_in_parts : HandledInParts
handled_in_parts = record {
  all = λ state bodies none. all_handled bodies state none;
  one_ends = λ state bodies. one_ends bodies state;
  goes_on = λ state first second none. goes_on first second state none;
  none_or_ended = λ state first second. none_or_ended first second state;
}
