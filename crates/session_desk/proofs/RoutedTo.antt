-- The session to which a first message is routed.
use Rattle.std.proofs.Common.{◌≡◌, ℕ, ◌<◌, [], get_or, length, refl, subst, Bool, true, false, List, Option, None, Some, Result, Ok, Err, sym, ap}
use Rattle.fix_fields.specs.Field.{Field}
use Rattle.session_core.specs.Route.{bound_to, demand, demand_some, route, session_of, terms_of}
use Rattle.session_core.specs.Said.{has_value}
use Rattle.session_core.specs.declared.causes.Cause.{Cause}
use Rattle.session_core.specs.declared.causes.Cause.TheVariants.{NoSuchSession, NotLogon}
use Rattle.session_core.specs.declared.names.Names.{Names}
use Rattle.std.proofs.lemmas.Option.{slice_get-get_or, slice_get_read}
use Rattle.std.specs.Prelude.{IfOk, codes}
use Rattle.switchboard.specs.Board.{Board}
use Rattle.session_desk.specs.Steps.{AreRoutes, IsRoute}
use Rattle.session_desk.specs.declared.routes.Routes.{Routes}

by_terms : (s : ℕ) (terms : _) (j : ℕ) → bound_to s terms ≡ Ok j → s ≡ j
by_terms s (Ok terms) j is = cc
by_terms s (Err cause) j is = absurd (cc)

by_session : (found : Option ℕ) (terms : _) (j : ℕ) → demand_some found NoSuchSession (λ s. bound_to s terms) ≡ Ok j → found ≡ Some j
by_session None terms j is = absurd (cc)
by_session (Some s) terms j is = ap (λ n. Some n) (by_terms s terms j is)

by_type : (is_logon : Bool) (found : Option ℕ) (terms : _) (j : ℕ) → demand is_logon NotLogon (demand_some found NoSuchSession (λ s. bound_to s terms)) ≡ Ok j → found ≡ Some j
by_type true found terms j is = by_session found terms j is
by_type false found terms j is = absurd (cc)

-- a message that is routed has the names of that session
pub routed_by_names : (fields : List Field) (names : List Names) (j : ℕ) → route fields names ≡ Ok j → session_of fields names ≡ Some j
routed_by_names fields names j is = by_type (has_value 35 (codes "A") fields) (session_of fields names) (terms_of fields) j is

pub on_ok_names : (fields : List Field) (names : List Names) (routed : Result ℕ Cause) → routed ≡ route fields names → IfOk routed (λ j. session_of fields names ≡ Some j)
on_ok_names fields names (Ok j) is = routed_by_names fields names j (sym is)
on_ok_names fields names (Err cause) is = tt

pub no_names : Names
no_names = record { us = []; them = [] }

-- the session of a route accepts
pub route_at : (board : Board) (routes : Routes) (j s : ℕ) → AreRoutes board routes → j < length routes.names.items → s ≡ get_or routes.sessions.items j s → IsRoute board s (get_or routes.names.items j no_names)
route_at board routes j s are within is =
    are.each j s (get_or routes.names.items j no_names)
    (slice_get_read routes.sessions.items (length routes.sessions.items) j s refl (subst (λ n. j < n) (sym are.count) within) is)
    (slice_get-get_or routes.names.items j no_names within)
