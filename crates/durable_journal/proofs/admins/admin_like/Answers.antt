use Rattle.std.proofs.Common.{refl, arith}
use Rattle.durable_journal.specs.Admins.{IsTextOf}
use Rattle.durable_journal.proofs.Sessions.{logon_arm, heartbeat_arm, test_request_arm, resend_arm, reject_arm, logout_arm, other_arm, none_arm, both_ok}
use Rattle.std.specs.Prelude.{Some, None}
use Rattle.session_core.specs.declared.acts.Admin.TheVariants.{TestRequest}
use Rattle.durable_journal.proofs.admins.admin_like.Goals as goal

pub returns-in_default-clause-only : goal.returns-in_default-clause-only
returns-in_default-clause-only c = none_arm c.args.body.now c.in_default.ensures.none None

pub returns-in-65-clause-only : goal.returns-in-65-clause-only
returns-in-65-clause-only c = logon_arm c.args.body.now c.in-Some.rest.now c.in-Some.kind c.logon_like.result c.in-Some.ensures.found c.in-65.is c.logon_like.ensures.only

pub returns-in-48-clause-only : goal.returns-in-48-clause-only
returns-in-48-clause-only c =
    both_ok c.heartbeat_like.result _ _ (IsTextOf c.args.body.now)
    (λ found none some. heartbeat_arm c.args.body.now c.in-Some.rest.now c.in-Some.kind found c.in-Some.ensures.found c.in-48.is none some)
    c.heartbeat_like.ensures.none c.heartbeat_like.ensures.some

pub returns-in-49-clause-only : goal.returns-in-49-clause-only
returns-in-49-clause-only c = test_request_arm c.args.body.now c.in-Some.rest.now c.in-Some.kind (Some TestRequest) c.in-Some.ensures.found c.in-49.is refl

pub returns-in-50-clause-only : goal.returns-in-50-clause-only
returns-in-50-clause-only c = resend_arm c.args.body.now c.in-Some.rest.now c.in-Some.kind c.resend_like.result c.in-Some.ensures.found c.in-50.is c.resend_like.ensures.only

pub returns-in-51-clause-only : goal.returns-in-51-clause-only
returns-in-51-clause-only c =
    both_ok c.reject_like.result _ _ (IsTextOf c.args.body.now)
    (λ found only _. reject_arm c.args.body.now c.in-Some.rest.now c.in-Some.kind found c.in-Some.ensures.found c.in-51.is only)
    c.reject_like.ensures.only c.reject_like.ensures.only

pub returns-in-53-clause-only : goal.returns-in-53-clause-only
returns-in-53-clause-only c =
    both_ok c.logout_like.result _ _ (IsTextOf c.args.body.now)
    (λ found none some. logout_arm c.args.body.now c.in-Some.rest.now c.in-Some.kind found c.in-Some.ensures.found c.in-53.is none some)
    c.logout_like.ensures.none c.logout_like.ensures.some

pub returns-in_default-kind-clause-only : goal.returns-in_default-kind-clause-only
returns-in_default-kind-clause-only c =
    let h = c.in_default-kind in
    other_arm c.args.body.now c.in-Some.rest.now c.in-Some.kind None c.in-Some.ensures.found (omega (arith, h)) (omega (arith, h)) (omega (arith, h)) (omega (arith, h)) (omega (arith, h)) (omega (arith, h))
