-- each message's text, by the lemmas on texts
use Rattle.std.proofs.Common.{ℕ, ◌≤◌, List, length, ap, subst, sym, ◌∙◌}
use Rattle.std.proofs.lemmas.Result.{IfOk-weaker}
use Rattle.fix_fields.specs.Frame.{IsBody}
use Rattle.session_core.specs.Admin.{is_tick_text}
use Rattle.session_core.specs.Tasks.{HasShortTexts, is_tick}
use Rattle.session_core.specs.declared.acts.Admin.TheVariants.{Logon, Heartbeat, TestRequest, ResendRequest, Reject, Logout}
use Rattle.session_core.specs.declared.admin_text.TheConstants.{LONGEST_ADMIN}
use Rattle.session_core.proofs.AdminTexts.{body_is, ticks_told, logon_short, heartbeat_short, test_request_short, resend_request_short, reject_short, logout_short}
use Rattle.session_core.proofs.admin_text.admin_body.Goals as goal

pub returns-in-Logon-clause-body : goal.returns-in-Logon-clause-body
returns-in-Logon-clause-body c = IfOk-weaker c.logon_body.result _ _ (λ body same. subst IsBody (sym same) (body_is (Logon c.in-Logon.heart c.in-Logon.reset) c.args.number)) c.logon_body.ensures.text

pub returns-in-Logon-clause-short : goal.returns-in-Logon-clause-short
returns-in-Logon-clause-short c =
    λ short. IfOk-weaker c.logon_body.result _ _ (λ body same. subst (λ (text : List ℕ). length text ≤ LONGEST_ADMIN) (sym same) (logon_short c.in-Logon.heart c.in-Logon.reset c.logon_body.ensures.range)) c.logon_body.ensures.text

pub returns-in-Logon-clause-tick : goal.returns-in-Logon-clause-tick
returns-in-Logon-clause-tick c =
    IfOk-weaker c.logon_body.result _ _ (λ body same. ap is_tick_text same ∙ ticks_told (Logon c.in-Logon.heart c.in-Logon.reset) c.args.number ∙ ap is_tick (sym c.in-Logon.is)) c.logon_body.ensures.text

pub returns-in-Heartbeat-clause-body : goal.returns-in-Heartbeat-clause-body
returns-in-Heartbeat-clause-body c = IfOk-weaker c.heartbeat_body.result _ _ (λ body same. subst IsBody (sym same) (body_is (Heartbeat c.in-Heartbeat.test) c.args.number)) c.heartbeat_body.ensures

pub returns-in-Heartbeat-clause-short : goal.returns-in-Heartbeat-clause-short
returns-in-Heartbeat-clause-short c =
    λ short. IfOk-weaker c.heartbeat_body.result _ _ (λ body same. subst (λ (text : List ℕ). length text ≤ LONGEST_ADMIN) (sym same) (heartbeat_short c.in-Heartbeat.test (subst HasShortTexts c.in-Heartbeat.is short))) c.heartbeat_body.ensures

pub returns-in-Heartbeat-clause-tick : goal.returns-in-Heartbeat-clause-tick
returns-in-Heartbeat-clause-tick c =
    IfOk-weaker c.heartbeat_body.result _ _ (λ body same. ap is_tick_text same ∙ ticks_told (Heartbeat c.in-Heartbeat.test) c.args.number ∙ ap is_tick (sym c.in-Heartbeat.is)) c.heartbeat_body.ensures

pub returns-in-TestRequest-clause-body : goal.returns-in-TestRequest-clause-body
returns-in-TestRequest-clause-body c = IfOk-weaker c.test_request_body.result _ _ (λ body same. subst IsBody (sym same) (body_is TestRequest c.args.number)) c.test_request_body.ensures.text

pub returns-in-TestRequest-clause-short : goal.returns-in-TestRequest-clause-short
returns-in-TestRequest-clause-short c =
    λ short. IfOk-weaker c.test_request_body.result _ _ (λ body same. subst (λ (text : List ℕ). length text ≤ LONGEST_ADMIN) (sym same) (test_request_short c.args.number c.test_request_body.ensures.range)) c.test_request_body.ensures.text

pub returns-in-TestRequest-clause-tick : goal.returns-in-TestRequest-clause-tick
returns-in-TestRequest-clause-tick c =
    IfOk-weaker c.test_request_body.result _ _ (λ body same. ap is_tick_text same ∙ ticks_told TestRequest c.args.number ∙ ap is_tick (sym c.in-TestRequest.is)) c.test_request_body.ensures.text

pub returns-in-ResendRequest-clause-body : goal.returns-in-ResendRequest-clause-body
returns-in-ResendRequest-clause-body c = IfOk-weaker c.resend_request_body.result _ _ (λ body same. subst IsBody (sym same) (body_is (ResendRequest c.in-ResendRequest.begin c.in-ResendRequest.last) c.args.number)) c.resend_request_body.ensures.text

pub returns-in-ResendRequest-clause-short : goal.returns-in-ResendRequest-clause-short
returns-in-ResendRequest-clause-short c =
    λ short. IfOk-weaker c.resend_request_body.result _ _ (λ body same. subst (λ (text : List ℕ). length text ≤ LONGEST_ADMIN) (sym same) (resend_request_short c.in-ResendRequest.begin c.in-ResendRequest.last c.resend_request_body.ensures.begin c.resend_request_body.ensures.last)) c.resend_request_body.ensures.text

pub returns-in-ResendRequest-clause-tick : goal.returns-in-ResendRequest-clause-tick
returns-in-ResendRequest-clause-tick c =
    IfOk-weaker c.resend_request_body.result _ _ (λ body same. ap is_tick_text same ∙ ticks_told (ResendRequest c.in-ResendRequest.begin c.in-ResendRequest.last) c.args.number ∙ ap is_tick (sym c.in-ResendRequest.is)) c.resend_request_body.ensures.text

pub returns-in-Reject-clause-body : goal.returns-in-Reject-clause-body
returns-in-Reject-clause-body c = IfOk-weaker c.reject_body.result _ _ (λ body same. subst IsBody (sym same) (body_is (Reject c.in-Reject.seq c.in-Reject.tag c.in-Reject.kind c.in-Reject.reason) c.args.number)) c.reject_body.ensures.text

pub returns-in-Reject-clause-short : goal.returns-in-Reject-clause-short
returns-in-Reject-clause-short c =
    λ short. IfOk-weaker c.reject_body.result _ _ (λ body same. subst (λ (text : List ℕ). length text ≤ LONGEST_ADMIN) (sym same) (reject_short c.in-Reject.seq c.in-Reject.tag c.in-Reject.kind c.in-Reject.reason c.reject_body.ensures.seq c.reject_body.ensures.tag c.reject_body.ensures.reason)) c.reject_body.ensures.text

pub returns-in-Reject-clause-tick : goal.returns-in-Reject-clause-tick
returns-in-Reject-clause-tick c =
    IfOk-weaker c.reject_body.result _ _ (λ body same. ap is_tick_text same ∙ ticks_told (Reject c.in-Reject.seq c.in-Reject.tag c.in-Reject.kind c.in-Reject.reason) c.args.number ∙ ap is_tick (sym c.in-Reject.is)) c.reject_body.ensures.text

pub returns-in-Logout-clause-body : goal.returns-in-Logout-clause-body
returns-in-Logout-clause-body c = IfOk-weaker c.logout_body.result _ _ (λ body same. subst IsBody (sym same) (body_is (Logout c.in-Logout.text) c.args.number)) c.logout_body.ensures

pub returns-in-Logout-clause-short : goal.returns-in-Logout-clause-short
returns-in-Logout-clause-short c =
    λ short. IfOk-weaker c.logout_body.result _ _ (λ body same. subst (λ (text : List ℕ). length text ≤ LONGEST_ADMIN) (sym same) (logout_short c.in-Logout.text (subst HasShortTexts c.in-Logout.is short))) c.logout_body.ensures

pub returns-in-Logout-clause-tick : goal.returns-in-Logout-clause-tick
returns-in-Logout-clause-tick c =
    IfOk-weaker c.logout_body.result _ _ (λ body same. ap is_tick_text same ∙ ticks_told (Logout c.in-Logout.text) c.args.number ∙ ap is_tick (sym c.in-Logout.is)) c.logout_body.ensures
