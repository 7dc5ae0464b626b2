use Rattle.std.proofs.Common.{rules, subst, sym}
use Rattle.std.proofs.lemmas.Result.{IfOk-weaker}
use Rattle.std.specs.List.{All}
use Rattle.session_core.specs.Laws.{AreActs}
use Rattle.session_core.specs.State.{IsState}
use Rattle.session_core.specs.Tasks.{IsReply}
use Rattle.session_core.specs.declared.acts.Effects.{Effects}
use Rattle.session_core.proofs.States.{acts_of_messages, only_logons_reset}
use Rattle.session_core.proofs.session.Session.receive.Goals as goal

pub returns-in-Off-clause-acts : goal.returns-in-Off-clause-acts
returns-in-Off-clause-acts c =
    let is = subst IsState c.self.view_is c.self.invariant in
    IfOk-weaker c.receive_first.result _ _ (λ effects same. subst (λ (e : Effects). AreActs e.acts) (sym same) (acts_of_messages c.line_laws.ensures _ _ c.args.moment is)) c.receive_first.ensures.effects

pub returns-in-Asked-clause-acts : goal.returns-in-Asked-clause-acts
returns-in-Asked-clause-acts c =
    let is = subst IsState c.self.view_is c.self.invariant in
    IfOk-weaker c.receive_answer.result _ _ (λ effects same. subst (λ (e : Effects). AreActs e.acts) (sym same) (acts_of_messages c.line_laws.ensures _ _ c.args.moment is)) c.receive_answer.ensures.effects

pub returns-in-On-clause-acts : goal.returns-in-On-clause-acts
returns-in-On-clause-acts c =
    let is = subst IsState c.self.view_is c.self.invariant in
    IfOk-weaker c.receive_next.result _ _ (λ effects same. subst (λ (e : Effects). AreActs e.acts) (sym same) (acts_of_messages c.line_laws.ensures _ _ c.args.moment is)) c.receive_next.ensures.effects

pub returns-in-Off-clause-replies : goal.returns-in-Off-clause-replies
returns-in-Off-clause-replies c =
    IfOk-weaker c.receive_first.result _ _ (λ effects same other. absurd (other (search rules))) c.receive_first.ensures.effects

pub returns-in-Asked-clause-replies : goal.returns-in-Asked-clause-replies
returns-in-Asked-clause-replies c =
    let is = subst IsState c.self.view_is c.self.invariant in
    IfOk-weaker c.receive_answer.result _ _ (λ effects same other. subst (λ (e : Effects). All IsReply e.acts) (sym same) (only_logons_reset c.line_laws.ensures _ _ c.args.moment is other)) c.receive_answer.ensures.effects

pub returns-in-On-clause-replies : goal.returns-in-On-clause-replies
returns-in-On-clause-replies c =
    let is = subst IsState c.self.view_is c.self.invariant in
    IfOk-weaker c.receive_next.result _ _ (λ effects same other. subst (λ (e : Effects). All IsReply e.acts) (sym same) (only_logons_reset c.line_laws.ensures _ _ c.args.moment is other)) c.receive_next.ensures.effects
