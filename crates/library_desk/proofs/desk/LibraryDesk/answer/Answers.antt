use Rattle.std.proofs.Common.{ap, subst, ◌∙◌}
use Rattle.library_desk.specs.declared.ends.Next.TheVariants.{Popped}
use Rattle.library_desk.specs.Serving.{LooksAt}
use Rattle.library_desk.proofs.desk.LibraryDesk.answer.Goals as goal

pub returns-in_ok-notice-in-Popped-Request-clause-answers : goal.returns-in_ok-notice-in-Popped-Request-clause-answers
returns-in_ok-notice-in-Popped-Request-clause-answers c = record {
  s = c.in-Popped-Request.s;
  from = c.in-Popped-Request.from;
  popped = c.look.new.self;
  replied = c.reply.new.self;
  notice = c.in_ok-notice-in-Popped-Request.notice;
  looks = subst (λ next. LooksAt c.args.library next c.args.self.now c.look.new.self) (c.in-Popped-Request.is ∙ ap (λ command. Popped command) c.in-Popped-Request.field-0-is) c.look.ensures.looks;
  replies = c.in_ok-notice-in-Popped-Request.ensures.replies;
  tells = c.tell.ensures.tells;
}
