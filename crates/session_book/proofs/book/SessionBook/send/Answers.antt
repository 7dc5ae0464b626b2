use Rattle.std.proofs.Common.{◌≤◌, length, subst, sym, arith}
use Rattle.fix_fields.specs.declared.limits.TheConstants.{LONGEST_APPLICATION_BODY}
use Rattle.resend_plan.specs.Fit.{IsFit}
use Rattle.session_book.specs.Kept.{AreNamesOf}
use Rattle.session_book.proofs.Books.{admin_is_book}
use Rattle.session_book.proofs.book.SessionBook.send.Goals as goal

pub invariant_of-self-2 : goal.invariant_of-self-2
invariant_of-self-2 c =
    let is = c.self.invariant.0 in
    let short : length c.in_ok-body.body.items ≤ LONGEST_APPLICATION_BODY = omega (arith, c.in_ok-body.ensures.short c.requires.short) in
    let fit : IsFit c.in_ok-body.body.items = record { is_body = c.in_ok-body.ensures.body; short = short } in (
      admin_is_book _ _ _ _ _ _ _ _ _ is c.sent.ensures c.reserve.ensures.entries c.admin.ensures.state c.in_ok-push.ensures.ok
          (c.logs_stay_fit.ensures.entry _ _ is.fit (subst IsFit (sym c.of.ensures) fit)),
      subst (λ m. AreNamesOf m.names c.self.inside.names) (sym c.sent.ensures) c.self.invariant.1,
    )
