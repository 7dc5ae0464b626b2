use Rattle.std.proofs.Common.{◌≡◌, ◌∙◌, sym, arith}
use Rattle.session_core.specs.Admin.{admin_text}
use Rattle.durable_journal.proofs.Sessions.{point_is, point_by}
use Rattle.durable_journal.proofs.admins.is_admin_body.Goals as goal

pub returns-in_default : goal.returns-in_default
returns-in_default c = (λ no. absurd (grind (arith, no)), λ is. absurd (rw c.in_default.is at (c.in_ok-admin.ensures.only c.args.number is)))

pub returns : goal.returns
returns c =
    let text = c.as_slice.result.now in
    let body = c.args.body.now in
    let written : text ≡ admin_text c.in-Some.admin c.args.number = c.as_slice.ensures.value ∙ c.in_ok-text.ensures.text in (
      λ t. record { admin = c.in-Some.admin; plain = rw c.in-Some.is at c.in_ok-admin.ensures.plain; text = sym (point_is text body (sym c.eq.ensures ∙ t)) ∙ written },
      λ is. let held : body ≡ admin_text c.in-Some.admin c.args.number = rw c.in-Some.is at (c.in_ok-admin.ensures.only c.args.number is) in c.eq.ensures ∙ point_by text body (written ∙ sym held),
    )
