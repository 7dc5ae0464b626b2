use Rattle.std.proofs.Common.{arith, ◌≡◌, ◌<◌, ◌^◌, false, sym, subst, ◌∙◌}
use Rattle.session_core.specs.Admin.{admin_text}
use Rattle.session_core.specs.declared.acts.Admin.TheVariants.{Logon}
use Rattle.durable_journal.specs.Records.{IsAdminBody}
use Rattle.journal_tests.proofs.logons.append_logon.Goals as goal

pub append-requires-clause-is_record : goal.append-requires-clause-is_record
append-requires-clause-is_record g c =
    let logon = Logon c.args.heart false in
    let text : c.of.result ≡ admin_text logon 1 = c.of.ensures ∙ c.in_ok-body.ensures.text in
    let small : c.args.heart < 2 ^ 32 = omega (arith, c.ranges.heart.fits) in
    record {
      expected_from = omega arith;
      expected_to = omega arith;
      numbers = tt;
      parts = (omega arith, subst (IsAdminBody 1) (sym text) (c.session_texts_are_bodies.ensures logon 1 small));
    }
