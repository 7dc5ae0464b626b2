use Rattle.std.proofs.Common.{arith, ◌≡◌, None, sym, subst, ◌∙◌}
use Rattle.session_core.specs.Admin.{admin_text}
use Rattle.session_core.specs.declared.acts.Admin.TheVariants.{Heartbeat}
use Rattle.durable_journal.specs.Records.{IsAdminBody}
use Rattle.journal_speed.proofs.events.Event.new.Goals as goal

pub invariant_of-result : goal.invariant_of-result
invariant_of-result c =
    let number = c.args.number in
    let text : c.of.result ≡ admin_text (Heartbeat None) number = c.of.ensures ∙ c.in_ok-body.ensures.text in
    record {
      expected_from = omega arith;
      expected_to = omega arith;
      numbers = tt;
      parts = (omega arith, subst (IsAdminBody number) (sym text) (c.session_texts_are_bodies.ensures (Heartbeat None) number tt));
    }
