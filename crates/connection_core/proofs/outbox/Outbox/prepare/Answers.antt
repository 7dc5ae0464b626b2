use Rattle.std.proofs.Common.{◌≡◌, ◌<◌, ◌≤◌, length, sym, subst, ◌∙◌, arith, All}
use Rattle.resend_plan.specs.Wire.{NamesEntry}
use Rattle.connection_core.specs.Outgoing.{Outgoing, waiting_text, with_texts, after_preparing}
use Rattle.connection_core.proofs.Making.{texts-step, texts-enough, has_one_more, items_more, named_behind}
use Rattle.connection_core.proofs.outbox.Outbox.prepare.Goals as goal

pub returns-then-waiting_bytes-limit-clause-outgoing : goal.returns-then-waiting_bytes-limit-clause-outgoing
returns-then-waiting_bytes-limit-clause-outgoing c =
    let out = c.loop-self.self.outgoing in
    let enough : c.args.limit ≤ length (waiting_text out) = omega (arith, c.waiting_bytes.ensures, c.if-waiting_bytes-limit.true) in
    sym (texts-enough c.args.names.now c.args.log.now.series c.args.limit out enough) ∙ c.loop-self.invariant.same

pub returns-then-waiting_bytes-limit-clause-items : goal.returns-then-waiting_bytes-limit-clause-items
returns-then-waiting_bytes-limit-clause-items c =
    items_more c.args.names.now c.args.log.now.series c.args.self.now.outgoing c.loop-self.self.outgoing c.loop-self.invariant.more

pub loop-self-preserved : goal.loop-self-preserved
loop-self-preserved c =
    let names = c.args.names.now in
    let log = c.args.log.now.series in
    let limit = c.args.limit in
    let out = c.loop-self.self.outgoing in
    let made = c.in_ok-make_text.ensures.ok in
    let few : length (waiting_text out) < limit = omega (arith, c.waiting_bytes.ensures, c.if-waiting_bytes-limit.false) in
    let some : 0 < length out.unmade = omega (arith, c.unmade_items.ensures, c.loop-self-test.true) in
    record {
      same = subst (λ (o : Outgoing). with_texts names log limit o.unmade o ≡ after_preparing names log limit c.args.self.now.outgoing) (sym made) (texts-step names log limit out few some ∙ c.loop-self.invariant.same);
      more = has_one_more names log c.args.self.now.outgoing out c.make_text.new.self.outgoing c.loop-self.invariant.more made;
      named = subst (λ (o : Outgoing). All (NamesEntry log) o.unmade) (sym made) (named_behind names log out some c.loop-self.invariant.named);
      spare = omega (arith, c.make_text.ensures.spare, c.loop-self.invariant.spare);
    }

pub returns-in_err-make_text-clause-items : goal.returns-in_err-make_text-clause-items
returns-in_err-make_text-clause-items c = λ items h.
    let before = items_more c.args.names.now c.args.log.now.series c.args.self.now.outgoing c.loop-self.self.outgoing c.loop-self.invariant.more items h in
    rw c.in_err-make_text.ensures.err before

pub returns-clause-items : goal.returns-clause-items
returns-clause-items c =
    items_more c.args.names.now c.args.log.now.series c.args.self.now.outgoing c.loop-self.self.outgoing c.loop-self.invariant.more
