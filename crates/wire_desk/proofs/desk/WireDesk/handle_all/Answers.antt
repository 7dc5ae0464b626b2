use Rattle.std.proofs.Common.{true, ap, subst, ◌∙◌}
use Rattle.wire_desk.specs.Steps.{HandledSoFar, HandlesOrStops, sessions_of}
use Rattle.wire_desk.specs.declared.desk.WireDesk.{WireDesk}
use Rattle.wire_desk.proofs.OneByOne.{one_more}
use Rattle.wire_desk.proofs.Untold.{on_err}
use Rattle.wire_desk.proofs.desk.WireDesk.handle_all.Goals as goal

pub loop-more-preserved : goal.loop-more-preserved
loop-more-preserved c =
    let was = c.loop-more.invariant in
    let now = c.in_ok-more.ensures in
    let more = c.in_ok-more.more in
    let routes = c.args.self.now.routes in
    let k = c.args.k in
    let start = sessions_of c.args.desk.now c.args.self.now.unkept.items in
    let middle = sessions_of c.loop-more.desk c.loop-more.self.unkept.items in
    let new = sessions_of c.handle_next.new.desk c.handle_next.new.self.unkept.items in
    record {
      so_far = one_more more routes k c.args.at c.args.until start middle new
          (subst (λ b. HandledSoFar b routes k c.args.at c.args.until start middle) c.loop-more-test.true was.so_far)
          (subst (λ r. HandlesOrStops more r k c.args.at c.args.until middle new) (ap (λ (w : WireDesk). w.routes) was.rest) now.handles);
      rest = c.handle_next.ensures.rest ∙ ap (λ (w : WireDesk). record w { unkept = c.handle_next.new.self.unkept }) was.rest;
      set_up = now.set_up;
      progresses = c.lines_progress.ensures.further k c.args.desk.now.board c.loop-more.desk.board c.handle_next.new.desk.board was.progresses now.progresses;
      roomy = now.roomy;
    }

pub returns-in_err-more-clause-stops : goal.returns-in_err-more-clause-stops
returns-in_err-more-clause-stops c =
    let routes = c.args.self.now.routes in
    let start = sessions_of c.args.desk.now c.args.self.now.unkept.items in
    let middle = sessions_of c.loop-more.desk c.loop-more.self.unkept.items in
    let so_far : HandledSoFar true routes c.args.k c.args.at c.args.until start middle =
    subst (λ b. HandledSoFar b routes c.args.k c.args.at c.args.until start middle) c.loop-more-test.true c.loop-more.invariant.so_far in
    on_err c.from_residual.result (record { count = so_far.0; between = middle; handles = so_far.1; stops = c.in_err-more.ensures.stops })
