use Rattle.std.proofs.Common.{inr, List, subst}
use Rattle.engine_end.specs.Records.{IsLeftBy}
use Rattle.lease_core.specs.declared.record.Record.{Record}
use Rattle.engine_end.proofs.finishing.finish_in.Goals as goal

pub returns-in-Ok-clause-finishes : goal.returns-in-Ok-clause-finishes
returns-in-Ok-clause-finishes c =
    let gathered = c.gather_records-gathered.new.desk in
    record {
      gathered = gathered;
      gathers = c.in-Ok.ensures.gathers;
      agree = c.gather_records-gathered.ensures.agree;
      settled = c.in-Ok.ensures.settled;
      leaves = subst (λ (added : List Record). IsLeftBy gathered.board c.args.desk.strays.items c.args.accepted added c.fill.result) c.in-Ok.ensures.added c.fill.ensures.left;
    }

pub returns-clause-finishes_short : goal.returns-clause-finishes_short
returns-clause-finishes_short c =
    let gathered = c.gather_records-gathered.new.desk in
    record {
      gathered = gathered;
      gathers = inr c.in-Err.ensures.stops;
      agree = c.gather_records-gathered.ensures.agree;
      leaves = subst (λ (added : List Record). IsLeftBy gathered.board c.args.desk.strays.items c.args.accepted added c.fill-in-Err.result) c.new.ensures.items c.fill-in-Err.ensures.left;
    }
