use Rattle.std.proofs.Common.{length}
use Rattle.serve_run.proofs.serving.planned.Goals as goal

pub returns : goal.returns
returns c = c.in_ok-deal_all.ensures.dealt c.args.asks (length c.args.ends.items) c.args.shared.now c.in_ok-workers.ensures
