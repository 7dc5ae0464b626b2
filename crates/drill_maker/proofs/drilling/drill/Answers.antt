use Rattle.std.proofs.Common.{length, ap, arith}
use Rattle.drill_maker.proofs.Lengths.{steps_few}
use Rattle.drill_maker.proofs.drilling.drill.Goals as goal

pub lines-requires : goal.lines-requires
lines-requires c =
    let few = steps_few c.args.n c.requires.most in
    let same = ap length c.in_ok-steps.ensures.steps in
    omega (arith, few, same, c.len.ensures)
