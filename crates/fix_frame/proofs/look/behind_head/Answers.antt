use Rattle.std.proofs.Common.{refl, arith, sym}
use Rattle.fix_frame.proofs.Fronts.{fails_first, fails_second, fails_third, passes_all, part_from_none, part_from_begin}
use Rattle.fix_frame.proofs.look.behind_head.Goals as goal
use Rattle.fix_frame.proofs.look.behind_head.Goals.{then-not-agrees-via-then-not-agrees, then-not-agrees-via-else-not-agrees+then-not-agrees-2, then-not-agrees-via-else-not-agrees+else-not-agrees-2+then-not-checksum_agrees}

pub returns-then-not-agrees : goal.returns-then-not-agrees
returns-then-not-agrees c =
    let n = c.args.size in
    let at = c.args.body in
    let x = c.args.held.now in
    elim c.then-not-agrees.branch [
      | then-not-agrees-via-then-not-agrees w ↦ fails_first n at x c.requires.least (sym w.if-not-agrees.ensures)
      | then-not-agrees-via-else-not-agrees+then-not-agrees-2 w ↦ fails_second n at x c.requires.least (sym w.if-not-agrees-2.ensures)
      | then-not-agrees-via-else-not-agrees+else-not-agrees-2+then-not-checksum_agrees w ↦ fails_third n at x c.requires.least (sym w.if-not-checksum_agrees.ensures)
    ]

pub returns-then-len-end : goal.returns-then-len-end
returns-then-len-end c = (
  refl,
  record {
    formed = passes_all c.args.size c.args.body c.args.held.now c.requires.least (sym c.if-not-agrees.ensures) (sym c.if-not-agrees-2.ensures) (sym c.if-not-checksum_agrees.ensures);
    end = refl;
    within = omega arith;
  },
)

pub returns-then-len-body : goal.returns-then-len-body
returns-then-len-body c =
    part_from_none c.args.size c.args.body c.args.held.now
    (passes_all c.args.size c.args.body c.args.held.now c.requires.least (sym c.if-not-agrees.ensures) (sym c.if-not-agrees-2.ensures) (sym c.if-not-checksum_agrees.ensures)) (omega arith)

pub returns-else-len-body : goal.returns-else-len-body
returns-else-len-body c =
    part_from_begin c.args.size c.args.body c.args.held.now c.requires.least (omega arith) (sym c.if-not-agrees.ensures)
    (passes_all c.args.size c.args.body c.args.held.now c.requires.least (sym c.if-not-agrees.ensures) (sym c.if-not-agrees-2.ensures) (sym c.if-not-checksum_agrees.ensures)) (omega arith)
