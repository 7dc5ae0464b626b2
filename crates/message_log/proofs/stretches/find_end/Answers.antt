-- half of what is left goes with each look-up
use Rattle.std.proofs.Common.{◌≡◌, ◌+◌, ◌-◌, ◌*◌, ◌/◌, ◌≤◌, ◌<◌, length, true, sym, ◌∙◌, ap, subst, arith}
use Rattle.std.proofs.lemmas.Option.{get_or_from_slice_get, slice_get_within}
use Rattle.message_log.specs.declared.stretches.Stretch.{Stretch}
use Rattle.message_log.specs.Stretches.{is_before, is_behind, stretch_at, no_stretch, Covers}
use Rattle.message_log.proofs.Halving.{gone_up, gone_down, covered, step_allowed, half_left}
use Rattle.message_log.proofs.stretches.find_end.Goals as goal

pub loop-low-preserved-then-lies_before : goal.loop-low-preserved-then-lies_before
loop-low-preserved-then-lies_before g c =
    let items = c.args.stretches.now.items in
    let low = c.loop-low.low in
    let high = c.loop-low.high in
    let middle = low + (high - low) / 2 in
    let start = c.args.steps.now in
    let now = c.loop-low.steps in
    let known = c.loop-low.invariant in
    let there = get_or_from_slice_get items middle c.in_ok-stretch.stretch.now no_stretch (sym c.in_ok-stretch.ensures.item) in
    let before : is_before (stretch_at items middle) c.args.series c.args.number ≡ true = ap (λ (s : Stretch). is_before s c.args.series c.args.number) there ∙ sym c.lies_before.ensures ∙ c.if-lies_before.true in
    let inside : middle < high = omega arith in
    let some : 0 < high - low = omega arith in
    let half : 2 * (high - (middle + 1)) ≤ high - low = omega arith in
    record {
      searched = gone_up items c.args.series c.args.number low high c.requires known.searched middle inside before;
      forward = omega arith;
      cost = rw c.read.ensures.one (step_allowed start now (length items) known.forward (high - low) some known.left);
      left = rw c.read.ensures.one (half_left start now (length items) known.forward (high - low) (high - (middle + 1)) half known.left);
    }

pub loop-low-preserved : goal.loop-low-preserved
loop-low-preserved g c =
    let items = c.args.stretches.now.items in
    let low = c.loop-low.low in
    let high = c.loop-low.high in
    let middle = low + (high - low) / 2 in
    let start = c.args.steps.now in
    let now = c.loop-low.steps in
    let known = c.loop-low.invariant in
    let there = get_or_from_slice_get items middle c.in_ok-stretch.stretch.now no_stretch (sym c.in_ok-stretch.ensures.item) in
    let behind : is_behind (stretch_at items middle) c.args.series c.args.number ≡ true = ap (λ (s : Stretch). is_behind s c.args.series c.args.number) there ∙ sym c.lies_behind.ensures ∙ c.if-lies_behind.true in
    let inside : middle < high = omega arith in
    let some : 0 < high - low = omega arith in
    let half : 2 * (middle - low) ≤ high - low = omega arith in
    record {
      searched = gone_down items c.args.series c.args.number low high c.requires known.searched middle inside behind;
      forward = omega arith;
      cost = rw c.read.ensures.one (step_allowed start now (length items) known.forward (high - low) some known.left);
      left = rw c.read.ensures.one (half_left start now (length items) known.forward (high - low) (middle - low) half known.left);
    }

pub returns-else-lies_behind-clause-found : goal.returns-else-lies_behind-clause-found
returns-else-lies_behind-clause-found g c =
    let items = c.args.stretches.now.items in
    let middle = c.loop-low.low + (c.loop-low.high - c.loop-low.low) / 2 in
    let there = get_or_from_slice_get items middle c.in_ok-stretch.stretch.now no_stretch (sym c.in_ok-stretch.ensures.item) in
    let covers = covered c.in_ok-stretch.stretch.now c.args.series c.args.number (sym c.lies_before.ensures ∙ c.if-lies_before.false) (sym c.lies_behind.ensures ∙ c.if-lies_behind.false) in (
      middle,
      slice_get_within items middle c.in_ok-stretch.stretch.now (sym c.in_ok-stretch.ensures.item),
      subst (λ (s : Stretch). Covers s c.args.series c.args.number) (sym there) covers,
      ap (λ (s : Stretch). s.last) there,
    )

pub returns-else-lies_behind-clause-cost : goal.returns-else-lies_behind-clause-cost
returns-else-lies_behind-clause-cost g c =
    let known = c.loop-low.invariant in
    let gap = c.loop-low.high - c.loop-low.low in
    let some : 0 < gap = omega arith in
    rw c.read.ensures.one (step_allowed c.args.steps.now c.loop-low.steps (length c.args.stretches.now.items) known.forward gap some known.left)
