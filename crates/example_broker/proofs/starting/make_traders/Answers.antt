use Rattle.engine_start.specs.Starts.{AreLibraryEnds}
use Rattle.example_broker.proofs.Ends.{first, second, two_are}
use Rattle.example_broker.proofs.starting.make_traders.Goals as goal

pub trader-requires : goal.trader-requires
trader-requires c =
    first (AreLibraryEnds c.args.shared.now) c.args.ends.items c.requires.each c.in_ok-first.first c.in_ok-second.second _
    (two_are _ _ _ _ _ _ _ _ c.into_iter-ends.ensures.rest c.next.ensures.items c.in_ok-first.ensures.ok_part c.next-2.ensures.items c.in_ok-second.ensures.ok_part)

pub trader-requires-2 : goal.trader-requires-2
trader-requires-2 c =
    second (AreLibraryEnds c.args.shared.now) c.args.ends.items c.requires.each c.in_ok-first.first c.in_ok-second.second _
    (two_are _ _ _ _ _ _ _ _ c.into_iter-ends.ensures.rest c.next.ensures.items c.in_ok-first.ensures.ok_part c.next-2.ensures.items c.in_ok-second.ensures.ok_part)
