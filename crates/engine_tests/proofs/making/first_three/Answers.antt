use Rattle.engine_start.specs.Starts.{AreLibraryEnds}
use Rattle.engine_tests.proofs.Outset.{first, second, third, three_are}
use Rattle.engine_tests.proofs.making.first_three.Goals as goal

pub ends_of-requires : goal.ends_of-requires
ends_of-requires c =
    first (AreLibraryEnds c.args._shared.now) c.args.ends.items c.requires.libraries c.in_ok-first.first c.in_ok-second.second c.in_ok-third.third _
    (three_are _ _ _ _ _ _ _ _ _ _ _ c.into_iter-ends.ensures.rest c.next.ensures.items c.in_ok-first.ensures.ok_part c.next-2.ensures.items c.in_ok-second.ensures.ok_part c.next-3.ensures.items c.in_ok-third.ensures.ok_part)

pub ends_of-requires-2 : goal.ends_of-requires-2
ends_of-requires-2 c =
    second (AreLibraryEnds c.args._shared.now) c.args.ends.items c.requires.libraries c.in_ok-first.first c.in_ok-second.second c.in_ok-third.third _
    (three_are _ _ _ _ _ _ _ _ _ _ _ c.into_iter-ends.ensures.rest c.next.ensures.items c.in_ok-first.ensures.ok_part c.next-2.ensures.items c.in_ok-second.ensures.ok_part c.next-3.ensures.items c.in_ok-third.ensures.ok_part)

pub ends_of-requires-3 : goal.ends_of-requires-3
ends_of-requires-3 c =
    third (AreLibraryEnds c.args._shared.now) c.args.ends.items c.requires.libraries c.in_ok-first.first c.in_ok-second.second c.in_ok-third.third _
    (three_are _ _ _ _ _ _ _ _ _ _ _ c.into_iter-ends.ensures.rest c.next.ensures.items c.in_ok-first.ensures.ok_part c.next-2.ensures.items c.in_ok-second.ensures.ok_part c.next-3.ensures.items c.in_ok-third.ensures.ok_part)
