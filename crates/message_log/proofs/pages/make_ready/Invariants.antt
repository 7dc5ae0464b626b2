use Rattle.std.proofs.Common.{◌≡◌, ◌+◌, ◌-◌, ◌<◌, ◌≤◌, length, vec_len}
use Rattle.std.specs.List.{All}
use Rattle.message_log.specs.Pages.{IsReady}
use Rattle.message_log.specs.declared.pages.TheConstants.{MOST_PAGES}
use Rattle.message_log.proofs.pages.make_ready.Given as goal

abbrev pub invariant-loop-alloc : goal.invariant-loop-alloc
invariant-loop-alloc g l = record {
  empty : All IsReady l.ready.items;
  few : length l.full.items + length l.ready.items < MOST_PAGES;
  places : length l.ready.items ≤ l.full.spare;
  kept : length l.fn.ready.items ≤ length l.ready.items;
  room : l.pages ≤ l.full.spare;
  most : length l.full.items + l.pages < MOST_PAGES;
  full : l.full.items ≡ l.fn.full.items;
}

abbrev pub decreases-loop-alloc : goal.decreases-loop-alloc
decreases-loop-alloc g l = l.pages - vec_len l.ready
