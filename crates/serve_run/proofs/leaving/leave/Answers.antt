use Rattle.std.proofs.Common.{◌≡◌, true, false, List, map, sym, subst}
use Rattle.std.specs.List.{All}
use Rattle.lease_words.specs.Views.{LibraryView}
use Rattle.serve_run.specs.Workers.{seat_of}
use Rattle.std.proofs.lemmas.List.Elements.{All-map}
use Rattle.serve_run.proofs.leaving.leave.Goals as goal

pub finish-requires-clause-seats : goal.finish-requires-clause-seats
finish-requires-clause-seats c =
    subst (λ (seats : List LibraryView). All (λ (seat : LibraryView). seat.table ≡ c.args.shared.now.leases) seats) (sym c.part_all-seats.ensures.seats)
    (All-map (λ (seat : LibraryView). seat.table ≡ c.args.shared.now.leases) seat_of c.args.workers.items (λ k d within. (c.requires.workers k d within).table))

pub returns-in-Ok-clause-whole : goal.returns-in-Ok-clause-whole
returns-in-Ok-clause-whole c =
    c.engines_leave_as_they_stood.ensures.whole (map seat_of c.args.workers.items) c.args.engine c.in-Ok.engine (λ failed. let no : false ≡ true = c.in-Ok.ensures.stands_still failed in cc) (rw c.part_all-seats.ensures.seats at c.in-Ok.ensures.finishes)

pub returns-in-Err-clause-in_part : goal.returns-in-Err-clause-in_part
returns-in-Err-clause-in_part c =
    c.engines_leave_as_they_stood.ensures.short (map seat_of c.args.workers.items) c.args.engine c.in-Err.engine c.in-Err.ensures.as_it_stood (λ stands. rw c.part_all-seats.ensures.seats at (c.in-Err.ensures.finishes_short stands))
