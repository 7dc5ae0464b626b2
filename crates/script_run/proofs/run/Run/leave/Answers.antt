use Rattle.std.proofs.Common.{◌≡◌, true, false, List, map, sym, subst, ◌∙◌}
use Rattle.std.specs.List.{All}
use Rattle.lease_words.specs.Views.{LibraryView}
use Rattle.script_run.specs.Means.{seat_of}
use Rattle.script_run.proofs.Places.{each_mapped}
use Rattle.script_run.proofs.run.Run.leave.Goals as goal

pub finish-requires-clause-seats : goal.finish-requires-clause-seats
finish-requires-clause-seats c =
    subst (λ (seats : List LibraryView). All (λ (seat : LibraryView). seat.table ≡ c.args.shared.now.leases) seats) (sym c.part_all-seats.ensures.seats)
    (each_mapped seat_of (λ seat. seat.table ≡ c.args.shared.now.leases) c.args.self.callers.items (λ place caller at. (c.requires.running.callers.each place caller at).table))

pub returns-in-Ok-clause-whole : goal.returns-in-Ok-clause-whole
returns-in-Ok-clause-whole c = record {
  engine = c.engines_leave_as_they_stood.ensures.whole (map seat_of c.args.self.callers.items) c.args.self.engine c.in-Ok.engine (λ failed. let no : false ≡ true = c.in-Ok.ensures.stands_still failed in cc) (rw c.part_all-seats.ensures.seats at c.in-Ok.ensures.finishes);
  libraries = c.part_all-seats.ensures.reports;
}

pub returns-clause-in_part : goal.returns-clause-in_part
returns-clause-in_part c = record {
  engine = c.engines_leave_as_they_stood.ensures.short (map seat_of c.args.self.callers.items) c.args.self.engine c.in-Err.engine c.in-Err.ensures.as_it_stood (λ stands. rw c.part_all-seats.ensures.seats at (c.in-Err.ensures.finishes_short stands));
  libraries = c.part_all-seats.ensures.reports;
}
