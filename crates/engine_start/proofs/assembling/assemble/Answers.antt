use Rattle.std.proofs.Common.{List, length, refl, ap, subst, ◌∙◌}
use Rattle.engine_start.proofs.NewEnds.{command_count, command_slots, engine_count, engine_ends, library_count, library_ends, notice_count, notice_slots}
use Rattle.engine_start.proofs.Outset.{begins_linked}
use Rattle.engine_start.specs.Sides.{AreSides}
use Rattle.lease_words.specs.Tokens.{new_library_seats}
use Rattle.lease_words.specs.Views.{LibraryView}
use Rattle.switchboard.specs.Board.{Board}
use Rattle.engine_start.proofs.assembling.assemble.Goals as goal

are_sides : (c : goal.After-new-3) → AreSides (new_library_seats c.args.leases 1 c.args.config.now.libraries) c.in_ok-commands.field-0
are_sides c = subst (λ (seats : List LibraryView). AreSides seats c.in_ok-commands.field-0) c.requires.seats c.in_ok-commands.ensures

pub returns-clause-linked : goal.returns-clause-linked
returns-clause-linked c =
    begins_linked c.args.config.now _ c.in_ok-commands.field-0 _ c.requires.config c.requires.shape (are_sides c) refl refl refl (c.new.ensures.seat ∙ c.requires.seat) c.in_ok-new.ensures.libraries
    (ap (λ (b : Board). length b.sessions) c.new.ensures.board ∙ c.requires.sessions)

pub returns-clause-rings : goal.returns-clause-rings
returns-clause-rings c =
    let t = c.args.leases in
    let n = c.args.config.now.libraries in
    let sides = c.in_ok-commands.field-0 in
    record {
      commands = command_count t n sides (are_sides c);
      notices = notice_count t n sides (are_sides c);
      command_slots = command_slots t n sides (are_sides c);
      notice_slots = notice_slots t n sides (are_sides c);
    }

pub returns-clause-engine : goal.returns-clause-engine
returns-clause-engine c =
    let t = c.args.leases in
    let n = c.args.config.now.libraries in
    let sides = c.in_ok-commands.field-0 in
    record {
      count = engine_count t n sides (are_sides c);
      each = engine_ends t n sides (are_sides c) _ refl refl;
    }

pub returns-clause-libraries : goal.returns-clause-libraries
returns-clause-libraries c =
    let t = c.args.leases in
    let n = c.args.config.now.libraries in
    let sides = c.in_ok-commands.field-0 in
    record {
      count = library_count t n sides (are_sides c);
      each = library_ends t n sides (are_sides c) _ refl refl refl;
    }
