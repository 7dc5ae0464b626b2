use Rattle.std.proofs.Common.{List, ap, sym, ◌∙◌}
use Rattle.lease_core.specs.Lines.{entries_after_hold}
use Rattle.lease_core.specs.State.{state_of}
use Rattle.lease_core.specs.declared.entry.Entry.{Entry}
use Rattle.session_core.specs.State.{State}
use Rattle.session_book.proofs.ReadingBack.{bound_held, resumed_is_book}
use Rattle.session_book.proofs.book.SessionBook.resume.Goals as goal

pub invariant_of-result : goal.invariant_of-result
invariant_of-result c =
    let machine_is = c.in_ok-machine.ensures.machine in
    let read = c.in_ok-recovery.ensures in (
      resumed_is_book c.entries_decide_one_by_one.ensures.state c.args.us.items c.args.them.items c.args.dials c.args.expected c.args.until c.args.revival _ _ _ _ _ c.with_room.ensures.is
          c.requires.us c.requires.them machine_is
          (c.resume.ensures.entries ∙ ap (λ (es : List Entry). entries_after_hold c.args.until es) read.entries)
          read.inbound read.outbound,
      record {
        us = c.in_ok-machine.ensures.us ∙ sym (ap (λ (m : State). m.names.us) machine_is);
        them = c.in_ok-machine.ensures.them ∙ sym (ap (λ (m : State). m.names.them) machine_is);
      },
    )

pub returns-clause-bound : goal.returns-clause-bound
returns-clause-bound c =
    ap (λ (es : List Entry). (state_of es).bound) (c.resume.ensures.entries ∙ ap (λ (es : List Entry). entries_after_hold c.args.until es) c.in_ok-recovery.ensures.entries)
    ∙ bound_held c.entries_decide_one_by_one.ensures.state c.args.until _
