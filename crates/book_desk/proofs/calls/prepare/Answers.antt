use Rattle.book_desk.proofs.calls.prepare.Goals as goal

pub returns-clause-written : goal.returns-clause-written
returns-clause-written c =
    c.what_waits_can_be_written.ensures.kept _ _ _ _ _ c.written_names.ensures.names c.outbound.ensures.series c.prepare.ensures.items c.requires.written
