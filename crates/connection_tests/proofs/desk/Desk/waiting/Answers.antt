use Rattle.connection_tests.proofs.desk.Desk.waiting.Goals as goal

pub prepare-requires-clause-named : goal.prepare-requires-clause-named
prepare-requires-clause-named c =
    c.items_have_text.ensures.unmade c.self.inside.names c.self.inside.log.series c.self.invariant.items c.self.inside.connection.out.outgoing c.self.invariant.queued
