use Rattle.journal_tests.proofs.writer.records_of.Goals as goal

pub returns-in-Ok : goal.returns-in-Ok
returns-in-Ok c =
    let stands = c.in-Ok.ensures.stands in
    record {
      lawful = c.files_hold_records.ensures.lawful _ _ _ _ stands;
      runs = c.files_hold_records.ensures.runs _ _ _ _ stands;
    }
