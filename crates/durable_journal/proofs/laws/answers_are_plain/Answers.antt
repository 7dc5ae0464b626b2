use Rattle.durable_journal.proofs.Plain.{plain_reject, plain_test, plain_low, plain_no_number}
use Rattle.durable_journal.proofs.laws.answers_are_plain.Goals as goal

pub returns : goal.returns
returns c =
    let spelled = c.reads_as_spelled.ensures in
    let numbers = c.texts_are_plain.ensures.0 in
    record {
      reject = λ body fields n tag reason is. plain_reject fields ((spelled body fields).0 is.are_read).lawful is.kind is.typed n is.small tag reason;
      test = λ body fields n is. plain_test fields ((spelled body fields).0 is.are_read).lawful is.kind is.typed n is.small;
      low = λ expected got first second. plain_low expected got first second (numbers expected first) (numbers got second);
      no_number = plain_no_number;
    }
