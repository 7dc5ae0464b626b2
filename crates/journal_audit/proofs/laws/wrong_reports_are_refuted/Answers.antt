use Rattle.journal_audit.proofs.Refuted.{skips, reads_twice, reads_another, reads_for_another, reads_ungranted, reads_too_late, reads_of_none, sends_untold, sends_out_of_order, sends_one_more, sends_another, sends_for_another, gives_back_what_runs, gives_back_untold, hands_to_another, counts_another, gives_back_another}
use Rattle.journal_audit.proofs.laws.wrong_reports_are_refuted.Goals as goal

pub returns : goal.returns
returns c =
    let lawful = c.journals_are_lawful.ensures in
    let reads = c.reads_are_prefixes.ensures in
    let deeds = c.deeds_are_the_libraries_own.ensures.deeds in
    let bodies = c.deeds_are_the_libraries_own.ensures.bodies in
    record {
      skips = skips reads;
      reads_twice = reads_twice reads;
      reads_another = reads_another reads;
      reads_for_another = reads_for_another reads;
      reads_ungranted = reads_ungranted reads;
      reads_too_late = reads_too_late lawful reads;
      reads_of_none = reads_of_none reads;
      sends_untold = sends_untold deeds;
      sends_out_of_order = sends_out_of_order deeds;
      sends_one_more = sends_one_more deeds;
      sends_another = sends_another bodies;
      sends_for_another = sends_for_another deeds;
      gives_back_what_runs = gives_back_what_runs deeds;
      gives_back_untold = gives_back_untold deeds;
      hands_to_another = hands_to_another deeds;
      counts_another = counts_another deeds;
      gives_back_another = gives_back_another deeds;
    }
