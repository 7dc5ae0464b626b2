use Rattle.journal_audit.proofs.LawfulReports.{lawful_reports}
use Rattle.journal_audit.proofs.laws.journals_are_lawful.Goals as goal

pub returns : goal.returns
returns c = lawful_reports c.holdings_adjoin.ensures c.entries_decide_one_by_one.ensures.state
