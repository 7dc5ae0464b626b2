use Rattle.lease_core.proofs.LeasesKept.{leases-kept}
use Rattle.lease_core.proofs.Raised.{lines-extended}
use Rattle.lease_core.proofs.WordsShown.{lines-held, lines-timed_out}
use Rattle.lease_core.proofs.laws.words_raise_lines.Goals as goal

pub returns-clause-shown : goal.returns-clause-shown
returns-clause-shown c = lines-extended

pub returns-clause-held : goal.returns-clause-held
returns-clause-held c = lines-held

pub returns-clause-timed_out : goal.returns-clause-timed_out
returns-clause-timed_out c = lines-timed_out

pub returns-clause-kept : goal.returns-clause-kept
returns-clause-kept c = leases-kept
