use Rattle.std.proofs.Common.{◌≡◌, [], replicate}
use Rattle.journal_audit.proofs.session.nothing_owed.Given as goal

abbrev pub invariant-loop-library : goal.invariant-loop-library
invariant-loop-library l = l.owed.items ≡ replicate l.library []
