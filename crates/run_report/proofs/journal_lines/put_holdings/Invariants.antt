use Rattle.std.proofs.Common.{◌≡◌, ◌++◌, take}
use Rattle.std.specs.List.{flat_map}
use Rattle.run_report.specs.Sessions.{holding_line}
use Rattle.run_report.proofs.journal_lines.put_holdings.Given as goal

abbrev pub invariant-loop-holding : goal.invariant-loop-holding
invariant-loop-holding l = l.out.items ≡ l.initial.out.items ++ flat_map holding_line (take l.holding-index l.holdings)
