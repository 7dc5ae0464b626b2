use Rattle.std.proofs.Common.{append_assoc}
use Rattle.run_report.specs.Connections.{connection_numbers}
use Rattle.run_report.proofs.connection_lines.put_numbers.Goals as goal

pub returns : goal.returns
unfolding connection_numbers
returns c = rw (c.in_ok-put_spaced.ensures, c.in_ok-extend_from_slice.ensures.items, c.bound_report_word.ensures) (append_assoc c.args.out.now.items _ _)
