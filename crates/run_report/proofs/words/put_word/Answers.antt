use Rattle.std.proofs.Common.{◌++◌, ◌∙◌, ap}
use Rattle.fix_fields.specs.Stamp.{stamp_of}
use Rattle.run_report.specs.Lines.{stamp_word}
use Rattle.run_report.proofs.words.put_word.Goals as goal

pub returns-in_ok-extend_from_slice-in-Stamp : goal.returns-in_ok-extend_from_slice-in-Stamp
unfolding stamp_word
returns-in_ok-extend_from_slice-in-Stamp c =
    rw c.in-Stamp.is (c.in_ok-extend_from_slice-in-Stamp.ensures.items ∙ ap (λ text. c.args.out.now.items ++ text) (c.stamp_text.ensures ∙ ap stamp_of c.min.ensures))
