use Rattle.std.proofs.Common.{◌≤◌, ◌++◌, List, ℕ, length, arith, ap, ◌∙◌}
use Rattle.fix_frame.specs.Frame.{frame_of}
use Rattle.fix_frame.specs.Cut.{cut}
use Rattle.fix_frame.specs.declared.layout.TheConstants.{LONGEST_FRAME}
use Rattle.fix_frame.proofs.Written.{frame_cut, length-frame, longest}
use Rattle.fix_frame.proofs.write.write_frame.Goals as goal

pub returns-clause-cut : goal.returns-clause-cut
returns-clause-cut c =
    let body = c.args.body.now in
    let short : length (frame_of body) ≤ LONGEST_FRAME = omega (arith, c.len_with-length.ensures, c.if-length-gt-LONGEST_FRAME.false) in
    λ more.
    ap (λ (x : List ℕ). cut LONGEST_FRAME (x ++ more)) c.in_ok-framed.ensures ∙ frame_cut LONGEST_FRAME body c.requires short (omega (arith, length-frame body)) more

pub returns-then-length-gt-LONGEST_FRAME-clause-fits : goal.returns-then-length-gt-LONGEST_FRAME-clause-fits
returns-then-length-gt-LONGEST_FRAME-clause-fits c = λ small n e. omega (arith, c.len_with-length.ensures, c.if-length-gt-LONGEST_FRAME.true, (longest c.args.body.now).1 small)
