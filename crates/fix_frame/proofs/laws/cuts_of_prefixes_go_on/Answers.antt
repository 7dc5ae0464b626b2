use Rattle.fix_frame.proofs.Cutting.{cut-append}
use Rattle.fix_frame.proofs.laws.cuts_of_prefixes_go_on.Goals as goal

pub returns : goal.returns
returns c = cut-append
