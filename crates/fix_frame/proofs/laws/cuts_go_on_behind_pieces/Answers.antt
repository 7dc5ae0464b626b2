use Rattle.fix_frame.proofs.Told.{rest_cut, found_cut, found_fits}
use Rattle.fix_frame.proofs.laws.cuts_go_on_behind_pieces.Goals as goal

pub returns-clause-rest : goal.returns-clause-rest
returns-clause-rest c = rest_cut

pub returns-clause-found : goal.returns-clause-found
returns-clause-found c = found_cut

pub returns-clause-within : goal.returns-clause-within
returns-clause-within c = λ limit bytes found least e. let fits = found_fits limit bytes found least e in (fits.least, fits.most)
