use Rattle.fix_frame.proofs.Told.{good-frame, frame-good, garbled-missummed, missummed-garbled, rest-prefix, prefix-rest, garbled-stray, stray-garbled}
use Rattle.fix_frame.proofs.laws.pieces_are_told_by_frames.Goals as goal

pub returns-clause-good : goal.returns-clause-good
returns-clause-good c = λ limit bytes body size. (good-frame limit bytes body size, frame-good limit bytes body size)

pub returns-clause-missummed : goal.returns-clause-missummed
returns-clause-missummed c = λ limit bytes size more. (garbled-missummed limit bytes size more, missummed-garbled limit bytes size)

pub returns-clause-rest : goal.returns-clause-rest
returns-clause-rest c = λ limit bytes. (rest-prefix limit bytes, prefix-rest limit bytes)

pub returns-clause-stray : goal.returns-clause-stray
returns-clause-stray c = λ limit bytes. (garbled-stray limit bytes, stray-garbled limit bytes)
