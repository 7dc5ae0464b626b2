use Rattle.std.proofs.Common.{refl}
use Rattle.fix_frame.specs.Cut.{standing_at, behind_start, behind_field, behind_head}
use Rattle.std.specs.Fmt.{digits}
use Rattle.fix_frame.proofs.laws.worked_rows.Goals as goal

pub returns-clause-logon : goal.returns-clause-logon
unfolding digits
returns-clause-logon c = refl

pub returns-clause-leading_zeros : goal.returns-clause-leading_zeros
unfolding standing_at behind_start behind_field behind_head
returns-clause-leading_zeros c = refl

pub returns-clause-wrong_length : goal.returns-clause-wrong_length
unfolding standing_at behind_start behind_field behind_head
returns-clause-wrong_length c = refl

pub returns-clause-wrong_sum : goal.returns-clause-wrong_sum
unfolding standing_at behind_start behind_field behind_head
returns-clause-wrong_sum c = refl

pub returns-clause-too_long : goal.returns-clause-too_long
unfolding standing_at behind_start behind_field behind_head
returns-clause-too_long c = refl

pub returns-clause-longest : goal.returns-clause-longest
unfolding standing_at behind_start behind_field behind_head
returns-clause-longest c = refl

pub returns-clause-too_short : goal.returns-clause-too_short
unfolding standing_at behind_start behind_field behind_head
returns-clause-too_short c = refl

pub returns-clause-least : goal.returns-clause-least
unfolding standing_at behind_start behind_field behind_head
returns-clause-least c = refl

pub returns-clause-no_length : goal.returns-clause-no_length
unfolding standing_at behind_start behind_field behind_head
returns-clause-no_length c = refl

pub returns-clause-some_length : goal.returns-clause-some_length
unfolding standing_at behind_start behind_field behind_head
returns-clause-some_length c = refl

pub returns-clause-other_body : goal.returns-clause-other_body
unfolding standing_at behind_start behind_field behind_head
returns-clause-other_body c = refl
