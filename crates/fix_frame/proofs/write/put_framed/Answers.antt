-- what is pushed one behind the other is the frame
use Rattle.std.proofs.Common.{refl, append_assoc}
use Rattle.fix_frame.proofs.write.put_framed.Goals as goal

pub returns-clause-ok : goal.returns-clause-ok
returns-clause-ok c =
    simp (
      append_assoc,
      c.in_ok-push-2.ensures.items,
      c.in_ok-extend_from_slice-5.ensures.items,
      c.in_ok-extend_from_slice-4.ensures.items,
      c.in_ok-extend_from_slice-3.ensures.items,
      c.in_ok-push.ensures.items,
      c.in_ok-extend_from_slice-2.ensures.items,
      c.in_ok-extend_from_slice.ensures.items,
      c.in_ok-reserve.ensures.items,
      c.three_digits.ensures,
      c.sum_of-sum.ensures,
      c.as_bytes.ensures.value,
      c.requires.digits,
    ) refl
