-- The names and the tag of the number are those that are kept.
use Rattle.resend_plan.proofs.Heads.{header_by_parts}
use Rattle.resend_plan.proofs.wire.fill_header.Goals as goal

pub returns : goal.returns
returns c = rw (c.in_ok-push.ensures.items, c.in_ok-extend_from_slice-3.ensures.items, c.in_ok-extend_from_slice-2.ensures.items, c.in_ok-extend_from_slice.ensures.items, c.clear.ensures.items, c.text.ensures, c.in_ok-keep.ensures, c.as_bytes.ensures.value, c.format.ensures.text) (header_by_parts c.args.names.now c.args.kind.now c.args.number)
