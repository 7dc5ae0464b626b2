use Rattle.std.proofs.Common.{sym, ◌∙◌, subst}
use Rattle.fix_frame.specs.Frame.{IsCheckField}
use Rattle.fix_frame.proofs.Stretches.{digits_part, is_good, is_garbled}
use Rattle.fix_frame.proofs.cutter.piece_of.Goals as goal

pub written_sum-requires : goal.written_sum-requires
written_sum-requires c =
    let h = c.requires in
    subst IsCheckField (sym (digits_part c.args.stretch.now c.args.start h.0 h.1 h.2 h.3)) h.3.check_field

pub returns-then-written_sum-checksum : goal.returns-then-written_sum-checksum
returns-then-written_sum-checksum c =
    λ f b d h. is_good c.args.stretch.now c.args.start f b d h (sym c.written_sum.ensures ∙ (c.if-written_sum-checksum.true ∙ c.checksum.ensures))

pub returns-else-written_sum-checksum : goal.returns-else-written_sum-checksum
returns-else-written_sum-checksum c =
    λ f b d h. is_garbled c.args.stretch.now c.args.start f b d h (λ e. c.if-written_sum-checksum.false (c.written_sum.ensures ∙ (e ∙ sym c.checksum.ensures)))
