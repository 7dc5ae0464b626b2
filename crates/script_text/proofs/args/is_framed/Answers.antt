use Rattle.std.proofs.Common.{sym, ap, ◌∙◌, nat_le}
use Rattle.std.proofs.lemmas.Bool.{false≢true}
use Rattle.fix_frame.specs.declared.layout.TheConstants.{LONGEST_FRAME}
use Rattle.script_text.proofs.Bodies.{framed_not, framed_is, not_body}
use Rattle.script_text.proofs.args.is_framed.Goals as goal

pub returns-then-is_body : goal.returns-then-is_body
returns-then-is_body c = ap (λ n. nat_le n LONGEST_FRAME) c.frame_len.ensures ∙ framed_is _ (c.is_body.ensures.0 c.if-is_body.true)

pub returns-else-is_body : goal.returns-else-is_body
returns-else-is_body c = c.if-is_body.false ∙ framed_not _ (not_body _ (λ h. absurd (false≢true (sym c.if-is_body.false ∙ c.is_body.ensures.1 h))))
