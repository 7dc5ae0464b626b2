use Rattle.std.proofs.Common.{◌-◌, ◌^◌, ◌≤◌, arith, sym, ◌∙◌}
use Rattle.example_broker.proofs.Answered.{answers_on}
use Rattle.example_broker.proofs.answering.answer_message.Goals as goal

pub returns-clause-answers : goal.returns-clause-answers
returns-clause-answers g c =
    let last : c.args.pos ≤ 2 ^ 64 - 1 = omega (arith, c.ranges.pos.fits) in
    answers_on c.args.s c.args.pos c.args.bytes.now c.in_ok-answer.answer c.args.book.now c.answer_unread.new.book c.args.library.now c.answer_unread.new.library c.if-pos-book.false c.in_ok-answer.ensures.answers c.saturating_add-book.result
    c.saturating_add-book.ensures last (sym c.is_gone.ensures ∙ c.if-is_gone.false)
