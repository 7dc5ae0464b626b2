use Rattle.std.proofs.Common.{◌++◌, ◌∷◌, [], ap, ◌∙◌}
use Rattle.session_book.proofs.ReadingBack.{read_goes_on}
use Rattle.session_book.proofs.reviving.Revival.take.Goals as goal

pub invariant_of-self-2 : goal.invariant_of-self-2
invariant_of-self-2 c =
    read_goes_on c.logs_stay_fit.ensures.entry c.logs_stay_fit.ensures.series c.entries_decide_one_by_one.ensures.state
    c.args.entry c.args.at c.args.body _ _ _ _ _ c.self.invariant c.requires.fit
    (c.record.ensures.entries ∙ ap (λ es. es ++ c.args.entry ∷ []) c.reserve.ensures.entries)
    c.in_ok-log_body.ensures.inbound c.in_ok-log_body.ensures.outbound
