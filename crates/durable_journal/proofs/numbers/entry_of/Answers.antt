use Rattle.std.proofs.Common.{◌≡◌, ◌∙◌, sym, ap}
use Rattle.std.proofs.lemmas.Option.{same_Some}
use Rattle.durable_journal.specs.Numbers.{numbers_of}
use Rattle.durable_journal.proofs.Likes.{like_by, differs}
use Rattle.durable_journal.proofs.numbers.entry_of.Goals as goal

pub returns-else-eq-clause-only : goal.returns-else-eq-clause-only
returns-else-eq-clause-only c = λ entry types moment is.
    let like = like_by c.args.numbers c.args.at entry types moment is in
    let same : c.in_ok-entry.entry ≡ entry = same_Some c.in_ok-entry.entry entry (sym c.in_ok-entry.was ∙ c.entry_like.ensures.like ∙ like) in
    absurd (differs c.numbers_of.result c.args.numbers (c.numbers_of.ensures.numbers ∙ ap numbers_of same ∙ is) (sym c.eq.ensures ∙ c.if-eq.false))
