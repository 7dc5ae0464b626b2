use Rattle.std.proofs.Common.{rules, ◌∙◌, ap, refl}
use Rattle.lease_words.specs.Leases.{held_lease}
use Rattle.lease_words.specs.Views.{LibraryView, library_session}
use Rattle.lease_words.proofs.LibraryAnswers.{held_told, row_within}
use Rattle.lease_words.proofs.leases.Leases.held.Goals as goal

pub returns-clause-lease : goal.returns-clause-lease
returns-clause-lease c =
    held_told _ _ _ _ _ c.seat.invariant refl c.args.s (row_within _ _ _ _ _ c.seat.invariant refl c.args.s (search rules)) _ c.index.ensures _ c.read_word.ensures.word
    ∙ ap (λ (v : LibraryView). held_lease (library_session v.knows c.args.s).leases) c.seat.view_is
