use Rattle.std.proofs.Common.{List, sym, ap, subst, ◌∙◌}
use Rattle.lease_core.specs.declared.entry.Entry.{Entry}
use Rattle.session_book.specs.Book.{next_number}
use Rattle.session_book.specs.Kept.{AreNamesOf}
use Rattle.lease_core.specs.Lines.{lines_of, missing_sends}
use Rattle.session_book.proofs.Books.{names_sent, phase_sent}
use Rattle.session_book.proofs.News.{HasMore, fit_sent, more_timed, news_is_book, next_is}
use Rattle.session_book.proofs.book.SessionBook.time_out.Goals as goal

pub invariant_of-self : goal.invariant_of-self
invariant_of-self c =
    let is = c.self.invariant.0 in
    let old = c.self.inside.registry.entries in
    let machine = c.record_sends.ensures.machine in
    let names = ap (λ m. m.names) machine ∙ names_sent c.args.at _ _ in
    let more = subst (λ (es : List Entry). HasMore old es) (sym c.timeout-shown.ensures.entries) (more_timed c.entries_decide_one_by_one.ensures.state c.args.old.standing c.args.until old c.args.old) in
    let count = c.timeout-shown.ensures.sends ∙ ap (λ k. missing_sends (lines_of k.book.entries) c.args.old) c.self.view_is ∙ sym c.requires.bodies in (
      news_is_book _ _ _ _ _ c.args.at _ _ is (ap (λ m. m.phase) machine ∙ phase_sent c.args.at _ _) names more c.timeout-shown.ensures.logs count c.record_sends.ensures.series
          (fit_sent c.logs_stay_fit.ensures.entry c.args.at _ _ c.requires.fit is.fit),
      subst (λ ns. AreNamesOf ns c.self.inside.names) (sym names) c.self.invariant.1,
    )

pub returns-clause-first : goal.returns-clause-first
returns-clause-first c = c.timeout-shown.ensures.first ∙ next_is _ c.self.invariant.0 ∙ ap (λ k. next_number k.book) c.self.view_is
