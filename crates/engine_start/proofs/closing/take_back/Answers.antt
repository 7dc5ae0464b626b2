use Rattle.std.proofs.Common.{rules, ◌<◌, ℕ, List, [], sym, ap, subst, ◌∙◌}
use Rattle.engine_start.proofs.Closings.{taken_back_is, takes_back}
use Rattle.lease_core.specs.Lines.{lines_of, word_of}
use Rattle.lease_core.specs.Showable.{IsOwned}
use Rattle.lease_core.specs.State.{owner_of, state_of}
use Rattle.lease_core.specs.declared.word.Word.{Word}
use Rattle.session_book.specs.Book.{Book, Desk, with_outbox}
use Rattle.session_book.specs.Words.{after_timeout}
use Rattle.engine_start.proofs.closing.take_back.Goals as goal

pub returns : goal.returns
returns c =
    let old = c.args.book.now.book in
    let kept = c.reserve.new.self.book in
    let out = c.new-nowhere.result.outgoing in
    let some : 0 < owner_of (state_of c.args.book.now.book.entries) = search rules in
    let owned : IsOwned (lines_of old.entries) = subst (λ (n : ℕ). 0 < n) (sym (c.lines_tell_the_owner.ensures.owner old.entries)) some in
    let is =
    ap (λ (d : Desk). d.book) c.time_out.ensures.news
    ∙ ap (λ (bodies : List (List ℕ)). (after_timeout 0 0 c.word-word.result bodies (with_outbox kept out)).book) c.new-none.ensures.items
    ∙ ap (λ (w : Word). (after_timeout 0 0 w [] (with_outbox kept out)).book) c.word-word.ensures
    ∙ ap (λ (b : Book). (after_timeout 0 0 (word_of (lines_of b.entries)) [] (with_outbox b out)).book) c.reserve.ensures.book
    ∙ taken_back_is 0 0 old out c.is_settled.ensures owned in
    takes_back old c.time_out.new.self.book some is
