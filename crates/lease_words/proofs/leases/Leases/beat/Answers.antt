use Rattle.std.proofs.Common.{rules, ◌≡◌, ◌+◌, ◌≤◌, ap, subst, ◌∙◌}
use Rattle.lease_words.specs.declared.view.Shape.{Shape}
use Rattle.lease_words.specs.Layout.{beat_word}
use Rattle.lease_words.proofs.Tokens.{beat_within}
use Rattle.lease_words.proofs.LibraryCalls.{library_rests}
use Rattle.lease_words.proofs.LibraryAnswers.{beat_step}
use Rattle.lease_words.proofs.leases.Leases.beat.Goals as goal

pub store-requires : goal.store-requires
store-requires c =
    let shape : c.seat.inside.seat.me.0.shape ≡ c.self.inside.table.shared.key = search rules in
    let most = subst (λ (k : Shape). c.seat.inside.number ≤ k.libraries) shape c.seat.invariant.within in
    let at : c.beat_word-word.result ≡ beat_word c.self.inside.table.shared.key.sessions c.seat.inside.number = c.beat_word-word.ensures ∙ ap (λ n. beat_word n c.seat.inside.number) c.self.invariant.sessions_are in
    (search rules, beat_within _ _ _ _ _ _ _ _ c.self.invariant c.seat.invariant.from_one most at, beat_step _ _ _ _ c.seat.inside.number _ _ _ (library_rests _ _ _ _ _ c.seat.invariant shape) c.seat.invariant.number_is at (ap (λ n. n + 1) c.seat.invariant.beats_are))
