use Rattle.std.proofs.Common.{rules, ◌≡◌, ◌≤◌, ap, sym, subst, ◌∙◌}
use Rattle.lease_words.specs.Layout.{beat_word}
use Rattle.lease_words.proofs.Tokens.{beat_within}
use Rattle.lease_words.proofs.EngineCalls.{engine_rests, listen_step}
use Rattle.lease_words.proofs.leases.Leases.beats.Goals as goal

pub load-requires : goal.load-requires
load-requires c =
    let shape : c.seat.inside.seat.me.0.shape ≡ c.self.inside.table.shared.key = search rules in
    let most = subst (λ n. c.args.library ≤ n) (ap (λ t. t.shape.libraries) (sym c.self.view_is)) c.requires.library.1 in
    let at : c.beat_word.result ≡ beat_word c.self.inside.table.shared.key.sessions c.args.library = c.beat_word.ensures ∙ ap (λ n. beat_word n c.args.library) c.self.invariant.sessions_are in
    (search rules, beat_within _ _ _ _ _ _ _ _ c.self.invariant c.requires.library.0 most at, listen_step _ _ _ _ c.args.library _ _ _ (engine_rests _ _ _ c.seat.invariant shape) at c.requires.library.0 most)
