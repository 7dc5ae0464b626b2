use Rattle.std.proofs.Common.{rules, arith, ◌≡◌, ◌<◌, ◌≤◌, ap, sym, subst, refl, ◌∙◌}
use Rattle.lease_core.specs.Lines.{granted_line}
use Rattle.lease_words.specs.declared.view.EngineSession.{EngineSession}
use Rattle.lease_core.specs.Word.{word_in}
use Rattle.lease_words.specs.Leases.{is_running}
use Rattle.lease_words.specs.Views.{engine_session}
use Rattle.lease_words.proofs.Lines.{running_of_push}
use Rattle.lease_words.proofs.EngineCalls.{engine_rests, grant_told}
use Rattle.lease_words.proofs.Tokens.{lease_within, session_now}
use Rattle.lease_words.proofs.TakeCalls.{grant_swaps, grant_owes}
use Rattle.lease_words.proofs.leases.Leases.grant.Goals as goal

pub write_word-word-requires-clause-owner : goal.write_word-word-requires-clause-owner
write_word-word-requires-clause-owner c =
    let most = subst (λ n. c.args.library ≤ n) (ap (λ t. t.shape.libraries) (sym c.self.view_is)) c.requires.library.1 in
    let few = c.self.invariant.shape.libraries in
    omega (arith, most, few)

pub swap-requires : goal.swap-requires
swap-requires c =
    let shape : c.seat.inside.seat.me.0.shape ≡ c.self.inside.table.shared.key = search rules in
    let here = subst (λ n. c.args.s < n) (ap (λ t. t.shape.sessions) (sym c.self.view_is)) c.requires.session in
    let most = subst (λ n. c.args.library ≤ n) (ap (λ t. t.shape.libraries) (sym c.self.view_is)) c.requires.library.1 in (
      search rules,
      lease_within _ _ _ _ _ _ _ _ c.self.invariant here c.lease_word.ensures,
      grant_swaps _ _ _ _ _ c.seat.invariant shape c.self.invariant.shape here c.index.ensures _ _ c.args.library _ _ c.lease_word.ensures c.requires.library.0 most (search rules) (search rules) (search rules) c.write_word-word.ensures.number refl,
    )

pub invariant_of-seat : goal.invariant_of-seat
invariant_of-seat c =
    let shape : c.seat.inside.seat.me.0.shape ≡ c.self.inside.table.shared.key = search rules in
    let here = subst (λ n. c.args.s < n) (ap (λ t. t.shape.sessions) (sym c.self.view_is)) c.requires.session in
    let most = subst (λ n. c.args.library ≤ n) (ap (λ t. t.shape.libraries) (sym c.self.view_is)) c.requires.library.1 in
    grant_owes _ _ _ _ _ c.seat.invariant shape c.self.invariant.shape here c.index.ensures _ 0 _ c.args.library _ 0 _ c.lease_word.ensures most c.write_word-word.ensures.read refl c.swap.ensures.2

pub returns-clause-active : goal.returns-clause-active
returns-clause-active c =
    let shape : c.seat.inside.seat.me.0.shape ≡ c.self.inside.table.shared.key = search rules in
    let here = subst (λ n. c.args.s < n) (ap (λ t. t.shape.sessions) (sym c.self.view_is)) c.requires.session in
    let told = grant_told _ 0 c.args.s _ 0 c.write_word-word.result _ _ _ _ (engine_rests _ _ _ c.seat.invariant shape) c.lease_word.ensures c.swap.ensures.2 in
    ap (λ (es : EngineSession). is_running es.lines) (session_now _ c.swap.new.seat _ _ _ _ _ c.seat.invariant shape here told.0) ∙ running_of_push (engine_session c.seat.inside.seat.me.0.knows c.args.s).lines (granted_line (word_in c.write_word-word.result).owner)
