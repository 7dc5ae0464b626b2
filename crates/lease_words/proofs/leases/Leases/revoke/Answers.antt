use Rattle.std.proofs.Common.{rules, true, ◌≡◌, ◌<◌, ap, sym, subst, ◌∙◌}
use Rattle.lease_core.specs.declared.word.Word.{Word}
use Rattle.lease_words.specs.Leases.{is_running}
use Rattle.lease_core.specs.Showable.{CanTimeOut}
use Rattle.lease_words.specs.Views.{EngineView, engine_session}
use Rattle.lease_words.proofs.Tokens.{lease_within, session_now}
use Rattle.lease_words.proofs.EngineCalls.{engine_rests, revoke_step, revoke_told, revoke_owes}
use Rattle.lease_words.proofs.Shows.{revoke_times_out, none_runs}
use Rattle.lease_words.specs.declared.view.EngineSession.{EngineSession}
use Rattle.lease_words.proofs.leases.Leases.revoke.Goals as goal

pub fetch_or-n-requires : goal.fetch_or-n-requires
fetch_or-n-requires c =
    let shape : c.seat.inside.seat.me.0.shape ≡ c.self.inside.table.shared.key = search rules in
    let here = subst (λ n. c.args.s < n) (ap (λ t. t.shape.sessions) (sym c.self.view_is)) c.requires.session in
    (search rules, lease_within _ _ _ _ _ _ _ _ c.self.invariant here c.lease_word.ensures, revoke_step _ _ _ c.args.s _ _ _ _ (engine_rests _ _ _ c.seat.invariant shape) here c.lease_word.ensures (search rules))

pub see-requires-clause-room : goal.see-requires-clause-room
see-requires-clause-room c =
    let shape : c.seat.inside.seat.me.0.shape ≡ c.self.inside.table.shared.key = search rules in
    let here = subst (λ n. c.args.s < n) (ap (λ t. t.shape.sessions) (sym c.self.view_is)) c.requires.session in
    (revoke_owes _ c.fetch_or-n.new.seat _ _ 0 _ _ 0 _ _ _ c.seat.invariant shape c.self.invariant.shape here c.lease_word.ensures c.read_word-word.ensures.word c.index_mut.ensures.value c.fetch_or-n.ensures.2).room

pub invariant_of-seat : goal.invariant_of-seat
invariant_of-seat c =
    let shape : c.seat.inside.seat.me.0.shape ≡ c.self.inside.table.shared.key = search rules in
    let here = subst (λ n. c.args.s < n) (ap (λ t. t.shape.sessions) (sym c.self.view_is)) c.requires.session in
    (revoke_owes _ _ _ _ 0 _ _ 0 _ _ _ c.seat.invariant shape c.self.invariant.shape here c.lease_word.ensures c.read_word-word.ensures.word c.index_mut.ensures.value c.fetch_or-n.ensures.2).again _ c.see.ensures.lease c.see.ensures.library c.see.ensures.count c.see.ensures.pending

pub returns-clause-can_time_out : goal.returns-clause-can_time_out
returns-clause-can_time_out c =
    let shape : c.seat.inside.seat.me.0.shape ≡ c.self.inside.table.shared.key = search rules in
    let told = revoke_told _ 0 c.args.s _ _ 0 _ _ _ _ (engine_rests _ _ _ c.seat.invariant shape) c.lease_word.ensures c.fetch_or-n.ensures.2 in
    let ran = subst (λ (v : EngineView). is_running (engine_session v.knows c.args.s).lines ≡ true) (sym c.seat.view_is) c.requires.active in
    subst (λ (z : EngineView × Word). CanTimeOut (engine_session z.0.knows c.args.s).lines z.1) (λ j. (c.seat.view_is j, sym c.read_word-word.ensures.word j)) (revoke_times_out _ _ _ _ _ c.word_laws.ensures.can_time_out told.1 ran)

pub returns-clause-ended : goal.returns-clause-ended
returns-clause-ended c =
    let shape : c.seat.inside.seat.me.0.shape ≡ c.self.inside.table.shared.key = search rules in
    let here = subst (λ n. c.args.s < n) (ap (λ t. t.shape.sessions) (sym c.self.view_is)) c.requires.session in
    let told = revoke_told _ 0 c.args.s _ _ 0 _ _ _ _ (engine_rests _ _ _ c.seat.invariant shape) c.lease_word.ensures c.fetch_or-n.ensures.2 in
    ap (λ (es : EngineSession). is_running es.lines) (session_now _ c.fetch_or-n.new.seat _ _ _ _ _ c.seat.invariant shape here told.0) ∙ none_runs _ _ told.1.look.is
