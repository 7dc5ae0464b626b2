use Rattle.std.proofs.Common.{rules, ◌≡◌, ◌<◌, ap, sym, subst}
use Rattle.lease_core.specs.declared.word.Word.{Word}
use Rattle.lease_core.specs.Showable.{IsShowable}
use Rattle.lease_words.specs.Views.{EngineView, engine_session}
use Rattle.lease_words.proofs.Tokens.{lease_within}
use Rattle.lease_words.proofs.EngineCalls.{engine_rests, look_step, look_told, look_owes}
use Rattle.lease_words.proofs.Shows.{look_shows}
use Rattle.lease_words.proofs.leases.Leases.look.Goals as goal

pub load-n-requires : goal.load-n-requires
load-n-requires c =
    let shape : c.seat.inside.seat.me.0.shape ≡ c.self.inside.table.shared.key = search rules in
    let here = subst (λ n. c.args.s < n) (ap (λ t. t.shape.sessions) (sym c.self.view_is)) c.requires.session in
    (search rules, lease_within _ _ _ _ _ _ _ _ c.self.invariant here c.lease_word.ensures, look_step _ _ _ c.args.s _ _ _ _ (engine_rests _ _ _ c.seat.invariant shape) here c.lease_word.ensures)

pub see-requires-clause-more : goal.see-requires-clause-more
see-requires-clause-more c =
    let shape : c.seat.inside.seat.me.0.shape ≡ c.self.inside.table.shared.key = search rules in
    let here = subst (λ n. c.args.s < n) (ap (λ t. t.shape.sessions) (sym c.self.view_is)) c.requires.session in
    (look_owes _ c.load-n.new.seat _ _ 0 _ _ _ _ _ c.seat.invariant shape c.self.invariant.shape here c.lease_word.ensures c.read_word-word.ensures.word c.index_mut.ensures.value c.load-n.ensures.2).more

pub see-requires-clause-room : goal.see-requires-clause-room
see-requires-clause-room c =
    let shape : c.seat.inside.seat.me.0.shape ≡ c.self.inside.table.shared.key = search rules in
    let here = subst (λ n. c.args.s < n) (ap (λ t. t.shape.sessions) (sym c.self.view_is)) c.requires.session in
    (look_owes _ c.load-n.new.seat _ _ 0 _ _ _ _ _ c.seat.invariant shape c.self.invariant.shape here c.lease_word.ensures c.read_word-word.ensures.word c.index_mut.ensures.value c.load-n.ensures.2).room

pub invariant_of-seat : goal.invariant_of-seat
invariant_of-seat c =
    let shape : c.seat.inside.seat.me.0.shape ≡ c.self.inside.table.shared.key = search rules in
    let here = subst (λ n. c.args.s < n) (ap (λ t. t.shape.sessions) (sym c.self.view_is)) c.requires.session in
    (look_owes _ _ _ _ 0 _ _ _ _ _ c.seat.invariant shape c.self.invariant.shape here c.lease_word.ensures c.read_word-word.ensures.word c.index_mut.ensures.value c.load-n.ensures.2).again _ c.see.ensures.lease c.see.ensures.library c.see.ensures.count c.see.ensures.pending

pub returns-clause-showable : goal.returns-clause-showable
returns-clause-showable c =
    let shape : c.seat.inside.seat.me.0.shape ≡ c.self.inside.table.shared.key = search rules in
    let told = look_told _ 0 c.args.s _ _ _ _ _ _ (engine_rests _ _ _ c.seat.invariant shape) c.lease_word.ensures c.load-n.ensures.2 in
    subst (λ (z : EngineView × Word). IsShowable (engine_session z.0.knows c.args.s).lines z.1) (λ j. (c.seat.view_is j, sym c.read_word-word.ensures.word j)) (look_shows _ _ _ _ _ c.word_laws.ensures.showable told.1)
