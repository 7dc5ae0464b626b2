use Rattle.std.proofs.Common.{rules, ◌≡◌, ◌<◌, ap, sym, subst, ◌∙◌}
use Rattle.lease_words.proofs.Tokens.{taken_within}
use Rattle.lease_words.proofs.SendSeats.{claim_step, loaded, full_library, spent_library, sent_library, sent_others, sent_committed, sent_loaded, sent_room, lost_library, lost_others, lost_loaded, lost_refused}
use Rattle.lease_words.proofs.leases.Leases.send.Goals as goal

pub load-taken-requires : goal.load-taken-requires
load-taken-requires c =
    let shape : c.seat.inside.seat.me.0.shape ≡ c.self.inside.table.shared.key = search rules in
    let here = subst (λ n. c.args.s < n) (ap (λ t. t.shape.sessions) (sym c.self.view_is)) c.requires.session in (
      search rules,
      taken_within _ _ _ _ _ _ _ _ _ c.self.invariant here c.seat.invariant.to_last c.taken_word-lane.ensures,
      claim_step _ _ _ _ _ _ _ c.args.s _ c.seat.invariant shape here c.taken_word-lane.ensures,
    )

pub invariant_of-seat : goal.invariant_of-seat
invariant_of-seat c =
    let x = loaded _ c.load-taken.new.seat _ _ _ _ _ _ _ _ _ _ 0 _ _ _ _ _ _ c.self.invariant c.self.view_is c.seat.invariant c.seat.view_is c.requires.table c.requires.session c.requires.held.0 c.requires.held.1 c.index.ensures c.taken_word-lane.ensures c.load-taken.ensures.2 in
    full_library _ _ _ _ _ _ _ _ _ _ _ _ _ x c.if-committed-taken.true

pub invariant_of-seat-then-count-self : goal.invariant_of-seat-then-count-self
invariant_of-seat-then-count-self c =
    let x = loaded _ c.load-taken.new.seat _ _ _ _ _ _ _ _ _ _ 0 _ _ _ _ _ _ c.self.invariant c.self.view_is c.seat.invariant c.seat.view_is c.requires.table c.requires.session c.requires.held.0 c.requires.held.1 c.index.ensures c.taken_word-lane.ensures c.load-taken.ensures.2 in
    spent_library _ _ _ _ _ _ _ _ _ _ _ _ _ x c.if-count-self.true

pub invariant_of-seat-in-Ok : goal.invariant_of-seat-in-Ok
invariant_of-seat-in-Ok c =
    let x = loaded _ c.load-taken.new.seat _ _ _ _ _ _ _ _ _ _ 0 _ _ _ _ _ _ c.self.invariant c.self.view_is c.seat.invariant c.seat.view_is c.requires.table c.requires.session c.requires.held.0 c.requires.held.1 c.index.ensures c.taken_word-lane.ensures c.load-taken.ensures.2 in
    sent_library _ _ _ _ _ _ _ _ _ _ _ _ _ x c.if-committed-taken.false c.if-count-self.false c.offer.new.seat c.args.item c.in-Ok.ensures.sent

pub invariant_of-seat-in-Err : goal.invariant_of-seat-in-Err
invariant_of-seat-in-Err c =
    let x = loaded _ c.load-taken.new.seat _ _ _ _ _ _ _ _ _ _ 0 _ _ _ _ _ _ c.self.invariant c.self.view_is c.seat.invariant c.seat.view_is c.requires.table c.requires.session c.requires.held.0 c.requires.held.1 c.index.ensures c.taken_word-lane.ensures c.load-taken.ensures.2 in
    lost_library _ _ _ _ _ _ _ _ _ _ _ _ _ x c.if-committed-taken.false c.if-count-self.false c.offer.new.seat c.in-Err.found c.in-Err.ensures.failed _ c.index_mut-in-Err.ensures.value

pub returns-in-Ok-clause-others : goal.returns-in-Ok-clause-others
returns-in-Ok-clause-others c =
    let x = loaded _ c.load-taken.new.seat _ _ _ _ _ _ _ _ _ _ 0 _ _ _ _ _ _ c.self.invariant c.self.view_is c.seat.invariant c.seat.view_is c.requires.table c.requires.session c.requires.held.0 c.requires.held.1 c.index.ensures c.taken_word-lane.ensures c.load-taken.ensures.2 in
    sent_others _ _ _ _ _ _ _ _ _ _ _ _ _ x c.if-committed-taken.false c.if-count-self.false c.offer.new.seat c.args.item c.in-Ok.ensures.sent _ (c.offer.ensures.table.0 ∙ c.load-taken.ensures.0) (ap (λ v. v.table) c.seat.view_is)

pub returns-in-Ok-clause-committed : goal.returns-in-Ok-clause-committed
returns-in-Ok-clause-committed c =
    let x = loaded _ c.load-taken.new.seat _ _ _ _ _ _ _ _ _ _ 0 _ _ _ _ _ _ c.self.invariant c.self.view_is c.seat.invariant c.seat.view_is c.requires.table c.requires.session c.requires.held.0 c.requires.held.1 c.index.ensures c.taken_word-lane.ensures c.load-taken.ensures.2 in
    sent_committed _ _ _ _ _ _ _ _ _ _ _ _ _ x c.if-committed-taken.false c.if-count-self.false c.offer.new.seat c.args.item c.in-Ok.ensures.sent

pub returns-in-Err-clause-others : goal.returns-in-Err-clause-others
returns-in-Err-clause-others c =
    let x = loaded _ c.load-taken.new.seat _ _ _ _ _ _ _ _ _ _ 0 _ _ _ _ _ _ c.self.invariant c.self.view_is c.seat.invariant c.seat.view_is c.requires.table c.requires.session c.requires.held.0 c.requires.held.1 c.index.ensures c.taken_word-lane.ensures c.load-taken.ensures.2 in
    lost_others _ _ _ _ _ _ _ _ _ _ _ _ _ x c.if-committed-taken.false c.if-count-self.false c.offer.new.seat c.in-Err.found c.in-Err.ensures.failed _ (c.offer.ensures.table.0 ∙ c.load-taken.ensures.0) (ap (λ v. v.table) c.seat.view_is)

pub returns-in-Err-clause-refused : goal.returns-in-Err-clause-refused
returns-in-Err-clause-refused c =
    let x = loaded _ c.load-taken.new.seat _ _ _ _ _ _ _ _ _ _ 0 _ _ _ _ _ _ c.self.invariant c.self.view_is c.seat.invariant c.seat.view_is c.requires.table c.requires.session c.requires.held.0 c.requires.held.1 c.index.ensures c.taken_word-lane.ensures c.load-taken.ensures.2 in
    lost_refused _ _ _ _ _ _ _ _ _ _ _ _ _ x c.if-committed-taken.false c.if-count-self.false c.offer.new.seat c.in-Err.found c.in-Err.ensures.failed _ c.read_word-seen.ensures.word

pub returns-in-Ok-clause-loaded : goal.returns-in-Ok-clause-loaded
returns-in-Ok-clause-loaded c =
    let x = loaded _ c.load-taken.new.seat _ _ _ _ _ _ _ _ _ _ 0 _ _ _ _ _ _ c.self.invariant c.self.view_is c.seat.invariant c.seat.view_is c.requires.table c.requires.session c.requires.held.0 c.requires.held.1 c.index.ensures c.taken_word-lane.ensures c.load-taken.ensures.2 in
    sent_loaded _ _ _ _ _ _ _ _ _ _ _ _ _ x c.if-committed-taken.false c.if-count-self.false c.offer.new.seat c.args.item c.in-Ok.ensures.sent

pub returns-in-Ok-clause-room : goal.returns-in-Ok-clause-room
returns-in-Ok-clause-room c =
    let x = loaded _ c.load-taken.new.seat _ _ _ _ _ _ _ _ _ _ 0 _ _ _ _ _ _ c.self.invariant c.self.view_is c.seat.invariant c.seat.view_is c.requires.table c.requires.session c.requires.held.0 c.requires.held.1 c.index.ensures c.taken_word-lane.ensures c.load-taken.ensures.2 in
    sent_room _ _ _ _ _ _ _ _ _ _ _ _ _ x c.if-committed-taken.false c.if-count-self.false c.offer.new.seat c.args.item c.in-Ok.ensures.sent

pub returns-in-Err-clause-loaded : goal.returns-in-Err-clause-loaded
returns-in-Err-clause-loaded c =
    let x = loaded _ c.load-taken.new.seat _ _ _ _ _ _ _ _ _ _ 0 _ _ _ _ _ _ c.self.invariant c.self.view_is c.seat.invariant c.seat.view_is c.requires.table c.requires.session c.requires.held.0 c.requires.held.1 c.index.ensures c.taken_word-lane.ensures c.load-taken.ensures.2 in
    lost_loaded _ _ _ _ _ _ _ _ _ _ _ _ _ x c.if-committed-taken.false c.if-count-self.false c.offer.new.seat c.in-Err.found c.in-Err.ensures.failed
