use Rattle.std.proofs.Common.{rules, ◌<◌, ap, sym, subst, Some}
use Rattle.lease_words.specs.Answers.{IsOffering}
use Rattle.lease_words.proofs.Tokens.{lease_within, taken_within}
use Rattle.lease_words.proofs.SendCalls.{commit_step, commit_slot, hand_back_step}
use Rattle.lease_words.proofs.leases.Leases.offer.Goals as goal

pub compare_exchange-found-requires : goal.compare_exchange-found-requires
compare_exchange-found-requires c =
    let here = subst (λ n. c.args.s < n) (ap (λ t. t.shape.sessions) (sym c.self.view_is)) c.requires.session in
    let offers = subst (λ t. IsOffering t.shape c.args.s c.args.number c.args.slot c.args.word c.args.seat.now.me) (sym c.self.view_is) c.requires.offers in
    (search rules, lease_within _ _ _ _ _ _ _ _ c.self.invariant here c.lease_word.ensures, commit_step _ _ _ _ _ c.args.item _ offers _ _ _ _ here c.exchange-vacant.ensures.3 c.lease_word.ensures)

pub exchange-filled-requires : goal.exchange-filled-requires
exchange-filled-requires c =
    let offers = subst (λ t. IsOffering t.shape c.args.s c.args.number c.args.slot c.args.word c.args.seat.now.me) (sym c.self.view_is) c.requires.offers in
    (search rules, (Some c.args.item, commit_slot _ _ _ _ _ c.args.item _ offers 0 _ _ _ _ c.exchange-vacant.ensures.3 c.lease_word.ensures c.compare_exchange-found.ensures.2 c.if-found-word.false))

pub load-requires : goal.load-requires
load-requires c =
    let here = subst (λ n. c.args.s < n) (ap (λ t. t.shape.sessions) (sym c.self.view_is)) c.requires.session in
    let offers = subst (λ t. IsOffering t.shape c.args.s c.args.number c.args.slot c.args.word c.args.seat.now.me) (sym c.self.view_is) c.requires.offers in (
      search rules,
      taken_within _ _ _ _ _ _ _ _ _ c.self.invariant here c.requires.number c.taken_word.ensures,
      hand_back_step _ _ _ _ _ c.args.item _ offers _ _ _ _ _ c.exchange-vacant.ensures.3 c.lease_word.ensures c.compare_exchange-found.ensures.2 _ c.if-found-word.false c.exchange-filled.ensures.3 _ _ here c.taken_word.ensures,
    )
