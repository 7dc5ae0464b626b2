use Rattle.std.proofs.Common.{◌≡◌, ◌∷◌, [], length, sym, ap, subst, ◌∙◌, append_assoc, arith}
use Rattle.std.specs.Vec.Iter.{into_iter_items}
use Rattle.session_book.specs.Acts.{CanCarry, after_act}
use Rattle.session_book.proofs.Carrying.{acts_one_more, can_rest}
use Rattle.session_book.proofs.book.SessionBook.carry_all.Goals as goal

pub loop-act-preserved : goal.loop-act-preserved
loop-act-preserved c =
    let at = c.loop-act in
    let act = c.in-Some.act in
    let steps : into_iter_items at.act-iterator ≡ act ∷ into_iter_items c.next.new.self = c.in-Some.ensures.steps.0 in
    let now = c.in_ok-carry.ensures.ok ∙ ap (λ s. after_act c.args.at act s) at.invariant.now in
    let can = can_rest c.entries_decide_one_by_one.ensures.state c.args.at act (into_iter_items c.next.new.self) _ _ (subst (CanCarry at.self.book) steps at.invariant.can) in
    record {
      all = append_assoc at.yielded (act ∷ []) _ ∙ rw (← steps) at.invariant.all;
      now = now ∙ sym (acts_one_more c.args.at at.yielded act _);
      can = subst (λ s. CanCarry s.book (into_iter_items c.next.new.self)) (sym c.in_ok-carry.ensures.ok) can;
      bound = c.carry.ensures.bound ∙ at.invariant.bound;
      session = record { names = c.carry.ensures.session.names ∙ at.invariant.session.names; dials = c.carry.ensures.session.dials ∙ at.invariant.session.dials };
      phase = c.carry.ensures.phase ∙ at.invariant.phase;
      len = (let was = at.invariant.len in let gone = c.in-Some.ensures.steps.1 in let short = ap length steps in omega arith);
    }
