use Rattle.std.proofs.Common.{◌≢◌, List, sym, subst}
use Rattle.std.specs.List.{All}
use Rattle.session_core.specs.Tasks.{IsReply}
use Rattle.session_core.specs.declared.acts.Act.{Act}
use Rattle.session_core.specs.declared.phases.Phase.TheVariants.{Off}
use Rattle.session_book.specs.Acts.{IsBoundIn}
use Rattle.session_book.specs.Kept.{Kept}
use Rattle.session_book.proofs.Carrying.{replies_carry}
use Rattle.session_book.proofs.book.SessionBook.receive.Goals as goal

pub carry_all-requires-clause-can : goal.carry_all-requires-clause-can
carry_all-requires-clause-can c =
    let on = subst (λ (k : Kept). k.book.machine.phase ≢ Off) (sym c.self.view_is) c.requires.on in
    let bound = subst (λ (k : Kept). IsBoundIn k.book) (sym c.self.view_is) c.requires.bound in
    replies_carry _ _ bound (subst (λ (acts : List Act). All IsReply acts) (sym c.into_inner.ensures) (c.in_ok-effects.ensures.replies on))
