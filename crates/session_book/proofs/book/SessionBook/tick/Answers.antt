use Rattle.std.proofs.Common.{◌≡◌, List, true, refl, sym, ap, subst, ◌∙◌}
use Rattle.std.specs.List.{All}
use Rattle.session_core.specs.Tasks.{is_tick_act}
use Rattle.session_core.specs.declared.acts.Act.{Act}
use Rattle.session_book.proofs.Carrying.{ticks_carry}
use Rattle.session_book.proofs.book.SessionBook.tick.Goals as goal

pub carry_all-requires-clause-can : goal.carry_all-requires-clause-can
carry_all-requires-clause-can c =
    ticks_carry _ _ c.args.at _ c.self.invariant.0 refl
    (c.into_inner.ensures ∙ ap (λ e. e.acts) c.in_ok-effects.ensures.effects)
    (subst (λ (acts : List Act). All (λ act. is_tick_act act ≡ true) acts) (sym c.into_inner.ensures) c.in_ok-effects.ensures.ticks)
