use Rattle.std.proofs.Common.{List, ℕ, sym, subst}
use Rattle.fix_frame.specs.Frame.{frame_of}
use Rattle.gate_io.specs.MemWire.{ChangesLink, link_given, state_at}
use Rattle.script_run.specs.Comes.{ComesAs}
use Rattle.script_text.specs.declared.steps.Step.{Step}
use Rattle.script_run.proofs.coming.come.Goals as goal

pub returns-in_ok-give_frame-in-Frame-clause-comes : goal.returns-in_ok-give_frame-in-Frame-clause-comes
returns-in_ok-give_frame-in-Frame-clause-comes c =
    let old = c.args.wire.now in
    let new = c.give_frame.new.wire in
    subst (λ (s : Step). ComesAs s old new) (sym c.in-Frame.is)
    (subst (λ (b : List ℕ). ChangesLink old c.in-Frame.c (link_given (state_at old c.in-Frame.c) (frame_of b)) new) c.as_slice-in-Frame.ensures c.in_ok-give_frame-in-Frame.ensures.comes)
