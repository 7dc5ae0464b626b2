-- What carrying out a step does to the number line, and which acts follow.
use Rattle.std.specs.Prelude.{ℕ, zero, suc, ◌+◌, nat_le, ◌&&◌, List, [], ◌∷◌, ◌++◌, Option, None, Some, if◌then◌else◌}
use Rattle.std.specs.Option.{option_to_list}
use Rattle.std.specs.FinMap.{get}
use Rattle.seq_gaps.specs.declared.offered.Gap.{Gap}
use Rattle.seq_gaps.specs.declared.offered.Place.{Place}
use Rattle.seq_gaps.specs.declared.offered.Place.TheVariants.{Now, Held, Known, NoRoom}
use Rattle.seq_gaps.specs.declared.offered.Offered.{Offered}
use Rattle.seq_gaps.specs.declared.offered.TheConstants.{MAX_NUMBER, HELD_LIMIT}
use Rattle.seq_gaps.specs.Line.{Line, IsNumber, after_clear, after_fill, after_taking}
use Rattle.seq_gaps.specs.Offers.{answer_to_offer, after_offer}
use Rattle.session_core.specs.declared.acts.Act.{Act}
use Rattle.session_core.specs.declared.acts.Act.TheVariants.{Accept, Send}
use Rattle.session_core.specs.declared.acts.Admin.{Admin}
use Rattle.session_core.specs.declared.acts.Admin.TheVariants.{ResendRequest}
use Rattle.session_core.specs.declared.causes.Cause.{Cause}
use Rattle.session_core.specs.declared.steps.Step.{Step}
use Rattle.session_core.specs.declared.steps.Step.TheVariants.{Ignore, Refuse, Close, Move, Deliver, Handle}
use Rattle.session_core.specs.declared.tasks.Task.{Task}
use Rattle.session_core.specs.declared.tasks.Task.TheVariants.{Nothing, Do, Fill}

-- the line, and the acts so far
pub record Progress : Type 0 where
  pub line : Line Task
  pub acts : List Act

abbrev pub with_act : Progress → Act → Progress
with_act p act = record p { acts = p.acts ++ act ∷ [] }

-- the numbers below `to` are counted, where that goes forward
unfoldable pub after_fill_to : Line Task → ℕ → Line Task
after_fill_to line to = if nat_le line.expected to && nat_le to (MAX_NUMBER + 1) then after_fill line to else line

-- what a message asks for on its number is carried out
abbrev pub after_carrying : Progress → Task → Progress
after_carrying p Nothing = p
after_carrying p (Do act) = with_act p act
after_carrying p (Fill to) = record p { line = after_fill_to p.line to }

-- what is held of the expected number is taken, and goes on where there was something
abbrev pub after_ready : Progress → Progress
after_ready p = record p { line = after_taking p.line }

abbrev pub while_ready : (Progress → Progress) → Progress → Option Task → Progress
while_ready go_on p None = p
while_ready go_on p (Some task) = go_on (after_carrying (after_ready p) task)

-- Each held message whose number is the expected one is counted and carried out, in order; at most so many.
unfoldable pub after_draining : ℕ → Progress → Progress
after_draining zero p = p
after_draining (suc most) p = while_ready (after_draining most) p (get p.line.held p.line.expected)

-- a gap is asked for
abbrev pub with_request : List Act → Option Gap → List Act
with_request acts None = acts
with_request acts (Some gap) = acts ++ Send (ResendRequest gap.from gap.to) ∷ []

-- On its number a message is carried out, and then those held behind it. An early one is held while there is room.
abbrev pub on_place : Progress → Offered Task → Place Task → Progress
on_place p answer (Now task) = after_draining HELD_LIMIT (after_carrying p task)
on_place p answer Held = record p { acts = with_request p.acts answer.gap }
on_place p answer (Known task) = p
on_place p answer (NoRoom task) = p

abbrev pub on_offer : Progress → Offered Task → Progress
on_offer p answer = on_place p answer answer.place

-- a message is offered to the line with its number and what it asks for
unfoldable pub after_handling : Progress → ℕ → Task → Progress
after_handling p n task =
    on_offer (record p { line = after_offer p.line n task }) (answer_to_offer p.line n task)

abbrev pub closing_acts : Option Admin → Admin → List Act
closing_acts None last = Send last ∷ []
closing_acts (Some first) last = Send first ∷ Send last ∷ []

-- The line and the acts behind a step, for a message with this body. A step that ends the connection drops what is held.
abbrev pub after_step : Line Task → Step → List ℕ → Progress
after_step line Ignore body = record { line = line; acts = [] }
after_step line (Refuse reject) body = record { line = line; acts = Send reject ∷ [] }
after_step line (Close first last cause counts) body =
    record { line = after_clear (if counts then after_fill_to line (line.expected + 1) else line); acts = closing_acts first last }
after_step line (Move to) body = after_draining HELD_LIMIT (record { line = after_fill_to line to; acts = [] })
after_step line (Deliver n) body = after_handling (record { line = line; acts = [] }) n (Do (Accept body))
after_step line (Handle n at_once task) body = after_handling (record { line = line; acts = option_to_list at_once }) n task

-- the cause by which a step ends the connection
abbrev pub end_of : Step → Option Cause
end_of Ignore = None
end_of (Refuse reject) = None
end_of (Close first last cause counts) = Some cause
end_of (Move to) = None
end_of (Deliver n) = None
end_of (Handle n at_once task) = None

-- a step that offers a message has its MsgSeqNum
abbrev pub IsNumbered : Step → Type 0
IsNumbered Ignore = Unit {0}
IsNumbered (Refuse reject) = Unit {0}
IsNumbered (Close first last cause counts) = Unit {0}
IsNumbered (Move to) = Unit {0}
IsNumbered (Deliver n) = IsNumber n
IsNumbered (Handle n at_once task) = IsNumber n
