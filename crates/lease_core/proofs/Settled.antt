-- What is next where no hold is owed, and that none is owed behind it.
use Rattle.std.proofs.Common.{◌≡◌, ℕ, false, List, [], ◌∷◌, ◌++◌, ap, sym, ◌∙◌, refl, Some}
use Rattle.lease_core.specs.declared.entry.Entry.{Entry}
use Rattle.lease_core.specs.declared.messages.Reply.{Reply}
use Rattle.lease_core.specs.declared.messages.Reply.TheVariants.{Granted, Refused}
use Rattle.lease_core.specs.State.{State, state_of}
use Rattle.lease_core.specs.declared.event.Event.{Event}
use Rattle.lease_core.specs.declared.event.Event.TheVariants.{Requests}
use Rattle.lease_core.specs.Steps.{step, CanHappen, IsLibrary, entry_with, reply_to}
use Rattle.lease_core.specs.Runs.{owes_hold, is_hold, FitsConnection, IsNext}
use Rattle.lease_core.proofs.Pushed.{state_of-push}

pub first_settled : owes_hold (state_of []).latest ≡ false
unfolding state_of
first_settled = refl

pub settled_by : (entries : List Entry) (e : Entry) → owes_hold (Some e) ≡ false → owes_hold (state_of (entries ++ e ∷ [])).latest ≡ false
settled_by entries e h = ap (λ (s : State). owes_hold s.latest) (state_of-push entries e) ∙ h

pub next_by : (limit : ℕ) (s : State) (event : Event) → CanHappen s event → FitsConnection s (step limit s event) → is_hold (step limit s event) ≡ false → owes_hold s.latest ≡ false → IsNext limit s (step limit s event)
next_by limit s event can fits plain settled = record {
  is_step = record { event = event; can_happen = can; entry = refl };
  connection = fits;
  hold = cc;
}

fits_request : (s : State) (library nr from : ℕ) (reply : Reply) → FitsConnection s (entry_with library nr from reply)
fits_request s library nr from (Granted lease start) = tt
fits_request s library nr from (Refused why) = tt

no_hold : (library nr from : ℕ) (reply : Reply) → is_hold (entry_with library nr from reply) ≡ false
no_hold library nr from (Granted lease start) = refl
no_hold library nr from (Refused why) = refl

-- the entry of a request with its answer
pub next_request : (limit : ℕ) (s : State) (library nr from : ℕ) → IsLibrary library → owes_hold s.latest ≡ false → IsNext limit s (entry_with library nr from (reply_to limit s library from))
next_request limit s library nr from is settled = record {
  is_step = record { event = Requests library nr from; can_happen = is; entry = refl };
  connection = fits_request s library nr from (reply_to limit s library from);
  hold = settled ∙ sym (no_hold library nr from (reply_to limit s library from));
}

pub settled_request : (library nr from : ℕ) (reply : Reply) → owes_hold (Some (entry_with library nr from reply)) ≡ false
settled_request library nr from (Granted lease start) = refl
settled_request library nr from (Refused why) = refl
