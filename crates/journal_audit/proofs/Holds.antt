-- A hold changes nothing of what the holdings and the head of a session say.
use Rattle.std.proofs.Common.{◌≡◌, ℕ, Bool, true, false, cond, List, [], ◌∷◌, ◌++◌, refl, ap, ◌∙◌}
use Rattle.std.proofs.lemmas.Grind.{fold-append}
use Rattle.lease_core.specs.declared.entry.Entry.{Entry}
use Rattle.lease_core.specs.declared.entry.Entry.TheVariants.{Hold}
use Rattle.lease_core.specs.Lines.{entries_after_hold}
use Rattle.lease_core.specs.Runs.{owes_hold}
use Rattle.lease_core.specs.State.{State, state_of, state_after, opening, lease_of}
use Rattle.lease_core.specs.Steps.{hold_entry}
use Rattle.journal_audit.specs.Seen.{header_of, logs_place, PlaceSeen}
use Rattle.journal_audit.specs.declared.line.Header.{Header}
use Rattle.journal_audit.specs.declared.place.Part.TheVariants as part

state-push : (es : List Entry) (e : Entry) → state_of (es ++ e ∷ []) ≡ state_after (state_of es) e
unfolding state_of
state-push es e = fold-append state_after opening es (e ∷ [])

header-hold : (s : State) (lease until : ℕ) → header_of (state_after s (Hold lease until)) ≡ header_of s
unfolding header_of
header-hold s lease until = refl

abbrev place_of_state : State → PlaceSeen
place_of_state s = record { part = part.Logs; limit = 0; entries = []; holdings = s.holdings; summary = header_of s }

pushed : (es : List Entry) (lease until : ℕ) → logs_place (es ++ Hold lease until ∷ []) ≡ logs_place es
pushed es lease until =
    ap place_of_state (state-push es (Hold lease until))
    ∙ ap (λ (h : Header). record { part = part.Logs; limit = 0; entries = []; holdings = (state_of es).holdings; summary = h }) (header-hold (state_of es) lease until)

held-by : (until : ℕ) (es : List Entry) (owes : Bool) → logs_place (cond owes (es ++ hold_entry (state_of es) until ∷ []) es) ≡ logs_place es
held-by until es true = pushed es (lease_of (state_of es)) until
held-by until es false = refl

pub logs_hold : (until : ℕ) (es : List Entry) → logs_place (entries_after_hold until es) ≡ logs_place es
logs_hold until es = held-by until es (owes_hold (state_of es).latest)
