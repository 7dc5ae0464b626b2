-- Spans of ownership, one directly behind the other.
use Rattle.std.specs.Prelude.{◌≡◌, ℕ, ◌<◌, ◌≤◌, List, [], ◌∷◌, Bool, true, false, not}
use Rattle.lease_core.specs.declared.entry.Entry.{Entry}
use Rattle.lease_core.specs.declared.entry.Holding.{Holding}
use Rattle.lease_core.specs.State.{state_of}

abbrev pub holdings_of : List Entry → List Holding
holdings_of entries = (state_of entries).holdings

-- whether it is the engine's turn or a library's
abbrev pub HasTurn : Bool → ℕ → Type 0
HasTurn true library = library ≡ 0
HasTurn false library = 0 < library

-- the span begins here, on its owner's turn
pub record IsSpan (start : ℕ) (engine : Bool) (h : Holding) : Type 0 where
  pub starts : h.start ≡ start
  pub forward : h.start ≤ h.end
  pub turn : HasTurn engine h.library

-- Engine and libraries take turns, each span starts where the one before it ends, and the last ends at `end`.
abbrev pub Adjoin : ℕ → Bool → List Holding → ℕ → Type 0
Adjoin start engine [] end = start ≡ end
Adjoin start engine (h ∷ hs) end = IsSpan start engine h × Adjoin h.end (not engine) hs end

-- there is a first span, which is the engine's and starts at 0
abbrev pub AreAdjoining : List Holding → ℕ → Type 0
AreAdjoining [] end = ⊥
AreAdjoining (h ∷ hs) end = Adjoin 0 true (h ∷ hs) end
