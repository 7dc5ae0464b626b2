-- Laws of the number line, each proved as the clause of a function of `laws`.
use Rattle.std.specs.Prelude.{◌≡◌, ℕ, ◌+◌, ◌<◌, ◌≤◌, ◌⊎◌, None, Some}
use Rattle.std.specs.FinMap.{get, len}
use Rattle.seq_gaps.specs.declared.offered.TheConstants.{MAX_NUMBER}
use Rattle.seq_gaps.specs.declared.offered.Place.TheVariants.{Now}
use Rattle.seq_gaps.specs.Line.{Line, IsLine, IsNumber, IsHeld, IsNotHeld, fresh_line, after_fill, after_taking, after_clear}
use Rattle.seq_gaps.specs.Offers.{place_of, after_offer, more_held}

-- what holds of every line holds at first, and behind each call
pub record LinesStayLines (T : Type 0) : Type 0 where
  pub at_first : IsLine (fresh_line {T = T})
  pub offer : (line : Line T) (n : ℕ) (item : T) → IsLine line → IsNumber n → IsLine (after_offer line n item)
  pub fill : (line : Line T) (to : ℕ) → IsLine line → line.expected ≤ to → to ≤ MAX_NUMBER + 1 → IsLine (after_fill line to)
  pub taking : (line : Line T) → IsLine line → IsLine (after_taking line)
  pub clear : (line : Line T) → IsLine line → IsLine (after_clear line)

-- what is held behind a call was held before, or is the item that came
pub record HeldItems (T : Type 0) : Type 0 where
  pub at_first : (n : ℕ) → get (fresh_line {T = T}).held n ≡ None
  pub offer : (line : Line T) (n : ℕ) (item : T) (k : ℕ) (x : T) → get (after_offer line n item).held k ≡ Some x → (get line.held k ≡ Some x) ⊎ (x ≡ item)
  pub fill : (line : Line T) (to k : ℕ) (x : T) → get (after_fill line to).held k ≡ Some x → get line.held k ≡ Some x
  pub taking : (line : Line T) (k : ℕ) (x : T) → get (after_taking line).held k ≡ Some x → get line.held k ≡ Some x
  pub clear : (line : Line T) (k : ℕ) → get (after_clear line).held k ≡ None

-- how many are held at most
pub record HeldCounts (T : Type 0) : Type 0 where
  pub at_first : len (fresh_line {T = T}).held ≡ 0
  pub offer : (line : Line T) (n : ℕ) (item : T) → len (after_offer line n item).held ≤ len line.held + more_held (place_of line n item)
  pub fill : (line : Line T) (to : ℕ) → len (after_fill line to).held ≤ len line.held
  pub taking : (line : Line T) → IsHeld line line.expected → len (after_taking line).held < len line.held
  pub clear : (line : Line T) → len (after_clear line).held ≡ 0

-- Where the expected number isn't held, an offer of it is carried out, and no other offer changes that.
pub record ExpectedNumbers (T : Type 0) : Type 0 where
  pub now : (line : Line T) (item : T) → IsNotHeld line line.expected → place_of line line.expected item ≡ Now item
  pub stays : (line : Line T) (n : ℕ) (item : T) → IsNotHeld line line.expected → ((x : T) → place_of line n item ≡ Now x → ⊥) → IsNotHeld (after_offer line n item) (after_offer line n item).expected
  pub only_now : (line : Line T) (n : ℕ) (item x : T) → place_of line n item ≡ Now x → (n ≡ line.expected) × (x ≡ item)
