-- Early items by their numbers, and the two lists in which they are kept.
use Rattle.std.specs.Prelude.{◌≡◌, ℕ, ◌<◌, ◌≤◌, List, length, IsTrue, nat_lt, None, IsSome, if◌then◌else◌}
use Rattle.std.specs.List.{zip}
use Rattle.std.specs.Ordering.{nat_cmp}
use Rattle.std.specs.FinMap.{FinMap, from_sorted, is_sorted, contains_key, get, len, insert}
use Rattle.seq_gaps.specs.declared.offered.TheConstants.{HELD_LIMIT}
use Rattle.seq_gaps.specs.declared.offered.Place.{Place}
use Rattle.seq_gaps.specs.declared.offered.Place.TheVariants.{Now, Held, Known, NoRoom}

-- where an item stands whose number is above the expected one
abbrev pub early_place : {T : Type 0} → FinMap nat_cmp T → ℕ → T → Place T
early_place held n item =
    if contains_key held n then Known item
    else (if nat_lt (len held) HELD_LIMIT then Held
    else NoRoom item)

-- what is held then
abbrev pub held_with : {T : Type 0} → FinMap nat_cmp T → ℕ → T → Place T → FinMap nat_cmp T
held_with held n item (Now _) = held
held_with held n item Held = insert held n item
held_with held n item (Known _) = held
held_with held n item (NoRoom _) = held

abbrev pub NoneBelow : {T : Type 0} → FinMap nat_cmp T → ℕ → Type 0
NoneBelow held n = (k : ℕ) → k < n → get held k ≡ None

-- n is the least number held
pub record IsFirst {T : Type 0} (held : FinMap nat_cmp T) (n : ℕ) : Type 0 where
  pub is_held : IsSome (get held n)
  pub least : NoneBelow held n

-- the numbers in rising order, and the item of each
abbrev pub held_in : {T : Type 0} → List ℕ → List T → FinMap nat_cmp T
held_in numbers items = from_sorted (zip numbers items)

pub record ArePaired {T : Type 0} (numbers : List ℕ) (items : List T) : Type 0 where
  pub rising : IsTrue (is_sorted nat_cmp (zip numbers items))
  pub one_each : length items ≡ length numbers
  pub few : length numbers ≤ HELD_LIMIT
