-- Stretches of session entries, each as long as can be within its series.
use Rattle.std.specs.Prelude.{◌≡◌, ℕ, ◌+◌, ◌<◌, ◌≤◌, ◌⊎◌, Bool, true, false, not, ◌&&◌, ◌||◌, ◌==◌, nat_lt, if◌then◌else◌, List, [], ◌∷◌, ◌++◌, length, sum_by, slice_index_or, Option, None, Some, All}
use Rattle.std.specs.Option.{option_map_or}
use Rattle.message_log.specs.declared.entry.OutEntry.{OutEntry}
use Rattle.message_log.specs.declared.stretches.Stretch.{Stretch}
use Rattle.message_log.specs.Series.{series_at, entry_in}

-- whether the number is a session entry's
abbrev pub is_session : List OutEntry → ℕ → Bool
is_session entries n = option_map_or (λ entry. entry.admin) (entry_in entries n) false

-- z is the greatest number such that all entries from n to z are session entries
pub record IsStretchEnd (entries : List OutEntry) (n z : ℕ) : Type 0 where
  pub forward : n ≤ z
  pub all_session : (k : ℕ) → n ≤ k → k ≤ z → is_session entries k ≡ true
  pub next_is_none : is_session entries (z + 1) ≡ false

-- How many stretches there are among the entries. The first value says whether the entry before them is a session entry.
abbrev pub stretches_in : Bool → List OutEntry → ℕ
stretches_in before [] = 0
stretches_in before (entry ∷ entries) =
    (if entry.admin && not before then 1 else 0) + stretches_in entry.admin entries

-- how many stretches there are in all series
abbrev pub stretch_count : List (List OutEntry) → ℕ
stretch_count log = sum_by (stretches_in false) log

-- whether the stretch lies before the number of the series, or behind it
abbrev pub is_before : Stretch → ℕ → ℕ → Bool
is_before s k n = nat_lt s.series k || ((s.series == k) && nat_lt s.last n)

abbrev pub is_behind : Stretch → ℕ → ℕ → Bool
is_behind s k n = nat_lt k s.series || ((s.series == k) && nat_lt n s.first)

-- the number of the series is in the stretch
pub record Covers (s : Stretch) (k n : ℕ) : Type 0 where
  pub series : s.series ≡ k
  pub from : s.first ≤ n
  pub to : n ≤ s.last

abbrev pub no_stretch : Stretch
no_stretch = record { series = 0; first = 0; last = 0 }

abbrev pub stretch_at : List Stretch → ℕ → Stretch
stretch_at stretches i = slice_index_or stretches i no_stretch

-- one of the stretches covers the number
abbrev pub AnyCovers : List Stretch → ℕ → ℕ → Type 0
AnyCovers stretches k n = (i : ℕ) × (i < length stretches) × Covers (stretch_at stretches i) k n

-- no stretch is empty, and each lies before the next
pub record AreInOrder (stretches : List Stretch) : Type 0 where
  pub filled : (i : ℕ) → i < length stretches → (stretch_at stretches i).first ≤ (stretch_at stretches i).last
  pub rising : (i j : ℕ) → i < j → j < length stretches → is_before (stretch_at stretches i) (stretch_at stretches j).series (stretch_at stretches j).first ≡ true

-- a stretch of the log that can't grow
pub record IsClosed (log : List (List OutEntry)) (s : Stretch) : Type 0 where
  pub of_log : s.series ≤ length log
  pub all_session : (n : ℕ) → s.first ≤ n → n ≤ s.last → is_session (series_at log s.series) n ≡ true
  pub next_is_none : is_session (series_at log s.series) (s.last + 1) ≡ false
  pub past : s.series ≡ length log → s.last < length (series_at log s.series)

-- all entries of the series from the number on are session entries, and there is one
abbrev pub IsGrowing : List OutEntry → Option ℕ → Type 0
IsGrowing entries None = Unit {0}
IsGrowing entries (Some first) =
    (1 ≤ first) × (first ≤ length entries) × ((n : ℕ) → first ≤ n → n ≤ length entries → is_session entries n ≡ true)

-- the number is in the stretch at the series' end
abbrev pub GrowsOver : Option ℕ → ℕ → Type 0
GrowsOver None n = ⊥
GrowsOver (Some first) n = first ≤ n

abbrev pub growing_count : Option ℕ → ℕ
growing_count None = 0
growing_count (Some first) = 1

-- These are the log's stretches: the closed ones in order, and the one at its end.
pub record IsIndex (log : List (List OutEntry)) (closed : List Stretch) (growing : Option ℕ) : Type 0 where
  pub closed_ones : All (IsClosed log) closed
  pub in_order : AreInOrder closed
  pub at_end : IsGrowing (series_at log (length log)) growing
  pub complete : (k n : ℕ) → is_session (series_at log k) n ≡ true → AnyCovers closed k n ⊎ ((k ≡ length log) × GrowsOver growing n)
  pub count : length closed + growing_count growing ≡ stretch_count log

-- the stretch at the log's end is closed at its last number
abbrev pub closed_after : List Stretch → Option ℕ → ℕ → ℕ → List Stretch
closed_after closed None k last = closed
closed_after closed (Some first) k last = closed ++ (record { series = k; first = first; last = last }) ∷ []
