-- A numbered list that falls into series. The entry at place k of a series, counted from 1, has number k.
use Rattle.std.specs.Prelude.{◌≡◌, ℕ, ◌-◌, ◌<◌, ◌≤◌, ◌⊎◌, ◌==◌, if◌then◌else◌, List, [], ◌∷◌, ◌++◌, length, drop, slice_get, slice_range, slice_index_or, Option, None}

-- the series, of which the last is the present one, and how many more calls take no memory
pub record SeriesLog (T : Type 0) : Type 0 where
  pub series : List (List T)
  pub spare : ℕ

-- the entries of a series, which is counted from 1
abbrev pub series_at : {T : Type 0} → List (List T) → ℕ → List T
series_at log k = if k == 0 then [] else slice_index_or log (k - 1) []

-- the entry with a number
abbrev pub entry_in : {T : Type 0} → List T → ℕ → Option T
entry_in entries n = if n == 0 then None else slice_get entries (n - 1)

-- the entry with a number of a series
abbrev pub entry_at : {T : Type 0} → List (List T) → ℕ → ℕ → Option T
entry_at log k n = entry_in (series_at log k) n

-- there is no such series
abbrev pub IsNoSeries : {T : Type 0} → List (List T) → ℕ → Type 0
IsNoSeries log k = (k ≡ 0) ⊎ (length log < k)

-- the series has no such number
abbrev pub HasNoNumber : {T : Type 0} → List (List T) → ℕ → ℕ → Type 0
HasNoNumber log k n = (n ≡ 0) ⊎ (length (series_at log k) < n)

-- one more entry of the present series
abbrev pub with_entry : {T : Type 0} → List (List T) → T → List (List T)
with_entry [] entry = (entry ∷ []) ∷ []
with_entry (entries ∷ []) entry = (entries ++ entry ∷ []) ∷ []
with_entry (entries ∷ (next ∷ later)) entry = entries ∷ with_entry (next ∷ later) entry

-- a list in series, where each but the first begins at the next of these places
abbrev pub series_from : {T : Type 0} → ℕ → List ℕ → List T → List (List T)
series_from from [] items = drop from items ∷ []
series_from from (start ∷ starts) items = slice_range items from start ∷ series_from start starts items

-- the places don't fall, and are within so many
abbrev pub AreStarts : ℕ → List ℕ → ℕ → Type 0
AreStarts from [] count = from ≤ count
AreStarts from (start ∷ starts) count = (from ≤ start) × AreStarts start starts count

-- the last of the places
abbrev pub last_start : ℕ → List ℕ → ℕ
last_start from [] = from
last_start from (start ∷ starts) = last_start start starts
