-- What is sent again where a counterparty asks for a range of numbers (FIX 4.4, volume 2, "Message Recovery").
use Rattle.std.specs.Prelude.{◌≡◌, ℕ, ◌+◌, ◌-◌, ◌<◌, ◌≤◌, ◌⊎◌, Bool, true, false, ◌||◌, ◌==◌, nat_lt, if◌then◌else◌, List, [], ◌∷◌, ◌++◌, length, slice_range, IsSome}
use Rattle.std.specs.List.{range_with_len}
use Rattle.message_log.specs.declared.entry.OutEntry.{OutEntry}
use Rattle.message_log.specs.Series.{series_at, entry_at}
use Rattle.message_log.specs.Stretches.{is_session}
use Rattle.resend_plan.specs.declared.item.WireItem.{WireItem}
use Rattle.resend_plan.specs.declared.item.WireItem.TheVariants.{New, Again, GapFill}

-- how many session entries stand at the head of the list
abbrev pub leading_sessions : List OutEntry → ℕ
leading_sessions [] = 0
leading_sessions (entry ∷ entries) = if entry.admin then 1 + leading_sessions entries else 0

-- the item of an entry with number n: an application entry is sent again, and a gap fill stands for the session entries from the first of a run on
abbrev pub item_of : ℕ → ℕ → Bool → ℕ → OutEntry → List OutEntry → List WireItem
item_of series at before n entry behind =
    if entry.admin
    then (if before then [] else GapFill series n (n + 1 + leading_sessions behind) at ∷ [])
    else Again series n at ∷ []

-- The items of entries whose numbers begin at n. The truth value says whether a session entry of the range stands directly before them.
abbrev pub items_from : ℕ → ℕ → Bool → ℕ → List OutEntry → List WireItem
items_from series at before n [] = []
items_from series at before n (entry ∷ entries) =
    item_of series at before n entry entries ++ items_from series at entry.admin (n + 1) entries

-- the last number that is asked for: 0, or one past the end, stands for the end
abbrev pub last_asked : ℕ → ℕ → ℕ
last_asked count last = if last == 0 || nat_lt count last then count else last

-- nothing is asked for: 0 is no number, the range is past the end, or it runs backwards
abbrev pub is_empty_range : ℕ → ℕ → ℕ → Bool
is_empty_range count begin last = begin == 0 || (nat_lt count begin || nat_lt (last_asked count last) begin)

-- the items for the numbers from `begin` to `last` of a series' entries
abbrev pub plan_of : List OutEntry → ℕ → ℕ → ℕ → ℕ → List WireItem
plan_of entries series begin last at =
    if is_empty_range (length entries) begin last then []
    else items_from series at false begin (slice_range entries (begin - 1) (last_asked (length entries) last))

-- the numbers that an item stands for, in order
abbrev pub numbers_of : WireItem → List ℕ
numbers_of (New series number) = number ∷ []
numbers_of (Again series number at) = number ∷ []
numbers_of (GapFill series number to at) = range_with_len number (to - number)

-- the numbers that are asked for, in order
abbrev pub asked_numbers : ℕ → ℕ → ℕ → List ℕ
asked_numbers count begin last =
    if is_empty_range count begin last then []
    else range_with_len begin (last_asked count last + 1 - begin)

-- the same as a fact: 0 is no number, the range is past the end, or it runs backwards
abbrev pub AsksNothing : ℕ → ℕ → ℕ → Type 0
AsksNothing count begin last = (begin ≡ 0) ⊎ (count < begin) ⊎ (last_asked count last < begin)

-- An item that may answer a request for numbers of a series at a moment: an application entry is sent again, and a gap fill stands for session entries alone.
abbrev pub IsAnswer : List (List OutEntry) → ℕ → ℕ → WireItem → Type 0
IsAnswer log series at (New k n) = ⊥
IsAnswer log series at (Again k n moment) =
    (k ≡ series) × (moment ≡ at) × IsSome (entry_at log series n) × (is_session (series_at log series) n ≡ false)
IsAnswer log series at (GapFill k n to moment) =
    (k ≡ series) × (moment ≡ at) × (n < to) × ((m : ℕ) → n ≤ m → m < to → is_session (series_at log series) m ≡ true)
