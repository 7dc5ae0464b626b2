-- Where an item stands that is offered with its number, and what the line is then.
use Rattle.std.specs.Prelude.{ℕ, ◌+◌, ◌-◌, ◌||◌, ◌==◌, nat_lt, if◌then◌else◌, max, Option, Some, None}
use Rattle.std.specs.FinMap.{contains_key, insert, len}
use Rattle.seq_gaps.specs.declared.offered.TheConstants.{HELD_LIMIT}
use Rattle.seq_gaps.specs.declared.offered.Gap.{Gap}
use Rattle.seq_gaps.specs.declared.offered.Place.{Place}
use Rattle.seq_gaps.specs.declared.offered.Place.TheVariants.{Now, Held, Known, NoRoom}
use Rattle.seq_gaps.specs.declared.offered.Offered.{Offered}
use Rattle.seq_gaps.specs.Line.{Line}

-- A number that was counted or is held is known. The expected number is carried out now. An early one is held while there is room.
abbrev pub place_of : {T : Type 0} → Line T → ℕ → T → Place T
place_of line n item =
    if nat_lt n line.expected || contains_key line.held n then Known item
    else (if n == line.expected then Now item
    else (if nat_lt (len line.held) HELD_LIMIT then Held
    else NoRoom item))

-- how many more are held behind an offer with this answer
abbrev pub more_held : {T : Type 0} → Place T → ℕ
more_held (Now item) = 0
more_held Held = 1
more_held (Known item) = 0
more_held (NoRoom item) = 0

-- the numbers below n that are expected and beyond the horizon, where there are any
abbrev pub gap_below : {T : Type 0} → Line T → ℕ → Option Gap
gap_below line n =
    let from = max line.expected (line.horizon + 1) in
    if nat_lt from n then Some (record { from = from; to = n - 1 }) else None

-- only an item that is held shows a gap
abbrev pub gap_shown : {T : Type 0} → Line T → ℕ → Place T → Option Gap
gap_shown line n (Now item) = None
gap_shown line n Held = gap_below line n
gap_shown line n (Known item) = None
gap_shown line n (NoRoom item) = None

abbrev pub answer_to_offer : {T : Type 0} → Line T → ℕ → T → Offered T
answer_to_offer line n item =
    let place = place_of line n item in
    record { place = place; gap = gap_shown line n place }

-- A number that is carried out is counted. A held item stays with its number, and the horizon is never below it.
abbrev pub after_placing : {T : Type 0} → Line T → ℕ → T → Place T → Line T
after_placing line n item (Now _) = record line { expected = line.expected + 1 }
after_placing line n item Held = record line { held = insert line.held n item; horizon = max line.horizon n }
after_placing line n item (Known _) = line
after_placing line n item (NoRoom _) = line

abbrev pub after_offer : {T : Type 0} → Line T → ℕ → T → Line T
after_offer line n item = after_placing line n item (place_of line n item)
