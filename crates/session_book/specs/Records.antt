-- The records of a session's entries, as they are handed out to be kept beyond the run.
use Rattle.std.specs.Prelude.{◌≡◌, ℕ, zero, suc, ◌+◌, ◌-◌, ◌≤◌, List, [], ◌∷◌, ◌++◌, drop, length, replicate, slice_index_or, take}
use Rattle.lease_core.specs.State.{series_of, state_of}
use Rattle.lease_core.specs.declared.entry.Entry.{Entry}
use Rattle.lease_core.specs.declared.entry.Entry.TheVariants.{Admin, Arrive, Plan, Reset, Send}
use Rattle.lease_core.specs.declared.record.Record.{Record}
use Rattle.resend_plan.specs.Wire.{entry_of}
use Rattle.session_book.specs.Book.{Book}

-- how many entries of a session were handed out, and the expected number of each that was noted behind these
pub record Pending : Type 0 where
  pub handed : ℕ
  pub expected : List ℕ

-- how many entries were noted, with those that were handed out
abbrev pub noted_count : Pending → ℕ
noted_count pending = pending.handed + length pending.expected

-- the session has the entries that were noted, and maybe more
abbrev pub HasNoted : Pending → Book → Type 0
HasNoted pending book = noted_count pending ≤ length book.entries

-- and no more
abbrev pub HasNotedAll : Pending → Book → Type 0
HasNotedAll pending book = noted_count pending ≡ length book.entries

-- how many entries came since
abbrev pub new_count : Pending → Book → ℕ
new_count pending book = length book.entries - noted_count pending

-- the entries that came have the session's expected number as it is now
abbrev pub after_note : Book → Pending → Pending
after_note book pending = record pending { expected = pending.expected ++ replicate (new_count pending book) book.machine.line.expected }

-- so many numbers, of which the first is another one
abbrev pub bind_numbers : ℕ → ℕ → ℕ → List ℕ
bind_numbers before now zero = []
bind_numbers before now (suc more) = before ∷ replicate more now

-- the first of the entries that came, the Bind, has the expected number from before it, and the others that of now
abbrev pub after_bind_note : ℕ → Book → Pending → Pending
after_bind_note before book pending = record pending { expected = pending.expected ++ bind_numbers before book.machine.line.expected (new_count pending book) }

-- the moment of an entry, and 0 where it has none
abbrev pub entry_moment : Book → ℕ → Entry → ℕ
entry_moment book series (Admin number) = (entry_of book.outbound series number).at
entry_moment book series (Plan begin last at) = at
entry_moment book series (Send lease library ordinal number) = (entry_of book.outbound series number).at
entry_moment book series _ = 0

-- the body that was accepted or sent, and none where an entry has none
abbrev pub body_of : Book → ℕ → Entry → List ℕ
body_of book series (Arrive pos) = slice_index_or book.inbound pos []
body_of book series (Admin number) = (entry_of book.outbound series number).body
body_of book series (Send lease library ordinal number) = (entry_of book.outbound series number).body
body_of book series _ = []

-- the record of an entry of session s that was made in this series
abbrev pub record_of : ℕ → Book → ℕ → Entry → ℕ → Record
record_of s book series e expected = record { s = s; entry = e; at = entry_moment book series e; body = body_of book series e; expected = expected }

-- the series behind an entry
abbrev pub series_behind : ℕ → Entry → ℕ
series_behind series (Reset next) = series + 1
series_behind series _ = series

abbrev pub series_over : ℕ → List Entry → ℕ
series_over series [] = series
series_over series (e ∷ es) = series_over (series_behind series e) es

-- the records of entries with their expected numbers, of which the first was made in this series
abbrev pub records_from : ℕ → Book → ℕ → List Entry → List ℕ → List Record
records_from s book series [] numbers = []
records_from s book series (e ∷ es) [] = []
records_from s book series (e ∷ es) (n ∷ numbers) = record_of s book series e n ∷ records_from s book (series_behind series e) es numbers

-- the records of the entries that weren't handed out
abbrev pub new_records : ℕ → Book → Pending → List Record
new_records s book pending = records_from s book (series_of (state_of (take pending.handed book.entries))) (drop pending.handed book.entries) pending.expected

-- all was handed out
abbrev pub after_records : Book → Pending
after_records book = record { handed = length book.entries; expected = [] }
