-- What is handed out of a session and read back is that session.
use Rattle.std.specs.Prelude.{◌++◌, length, ◌≡◌, ℕ, false, List, [], ◌∷◌, take}
use Rattle.lease_core.specs.Runs.{IsRun}
use Rattle.lease_core.specs.State.{State as Totals, opening, series_of, state_after, state_of}
use Rattle.lease_core.specs.declared.entry.Entry.{Entry}
use Rattle.lease_core.specs.declared.entry.Entry.TheVariants.{Admin, Send}
use Rattle.lease_core.specs.declared.record.Record.{Record}
use Rattle.message_log.specs.Growth.{GoesOn}
use Rattle.message_log.specs.declared.entry.OutEntry.{OutEntry}
use Rattle.resend_plan.specs.Wire.{entry_of}
use Rattle.session_book.specs.Book.{Book}
use Rattle.session_book.specs.Kept.{IsBook}
use Rattle.session_book.specs.Records.{HasNotedAll, Pending, new_records}
use Rattle.session_book.specs.Reviving.{ReadBack, after_read, is_session_text}

-- records are read, one after another
abbrev pub after_reading : List Record → ReadBack → ReadBack
after_reading [] read = read
after_reading (r ∷ records) read = after_reading records (after_read r.entry r.at r.body read)

-- the first entries of each of the first series, so many of each
abbrev pub first_entries : List ℕ → List (List OutEntry) → List (List OutEntry)
first_entries [] log = []
first_entries (n ∷ counts) [] = []
first_entries (n ∷ counts) (entries ∷ log) = take n entries ∷ first_entries counts log

-- what there is to be read back of the first entries of a session
abbrev pub read_up_to : ℕ → Book → ReadBack
read_up_to n book =
    let s = state_of (take n book.entries) in
    record { leases = book.leases; entries = take n book.entries; inbound = take s.inbound book.inbound; outbound = first_entries s.series book.outbound }

-- what there is to be read back of a session
abbrev pub read_of : Book → ReadBack
read_of book = record { leases = book.leases; entries = book.entries; inbound = book.inbound; outbound = book.outbound }

-- the outbound log marks a session message as its type field tells, and no send
abbrev pub IsMarked : List (List OutEntry) → Totals → Entry → Type 0
IsMarked log s (Admin number) = (entry_of log (series_of s) number).admin ≡ is_session_text (entry_of log (series_of s) number).body
IsMarked log s (Send lease library ordinal number) = (entry_of log (series_of s) number).admin ≡ false
IsMarked log s _ = Unit {0}

abbrev pub AreMarked : List (List OutEntry) → Totals → List Entry → Type 0
AreMarked log s [] = Unit {0}
AreMarked log s (e ∷ es) = IsMarked log s e × AreMarked log (state_after s e) es

-- and so it is of all that was read back, or that there is to be read back
abbrev pub IsAllMarked : ReadBack → Type 0
IsAllMarked read = AreMarked read.outbound opening read.entries

-- The records of the entries that weren't handed out, read behind those that were, give the session's journal and logs.
abbrev pub RecordsAreReadBack : Type 0
RecordsAreReadBack =
    (s : ℕ) (book : Book) (pending : Pending)
    → IsBook book
    → IsRun book.leases book.entries
    → AreMarked book.outbound opening book.entries
    → HasNotedAll pending book
    → after_reading (new_records s book pending) (read_up_to pending.handed book) ≡ read_of book

-- a session went on
pub record WentOn (before book : Book) : Type 0 where
  pub leases : book.leases ≡ before.leases
  pub added : List Entry
  pub entries_are : book.entries ≡ before.entries ++ added
  pub more : List (List ℕ)
  pub inbound : book.inbound ≡ before.inbound ++ more
  pub outbound : GoesOn before.outbound book.outbound

-- What there was to be read back of a session, there still is as it goes on.
abbrev pub ReadBackStays : Type 0
ReadBackStays =
    (before book : Book)
    → IsBook before
    → WentOn before book
    → read_up_to (length before.entries) book ≡ read_of before
