-- What a lease word shows: sends and an end for the journal, with the bodies that were taken for the sends.
use Rattle.std.specs.Prelude.{ℕ, zero, suc, ◌+◌, false, List, [], ◌∷◌, length, Option, None, Some, if◌then◌else◌}
use Rattle.connection_core.specs.Outgoing.{with_items}
use Rattle.lease_core.specs.declared.entry.Entry.{Entry}
use Rattle.lease_core.specs.declared.word.Word.{Word}
use Rattle.lease_core.specs.Lines.{entries_after_word, entries_after_hold, entries_after_timeout, lines_of, missing_sends, raises}
use Rattle.lease_core.specs.State.{state_of}
use Rattle.message_log.specs.Series.{series_at, with_entry}
use Rattle.message_log.specs.declared.entry.OutEntry.{OutEntry}
use Rattle.resend_plan.specs.declared.item.WireItem.{WireItem}
use Rattle.resend_plan.specs.declared.item.WireItem.TheVariants.{New}
use Rattle.session_book.specs.Book.{Book, Desk, with_outbox, with_sending}

-- a library's message in the outbound log
abbrev pub sent_entry : ℕ → List ℕ → OutEntry
sent_entry at body = record { at = at; admin = false; body = body }

abbrev pub with_sends : ℕ → List (List ℕ) → List (List OutEntry) → List (List OutEntry)
with_sends at [] log = log
with_sends at (body ∷ bodies) log = with_sends at bodies (with_entry log (sent_entry at body))

-- one item for each of so many numbers
abbrev pub new_items : ℕ → ℕ → ℕ → List WireItem
new_items series number zero = []
new_items series number (suc more) = New series number ∷ new_items series (number + 1) more

-- nothing waits where the session is bound to no connection
abbrev pub where_bound : Option ℕ → List WireItem → List WireItem
where_bound None items = []
where_bound (Some c) items = items

-- the items of so many sends behind a log
abbrev pub items_behind : Option ℕ → ℕ → List (List OutEntry) → List WireItem
items_behind bound count log = where_bound bound (new_items (length log) (length (series_at log (length log)) + 1) count)

-- the items of the next sends
abbrev pub send_items : List (List ℕ) → Book → List WireItem
send_items bodies book = items_behind (state_of book.entries).bound (length bodies) book.outbound

-- the session with these entries and the sends' bodies
abbrev pub with_news : ℕ → List Entry → List (List ℕ) → Desk → Desk
with_news at entries bodies s =
    let items = send_items bodies s.book in
    with_outbox (with_sending at items (record (s.book) { entries = entries; outbound = with_sends at bodies s.book.outbound })) (with_items items s.outgoing)

-- what a word shows is recorded
abbrev pub after_word : ℕ → ℕ → Word → List (List ℕ) → Desk → Desk
after_word at until w bodies s = with_news at (entries_after_hold until (entries_after_word s.book.entries w)) bodies s

-- what the old word shows as the engine takes the session back
abbrev pub after_timeout : ℕ → ℕ → Word → List (List ℕ) → Desk → Desk
after_timeout at until old bodies s =
    with_news at (entries_after_timeout old.standing (entries_after_hold until (entries_after_word s.book.entries old))) bodies s

-- how many sends a word shows that aren't recorded yet
abbrev pub shown_sends : List Entry → Word → ℕ
shown_sends entries w = if raises (lines_of entries) w then missing_sends (lines_of entries) w else 0
