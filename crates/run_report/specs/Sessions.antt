-- The lines of a session: its head, its journal, and its two logs.
use Rattle.std.specs.Prelude.{ℕ, nat_lt, if◌then◌else◌, List, [], ◌∷◌, ◌++◌, length, sum_by, decimal, codes, Option, None, Some}
use Rattle.std.specs.List.{flat_map}
use Rattle.lease_core.specs.Holdings.{holdings_of}
use Rattle.lease_core.specs.State.{lease_of, owner_of, state_of}
use Rattle.lease_core.specs.declared.entry.Entry.{Entry}
use Rattle.lease_core.specs.declared.entry.Holding.{Holding}
use Rattle.message_log.specs.declared.entry.OutEntry.{OutEntry}
use Rattle.script_text.specs.Printed.{printed_text}
use Rattle.session_book.specs.declared.reads.SessionRecord.{SessionRecord}
use Rattle.run_report.specs.Lines.{indented_line, line, numbered_texts, stamp_word}
use Rattle.run_report.specs.Journals.{entry_words, holding_words}

abbrev pub entry_line : Entry → List ℕ
entry_line entry = indented_line (entry_words entry)

abbrev pub holding_line : Holding → List ℕ
holding_line holding = indented_line (holding_words holding)

-- how many messages were numbered, in all series
abbrev pub outbound_length : List (List OutEntry) → ℕ
outbound_length series = sum_by (λ entries. length entries) series

unfoldable pub session_line : ℕ → SessionRecord → List ℕ
session_line s session =
    let state = state_of session.registry.entries in
    line (codes "session") (decimal s ∷ printed_text session.names.us ∷ printed_text session.names.them ∷ codes "owner" ∷ decimal (owner_of state) ∷ codes "lease" ∷ decimal (lease_of state) ∷ codes "in" ∷ decimal (length session.inbound.items) ∷ codes "out" ∷ decimal (outbound_length session.outbound.series) ∷ [])

-- an accepted message, by its position from 0
unfoldable pub inbound_line : ℕ → List ℕ → List ℕ
inbound_line pos body = indented_line (codes "in" ∷ decimal pos ∷ printed_text body ∷ [])

-- a numbered message, by its number in its series, from 1
unfoldable pub outbound_line : ℕ → OutEntry → List ℕ
outbound_line number entry = indented_line (codes "out" ∷ decimal number ∷ stamp_word entry.at ∷ printed_text entry.body ∷ [])

-- the line of a numbered message, where it is found
abbrev pub found_line : ℕ → Option OutEntry → List ℕ
found_line number None = []
found_line number (Some entry) = outbound_line number entry

-- a series is named but for the first
unfoldable pub series_line : ℕ → List ℕ
series_line series = if nat_lt 1 series then indented_line (codes "series" ∷ decimal series ∷ []) else []

abbrev pub series_text : ℕ → List OutEntry → List ℕ
series_text series entries = series_line series ++ numbered_texts outbound_line 1 entries

abbrev pub session_text : ℕ → SessionRecord → List ℕ
session_text s session =
    session_line s session
    ++ flat_map entry_line session.registry.entries
    ++ flat_map holding_line (holdings_of session.registry.entries)
    ++ numbered_texts inbound_line 0 session.inbound.items
    ++ numbered_texts series_text 1 session.outbound.series
