-- The lines of strays and of connections.
use Rattle.std.specs.Prelude.{ℕ, List, [], ◌∷◌, ◌++◌, length, take, drop, decimal, codes, Option, None, Some}
use Rattle.connection_core.specs.declared.records.ConnRecord.{ConnRecord}
use Rattle.gate_io.specs.declared.wires.TheConstants.{FIRST_DIALLED}
use Rattle.engine_end.specs.Stray.{Stray}
use Rattle.script_text.specs.Printed.{printed_text}
use Rattle.session_core.specs.declared.causes.Cause.{Cause}
use Rattle.session_core.specs.declared.causes.Cause.TheVariants.{End, ReadFault, WriteFault, NotLogon, NoSuchSession, Duplicate, BadLogon, NoNumber, LowNumber, CompId, Silent, LoggedOut, SlowConsumer}
use Rattle.run_report.specs.Lines.{indented_line, line, numbered_texts, spaced_words, stamp_word}

unfoldable pub stray_line : Stray → List ℕ
stray_line stray = line (codes "stray") (decimal stray.library ∷ decimal stray.nr ∷ decimal stray.s ∷ [])

-- why a connection ended; a connection that still stood has none
unfoldable pub cause_words : Option Cause → List (List ℕ)
cause_words None = codes "none" ∷ []
cause_words (Some End) = codes "end" ∷ []
cause_words (Some ReadFault) = codes "read-fault" ∷ []
cause_words (Some WriteFault) = codes "write-fault" ∷ []
cause_words (Some NotLogon) = codes "not-logon" ∷ []
cause_words (Some NoSuchSession) = codes "no-such-session" ∷ []
cause_words (Some (Duplicate connection)) = codes "duplicate" ∷ decimal connection ∷ []
cause_words (Some (BadLogon tag)) = codes "bad-logon" ∷ decimal tag ∷ []
cause_words (Some NoNumber) = codes "no-number" ∷ []
cause_words (Some (LowNumber expected got)) = codes "low-number" ∷ decimal expected ∷ decimal got ∷ []
cause_words (Some (CompId tag)) = codes "comp-id" ∷ decimal tag ∷ []
cause_words (Some (Silent since)) = codes "silent" ∷ stamp_word since ∷ []
cause_words (Some LoggedOut) = codes "logged-out" ∷ []
cause_words (Some (SlowConsumer waiting)) = codes "slow-consumer" ∷ decimal waiting ∷ []

-- the session's number, or `-` where the connection was never bound
abbrev pub bound_word : Option ℕ → List ℕ
bound_word None = codes "-"
bound_word (Some s) = decimal s

-- what was written, where something was
unfoldable pub written_line : List ℕ → List ℕ
written_line [] = []
written_line (b ∷ bytes) = indented_line (codes "wrote" ∷ printed_text (b ∷ bytes) ∷ [])

-- the line of a connection up to its cause, with the counts of bytes
unfoldable pub connection_numbers : ℕ → Option ℕ → ℕ → ℕ → ℕ → List ℕ
connection_numbers c session taken garbled written =
    codes "connection" ++ spaced_words (decimal c ∷ codes "session" ∷ bound_word session ∷ codes "taken" ∷ decimal taken ∷ codes "garbled" ∷ decimal garbled ∷ codes "written" ∷ decimal written ∷ codes "cause" ∷ [])

abbrev pub connection_text : ℕ → ConnRecord → List ℕ
connection_text c connection =
    connection_numbers c connection.session (length connection.taken) connection.garbled (length connection.written)
    ++ indented_line (cause_words connection.cause)
    ++ written_line connection.written

-- The connections: so many accepted ones, which are numbered from 0, and behind them the dialled ones, from their first number on.
abbrev pub connections_text : ℕ → List ConnRecord → List ℕ
connections_text accepted connections =
    numbered_texts connection_text 0 (take accepted connections)
    ++ numbered_texts connection_text FIRST_DIALLED (drop accepted connections)
