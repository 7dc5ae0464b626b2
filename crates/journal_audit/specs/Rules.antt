-- The rules: when each line is right behind the lines before it, and what it tells.
use Rattle.std.specs.Prelude.{ℕ, ◌+◌, ◌-◌, ◌==◌, ◌&&◌, nat_le, nat_lt, Bool, true, false, IsTrue, if◌then◌else◌, List, [], ◌∷◌, ◌++◌, length, slice_get, slice_set, slice_index_or, Option, Some, None}
use Rattle.lease_core.specs.Runs.{IsNext}
use Rattle.lease_core.specs.State.{state_of}
use Rattle.lease_core.specs.declared.entry.Entry.{Entry}
use Rattle.lease_core.specs.declared.entry.Entry.TheVariants as entries
use Rattle.lease_core.specs.declared.entry.Holding.{Holding}
use Rattle.lease_core.specs.declared.entry.Why.TheVariants as causes
use Rattle.lease_core.specs.declared.limits.TheConstants.{MOST_LEASES}
use Rattle.std.specs.List.{list_all}
use Rattle.journal_audit.specs.EntryLines.{entry_in}
use Rattle.journal_audit.specs.Seen.{Seen, PlaceSeen, bare_place, entries_place, logs_place, replies_with, replies_without, reply_in, is_reply, binds_with, fits_binds}
use Rattle.journal_audit.specs.Sessions.{SessionSeen, no_session, session_after, with_holding, fits_mark, fits_series, next_mark, is_read, session_after_read, is_sent, is_given_back, session_after_deed, all_told}
use Rattle.journal_audit.specs.declared.line.Call.{Call}
use Rattle.journal_audit.specs.declared.line.Call.TheVariants as call
use Rattle.journal_audit.specs.declared.line.Header.{Header}
use Rattle.journal_audit.specs.declared.line.Line.{Line}
use Rattle.journal_audit.specs.declared.line.Line.TheVariants as line
use Rattle.journal_audit.specs.declared.line.Outcome.TheVariants.{Granted, Refused}
use Rattle.journal_audit.specs.declared.line.Reply.{Reply}
use Rattle.journal_audit.specs.declared.place.Part.{Part}
use Rattle.journal_audit.specs.declared.place.Part.TheVariants as part

-- How many leases a session can be given.

-- by an entry that says that they're spent, if it does
abbrev pub limit_by : Entry → Option ℕ
limit_by (entries.Refused library nr (causes.LeasesSpent lease)) = Some lease
limit_by _ = None

abbrev limit_with : Option ℕ → ℕ → ℕ
limit_with (Some limit) later = limit
limit_with None later = later

abbrev limit_from : Option Entry → ℕ → ℕ
limit_from None later = MOST_LEASES
limit_from (Some e) later = limit_with (limit_by e) later

-- By the lines behind a session's head: the first of its entries that says that they're spent says how many there are. Entries stand up to
-- the first line that hasn't the form of one.
unfoldable pub limit_in : List (List ℕ) → ℕ
limit_in [] = MOST_LEASES
limit_in (l ∷ lines) = limit_from (entry_in l) (limit_in lines)

-- The head.

abbrev pub is_start : Part → Bool
is_start part.Start = true
is_start _ = false

-- Entries.

-- the entry may stand next in its journal
abbrev pub IsNextIn : Part → ℕ → List Entry → Entry → Type 0
IsNextIn part.Entries limit es e = IsNext limit (state_of es) e
IsNextIn _ limit es e = ⊥

abbrev pub IsNextEntry : PlaceSeen → Entry → Type 0
IsNextEntry place e = IsNextIn place.part place.limit place.entries e

abbrev pub place_with_entry : Entry → PlaceSeen → PlaceSeen
place_with_entry e place = record place { entries = place.entries ++ e ∷ [] }

abbrev pub with_reply : ℕ → ℕ → Reply → Seen → Seen
with_reply library nr reply seen = record seen { replies = replies_with library nr reply seen.replies }

-- what an entry tells all parts that follow
abbrev pub noted : Entry → Seen → Seen
noted (entries.Bind c) seen = record seen { binds = binds_with c (seen.number) seen.binds }
noted (entries.Granted library nr lease from start) seen = with_reply library nr (record { s = seen.number; outcome = Granted lease from start }) seen
noted (entries.Refused library nr why) seen = with_reply library nr (record { s = seen.number; outcome = Refused why }) seen
noted _ seen = seen

abbrev pub after_entry : Entry → Seen → Seen
after_entry e seen = noted e (record seen { place = place_with_entry e seen.place; current = session_after seen.current e })

-- Holdings, and the two logs.

-- The first holding ends the entries.
abbrev pub logs_if_entries : Part → PlaceSeen → PlaceSeen
logs_if_entries part.Entries place = logs_place place.entries
logs_if_entries _ place = place

abbrev pub place_with_logs : PlaceSeen → PlaceSeen
place_with_logs place = logs_if_entries place.part place

abbrev pub same_header : Header → Header → Bool
same_header a b = (a.owner == b.owner) && (a.lease == b.lease) && (a.inbound == b.inbound) && (a.outbound == b.outbound)

abbrev pub same_holding : Holding → Holding → Bool
same_holding a b = (a.library == b.library) && (a.lease == b.lease) && (a.from == b.from) && (a.start == b.start) && (a.end == b.end) && (a.sends == b.sends)

abbrev pub is_holding : Option Holding → Holding → Bool
is_holding None h = false
is_holding (Some kept) h = same_holding kept h

abbrev pub is_logs : Part → Bool
is_logs part.Logs = true
is_logs _ = false

-- The head says what the entries come to, and this is the next of their holdings.
abbrev pub is_next_holding : Seen → PlaceSeen → Holding → Bool
is_next_holding seen place h = is_logs place.part && same_header seen.header place.summary && is_holding (slice_get place.holdings seen.held) h

abbrev pub after_holding : Holding → Seen → Seen
after_holding h seen = record seen { place = place_with_logs seen.place; held = seen.held + 1; current = with_holding h seen.current }

-- all holdings are told
abbrev pub all_held : Seen → Bool
all_held seen = is_logs seen.place.part && (seen.held == length seen.place.holdings)

-- and all messages of the inbound log
abbrev pub all_in : Seen → Bool
all_in seen = all_held seen && (length seen.current.inbound == seen.header.inbound)

-- and all of the outbound log
abbrev pub all_out : Seen → Bool
all_out seen = all_in seen && (length seen.current.bodies == length seen.current.marks)

-- the next position, below the length of the inbound log
abbrev pub is_next_in : Seen → ℕ → Bool
is_next_in seen pos = all_held seen && (pos == length seen.current.inbound) && nat_lt pos seen.header.inbound

abbrev pub after_in : List ℕ → Seen → Seen
after_in body seen = record seen { current = record (seen.current) { inbound = seen.current.inbound ++ body ∷ [] } }

abbrev pub is_next_out : Seen → ℕ → List ℕ → Bool
is_next_out seen number body = all_in seen && fits_mark (next_mark seen.current) number body

abbrev pub is_next_series : Seen → ℕ → Bool
is_next_series seen series = all_in seen && fits_series (next_mark seen.current) series

abbrev pub after_out : List ℕ → Seen → Seen
after_out body seen = record seen { current = record (seen.current) { bodies = seen.current.bodies ++ body ∷ [] } }

-- Where one part ends and the next begins.

-- the messages of a library's polls are told, as many as its line says
abbrev pub none_unread : Option ℕ → Bool
none_unread None = false
none_unread (Some n) = n == 0

abbrev pub may_end_at : Part → Seen → Bool
may_end_at part.Head seen = true
may_end_at part.Logs seen = all_out seen
may_end_at part.Strays seen = true
may_end_at part.Connections seen = seen.unwritten == 0
may_end_at part.Calls seen = none_unread seen.unread
may_end_at _ seen = false

-- what was last may end here
abbrev pub may_end : Seen → Bool
may_end seen = may_end_at seen.place.part seen

-- sessions, strays, connections and libraries stand in this order
abbrev pub before_strays : Part → Bool
before_strays part.Head = true
before_strays part.Logs = true
before_strays _ = false

abbrev pub before_connections : Part → Bool
before_connections part.Strays = true
before_connections p = before_strays p

abbrev pub before_libraries : Part → Bool
before_libraries part.Connections = true
before_libraries p = before_connections p

-- the session whose lines came, if one did, is one of those before
abbrev pub without_current : Seen → Seen
without_current seen = record seen { sessions = seen.sessions ++ seen.current ∷ []; current = no_session; held = 0 }

abbrev pub closed_at : Part → Seen → Seen
closed_at part.Logs seen = without_current seen
closed_at _ seen = seen

abbrev pub closed : Seen → Seen
closed seen = closed_at seen.place.part seen

abbrev pub at_place : PlaceSeen → Seen → Seen
at_place place seen = record seen { place = place }

-- Sessions are numbered from 0.
abbrev pub is_next_session : Seen → ℕ → Bool
is_next_session seen s = before_strays seen.place.part && may_end seen && (s == length (closed seen).sessions)

abbrev pub after_session : ℕ → Header → ℕ → Seen → Seen
after_session s header limit seen = record (closed seen) { place = entries_place limit []; number = s; header = header }

-- Strays, connections.

abbrev pub is_stray : Seen → Bool
is_stray seen = before_connections seen.place.part && may_end seen

abbrev pub after_stray : ℕ → ℕ → ℕ → Seen → Seen
after_stray library nr s seen = with_reply library nr (record { s = s; outcome = Refused (causes.UnknownSession s) }) (at_place (bare_place part.Strays) (closed seen))

-- Connections have increasing numbers. One with a session has a bind in its journal, and one without has none.
abbrev pub is_next_connection : Seen → ℕ → Option ℕ → Bool
is_next_connection seen c s = before_libraries seen.place.part && may_end seen && nat_le seen.least c && fits_binds seen.binds c s

abbrev pub after_connection : ℕ → ℕ → Seen → Seen
after_connection c written seen = record (closed seen) { place = bare_place part.Connections; least = c + 1; unwritten = written }

abbrev pub is_connections : Part → Bool
is_connections part.Connections = true
is_connections _ = false

-- so many bytes were written, and some were
abbrev pub is_written : Seen → List ℕ → Bool
is_written seen bytes = is_connections seen.place.part && nat_lt 0 seen.unwritten && (length bytes == seen.unwritten)

abbrev pub after_wrote : Seen → Seen
after_wrote seen = record seen { unwritten = 0 }

-- Libraries.

-- Libraries are numbered from 1.
abbrev pub is_next_library : Seen → ℕ → Bool
is_next_library seen library = may_end seen && (library == seen.library + 1)

abbrev pub after_library : ℕ → ℕ → Seen → Seen
after_library library reads seen = record (closed seen) { place = bare_place part.Calls; library = library; asked = 0; unread = Some reads }

abbrev pub is_calls : Part → Bool
is_calls part.Calls = true
is_calls _ = false

-- one message fewer is to be told, or it is too many already
abbrev pub one_fewer : Option ℕ → Option ℕ
one_fewer None = None
one_fewer (Some n) = if n == 0 then None else Some (n - 1)

abbrev pub is_read_of : Option SessionSeen → ℕ → ℕ → ℕ → List ℕ → Bool
is_read_of None library lease pos body = false
is_read_of (Some session) library lease pos body = is_read session library lease pos body

abbrev pub is_sent_of : Option SessionSeen → ℕ → ℕ → ℕ → List ℕ → Bool
is_sent_of None library lease ordinal body = false
is_sent_of (Some session) library lease ordinal body = is_sent session library lease ordinal body

abbrev pub is_given_back_of : Option SessionSeen → ℕ → ℕ → ℕ → ℕ → Bool
is_given_back_of None library lease count heir = false
is_given_back_of (Some session) library lease count heir = is_given_back session library lease count heir

-- Requests are numbered from 1. An answer is that of the library's request, and is told once. A message is the next one of the lease. What
-- was sent or given back is the library's next send or release of the session.
abbrev pub is_right_call : Seen → Call → Bool
is_right_call seen (call.Asked nr) = nr == seen.asked + 1
is_right_call seen (call.Replied nr reply) = is_reply reply (reply_in seen.replies seen.library nr)
is_right_call seen (call.Read s lease pos body) = is_read_of (slice_get seen.sessions s) seen.library lease pos body
is_right_call seen (call.Sent s lease ordinal body) = is_sent_of (slice_get seen.sessions s) seen.library lease ordinal body
is_right_call seen (call.GaveBack s lease count heir) = is_given_back_of (slice_get seen.sessions s) seen.library lease count heir
is_right_call seen call.Other = true

abbrev pub with_session : ℕ → (SessionSeen → SessionSeen) → Seen → Seen
with_session s change seen = record seen { sessions = slice_set seen.sessions s (change (slice_index_or seen.sessions s no_session)) }

abbrev pub with_one_fewer : Seen → Seen
with_one_fewer seen = record seen { unread = one_fewer seen.unread }

abbrev pub after_call : Call → Seen → Seen
after_call (call.Asked nr) seen = record seen { asked = nr }
after_call (call.Replied nr reply) seen = record seen { replies = replies_without seen.library nr seen.replies }
after_call (call.Read s lease pos body) seen = with_one_fewer (with_session s (session_after_read lease pos) seen)
after_call (call.Sent s lease ordinal body) seen = with_session s (session_after_deed seen.library) seen
after_call (call.GaveBack s lease count heir) seen = with_session s (session_after_deed seen.library) seen
after_call call.Other seen = seen

-- The end: each send and release was told, and nothing follows.
abbrev pub is_end : Seen → Bool
is_end seen = may_end seen && list_all all_told (closed seen).sessions

-- The table. A line without the form of one isn't right.
abbrev pub IsRightLine : Seen → Bool → Line → Type 0
IsRightLine seen last line.Head = IsTrue (is_start seen.place.part)
IsRightLine seen last (line.Session s header) = IsTrue (is_next_session seen s)
IsRightLine seen last (line.Entry e) = IsNextEntry seen.place e
IsRightLine seen last (line.Holding h) = IsTrue (is_next_holding seen (place_with_logs seen.place) h)
IsRightLine seen last (line.In pos body) = IsTrue (is_next_in seen pos)
IsRightLine seen last (line.Out number body) = IsTrue (is_next_out seen number body)
IsRightLine seen last (line.Series series) = IsTrue (is_next_series seen series)
IsRightLine seen last (line.Stray library nr s) = IsTrue (is_stray seen)
IsRightLine seen last (line.Connection c s written) = IsTrue (is_next_connection seen c s)
IsRightLine seen last (line.Wrote bytes) = IsTrue (is_written seen bytes)
IsRightLine seen last (line.Library library reads) = IsTrue (is_next_library seen library)
IsRightLine seen last (line.Call c) = IsTrue (is_calls seen.place.part && is_right_call seen c)
IsRightLine seen last line.End = IsTrue (last && is_end seen)

-- what a right line tells; `limit` is the number of leases by the lines behind it
abbrev pub after_line : ℕ → Line → Seen → Seen
after_line limit line.Head seen = at_place (bare_place part.Head) seen
after_line limit (line.Session s header) seen = after_session s header limit seen
after_line limit (line.Entry e) seen = after_entry e seen
after_line limit (line.Holding h) seen = after_holding h seen
after_line limit (line.In pos body) seen = after_in body seen
after_line limit (line.Out number body) seen = after_out body seen
after_line limit (line.Series series) seen = after_out [] seen
after_line limit (line.Stray library nr s) seen = after_stray library nr s seen
after_line limit (line.Connection c s written) seen = after_connection c written seen
after_line limit (line.Wrote bytes) seen = after_wrote seen
after_line limit (line.Library library reads) seen = after_library library reads seen
after_line limit (line.Call c) seen = after_call c seen
after_line limit line.End seen = at_place (bare_place part.Done) (closed seen)
