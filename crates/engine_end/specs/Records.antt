-- What an engine leaves of its sessions and connections.
use Rattle.std.specs.Prelude.{◌≡◌, ℕ, false, not, List, ◌++◌, map}
use Rattle.std.specs.List.{filter}
use Rattle.connection_core.specs.Connection.{ConnectionState}
use Rattle.connection_core.specs.Record.{record_of}
use Rattle.connection_core.specs.declared.records.ConnRecord.{ConnRecord}
use Rattle.engine_end.specs.declared.records.EngineRecord.{EngineRecord}
use Rattle.lease_core.specs.Runs.{IsRun, owes_hold}
use Rattle.lease_core.specs.State.{state_of}
use Rattle.lease_core.specs.declared.entry.Entry.{Entry}
use Rattle.lease_core.specs.declared.record.Record.{Record}
use Rattle.library_desk.specs.declared.desk.Stray.{Stray}
use Rattle.message_log.specs.declared.entry.OutEntry.{OutEntry}
use Rattle.session_book.specs.Kept.{Kept}
use Rattle.session_book.specs.declared.reads.SessionRecord.{SessionRecord}
use Rattle.session_core.specs.declared.names.Names.{Names}
use Rattle.switchboard.specs.Board.{Board}

-- what a run leaves of a session
pub record SessionLeft : Type 0 where
  pub names : Names
  pub leases : ℕ
  pub entries : List Entry
  pub inbound : List (List ℕ)
  pub outbound : List (List OutEntry)

-- what a record has of it
abbrev pub left_in : SessionRecord → SessionLeft
left_in r = record { names = r.names; leases = r.registry.leases; entries = r.registry.entries; inbound = r.inbound.items; outbound = r.outbound.series }

-- what a session leaves
abbrev pub left_of : Kept → SessionLeft
left_of session = let book = session.book in record { names = book.machine.names; leases = book.leases; entries = book.entries; inbound = book.inbound; outbound = book.outbound }

-- each entry of the journal follows from those before it, and no hold is missing at its end
pub record HasLawfulJournal (r : SessionRecord) : Type 0 where
  pub run : IsRun r.registry.leases r.registry.entries
  pub settled : owes_hold (state_of r.registry.entries).latest ≡ false

-- the accepted connections, and the dialled ones, in order
abbrev pub accepted_of : List ConnectionState → List ConnectionState
accepted_of connections = filter (λ c. not c.dialled) connections

abbrev pub dialled_of : List ConnectionState → List ConnectionState
dialled_of connections = filter (λ c. c.dialled) connections

-- the records of connections, those of the accepted ones first
abbrev pub connection_records : List ConnectionState → List ConnRecord
connection_records connections = map record_of (accepted_of connections) ++ map record_of (dialled_of connections)

-- Sessions and connections leave this, with these strays, so many accepted connections, and these records of the new entries.
pub record IsLeftBy (board : Board) (strays : List Stray) (accepted : ℕ) (added : List Record) (left : EngineRecord) : Type 0 where
  pub sessions : map left_in left.sessions ≡ map left_of board.sessions
  pub connections : left.connections ≡ connection_records board.connections
  pub strays_are : left.strays ≡ strays
  pub accepted_is : left.accepted ≡ accepted
  pub added_are : left.added ≡ added
