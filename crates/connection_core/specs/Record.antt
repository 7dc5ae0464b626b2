-- What a connection leaves.
use Rattle.connection_core.specs.declared.records.ConnRecord.{ConnRecord}
use Rattle.connection_core.specs.Outgoing.{written_text}
use Rattle.connection_core.specs.Connection.{ConnectionState}

-- the record of a connection
abbrev pub record_of : ConnectionState → ConnRecord
record_of state =
    record { session = state.session; taken = state.taken; garbled = state.garbled; written = written_text state.out.outgoing; cause = state.cause }
