-- The records for which a journal's file stands can be gone on from.
use Rattle.std.specs.Prelude.{List, length}
use Rattle.std.specs.List.{AllByRecursion}
use Rattle.durable_journal.specs.Files.{AreRuns, IsLawful}
use Rattle.engine_config.specs.declared.config.Config.{Config}
use Rattle.engine_start.specs.Restarts.{AreRecordsOf}
use Rattle.lease_core.specs.declared.record.Record.{Record}

-- Records of the journal's table that are runs over a configuration's sessions can be gone on from.
abbrev pub JournalsGoOn : Type 0
JournalsGoOn =
    (config : Config) (records : List Record)
    → AllByRecursion IsLawful records
    → AreRuns (length config.names) config.leases records
    → AreRecordsOf config records
