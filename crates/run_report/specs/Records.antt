-- The record of a run that did not begin.
use Rattle.std.specs.Prelude.{[]}
use Rattle.run_report.specs.declared.records.RunRecord.{RunRecord}

-- what a run leaves that did not begin
abbrev pub no_run : RunRecord
no_run = record { engine = record { sessions = []; connections = []; strays = []; accepted = 0; added = [] }; libraries = [] }
