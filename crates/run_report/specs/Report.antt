-- The report of a run.
use Rattle.std.specs.Prelude.{ℕ, List, [], ◌∷◌, ◌++◌, decimal, codes}
use Rattle.std.specs.List.{flat_map}
use Rattle.run_report.specs.declared.records.RunRecord.{RunRecord}
use Rattle.run_report.specs.Calls.{library_text}
use Rattle.run_report.specs.Connections.{connections_text, stray_line}
use Rattle.run_report.specs.Lines.{line, numbered_texts}
use Rattle.run_report.specs.Sessions.{session_text}

abbrev pub report_of : RunRecord → List ℕ
report_of run =
    line (codes "fixgate") (codes "report" ∷ decimal 1 ∷ [])
    ++ numbered_texts session_text 0 run.engine.sessions
    ++ flat_map stray_line run.engine.strays
    ++ connections_text run.engine.accepted run.engine.connections
    ++ flat_map library_text run.libraries
    ++ line (codes "end") []
