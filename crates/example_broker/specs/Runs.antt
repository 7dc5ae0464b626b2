-- A whole run.
use Rattle.std.specs.Prelude.{◌≡◌, ℕ, ◌≤◌, length}
use Rattle.engine_config.specs.declared.config.Config.{Config}
use Rattle.engine_loop.specs.Turns.{AtWire}
use Rattle.engine_start.specs.Starts.{StartsDesk, StartsSessions}
use Rattle.library_desk.specs.declared.shared.Shared.{Shared}
use Rattle.run_report.specs.declared.records.RunRecord.{RunRecord}
use Rattle.example_broker.specs.Leaves.{Leaves}
use Rattle.example_broker.specs.Traders.{AreNewTraders, HaveTraded}
use Rattle.example_broker.specs.Turns.{Drives}
use Rattle.example_broker.specs.declared.starting.Traders.{Traders}

-- Engine and libraries begin as configured, the engine makes turns while the libraries trade, and the record is what they leave.
pub record Runs (config : Config) (left : RunRecord) : Type 0 where
  pub moment : ℕ
  pub shared : Shared
  pub begun : AtWire
  pub sessions : StartsSessions config begun.engine.sessions.desk.board
  pub desk : StartsDesk config moment shared begun.engine.sessions
  pub begin : Traders
  pub traders : AreNewTraders shared config.asks (length config.names) begin
  pub ended : AtWire
  pub drives : Drives begun ended
  pub end : Traders
  pub trade : HaveTraded begin end
  pub leaves : Leaves ended.engine end left
