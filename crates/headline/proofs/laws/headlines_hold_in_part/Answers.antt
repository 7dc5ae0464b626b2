use Rattle.std.specs.Prelude.{min}
use Rattle.engine_config.specs.declared.config.Config.{Config}
use Rattle.engine_laws.specs.Account.{all_done}
use Rattle.gate_io.specs.declared.clocks.TheConstants.{LAST_MOMENT}
use Rattle.headline.proofs.InPartRuns.{PartLaws, means_in_part, serves_in_part}
use Rattle.headline.proofs.laws.headlines_hold_in_part.Goals as goal
use Rattle.headline.specs.runs.Accounted.{first_machines, no_entries}
use Rattle.script_run.specs.Means.{first_moment}
use Rattle.switchboard.specs.Ready.{entries_of}

laws : goal.After-stops_are_accounted_for → (config : Config) → PartLaws no_entries (first_machines config)
laws c config = record {
  walks = c.turns_are_walks.ensures;
  itself = c.happenings_are_accounted_for.ensures.itself all_done;
  further = c.happenings_are_accounted_for.ensures.further all_done all_done all_done;
  gathers = c.sessions_are_accounted_for.ensures.gathers all_done;
  aside = c.happenings_are_accounted_for.ensures.aside all_done;
  goes_on = record { itself = c.boards_go_on.ensures.itself; further = c.boards_go_on.ensures.further; happens = λ happening old new quiet is. c.boards_go_on.ensures.happening happening old new is };
  whole = c.stops_are_accounted_for.ensures.whole no_entries (first_machines config);
  turn = c.stops_are_accounted_for.ensures.turn no_entries (first_machines config);
  sessions = c.stops_are_accounted_for.ensures.sessions;
  serving = c.serving_happens.ensures.serves;
  run = c.runs_are_accounted_for.ensures.carries_out no_entries (first_machines config);
  run_goes_on = c.runs_go_on.ensures.carries_out;
  drive = c.drives_are_accounted_for.ensures.drives no_entries (first_machines config);
  drive_goes_on = c.drives_are_accounted_for.ensures.goes_on;
}

pub returns-clause-means : goal.returns-clause-means
returns-clause-means c = λ script left means fits.
    means_in_part script left (laws c script.config) means (c.runs_are_accounted_for.ensures.first script.config (first_moment script.steps) means.shared means.first means.starts)

pub returns-clause-serves : goal.returns-clause-serves
returns-clause-serves c = λ script turns wide old links left serves fits accepted dialled.
    let first = serves.first in
    serves_in_part script turns wide old links left (laws c script.config) serves accepted dialled (record {
      engine = c.engines_are_accounted_for.ensures.first script.config (min serves.reading LAST_MOMENT) serves.shared first serves.starts;
      texts = c.texts_are_taken.ensures.first (entries_of first.sessions.desk.board) first.sessions.desk.board links serves.starts.sessions.first;
    })
