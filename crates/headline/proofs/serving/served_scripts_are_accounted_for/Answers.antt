use Rattle.std.proofs.Common.{ℕ}
use Rattle.headline.specs.runs.Accounted.{no_entries}
use Rattle.headline.proofs.serving_lemmas.MetAll.{MeetLaws}
use Rattle.headline.proofs.serving_lemmas.Served.{ServeLaws, served_accounted}
use Rattle.headline.proofs.serving.served_scripts_are_accounted_for.Goals as goal
use Rattle.headline.specs.serving.Served.{AnyReadings}
use Rattle.session_core.specs.State.{State}
use Rattle.switchboard.specs.Ready.{entries_of}

meets : goal.After-drives_are_accounted_for → (start : ℕ → State) → MeetLaws no_entries start
meets c start = record {
  account = c.engines_are_accounted_for.ensures.meets no_entries start;
  lives = c.lives_go_on.ensures.meets;
  served = c.lives_go_on.ensures.served no_entries;
  beside = c.lives_go_on.ensures.beside;
}

laws : goal.After-drives_are_accounted_for → ServeLaws
laws c = record {
  life = record {
    reports = c.lives_go_on.ensures.reports;
    waits = c.lives_go_on.ensures.waits;
    tells_end = c.lives_go_on.ensures.tells_end;
    seat = c.lives_go_on.ensures.seat;
  };
  begins = c.lives_go_on.ensures.begins;
  first = c.engines_are_accounted_for.ensures.first;
  first_texts = λ config moment shared engine links starts. c.texts_are_taken.ensures.first (entries_of engine.sessions.desk.board) engine.sessions.desk.board links starts.sessions.first;
  drives = c.drives_are_accounted_for.ensures.drives no_entries;
  goes_on = c.drives_are_accounted_for.ensures.goes_on;
  further = c.boards_go_on.ensures.further;
  meets = meets c;
  leaves = c.engines_are_accounted_for.ensures.leaves no_entries;
  reported = c.reports_are_borne_out.ensures no_entries;
}

pub returns : goal.returns
returns c = λ script turns wide old new old_links new_links left spent serves. served_accounted (laws c) script turns wide AnyReadings old new old_links new_links left spent serves
