use Rattle.std.proofs.Common.{ℕ, List, subst}
use Rattle.engine_laws.specs.Account.{IsAccountedFor}
use Rattle.lease_core.specs.declared.entry.Entry.{Entry}
use Rattle.engine_laws.specs.libraries.Replies.{AreAnswered}
use Rattle.engine_laws.specs.libraries.Sends.{AreTaken}
use Rattle.headline.specs.runs.Accounted.{no_entries}
use Rattle.headline.proofs.run_lemmas.Engines.{Laws, left_by, met, turn_made}
use Rattle.headline.proofs.run_lemmas.Starts.{by_machines, cursors_are, none_before, not_owned}
use Rattle.headline.proofs.runs.engines_are_accounted_for.Goals as goal
use Rattle.session_core.specs.State.{State}
use Rattle.switchboard.specs.Ready.{IsReady, entries_of}
use Rattle.switchboard.specs.Told.{machines_of}

laws : goal.After-sends_are_taken → (before : ℕ → List Entry) (start : ℕ → State) → Laws before start
laws c before start = record {
  going = c.turns_and_boards_go_on.ensures;
  turn_ready = c.turns_are_accounted_for.ensures.ready before;
  turn_account = c.turns_are_accounted_for.ensures.account before start;
  turn_answered = c.requests_are_answered.ensures.turn before;
  turn_fed = c.messages_are_in_order.ensures.turn;
  turn_within = c.messages_lie_within_holdings.ensures.turn before;
  turn_taken = c.sends_are_taken.ensures.turn before;
  turn_dialled = c.logons_are_answered.ensures.turn before;
  meets_answered = c.requests_are_answered.ensures.meets before;
  meets_fed = c.messages_are_in_order.ensures.meets;
  meets_within = c.messages_lie_within_holdings.ensures.meets;
  meets_taken = c.sends_are_taken.ensures.meets before;
  gathers_account = c.sessions_are_accounted_for.ensures.gathers;
  itself = c.happenings_are_accounted_for.ensures.itself;
  further = c.happenings_are_accounted_for.ensures.further;
  gathers_answered = c.requests_are_answered.ensures.gathers before;
  gathers_fed = c.messages_are_in_order.ensures.gathers;
  gathers_within = c.messages_lie_within_holdings.ensures.gathers;
  gathers_taken = c.sends_are_taken.ensures.gathers before;
  gathers_dialled = c.logons_are_answered.ensures.gathers before;
  finishes = c.sends_are_taken.ensures.finishes before;
  text_gathers = c.texts_are_taken.ensures.gathers before;
  text_answers = c.texts_are_taken.ensures.answers before;
  text_told = c.texts_are_taken.ensures.text before;
}

pub returns-clause-first : goal.returns-clause-first
returns-clause-first c = λ config moment shared engine starts.
    let board = engine.sessions.desk.board in
    let none = none_before config board starts.sessions in
    record {
      ready = subst (λ before. IsReady before board) none (c.starts_are_accounted_for.ensures.ready config board starts.sessions);
      account = by_machines config board starts.sessions no_entries engine.moment
          (subst (λ before. IsAccountedFor before (machines_of board) engine.moment board) none (c.starts_are_accounted_for.ensures.account config engine.moment board starts.sessions));
      answered = subst (λ before. AreAnswered before engine.sessions) none (c.requests_are_answered.ensures.first config moment shared engine.sessions starts.desk starts.ends);
      fed = c.messages_are_in_order.ensures.first config moment shared engine.sessions starts.desk starts.ends (cursors_are config moment shared engine starts) (not_owned config board starts.sessions);
      within = c.messages_lie_within_holdings.ensures.first config shared engine.sessions starts.ends;
      taken = subst (λ before. AreTaken before engine.sessions.desk) none (c.sends_are_taken.ensures.first config moment shared engine.sessions starts.desk starts.table starts.sessions);
      dialled = c.logons_are_answered.ensures.first (entries_of board) board starts.sessions.first;
    }

pub returns-clause-turn : goal.returns-clause-turn
returns-clause-turn c = λ before start. turn_made before start (laws c before start)

pub returns-clause-meets : goal.returns-clause-meets
returns-clause-meets c = λ before start. met before start (laws c before start)

pub returns-clause-leaves : goal.returns-clause-leaves
returns-clause-leaves c = λ before start. left_by before start (laws c before start)
