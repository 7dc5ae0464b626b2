use Rattle.gate_io.specs.MemWire.{link_at}
use Rattle.headline.proofs.run_lemmas.Carried.{carried, carried_out, left_behind}
use Rattle.headline.proofs.run_lemmas.Starts.{numbered}
use Rattle.headline.proofs.runs.runs_are_accounted_for.Goals as goal
use Rattle.switchboard.specs.Ready.{entries_of}

pub returns-clause-first : goal.returns-clause-first
returns-clause-first c = λ config moment shared run starts.
    let board = run.engine.sessions.desk.board in
    record {
      texts = c.texts_are_taken.ensures.first (entries_of board) board (link_at run.wire) starts.engine.sessions.first;
      engine = c.engines_are_accounted_for.ensures.first config moment shared run.engine starts.engine;
      libraries = numbered config moment shared run starts;
    }

pub returns-clause-carries : goal.returns-clause-carries
returns-clause-carries c = λ before start. carried before start (c.engines_and_texts_go_on.ensures before start)

pub returns-clause-carries_out : goal.returns-clause-carries_out
returns-clause-carries_out c = λ before start. carried_out before start (c.engines_and_texts_go_on.ensures before start)

pub returns-clause-leaves : goal.returns-clause-leaves
returns-clause-leaves c = λ before start. left_behind before start (c.engines_and_texts_go_on.ensures before start)
