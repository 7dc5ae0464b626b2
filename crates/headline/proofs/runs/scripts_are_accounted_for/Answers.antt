use Rattle.std.proofs.Common.{ap, length, ◌∙◌}
use Rattle.headline.specs.runs.Accounted.{first_machines, no_entries}
use Rattle.headline.proofs.run_lemmas.Borne.{all_borne_out, all_replied, all_reported_of}
use Rattle.session_book.specs.Book.{Book}
use Rattle.headline.proofs.runs.scripts_are_accounted_for.Goals as goal

pub returns-clause-reported : goal.returns-clause-reported
returns-clause-reported c = all_reported_of c.calls_are_answered.ensures

pub returns-clause-borne_out : goal.returns-clause-borne_out
returns-clause-borne_out c = all_borne_out c.calls_are_answered.ensures

pub returns-clause-replied : goal.returns-clause-replied
returns-clause-replied c = all_replied c.calls_are_answered.ensures

pub returns-clause-means : goal.returns-clause-means
returns-clause-means c = λ script left is.
    let start = first_machines script.config in
    let runs = c.runs_are_accounted_for.ensures in
    let live = c.libraries_live.ensures in
    let last = is.leads.last in
    let count = length script.steps in
    let began = runs.first script.config _ is.shared is.first is.starts in
    let run = runs.carries_out no_entries start script.steps count is.first last is.leads.carries began in
    let lived = live.carries_out no_entries start script.config.asks script.steps count is.first last is.leads.carries began (live.first script.config _ is.shared is.first is.starts) in
    let leaves = runs.leaves no_entries start last left is.leads.leaves run in
    let goes = c.runs_go_on.ensures.carries_out script.steps count is.first last is.leads.carries in
    let starts = is.starts.engine in
    let board = c.boards_go_on.ensures.further is.first.engine.sessions.desk.board last.engine.sessions.desk.board leaves.gathered.board goes.engine.board leaves.goes_on in
    record {
      last = last;
      run = run;
      lived = lived;
      leaves = leaves;
      sessions = record {
        count = board.sessions ∙ starts.sessions.count;
        names = λ s small. (board.same s).names ∙ ap (λ (book : Book). book.machine.names) (starts.sessions.books s small);
      };
      libraries = goes.libraries ∙ (is.starts.callers.count ∙ starts.table.rings.commands);
      replied = returns-clause-replied c no_entries start script.config.asks last left leaves run.libraries lived;
      borne_out = returns-clause-borne_out c no_entries start script.config.asks last left leaves run.libraries lived;
    }
