use Rattle.std.proofs.Common.{◌≡◌, ℕ, ◌<◌, length, map, sym, ap, subst, ◌∙◌}
use Rattle.std.proofs.lemmas.List.{length-map}
use Rattle.engine_loop.specs.Engines.{until_of}
use Rattle.gate_io.specs.MemWire.{link_at}
use Rattle.headline.proofs.MeetsHeadline.{meets_headline}
use Rattle.headline.proofs.laws.headlines_hold.Goals as goal
use Rattle.headline.specs.Numbering.{AreInOrder}
use Rattle.headline.specs.runs.Accounted.{first_machines, no_entries}
use Rattle.script_run.specs.Means.{report_of, seat_of}
use Rattle.session_book.specs.Book.{Book}

pub returns : goal.returns
returns c = λ script left means fits journals.
    let config = script.config in
    let start = first_machines config in
    let runs = c.runs_are_accounted_for.ensures in
    let live = c.libraries_live.ensures in
    let first = means.first in
    let last = means.leads.last in
    let count = length script.steps in
    let began = runs.first config _ means.shared first means.starts in
    let run = runs.carries_out no_entries start script.steps count first last means.leads.carries began in
    let lived = live.carries_out no_entries start config.asks script.steps count first last means.leads.carries began (live.first config _ means.shared first means.starts) in
    let leaves = runs.leaves no_entries start last left means.leads.leaves run in
    let goes = c.runs_go_on.ensures.carries_out script.steps count first last means.leads.carries in
    let starts = means.starts.engine in
    let board = leaves.gathered.board in
    let goes_on = c.boards_go_on.ensures.further first.engine.sessions.desk.board last.engine.sessions.desk.board board goes.engine.board leaves.goes_on in
    let sessions : length board.sessions ≡ length config.names = goes_on.sessions ∙ starts.sessions.count in
    let books = λ (s : ℕ) (small : s < length board.sessions). starts.sessions.books s (subst (λ n. s < n) sessions small) in
    let at = last.engine.moment in
    let until = until_of last.engine in
    let numbers = c.connections_are_numbered.ensures in
    let in_order = numbers.carries_out script.steps count first last means.leads.carries (numbers.first config _ means.shared first means.starts) in
    let ends = c.connections_end_whole.ensures in
    let logons = c.logons_come_first.ensures in
    meets_headline config last.engine (link_at last.wire) (map seat_of last.callers.items) (map report_of last.callers.items) left leaves c.accounts_and_calls_are_told.ensures last.wire.dialled
    (record {
      fits = fits;
      sessions = record {
        count = sessions;
        names = λ s small. (goes_on.same s).names ∙ ap (λ (book : Book). book.machine.names) (books s small);
        leases = λ s small. (goes_on.books s).leases ∙ ap (λ (book : Book). book.leases) (books s small);
        dials = λ s small. (goes_on.same s).dials ∙ ap (λ (book : Book). book.machine.dials) (books s small);
      };
      libraries = ap length leaves.libraries ∙ length-map last.callers.items report_of ∙ goes.libraries ∙ (means.starts.callers.count ∙ starts.table.rings.commands);
      order = subst (λ n. AreInOrder n last.wire.dialled board.connections) (sym in_order.counted)
          (numbers.gathers at until _ leaves.gathered leaves.gathers last.wire.accepted last.wire.dialled in_order.connections);
      ended = ends.gathers at until _ leaves.gathered leaves.gathers
          (ends.carries_out no_entries start script.steps count first last means.leads.carries began (ends.first config _ means.shared first means.starts));
      firsts = logons.gathers at until _ leaves.gathered leaves.gathers
          (logons.carries_out script.steps count first last means.leads.carries (logons.first config _ means.shared first.engine means.starts.engine));
      journals = journals;
      reported = c.scripts_are_accounted_for.ensures.reported no_entries start config.asks last left leaves run.libraries lived;
    })
