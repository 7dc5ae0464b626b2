use Rattle.std.proofs.Common.{◌≡◌, ◌≢◌, ℕ, ◌<◌, ◌≤◌, Bool, [], length, Option, None, refl, sym, ap, subst, ◌∙◌}
use Rattle.std.specs.List.{All}
use Rattle.std.specs.Prelude.{min}
use Rattle.engine_config.specs.Config.{IsConfig}
use Rattle.engine_config.specs.declared.config.Config.{Config}
use Rattle.engine_end.specs.Records.{HasLawfulJournal}
use Rattle.engine_loop.specs.Engines.{until_of}
use Rattle.engine_loop.specs.Turns.{AtWire, at_wire}
use Rattle.engine_loop.specs.declared.engine.Engine.{Engine}
use Rattle.gate_io.specs.Wire.{Door, Link}
use Rattle.gate_io.specs.declared.clocks.TheConstants.{LAST_MOMENT}
use Rattle.headline.proofs.Coming.{AtWireInOrder, gathered_numbered}
use Rattle.headline.proofs.Driven.{drove_in_order, drove_whole, first_ended, first_in_order}
use Rattle.headline.proofs.Few.{AreFewAt, drove_few, first_few}
use Rattle.headline.proofs.Finished.{finished, none_spent}
use Rattle.headline.proofs.MeetsHeadline.{meets_headline}
use Rattle.headline.proofs.Whole.{gathered_whole}
use Rattle.headline.proofs.laws.served_headlines_hold.Goals as goal
use Rattle.headline.specs.Ends.{AllEndedWhole}
use Rattle.headline.specs.Finished.{IsFinished}
use Rattle.headline.specs.Headline.{Headline}
use Rattle.headline.specs.LogonsFirst.{LogonsComeFirst}
use Rattle.headline.specs.Numbering.{AreInOrder}
use Rattle.headline.specs.runs.Accounted.{first_machines, no_entries}
use Rattle.run_report.specs.declared.records.RunRecord.{RunRecord}
use Rattle.script_text.specs.declared.steps.Script.{Script}
use Rattle.headline.specs.serving.Served.{AnyReadings, IsServedRecord}
use Rattle.serve_run.specs.Drives.{Drive, drive_of}
use Rattle.serve_run.specs.Serves.{Serves, connections_of}
use Rattle.session_core.specs.State.{State}
use Rattle.switchboard.specs.Board.{Board, connection_at}
use Rattle.switchboard.specs.Ready.{entries_of}

-- what a script that is served comes to, before it is said in the words of its record
module _ (c : goal.After-served_scripts_are_accounted_for) (script : Script) (turns : ℕ) (wide : Bool) (old new : Door) (old_links new_links : ℕ → Link) (left : RunRecord) (spent : Option ℕ)
    (serves : Serves script turns wide AnyReadings old new old_links new_links left spent) (accepted : old.accepted ≡ 0) (dialled : old.dialled ≡ 0) where
  abbrev config : Config
  config = script.config

  abbrev start : ℕ → State
  start = first_machines config

  abbrev moment : ℕ
  moment = min serves.reading LAST_MOMENT

  abbrev begin : Drive
  begin = drive_of (at_wire serves.first old old_links) [] []

  is : IsServedRecord script new_links serves.last left
  is = c.served_scripts_are_accounted_for.ensures script turns wide old new old_links new_links left spent serves

  abbrev board : Board
  board = is.leaves.gathered.board

  same : is.engine.sessions.desk.board ≡ serves.last.sessions.desk.board
  same = ap (λ (e : Engine). e.sessions.desk.board) is.has_met

  last_order : AtWireInOrder (at_wire serves.last new new_links)
  last_order = subst AtWireInOrder serves.drives.at (drove_in_order c.accounts_are_kept.ensures.walks c.accounts_are_kept.ensures.serving (connections_of config) config.libraries serves.drives.count begin serves.drives.last serves.drives.drives
      (first_in_order config moment serves.shared serves.first old old_links serves.starts accepted dialled))

  last_ended : AllEndedWhole serves.last.sessions.desk.board
  last_ended =
      subst (λ (a : AtWire). AllEndedWhole a.engine.sessions.desk.board) serves.drives.at
      (drove_whole no_entries start c.accounts_are_kept.ensures (c.drives_are_accounted_for.ensures.once no_entries start) (connections_of config) config.libraries serves.drives.count begin serves.drives.last serves.drives.drives
      (record {
        engine = c.engines_are_accounted_for.ensures.first config moment serves.shared serves.first serves.starts;
        texts = c.texts_are_taken.ensures.first (entries_of serves.first.sessions.desk.board) serves.first.sessions.desk.board old_links serves.starts.sessions.first;
      })
      (first_ended config moment serves.shared serves.first serves.starts))

  last_firsts : LogonsComeFirst serves.last.sessions.desk.board
  last_firsts =
      subst (λ (a : AtWire). LogonsComeFirst a.engine.sessions.desk.board) serves.drives.at
      (c.logons_come_first.ensures.drives (connections_of config) config.libraries serves.drives.count begin serves.drives.last serves.drives.drives
      (c.logons_come_first.ensures.first config moment serves.shared serves.first serves.starts))

  counted : is.engine.accepted ≡ new.accepted
  counted = ap (λ (e : Engine). e.accepted) is.has_met ∙ last_order.counted

  order : AreInOrder is.engine.accepted new.dialled board.connections
  order = subst (λ n. AreInOrder n new.dialled board.connections) (sym counted)
      (gathered_numbered (length is.engine.sessions.desk.board.sessions) is.engine.moment (until_of is.engine) _ is.leaves.gathered is.leaves.gathers new.accepted new.dialled
      (subst (λ (b : Board). AreInOrder new.accepted new.dialled b.connections) (sym same) last_order.connections))

  headline_holds : IsConfig config → All HasLawfulJournal left.engine.sessions → Headline config new_links left
  headline_holds fits journals = meets_headline config is.engine new_links is.seats is.reports left is.leaves c.accounts_and_calls_are_told.ensures new.dialled
      (record {
        fits = fits;
        sessions = record {
          count = is.sessions.count;
          names = λ s small. is.sessions.names s (subst (λ n. s < n) is.sessions.count small);
          leases = λ s small. is.sessions.leases s (subst (λ n. s < n) is.sessions.count small);
          dials = λ s small. is.sessions.dials s (subst (λ n. s < n) is.sessions.count small);
        };
        libraries = is.libraries;
        order = order;
        ended = gathered_whole (length is.engine.sessions.desk.board.sessions) is.engine.moment (until_of is.engine) _ is.leaves.gathered is.leaves.gathers (subst AllEndedWhole (sym same) last_ended);
        firsts = c.logons_come_first.ensures.gathers is.engine.moment (until_of is.engine) _ is.leaves.gathered is.leaves.gathers (subst LogonsComeFirst (sym same) last_firsts);
        journals = journals;
        reported = is.reported;
      })

  last_few : AreFewAt config.connections config.dials (at_wire serves.last new new_links)
  last_few = subst (AreFewAt config.connections config.dials) serves.drives.at
      (drove_few config.connections config.dials c.accounts_are_kept.ensures.walks c.accounts_are_kept.ensures.serving (connections_of config) config.libraries serves.drives.count begin serves.drives.last serves.drives.drives
      (first_few config moment serves.shared serves.first old old_links serves.starts dialled))

  run_finished : None ≡ spent → IsFinished config.connections config.dials left
  run_finished none =
      let over = none_spent serves.over left.libraries (none ∙ serves.concludes.spent_is) in
      let ended = serves.drives.ended over.0 in
      finished config.connections config.dials is.engine.accepted new.dialled is.engine.sessions.desk.board board left is.engine.sessions.strays.items left.engine.added is.leaves.leaves
      (subst (λ n. AreInOrder n new.dialled is.engine.sessions.desk.board.connections) (sym counted) (subst (λ (b : Board). AreInOrder new.accepted new.dialled b.connections) (sym same) last_order.connections))
      order is.leaves.goes_on
      (subst (λ n. n ≤ config.connections) (sym (ap (λ (e : Engine). e.accepted) is.has_met)) last_few.accepted_few)
      (subst (λ n. n ≤ config.dials) last_few.made last_few.few)
      (ap (λ (b : Board). length b.connections) same ∙ ended.came)
      (subst (λ (b : Board). (k : ℕ) → k < length b.connections → (connection_at b k).cause ≢ None) (sym same) ended.ended)
      over.1

pub returns-clause-headline : goal.returns-clause-headline
returns-clause-headline c = λ script turns wide old new old_links new_links left spent serves fits accepted dialled journals.
    headline_holds c script turns wide old new old_links new_links left spent serves accepted dialled fits journals

pub returns-clause-finished : goal.returns-clause-finished
returns-clause-finished c = λ script turns wide old new old_links new_links left serves accepted dialled. run_finished c script turns wide old new old_links new_links left None serves accepted dialled refl
