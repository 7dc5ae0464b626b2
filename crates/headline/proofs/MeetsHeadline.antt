-- What an engine and its libraries leave meets the headline.
use Rattle.std.proofs.Common.{◌≡◌, ℕ, ◌<◌, ◌≤◌, List, length, ap, ◌∙◌, arith}
use Rattle.std.specs.List.{All}
use Rattle.engine_config.specs.Config.{IsConfig, names_of}
use Rattle.engine_config.specs.declared.config.Config.{Config}
use Rattle.engine_end.specs.Records.{HasLawfulJournal, SessionLeft}
use Rattle.engine_loop.specs.declared.engine.Engine.{Engine}
use Rattle.gate_io.specs.Wire.{Link}
use Rattle.headline.proofs.Acts.{cut_up}
use Rattle.headline.proofs.Bound.{bound_to_standing, bound_while_standing}
use Rattle.headline.proofs.Found.{numbered, session_count, session_found}
use Rattle.headline.proofs.Journals.{holdings_adjoin, lawful_runs, logs_told, one_owners}
use Rattle.headline.proofs.Libraries.{AllReported, every_reply, every_send, prefix_reads, strays_are}
use Rattle.headline.proofs.Logons.{AreMachinesOf, acts_and_logons}
use Rattle.headline.proofs.Texts.{took_its_text}
use Rattle.headline.specs.Ends.{AllEndedWhole}
use Rattle.headline.specs.Headline.{Headline}
use Rattle.headline.specs.LogonsFirst.{LogonsComeFirst}
use Rattle.headline.specs.Numbering.{AreInOrder}
use Rattle.lease_words.specs.Views.{LibraryView}
use Rattle.library_api.specs.Known.{reading_count}
use Rattle.headline.specs.runs.Accounted.{LeavesAccounted, first_machines, no_entries}
use Rattle.headline.specs.Needed.{HeadlineLaws}
use Rattle.run_report.specs.declared.records.LibReport.{LibReport}
use Rattle.run_report.specs.declared.records.RunRecord.{RunRecord}
use Rattle.switchboard.specs.Board.{Board, book_at}

-- the sessions are the configured ones
pub record AreConfiguredSessions (config : Config) (board : Board) : Type 0 where
  pub count : length board.sessions ≡ length config.names
  pub names : (s : ℕ) → s < length board.sessions → (book_at board s).machine.names ≡ names_of config s
  pub leases : (s : ℕ) → s < length board.sessions → (book_at board s).leases ≡ config.leases
  pub dials : (s : ℕ) → s < length board.sessions → (book_at board s).machine.dials ≡ (first_machines config s).dials

module _ (config : Config) (engine : Engine) (links : ℕ → Link) (seats : List LibraryView) (reports : List LibReport) (left : RunRecord)
    (leaves : LeavesAccounted no_entries (first_machines config) engine links seats reports left) where
  -- What is left is that of the configured sessions and libraries, with connections in order that ended whole, dialled ones that begin with their Logons, and lawful
  -- journals; and each report is borne out.
  pub record IsWholeEnd (dialled : ℕ) : Type 0 where
    pub fits : IsConfig config
    pub sessions : AreConfiguredSessions config leaves.gathered.board
    pub libraries : length left.libraries ≡ config.libraries
    pub order : AreInOrder engine.accepted dialled leaves.gathered.board.connections
    pub ended : AllEndedWhole leaves.gathered.board
    pub firsts : LogonsComeFirst leaves.gathered.board
    pub journals : All HasLawfulJournal left.engine.sessions
    pub reported : AllReported config.asks leaves.gathered.board engine.sessions left

  pub meets_headline : HeadlineLaws → (dialled : ℕ) → IsWholeEnd dialled → Headline config links left
  meets_headline laws dialled end =
      let board = leaves.gathered.board in
      let strays = engine.sessions.strays.items in
      let accepted = engine.accepted in
      let added = left.engine.added in
      let is_left = leaves.leaves in
      let order = end.order in
      let at = engine.moment in
      let ready = leaves.accounted.ready in
      let account = leaves.accounted.account in
      let few : length board.sessions ≤ reading_count = (let most = end.fits.sessions in let count = end.sessions.count in omega arith) in
      let machines : AreMachinesOf config board = record { names = end.sessions.names; dials = end.sessions.dials } in
      let told = acts_and_logons config board strays accepted dialled added left is_left order laws.accounts at account end.ended ready links leaves.accounted.dialled leaves.answers machines end.firsts in
      record {
        configured = record {
          count = session_count board strays accepted added left is_left ∙ end.sessions.count;
          names = λ s session has.
              let one = session_found board strays accepted added left is_left s session has in
              ap (λ (x : SessionLeft). x.names) one.is ∙ end.sessions.names s one.within;
          leases = λ s session has.
              let one = session_found board strays accepted added left is_left s session has in
              ap (λ (x : SessionLeft). x.leases) one.is ∙ end.sessions.leases s one.within;
          libraries = end.libraries;
        };
        numbered = numbered board strays accepted dialled added left is_left order no_entries ready;
        lawful_run = lawful_runs left end.journals;
        one_owner = one_owners left end.journals laws.one_owner;
        logs_told = logs_told left end.journals board strays accepted added is_left (λ s small. (ready.books s small).is_book);
        adjoining_holdings = holdings_adjoin left end.journals board strays accepted added is_left (λ s small. (ready.books s small).is_book) laws.holdings;
        acts = λ s session has. (told s session has).0;
        logons = λ s session has. (told s session has).1;
        garbled = cut_up config board strays accepted dialled added left is_left order laws.accounts at account end.ended;
        bound = bound_to_standing board strays accepted dialled added left is_left order ready.sound;
        standing = bound_while_standing board strays accepted dialled added left is_left order ready.sound;
        outbound_text = took_its_text board strays accepted dialled added left is_left order ready links leaves.texts;
        prefix_reads = prefix_reads config engine links seats reports left leaves end.reported few laws.libraries (lawful_runs left end.journals);
        every_reply = every_reply config engine links seats reports left leaves end.reported few laws.libraries;
        every_send = every_send config engine links seats reports left leaves end.reported few laws.libraries (lawful_runs left end.journals);
        strays = strays_are config engine links seats reports left leaves end.reported few laws.libraries;
      }
