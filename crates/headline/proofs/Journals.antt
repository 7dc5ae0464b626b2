-- The sessions of a record are the configured ones, and their journals are lawful and agree with their logs.
use Rattle.std.proofs.Common.{ℕ, ◌<◌, List, length, sym, subst}
use Rattle.std.specs.List.{All}
use Rattle.engine_end.specs.Records.{HasLawfulJournal, IsLeftBy, left_in}
use Rattle.headline.proofs.Found.{session_found}
use Rattle.headline.proofs.Lists.{mapped_all}
use Rattle.headline.specs.Headline.{EachSession, HasLogsTold, HasOneOwner, HoldingsAdjoin, IsLawfulRun}
use Rattle.lease_core.specs.Holdings.{AreAdjoining, holdings_of}
use Rattle.lease_core.specs.Laws.{HoldingsAdjoin as HoldingsOfRunsAdjoin, OneOwner}
use Rattle.lease_core.specs.declared.record.Record.{Record}
use Rattle.library_desk.specs.declared.desk.Stray.{Stray}
use Rattle.run_report.specs.declared.records.RunRecord.{RunRecord}
use Rattle.session_book.specs.Kept.{IsBook}
use Rattle.switchboard.specs.Board.{Board, book_at}

module _ (left : RunRecord) (journals : All HasLawfulJournal left.engine.sessions) where
  pub lawful_runs : EachSession left (λ s session. IsLawfulRun session)
  lawful_runs s session has =
      let one = mapped_all left_in HasLawfulJournal left.engine.sessions s session journals has in
      subst IsLawfulRun (sym one.is) (record { run = one.has.run; settled = one.has.settled })

  pub one_owners : OneOwner → EachSession left (λ s session. HasOneOwner session)
  one_owners law s session has = (let owner = law session.leases session.entries (lawful_runs s session has).run in record { one = owner.0; few = owner.1 })

  module _ (board : Board) (strays : List Stray) (accepted : ℕ) (added : List Record) (is_left : IsLeftBy board strays accepted added left.engine)
      (books : (s : ℕ) → s < length board.sessions → IsBook (book_at board s)) where
    pub logs_told : EachSession left (λ s session. HasLogsTold session)
    logs_told s session has =
        let one = session_found board strays accepted added left is_left s session has in
        let book = books s one.within in
        subst HasLogsTold (sym one.is) (record { inbound = book.inbound; outbound = book.outbound })

    pub holdings_adjoin : HoldingsOfRunsAdjoin → EachSession left (λ s session. HoldingsAdjoin session)
    holdings_adjoin law s session has =
        subst (λ end. AreAdjoining (holdings_of session.entries) end) (sym (logs_told s session has).inbound) (law session.leases session.entries (lawful_runs s session has).run)
