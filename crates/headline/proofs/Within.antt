-- What polls gave lies within what the library held, in the words of the record.
use Rattle.std.proofs.Common.{ℕ, List, sym, subst}
use Rattle.engine_end.specs.Records.{IsLeftBy, SessionLeft}
use Rattle.headline.proofs.Found.{session_found}
use Rattle.headline.specs.Headline.{EachSession, IsLawfulRun, sessions_of}
use Rattle.headline.specs.Within.{IsWithinHolding}
use Rattle.lease_core.specs.Runs.{IsRun}
use Rattle.lease_core.specs.declared.messages.Notice.{Notice}
use Rattle.lease_core.specs.declared.messages.Notice.TheVariants as notices
use Rattle.lease_core.specs.declared.record.Record.{Record}
use Rattle.library_desk.specs.declared.desk.Stray.{Stray}
use Rattle.engine_laws.specs.libraries.Spans.{IsBelowEnd, LiesWithin}
use Rattle.run_report.specs.declared.records.RunRecord.{RunRecord}
use Rattle.switchboard.specs.Board.{Board}

pub lies_in : (board : Board) (strays : List Stray) (accepted : ℕ) (added : List Record) (left : RunRecord) → IsLeftBy board strays accepted added left.engine → EachSession left (λ s session. IsLawfulRun session)
    → (library : ℕ) (n : Notice) → LiesWithin board library n → IsWithinHolding (sessions_of left) library n
lies_in board strays accepted added left is_left runs library (notices.Message s lease pos bytes) is = λ session has.
    let one = session_found board strays accepted added left is_left s session has in
    let run : IsRun session.leases session.entries = (runs s session has).run in
    subst (λ (x : SessionLeft). IsBelowEnd x.entries library lease pos) (sym one.is) (is session.leases (subst (λ (x : SessionLeft). IsRun session.leases x.entries) one.is run))
lies_in board strays accepted added left is_left runs library (notices.Granted nr s lease from start) is = tt
lies_in board strays accepted added left is_left runs library (notices.Refused nr s why) is = tt
