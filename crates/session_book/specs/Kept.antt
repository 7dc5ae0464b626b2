-- What holds of a session between two calls.
use Rattle.std.specs.Prelude.{◌≡◌, ℕ, ◌≤◌, length, map, None}
use Rattle.lease_core.specs.State.{state_of}
use Rattle.resend_plan.specs.Fit.{HasFitBodies}
use Rattle.fix_fields.specs.declared.limits.TheConstants.{LONGEST_NAME}
use Rattle.session_core.specs.declared.phases.Phase.TheVariants.{Off}
use Rattle.session_core.specs.declared.names.Names.{Names}
use Rattle.resend_plan.specs.declared.item.Names2.{Names2}
use Rattle.session_book.specs.Book.{Book}

-- a session, and for how many more entries and sends there is room
pub record Kept : Type 0 where
  pub book : Book
  pub spare : ℕ

-- The logs have as many entries as the journal tells, in each series. A session that is bound to no connection is off.
-- Names and outbound bodies are within their limits, so that what waits can always be written.
pub record IsBook (book : Book) : Type 0 where
  pub inbound : length book.inbound ≡ (state_of book.entries).inbound
  pub outbound : map (λ entries. length entries) book.outbound ≡ (state_of book.entries).series
  pub begun : 1 ≤ length book.outbound
  pub off : (state_of book.entries).bound ≡ None → book.machine.phase ≡ Off
  pub fit : HasFitBodies book.outbound
  pub us : length book.machine.names.us ≤ LONGEST_NAME
  pub them : length book.machine.names.them ≤ LONGEST_NAME

-- the same names, as what is written wants them
pub record AreNamesOf (names : Names) (written : Names2) : Type 0 where
  pub us : written.us ≡ names.us
  pub them : written.them ≡ names.them
