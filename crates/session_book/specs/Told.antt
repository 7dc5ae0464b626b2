-- What the entries of a journal tell of the acts that made them.
use Rattle.std.specs.Prelude.{◌≡◌, ℕ, List, [], ◌∷◌, ◌++◌, slice_get, Some}
use Rattle.lease_core.specs.State.{State as Totals, series_of, state_after, state_of}
use Rattle.lease_core.specs.declared.entry.Entry.{Entry}
use Rattle.lease_core.specs.declared.entry.Entry.TheVariants.{Admin, Arrive, Plan, Reset}
use Rattle.message_log.specs.Growth.{GoesOn}
use Rattle.message_log.specs.Series.{entry_at}
use Rattle.message_log.specs.declared.entry.OutEntry.{OutEntry}
use Rattle.session_core.specs.Admin.{admin_text, is_session_entry}
use Rattle.session_core.specs.declared.acts.Act.{Act}
use Rattle.session_core.specs.declared.acts.Act.TheVariants.{Accept, Resend, Reset as Restart, Send}
use Rattle.session_core.specs.declared.acts.Admin.{Admin as Message}
use Rattle.session_book.specs.Book.{Desk}

-- the outbound log has this session message at that number of that series
pub record IsLogged (log : List (List OutEntry)) (series number : ℕ) (message : Message) : Type 0 where
  pub entry : OutEntry
  pub found : entry_at log series number ≡ Some entry
  pub body : entry.body ≡ admin_text message number
  pub session : entry.admin ≡ is_session_entry message

-- The entry tells of the act: an Arrive of the accepted body, an Admin of the message that was sent, a Plan of the numbers that were asked for, a
-- Reset of that.
abbrev pub TellsAct : List (List ℕ) → List (List OutEntry) → Totals → Act → Entry → Type 0
TellsAct inbound log s (Accept body) e = (pos : ℕ) × ((e ≡ Arrive pos) × (slice_get inbound pos ≡ Some body))
TellsAct inbound log s (Send message) e = (number : ℕ) × ((e ≡ Admin number) × IsLogged log (series_of s) number message)
TellsAct inbound log s (Resend begin last) e = (at : ℕ) × (e ≡ Plan begin last at)
TellsAct inbound log s Restart e = (series : ℕ) × (e ≡ Reset series)

-- one entry for each act, in order
abbrev pub TellActs : List (List ℕ) → List (List OutEntry) → Totals → List Act → List Entry → Type 0
TellActs inbound log s [] [] = Unit {0}
TellActs inbound log s (act ∷ acts) (e ∷ es) = TellsAct inbound log s act e × TellActs inbound log (state_after s e) acts es
TellActs inbound log s [] (e ∷ es) = ⊥
TellActs inbound log s (act ∷ acts) [] = ⊥

-- The acts were carried out, and nothing else: the entries that came tell of them, with the logs.
pub record CarriesOut (acts : List Act) (old new : Desk) : Type 0 where
  pub added : List Entry
  pub entries_are : new.book.entries ≡ old.book.entries ++ added
  pub more : List (List ℕ)
  pub inbound : new.book.inbound ≡ old.book.inbound ++ more
  pub outbound : GoesOn old.book.outbound new.book.outbound
  pub told : TellActs new.book.inbound new.book.outbound (state_of old.book.entries) acts added
