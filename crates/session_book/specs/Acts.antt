-- What the acts of the session machine do to the journal, to the logs and to the bound connection, one after another, and
-- what the events that ask for them make of a session.
use Rattle.std.specs.Prelude.{◌≡◌, ℕ, true, false, IsTrue, IsSome, List, [], ◌∷◌, ◌++◌}
use Rattle.std.specs.List.{All}
use Rattle.lease_core.specs.Runs.{is_bind}
use Rattle.lease_core.specs.State.{State as Totals, state_of}
use Rattle.session_core.specs.Tasks.{SendsShortTexts, is_reset_act}
use Rattle.connection_core.specs.Outgoing.{with_items}
use Rattle.lease_core.specs.declared.event.Event.TheVariants.{Arrives, AdminSent, Binds, Plans, Leaves, Resets, Requests, Lapses}
use Rattle.message_log.specs.Series.{series_at, with_entry}
use Rattle.message_log.specs.declared.entry.OutEntry.{OutEntry}
use Rattle.resend_plan.specs.Plan.{plan_of}
use Rattle.resend_plan.specs.declared.item.WireItem.{WireItem}
use Rattle.resend_plan.specs.declared.item.WireItem.TheVariants.{New}
use Rattle.session_core.specs.Admin.{admin_text, is_session_entry}
use Rattle.session_core.specs.Ask.{ask, after_ask}
use Rattle.session_core.specs.Receive.{receive, after_receive}
use Rattle.session_core.specs.State.{after_leave}
use Rattle.session_core.specs.Tick.{tick, after_tick}
use Rattle.session_core.specs.declared.acts.Act.{Act}
use Rattle.session_core.specs.declared.acts.Act.TheVariants.{Accept, Send, Resend, Reset}
use Rattle.session_core.specs.declared.acts.Admin.{Admin}
use Rattle.session_book.specs.Book.{Book, Desk, with_outbox, present_series, next_number, with_event, with_machine, with_sending}

-- an application message goes to the inbound log
abbrev pub after_accept : List ℕ → Book → Book
after_accept body book = record (with_event Arrives book) { inbound = book.inbound ++ body ∷ [] }

-- a session message, with the next number
abbrev pub admin_entry : ℕ → Admin → Book → OutEntry
admin_entry at admin book = record { at = at; admin = is_session_entry admin; body = admin_text admin (next_number book) }

-- what waits of the next number
abbrev pub next_item : Book → List WireItem
next_item book = New (present_series book) (next_number book) ∷ []

abbrev pub after_send : ℕ → Admin → Book → Book
after_send at admin book =
    with_sending at (next_item book) (record (with_event AdminSent book) { outbound = with_entry book.outbound (admin_entry at admin book) })

-- what answers a ResendRequest, over the log up to here
abbrev pub plan_items : ℕ → ℕ → ℕ → Book → List WireItem
plan_items at begin last book = plan_of (series_at book.outbound (present_series book)) (present_series book) begin last at

abbrev pub after_resend : ℕ → ℕ → ℕ → Book → Book
after_resend at begin last book = with_sending at (plan_items at begin last book) (with_event (Plans begin last at) book)

-- both sides' numbers begin again, with the next series
abbrev pub after_reset : Book → Book
after_reset book = record (with_event Resets book) { outbound = book.outbound ++ [] ∷ [] }

-- an act is carried out at a moment
abbrev pub after_act : ℕ → Act → Desk → Desk
after_act at (Accept body) s = with_outbox (after_accept body s.book) s.outgoing
after_act at (Send admin) s = with_outbox (after_send at admin s.book) (with_items (next_item s.book) s.outgoing)
after_act at (Resend begin last) s = with_outbox (after_resend at begin last s.book) (with_items (plan_items at begin last s.book) s.outgoing)
after_act at Reset s = with_outbox (after_reset s.book) s.outgoing

abbrev pub after_acts : ℕ → List Act → Desk → Desk
after_acts at [] s = s
after_acts at (act ∷ acts) s = after_acts at acts (after_act at act s)

-- a message comes on the connection to which the session is bound
abbrev pub after_message : ℕ → List ℕ → Desk → Desk
after_message at body s =
    let machine = s.book.machine in
    after_acts at (receive machine body at).acts (with_outbox (with_machine (after_receive machine body at) s.book) s.outgoing)

-- the session is bound to a connection, whose Logon this is
abbrev pub after_binding : ℕ → ℕ → List ℕ → Desk → Desk
after_binding at c body s = after_message at body (with_outbox (with_event (Binds c) s.book) s.outgoing)

-- the session is bound to a connection that it dialled, and asks
abbrev pub after_dial : ℕ → ℕ → Desk → Desk
after_dial at c s =
    let machine = s.book.machine in
    after_acts at (ask machine).acts (with_outbox (with_machine (after_ask machine at) (with_event (Binds c) s.book)) s.outgoing)

-- the clock stands at a moment
abbrev pub after_ticking : ℕ → Desk → Desk
after_ticking at s =
    let machine = s.book.machine in
    after_acts at (tick machine at).acts (with_outbox (with_machine (after_tick machine at) s.book) s.outgoing)

-- the connection ended
abbrev pub after_end : ℕ → Book → Book
after_end c book = with_machine (after_leave book.machine) (with_event (Leaves c) book)

-- a library asked for the session
abbrev pub after_request : ℕ → ℕ → ℕ → Book → Book
after_request library nr from book = with_event (Requests library nr from) book

-- the heir didn't come
abbrev pub after_lapse : Book → Book
after_lapse book = with_event Lapses book

-- Some of the acts were carried out, from the first on, each whole.
pub record IsBegun (at : ℕ) (acts : List Act) (start new : Desk) : Type 0 where
  pub done : List Act
  pub left : List Act
  pub acts_are : acts ≡ done ++ left
  pub new_is : new ≡ after_acts at done start

-- the session is bound to a connection
abbrev pub IsBoundIn : Book → Type 0
IsBoundIn book = IsSome (state_of book.entries).bound

-- a reset stands directly behind a bind alone
abbrev pub ResetsBehindBind : Totals → List Act → Type 0
ResetsBehindBind totals [] = Unit {0}
ResetsBehindBind totals (act ∷ acts) = (is_reset_act act ≡ true → IsTrue (is_bind totals.latest)) × All (λ a. is_reset_act a ≡ false) acts

-- there are no acts, or the session is bound
abbrev pub IsBoundFor : Book → List Act → Type 0
IsBoundFor book [] = Unit {0}
IsBoundFor book (act ∷ acts) = IsBoundIn book

-- the acts can be carried out on this session
pub record CanCarry (book : Book) (acts : List Act) : Type 0 where
  pub bound : IsBoundFor book acts
  pub short : All SendsShortTexts acts
  pub resets : ResetsBehindBind (state_of book.entries) acts
