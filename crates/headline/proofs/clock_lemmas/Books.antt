-- What the calls of a session's book make of its machine: what is carried out changes the moment of the last sending alone.
use Rattle.std.proofs.Common.{◌≡◌, ℕ, ◌≤◌, List, [], ◌∷◌, refl, sym, subst, ◌∙◌}
use Rattle.headline.proofs.clock_lemmas.Phases.{HasHeard}
use Rattle.lease_core.specs.declared.event.Event.TheVariants.{Binds}
use Rattle.lease_core.specs.declared.word.Word.{Word}
use Rattle.resend_plan.specs.declared.item.WireItem.{WireItem}
use Rattle.session_book.specs.Acts.{after_act, after_acts, after_binding, after_dial, after_message, after_ticking, next_item, plan_items}
use Rattle.session_book.specs.Book.{Desk, after_sending, with_event, with_machine, with_outbox}
use Rattle.session_book.specs.Words.{after_timeout, after_word, send_items}
use Rattle.session_core.specs.Ask.{after_ask, ask}
use Rattle.session_core.specs.Receive.{after_receive, receive}
use Rattle.session_core.specs.State.{State}
use Rattle.session_core.specs.Tick.{after_tick, tick}
use Rattle.session_core.specs.declared.acts.Act.{Act}
use Rattle.session_core.specs.declared.acts.Act.TheVariants.{Accept, Resend, Reset, Send}

-- two states that differ in the moment of the last sending alone, or in what doesn't matter here
pub record IsSameButSent (s t : State) : Type 0 where
  pub dials : s.dials ≡ t.dials
  pub phase : s.phase ≡ t.phase
  pub received : s.received ≡ t.received
  pub waiting : s.waiting ≡ t.waiting

pub same_itself : (s : State) → IsSameButSent s s
same_itself s = record { dials = refl; phase = refl; received = refl; waiting = refl }

same_then : (s t u : State) → IsSameButSent s t → IsSameButSent t u → IsSameButSent s u
same_then s t u one two = record { dials = one.dials ∙ two.dials; phase = one.phase ∙ two.phase; received = one.received ∙ two.received; waiting = one.waiting ∙ two.waiting }

pub same_heard : (first at : ℕ) (s t : State) → IsSameButSent s t → HasHeard first at t → HasHeard first at s
same_heard first at s t same was = record {
  heard = λ on. subst (λ n. first ≤ n) (sym same.received) (was.heard (λ off. on (same.phase ∙ off)));
  past = subst (λ n. n ≤ at) (sym same.received) was.past;
  tested = λ since is. subst (λ n. n ≤ since) (sym same.received) (was.tested since (sym same.waiting ∙ is));
}

sending_same : (at : ℕ) (items : List WireItem) (machine : State) → IsSameButSent (after_sending at items machine) machine
sending_same at [] machine = same_itself machine
sending_same at (item ∷ items) machine = record { dials = refl; phase = refl; received = refl; waiting = refl }

act_same : (at : ℕ) (act : Act) (desk : Desk) → IsSameButSent (after_act at act desk).book.machine desk.book.machine
act_same at (Accept body) desk = same_itself desk.book.machine
act_same at (Send admin) desk = sending_same at (next_item desk.book) desk.book.machine
act_same at (Resend begin last) desk = sending_same at (plan_items at begin last desk.book) desk.book.machine
act_same at Reset desk = same_itself desk.book.machine

acts_same : (at : ℕ) (acts : List Act) (desk : Desk) → IsSameButSent (after_acts at acts desk).book.machine desk.book.machine
acts_same at [] desk = same_itself desk.book.machine
acts_same at (act ∷ acts) desk = same_then (after_acts at acts (after_act at act desk)).book.machine (after_act at act desk).book.machine desk.book.machine (acts_same at acts (after_act at act desk)) (act_same at act desk)

pub message_same : (at : ℕ) (body : List ℕ) (desk : Desk) → IsSameButSent (after_message at body desk).book.machine (after_receive desk.book.machine body at)
message_same at body desk = acts_same at (receive desk.book.machine body at).acts (with_outbox (with_machine (after_receive desk.book.machine body at) desk.book) desk.outgoing)

pub binding_same : (at c : ℕ) (body : List ℕ) (desk : Desk) → IsSameButSent (after_binding at c body desk).book.machine (after_receive desk.book.machine body at)
binding_same at c body desk = message_same at body (with_outbox (with_event (Binds c) desk.book) desk.outgoing)

pub dial_same : (at c : ℕ) (desk : Desk) → IsSameButSent (after_dial at c desk).book.machine (after_ask desk.book.machine at)
dial_same at c desk = acts_same at (ask desk.book.machine).acts (with_outbox (with_machine (after_ask desk.book.machine at) (with_event (Binds c) desk.book)) desk.outgoing)

pub ticking_same : (at : ℕ) (desk : Desk) → IsSameButSent (after_ticking at desk).book.machine (after_tick desk.book.machine at)
ticking_same at desk = acts_same at (tick desk.book.machine at).acts (with_outbox (with_machine (after_tick desk.book.machine at) desk.book) desk.outgoing)

pub word_same : (at until : ℕ) (w : Word) (bodies : List (List ℕ)) (desk : Desk) → IsSameButSent (after_word at until w bodies desk).book.machine desk.book.machine
word_same at until w bodies desk = sending_same at (send_items bodies desk.book) desk.book.machine

pub timeout_same : (at until : ℕ) (w : Word) (bodies : List (List ℕ)) (desk : Desk) → IsSameButSent (after_timeout at until w bodies desk).book.machine desk.book.machine
timeout_same at until w bodies desk = sending_same at (send_items bodies desk.book) desk.book.machine
