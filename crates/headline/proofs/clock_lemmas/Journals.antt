-- What is done to a session adds no Timeout to its journal, but for the one of a session that is taken back; so none stands there too early.
use Rattle.std.proofs.Common.{ℕ, zero, suc, ◌+◌, ◌≤◌, Bool, true, false, List, [], ◌∷◌, ◌++◌, Option, None, Some, arith}
use Rattle.std.proofs.lemmas.List.Elements.{All-push}
use Rattle.std.specs.List.{All}
use Rattle.std.specs.Prelude.{if◌then◌else◌}
use Rattle.lease_core.specs.Lines.{entries_after_hold, entries_after_sends, entries_after_standing, entries_after_timeout, entries_after_word, heir_named, is_news, news_count}
use Rattle.lease_core.specs.Runs.{owes_hold}
use Rattle.lease_core.specs.State.{State, last_lease, state_of}
use Rattle.lease_core.specs.Steps.{hold_entry, release_entry, request_entry, send_entry, step, timeout_entry, why_refused}
use Rattle.lease_core.specs.declared.entry.Entry.{Entry}
use Rattle.lease_core.specs.declared.entry.Entry.TheVariants.{Bind, Leave, Timeout}
use Rattle.lease_core.specs.declared.entry.Why.{Why}
use Rattle.lease_core.specs.declared.event.Event.TheVariants.{AdminSent, Arrives, Binds, Lapses, Plans, Resets}
use Rattle.lease_core.specs.declared.word.Standing.{Standing}
use Rattle.lease_core.specs.declared.word.Standing.TheVariants.{Active, Released, Revoked}
use Rattle.lease_core.specs.declared.word.Word.{Word}
use Rattle.session_book.specs.Acts.{after_act, after_acts, after_binding, after_dial, after_end, after_lapse, after_message, after_request, after_ticking}
use Rattle.session_book.specs.Book.{Book, Desk, with_event, with_machine, with_outbox}
use Rattle.session_book.specs.Words.{after_timeout, after_word}
use Rattle.session_core.specs.Ask.{after_ask, ask}
use Rattle.session_core.specs.Receive.{after_receive, receive}
use Rattle.session_core.specs.Tick.{after_tick, tick}
use Rattle.session_core.specs.declared.acts.Act.{Act}
use Rattle.session_core.specs.declared.acts.Act.TheVariants.{Accept, Resend, Reset, Send}

-- a Timeout stands there only where this timeout had passed from the first moment on, up to this one
abbrev pub IsTimely : ℕ → ℕ → ℕ → Entry → Type 0
IsTimely first timeout at (Timeout lease library count) = first + timeout ≤ at
IsTimely first timeout at other = Unit {0}

pub later_entry : (first timeout at later : ℕ) → at ≤ later → (e : Entry) → IsTimely first timeout at e → IsTimely first timeout later e
later_entry first timeout at later up_to (Timeout lease library count) was = omega arith
later_entry first timeout at later up_to other was = tt

module _ (first timeout at : ℕ) where
  -- so it is of each entry of a journal
  abbrev pub AreTimely : List Entry → Type 0
  AreTimely entries = All (IsTimely first timeout at) entries

  abbrev StayTimely : List Entry → List Entry → Type 0
  StayTimely entries more = AreTimely entries → AreTimely more

  one_more : (entries : List Entry) (e : Entry) → IsTimely first timeout at e → StayTimely entries (entries ++ e ∷ [])
  one_more entries e is all = All-push (IsTimely first timeout at) entries e all is

  either : (is : Bool) (entries more : List Entry) → StayTimely entries more → StayTimely entries (if is then more else entries)
  either true entries more stay all = stay all
  either false entries more stay all = all

  act_timely : (moment : ℕ) (act : Act) (d : Desk) → StayTimely d.book.entries (after_act moment act d).book.entries
  act_timely moment (Accept body) d = one_more d.book.entries (step d.book.leases (state_of d.book.entries) Arrives) tt
  act_timely moment (Send admin) d = one_more d.book.entries (step d.book.leases (state_of d.book.entries) AdminSent) tt
  act_timely moment (Resend begin last) d = one_more d.book.entries (step d.book.leases (state_of d.book.entries) (Plans begin last moment)) tt
  act_timely moment Reset d = one_more d.book.entries (step d.book.leases (state_of d.book.entries) Resets) tt

  acts_timely : (moment : ℕ) (acts : List Act) (d : Desk) → StayTimely d.book.entries (after_acts moment acts d).book.entries
  acts_timely moment [] d all = all
  acts_timely moment (act ∷ acts) d all = acts_timely moment acts (after_act moment act d) (act_timely moment act d all)

  pub message_timely : (moment : ℕ) (body : List ℕ) (d : Desk) → StayTimely d.book.entries (after_message moment body d).book.entries
  message_timely moment body d = acts_timely moment (receive d.book.machine body moment).acts (with_outbox (with_machine (after_receive d.book.machine body moment) d.book) d.outgoing)

  pub binding_timely : (moment c : ℕ) (body : List ℕ) (d : Desk) → StayTimely d.book.entries (after_binding moment c body d).book.entries
  binding_timely moment c body d all = message_timely moment body (with_outbox (with_event (Binds c) d.book) d.outgoing) (one_more d.book.entries (Bind c) tt all)

  pub dial_timely : (moment c : ℕ) (d : Desk) → StayTimely d.book.entries (after_dial moment c d).book.entries
  dial_timely moment c d all =
      acts_timely moment (ask d.book.machine).acts (with_outbox (with_machine (after_ask d.book.machine moment) (with_event (Binds c) d.book)) d.outgoing) (one_more d.book.entries (Bind c) tt all)

  pub ticking_timely : (moment : ℕ) (d : Desk) → StayTimely d.book.entries (after_ticking moment d).book.entries
  ticking_timely moment d = acts_timely moment (tick d.book.machine moment).acts (with_outbox (with_machine (after_tick d.book.machine moment) d.book) d.outgoing)

  pub end_timely : (c : ℕ) (book : Book) → StayTimely book.entries (after_end c book).entries
  end_timely c book = one_more book.entries (Leave c) tt

  pub lapse_timely : (book : Book) → StayTimely book.entries (after_lapse book).entries
  lapse_timely book = one_more book.entries (step book.leases (state_of book.entries) Lapses) tt

  asked_timely : (s : State) (library nr from : ℕ) (why : Option Why) → IsTimely first timeout at (request_entry s library nr from why)
  asked_timely s library nr from None = tt
  asked_timely s library nr from (Some why) = tt

  pub request_timely : (library nr from : ℕ) (book : Book) → StayTimely book.entries (after_request library nr from book).entries
  request_timely library nr from book =
      let s = state_of book.entries in
      let why = why_refused book.leases s library from in
      one_more book.entries (request_entry s library nr from why) (asked_timely s library nr from why)

  sends_timely : (n : ℕ) (entries : List Entry) → StayTimely entries (entries_after_sends n entries)
  sends_timely zero entries all = all
  sends_timely (suc n) entries all = one_more (entries_after_sends n entries) (send_entry (state_of (entries_after_sends n entries))) tt (sends_timely n entries all)

  standing_timely : (standing : Standing) (owner : ℕ) (entries : List Entry) → StayTimely entries (entries_after_standing standing owner entries)
  standing_timely Released owner entries all = one_more entries (release_entry (state_of entries) (heir_named owner (last_lease (state_of entries).leases).library)) tt all
  standing_timely Active owner entries all = all
  standing_timely Revoked owner entries all = all

  word_timely : (entries : List Entry) (w : Word) → StayTimely entries (entries_after_word entries w)
  unfolding entries_after_word
  word_timely entries w = either (is_news entries w) entries (entries_after_standing w.standing w.owner (entries_after_sends (news_count entries w) entries))
      (λ all. standing_timely w.standing w.owner (entries_after_sends (news_count entries w) entries) (sends_timely (news_count entries w) entries all))

  hold_timely : (until : ℕ) (entries : List Entry) → StayTimely entries (entries_after_hold until entries)
  hold_timely until entries = either (owes_hold (state_of entries).latest) entries (entries ++ hold_entry (state_of entries) until ∷ []) (one_more entries (hold_entry (state_of entries) until) tt)

  -- what a word shows is sends, a release and its hold
  pub word_shown_timely : (moment until : ℕ) (w : Word) (bodies : List (List ℕ)) (d : Desk) → StayTimely d.book.entries (after_word moment until w bodies d).book.entries
  word_shown_timely moment until w bodies d all = hold_timely until (entries_after_word d.book.entries w) (word_timely d.book.entries w all)

  -- a session is taken back once the timeout has passed
  ending_timely : first + timeout ≤ at → (standing : Standing) (entries : List Entry) → StayTimely entries (entries_after_timeout standing entries)
  ending_timely passed Active entries all = one_more entries (timeout_entry (state_of entries)) passed all
  ending_timely passed Released entries all = all
  ending_timely passed Revoked entries all = all

  pub timeout_timely : first + timeout ≤ at → (moment until : ℕ) (old : Word) (bodies : List (List ℕ)) (d : Desk) → StayTimely d.book.entries (after_timeout moment until old bodies d).book.entries
  timeout_timely passed moment until old bodies d all =
      ending_timely passed old.standing (entries_after_hold until (entries_after_word d.book.entries old))
      (hold_timely until (entries_after_word d.book.entries old) (word_timely d.book.entries old all))
