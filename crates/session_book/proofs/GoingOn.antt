-- A session goes on behind each event.
use Rattle.std.proofs.Common.{◌≡◌, ℕ, List, [], ◌∷◌, ◌++◌, Option, None, Some, inl, inr, Bool, true, false, length, take, refl, ap, subst, sym, ◌∙◌, append_assoc, take_all, arith}
use Rattle.std.specs.List.{All}
use Rattle.std.proofs.lemmas.Bool.{false≢true}
use Rattle.std.proofs.lemmas.List.{append-nil, take-append-le}
use Rattle.std.proofs.lemmas.List.Elements.{All-cons, All-head, All-nil, All-tail}
use Rattle.connection_core.specs.Outgoing.{Outgoing}
use Rattle.lease_core.specs.declared.entry.Entry.{Entry}
use Rattle.lease_core.specs.declared.event.Event.TheVariants.{Binds}
use Rattle.lease_core.specs.declared.word.Word.{Word}
use Rattle.message_log.specs.Growth.{GoesOn}
use Rattle.session_core.specs.Ask.{ask, after_ask, logon_effects}
use Rattle.session_core.specs.State.{State, heart_in}
use Rattle.session_core.specs.Laws.{ActsOfTicks, AsksOneAct}
use Rattle.session_core.specs.Tick.{after_tick, tick}
use Rattle.session_core.specs.declared.acts.Act.{Act}
use Rattle.session_core.specs.declared.acts.Act.TheVariants.{Accept, Resend, Reset, Send}
use Rattle.session_core.specs.declared.acts.Admin.TheVariants.{Heartbeat, TestRequest}
use Rattle.session_book.specs.Acts.{IsBegun, admin_entry, after_act, after_acts, after_dial, after_end, after_lapse, after_request, after_ticking}
use Rattle.session_book.specs.Book.{Book, Desk, with_event, with_machine, with_outbox}
use Rattle.session_book.specs.Rereading.{WentOn}
use Rattle.session_book.specs.Words.{after_timeout, after_word, with_news}
use Rattle.session_book.specs.Grounds.{Grounds}
use Rattle.session_book.proofs.LeaseEntries.{AddsLeases, adds_shown, adds_timed, sends_go_on}

-- what was accepted stands first
pub inbound_first : (before book : Book) → WentOn before book → take (length before.inbound) book.inbound ≡ before.inbound
inbound_first before book on =
    ap (λ (bodies : List (List ℕ)). take (length before.inbound) bodies) on.inbound
    ∙ take-append-le (length before.inbound) before.inbound on.more (omega arith)
    ∙ take_all (length before.inbound) before.inbound (omega arith)

abbrev is_accept : Act → Bool
is_accept (Accept body) = true
is_accept (Send admin) = false
is_accept (Resend begin last) = false
is_accept Reset = false

-- an act that accepts nothing
abbrev NoAccept : Act → Type 0
NoAccept act = is_accept act ≡ false

act_inbound : (at : ℕ) (act : Act) (book : Book) (out : Outgoing) → NoAccept act → (after_act at act (with_outbox book out)).book.inbound ≡ book.inbound
act_inbound at (Accept body) book out none = absurd (false≢true (sym none))
act_inbound at (Send admin) book out none = refl
act_inbound at (Resend begin last) book out none = refl
act_inbound at Reset book out none = refl

acts_inbound : (at : ℕ) (acts : List Act) (desk : Desk) → All NoAccept acts → (after_acts at acts desk).book.inbound ≡ desk.book.inbound
acts_inbound at [] desk none = refl
acts_inbound at (act ∷ acts) desk none =
    acts_inbound at acts (after_act at act desk) (All-tail NoAccept act acts none) ∙ act_inbound at act desk.book desk.outgoing (All-head NoAccept act acts none)

one_accepts : (act : Act) (acts : List Act) → NoAccept act → acts ≡ act ∷ [] → All NoAccept acts
one_accepts act acts none are = subst (All NoAccept) (sym are) (All-cons NoAccept act [] none (All-nil NoAccept))

tick_accepts : (machine : State) (heart at : ℕ) (acts : List Act) → AsksOneAct machine heart at acts → All NoAccept acts
tick_accepts machine heart at acts (inl are) = subst (All NoAccept) (sym are) (All-nil NoAccept)
tick_accepts machine heart at acts (inr (inl are)) = one_accepts (Send TestRequest) acts refl are
tick_accepts machine heart at acts (inr (inr are)) = one_accepts (Send (Heartbeat None)) acts refl are.0

ask_accepts : (dials : Option ℕ) → All NoAccept (logon_effects dials).acts
ask_accepts None = All-nil NoAccept
ask_accepts (Some heart) = All-cons NoAccept _ [] refl (All-nil NoAccept)

first_acts : (first second : List Act) → All NoAccept (first ++ second) → All NoAccept first
first_acts [] second none = All-nil NoAccept
first_acts (act ∷ first) second none = All-cons NoAccept act first (All-head NoAccept act (first ++ second) none) (first_acts first second (All-tail NoAccept act (first ++ second) none))

begun_inbound : (at : ℕ) (acts : List Act) (start new : Desk) → All NoAccept acts → IsBegun at acts start new → new.book.inbound ≡ start.book.inbound
begun_inbound at acts start new none begun =
    ap (λ (d : Desk). d.book.inbound) begun.new_is ∙ acts_inbound at begun.done start (first_acts begun.done begun.left (subst (All NoAccept) begun.acts_are none))

pub tick_inbound : ActsOfTicks → (at : ℕ) (desk : Desk) → (after_ticking at desk).book.inbound ≡ desk.book.inbound
tick_inbound ticks at desk =
    let machine = desk.book.machine in
    acts_inbound at (tick machine at).acts (with_outbox (with_machine (after_tick machine at) desk.book) desk.outgoing) (tick_accepts machine (heart_in machine.phase) at (tick machine at).acts (ticks.one machine at))

pub dial_inbound : (c at : ℕ) (desk : Desk) → (after_dial at c desk).book.inbound ≡ desk.book.inbound
dial_inbound c at desk =
    let machine = desk.book.machine in
    acts_inbound at (ask machine).acts (with_outbox (with_machine (after_ask machine at) (with_event (Binds c) desk.book)) desk.outgoing) (ask_accepts machine.dials)

pub tick_begun : ActsOfTicks → (at : ℕ) (desk new : Desk) → IsBegun at (tick desk.book.machine at).acts (with_outbox (with_machine (after_tick desk.book.machine at) desk.book) desk.outgoing) new
    → new.book.inbound ≡ desk.book.inbound
tick_begun ticks at desk new begun =
    let machine = desk.book.machine in
    begun_inbound at (tick machine at).acts (with_outbox (with_machine (after_tick machine at) desk.book) desk.outgoing) new (tick_accepts machine (heart_in machine.phase) at (tick machine at).acts (ticks.one machine at)) begun

pub dial_begun : (c at : ℕ) (desk new : Desk)
    → IsBegun at (ask desk.book.machine).acts (with_outbox (with_machine (after_ask desk.book.machine at) (with_event (Binds c) desk.book)) desk.outgoing) new
    → new.book.inbound ≡ desk.book.inbound
dial_begun c at desk new begun =
    let machine = desk.book.machine in
    begun_inbound at (ask machine).acts (with_outbox (with_machine (after_ask machine at) (with_event (Binds c) desk.book)) desk.outgoing) new (ask_accepts machine.dials) begun

module _ (g : Grounds) where
  one_on : (book new : Book) (e : Entry) (more : List (List ℕ)) → new.leases ≡ book.leases → new.entries ≡ book.entries ++ e ∷ [] → new.inbound ≡ book.inbound ++ more
      → GoesOn book.outbound new.outbound → WentOn book new
  one_on book new e more leases entries inbound outbound = record { leases = leases; added = e ∷ []; entries_are = entries; more = more; inbound = inbound; outbound = outbound }

  -- nothing happened
  pub went_nowhere : (book : Book) → WentOn book book
  went_nowhere book = record {
    leases = refl;
    added = [];
    entries_are = sym (append-nil book.entries);
    more = [];
    inbound = sym (append-nil book.inbound);
    outbound = g.itself book.outbound;
  }

  -- one event behind another
  pub went_further : (first second third : Book) → WentOn first second → WentOn second third → WentOn first third
  went_further first second third a b = record {
    leases = b.leases ∙ a.leases;
    added = a.added ++ b.added;
    entries_are = b.entries_are ∙ ap (λ es. es ++ b.added) a.entries_are ∙ append_assoc first.entries a.added b.added;
    more = a.more ++ b.more;
    inbound = b.inbound ∙ ap (λ bodies. bodies ++ b.more) a.inbound ∙ append_assoc first.inbound a.more b.more;
    outbound = g.further first.outbound second.outbound third.outbound a.outbound b.outbound;
  }

  act_on : (at : ℕ) (act : Act) (book : Book) (out : Outgoing) → WentOn book (after_act at act (with_outbox book out)).book
  act_on at (Accept body) book out = one_on book _ _ (body ∷ []) refl refl refl (g.itself book.outbound)
  act_on at (Send admin) book out = one_on book _ _ [] refl refl (sym (append-nil book.inbound)) (g.entry book.outbound (admin_entry at admin book))
  act_on at (Resend begin last) book out = one_on book _ _ [] refl refl (sym (append-nil book.inbound)) (g.itself book.outbound)
  act_on at Reset book out = one_on book _ _ [] refl refl (sym (append-nil book.inbound)) (g.series book.outbound)

  acts_on : (at : ℕ) (acts : List Act) (desk : Desk) → WentOn desk.book (after_acts at acts desk).book
  acts_on at [] desk = went_nowhere desk.book
  acts_on at (act ∷ acts) desk =
      let next = after_act at act desk in
      went_further desk.book next.book (after_acts at acts next).book (act_on at act desk.book desk.outgoing) (acts_on at acts next)

  -- acts on a session whose machine went on
  pub machine_on : (at : ℕ) (acts : List Act) (machine : State) (desk : Desk) → WentOn desk.book (after_acts at acts (with_outbox (with_machine machine desk.book) desk.outgoing)).book
  machine_on at acts machine desk =
      let on = acts_on at acts (with_outbox (with_machine machine desk.book) desk.outgoing) in
      record { leases = on.leases; added = on.added; entries_are = on.entries_are; more = on.more; inbound = on.inbound; outbound = on.outbound }

  -- and the same behind the Bind of a connection
  pub open_on : (c at : ℕ) (acts : List Act) (machine : State) (desk : Desk)
      → WentOn desk.book (after_acts at acts (with_outbox (with_machine machine (with_event (Binds c) desk.book)) desk.outgoing)).book
  open_on c at acts machine desk =
      let bound = with_machine machine (with_event (Binds c) desk.book) in
      went_further desk.book bound _ (one_on desk.book bound _ [] refl refl (sym (append-nil desk.book.inbound)) (g.itself desk.book.outbound))
      (acts_on at acts (with_outbox bound desk.outgoing))

  pub begun_on : (at : ℕ) (acts : List Act) (start new : Desk) → IsBegun at acts start new → WentOn start.book new.book
  begun_on at acts start new begun = subst (λ (d : Desk). WentOn start.book d.book) (sym begun.new_is) (acts_on at begun.done start)

  pub opening_on : (c at : ℕ) (acts : List Act) (machine : State) (desk new : Desk)
      → IsBegun at acts (with_outbox (with_machine machine (with_event (Binds c) desk.book)) desk.outgoing) new → WentOn desk.book new.book
  opening_on c at acts machine desk new begun = subst (λ (d : Desk). WentOn desk.book d.book) (sym begun.new_is) (open_on c at begun.done machine desk)

  -- entries that leave the logs as they are
  entry_on : (book new : Book) (e : Entry) → new.leases ≡ book.leases → new.entries ≡ book.entries ++ e ∷ [] → new.inbound ≡ book.inbound → new.outbound ≡ book.outbound → WentOn book new
  entry_on book new e leases entries inbound outbound =
      one_on book new e [] leases entries (inbound ∙ sym (append-nil book.inbound)) (subst (λ log. GoesOn book.outbound log) (sym outbound) (g.itself book.outbound))

  pub leave_on : (c : ℕ) (book : Book) → WentOn book (after_end c book)
  leave_on c book = entry_on book _ _ refl refl refl refl

  pub request_on : (library nr from : ℕ) (book : Book) → WentOn book (after_request library nr from book)
  request_on library nr from book = entry_on book _ _ refl refl refl refl

  pub lapse_on : (book : Book) → WentOn book (after_lapse book)
  lapse_on book = entry_on book _ _ refl refl refl refl

  news_on : (at : ℕ) (entries : List Entry) (bodies : List (List ℕ)) (desk : Desk) → AddsLeases desk.book.entries entries → WentOn desk.book (with_news at entries bodies desk).book
  news_on at entries bodies desk adds = record {
    leases = refl;
    added = adds.added;
    entries_are = adds.are;
    more = [];
    inbound = sym (append-nil desk.book.inbound);
    outbound = sends_go_on g at bodies desk.book.outbound;
  }

  pub word_on : (at until : ℕ) (w : Word) (bodies : List (List ℕ)) (desk : Desk) → WentOn desk.book (after_word at until w bodies desk).book
  word_on at until w bodies desk = news_on at _ bodies desk (adds_shown until desk.book.entries w)

  pub timeout_on : (at until : ℕ) (old : Word) (bodies : List (List ℕ)) (desk : Desk) → WentOn desk.book (after_timeout at until old bodies desk).book
  timeout_on at until old bodies desk = news_on at _ bodies desk (adds_timed old.standing until desk.book.entries old)
