-- What waits can still be written behind each event.
use Rattle.std.proofs.Common.{◌≡◌, ℕ, suc, ◌≤◌, ◌+◌, Bool, true, false, if◌then◌else◌, List, [], ◌∷◌, ◌++◌, length, Option, None, Some, ◌⊎◌, inl, inr, refl, sym, ap, subst, ◌∙◌, arith}
use Rattle.std.specs.List.{All}
use Rattle.std.proofs.lemmas.List.{length_push}
use Rattle.std.proofs.lemmas.List.Elements.{All-append}
use Rattle.connection_core.specs.Items.{AreItemsOf}
use Rattle.connection_core.specs.Outgoing.{Outgoing, with_items}
use Rattle.lease_core.specs.State.{state_of}
use Rattle.lease_core.specs.declared.entry.Entry.{Entry}
use Rattle.lease_core.specs.declared.event.Event.TheVariants.{Binds}
use Rattle.lease_core.specs.declared.word.Word.{Word}
use Rattle.message_log.specs.Growth.{GoesOn}
use Rattle.message_log.specs.Series.{series_at, with_entry}
use Rattle.message_log.specs.declared.entry.OutEntry.{OutEntry}
use Rattle.resend_plan.specs.Wire.{NamesEntry}
use Rattle.resend_plan.specs.declared.item.Names2.{Names2}
use Rattle.resend_plan.specs.declared.item.WireItem.{WireItem}
use Rattle.resend_plan.specs.declared.item.WireItem.TheVariants.{New}
use Rattle.session_core.specs.Ask.{after_ask, after_logon, ask}
use Rattle.session_core.specs.Laws.{SamenessLaws}
use Rattle.session_core.specs.Receive.{Outcome, after_outcome, after_receive, outcome, receive}
use Rattle.session_core.specs.State.{State}
use Rattle.session_core.specs.Tick.{after_tick, tick}
use Rattle.session_core.specs.declared.acts.Act.{Act}
use Rattle.session_core.specs.declared.acts.Act.TheVariants.{Accept, Resend, Reset, Send}
use Rattle.session_book.specs.Acts.{IsBegun, admin_entry, after_act, after_acts, after_binding, after_dial, after_end, after_lapse, after_message, after_request, after_ticking, next_item, plan_items}
use Rattle.session_book.specs.Book.{Book, Desk, present_series, with_event, with_machine, with_outbox}
use Rattle.session_book.specs.Kept.{AreNamesOf, IsBook}
use Rattle.session_book.specs.Waiting.{CanBeWritten, StaysWritable, written_names}
use Rattle.session_book.specs.Words.{after_timeout, after_word, new_items, send_items, sent_entry, where_bound, with_news, with_sends}
use Rattle.session_book.specs.Grounds.{Grounds}
use Rattle.session_book.proofs.Books.{names_sent, series_pushed}
use Rattle.session_book.proofs.LeaseEntries.{sends_go_on}
use Rattle.session_book.proofs.News.{begun_sent, present}
use Rattle.session_book.proofs.Telling.{none_named, one_named, pushed_named, with_both, with_nothing}
use Rattle.session_book.proofs.TextRuns.{ItemsGrow, ItemsQueue}

-- a message keeps the names of a session
names_if : (b : Bool) (old new : State) → new.names ≡ old.names → (if b then new else old).names ≡ old.names
names_if true old new same = same
names_if false old new same = refl

outcome_names : (machine : State) (o : Outcome) (at : ℕ) → (after_outcome machine o at).names ≡ machine.names
outcome_names machine o at = names_if o.heard machine _ refl

received_names : (machine : State) (body : List ℕ) (at : ℕ) → (after_receive machine body at).names ≡ machine.names
received_names machine body at = outcome_names machine (outcome machine body) at

logon_names : (machine : State) (at : ℕ) (dials : Option ℕ) → (after_logon machine at dials).names ≡ machine.names
logon_names machine at None = refl
logon_names machine at (Some heart) = refl

-- the number of the next entry
abbrev next_in : List (List OutEntry) → ℕ
next_in log = length (series_at log (length log)) + 1

same_length : (log : List (List OutEntry)) (e : OutEntry) → 1 ≤ length log → length (with_entry log e) ≡ length log
same_length [] e some = absurd (omega arith)
same_length (entries ∷ []) e some = refl
same_length (entries ∷ (next ∷ later)) e some = ap (λ n. suc n) (same_length (next ∷ later) e (omega arith))

next_behind : (log : List (List OutEntry)) (e : OutEntry) → 1 ≤ length log → next_in (with_entry log e) ≡ next_in log + 1
next_behind log e some =
    ap (λ k. length (series_at (with_entry log e) k) + 1) (same_length log e some)
    ∙ ap (λ es. length es + 1) (present log e some)
    ∙ ap (λ n. n + 1) (length_push (series_at log (length log)) e)

-- further items were queued, which name entries of a log that went on
record Queues (old new : Desk) : Type 0 where
  names : new.book.machine.names ≡ old.book.machine.names
  some : 1 ≤ length new.book.outbound
  goes_on : GoesOn old.book.outbound new.book.outbound
  further : List WireItem
  named : All (NamesEntry new.book.outbound) further
  queued : new.outgoing ≡ with_items further old.outgoing

module _ (g : Grounds) where
  queues_nothing : (desk : Desk) → 1 ≤ length desk.book.outbound → Queues desk desk
  queues_nothing desk some = record {
    names = refl;
    some = some;
    goes_on = g.itself desk.book.outbound;
    further = [];
    named = none_named desk.book.outbound;
    queued = sym (with_nothing desk.outgoing);
  }

  queues_then : (first second third : Desk) → Queues first second → Queues second third → Queues first third
  queues_then first second third a b = record {
    names = b.names ∙ a.names;
    some = b.some;
    goes_on = g.further first.book.outbound second.book.outbound third.book.outbound a.goes_on b.goes_on;
    further = a.further ++ b.further;
    named = All-append (NamesEntry third.book.outbound) a.further b.further (g.names second.book.outbound third.book.outbound a.further b.goes_on a.named) b.named;
    queued = b.queued ∙ ap (λ out. with_items b.further out) a.queued ∙ with_both a.further b.further first.outgoing;
  }

  act_queues : (at : ℕ) (act : Act) (book : Book) (out : Outgoing) → 1 ≤ length book.outbound → Queues (with_outbox book out) (after_act at act (with_outbox book out))
  act_queues at (Accept body) book out some = record {
    names = refl;
    some = some;
    goes_on = g.itself book.outbound;
    further = [];
    named = none_named book.outbound;
    queued = sym (with_nothing out);
  }
  act_queues at (Send admin) book out some =
      let log = book.outbound in
      let entry = admin_entry at admin book in record {
        names = refl;
        some = series_pushed log entry;
        goes_on = g.entry log entry;
        further = next_item book;
        named = one_named (with_entry log entry) (New (length log) (next_in log)) (pushed_named log entry some);
        queued = refl;
      }
  act_queues at (Resend begin last) book out some = record {
    names = names_sent at (plan_items at begin last book) book.machine;
    some = some;
    goes_on = g.itself book.outbound;
    further = plan_items at begin last book;
    named = g.plans book.outbound (present_series book) begin last at;
    queued = refl;
  }
  act_queues at Reset book out some = record {
    names = refl;
    some = (let longer = length_push book.outbound [] in omega arith);
    goes_on = g.series book.outbound;
    further = [];
    named = none_named (book.outbound ++ [] ∷ []);
    queued = sym (with_nothing out);
  }

  acts_queue : (at : ℕ) (acts : List Act) (desk : Desk) → 1 ≤ length desk.book.outbound → Queues desk (after_acts at acts desk)
  acts_queue at [] desk some = queues_nothing desk some
  acts_queue at (act ∷ acts) desk some =
      let next = after_act at act desk in
      let one = act_queues at act desk.book desk.outgoing some in
      queues_then desk next (after_acts at acts next) one (acts_queue at acts next one.some)

  -- acts on a session whose machine went on, also behind the Bind of a connection
  machine_queues : (at : ℕ) (acts : List Act) (machine : State) (entries : List Entry) (desk : Desk) → machine.names ≡ desk.book.machine.names → 1 ≤ length desk.book.outbound
      → Queues desk (after_acts at acts (with_outbox (record (desk.book) { machine = machine; entries = entries }) desk.outgoing))
  machine_queues at acts machine entries desk names some =
      let start = with_outbox (record (desk.book) { machine = machine; entries = entries }) desk.outgoing in
      let acted = acts_queue at acts start some in
      record { names = acted.names ∙ names; some = acted.some; goes_on = acted.goes_on; further = acted.further; named = acted.named; queued = acted.queued }

  sends_named : (at : ℕ) (bodies : List (List ℕ)) (log : List (List OutEntry)) → 1 ≤ length log
      → All (NamesEntry (with_sends at bodies log)) (new_items (length log) (next_in log) (length bodies))
  sends_named at [] log some = none_named log
  sends_named at (body ∷ bodies) log some =
      let e = sent_entry at body in
      let next = with_entry log e in
      let final = with_sends at bodies next in
      let item = New (length log) (next_in log) in
      All-append (NamesEntry final) (item ∷ []) (new_items (length log) (next_in log + 1) (length bodies))
      (g.names next final (item ∷ []) (sends_go_on g at bodies next) (one_named next item (pushed_named log e some)))
      (subst (λ k. All (NamesEntry final) (new_items k (next_in log + 1) (length bodies))) (same_length log e some)
      (subst (λ n. All (NamesEntry final) (new_items (length next) n (length bodies))) (next_behind log e some) (sends_named at bodies next (series_pushed log e))))

  bound_named : (log : List (List OutEntry)) (bound : Option ℕ) (items : List WireItem) → All (NamesEntry log) items → All (NamesEntry log) (where_bound bound items)
  bound_named log None items named = none_named log
  bound_named log (Some c) items named = named

  -- what a word shows
  news_queue : (at : ℕ) (entries : List Entry) (bodies : List (List ℕ)) (desk : Desk) → 1 ≤ length desk.book.outbound → Queues desk (with_news at entries bodies desk)
  news_queue at entries bodies desk some =
      let log = desk.book.outbound in record {
        names = names_sent at (send_items bodies desk.book) desk.book.machine;
        some = begun_sent at bodies log some;
        goes_on = sends_go_on g at bodies log;
        further = send_items bodies desk.book;
        named = bound_named (with_sends at bodies log) (state_of desk.book.entries).bound (new_items (length log) (next_in log) (length bodies)) (sends_named at bodies log some);
        queued = refl;
      }

  -- nothing is queued, and the log stays
  quiet : (desk : Desk) (new : Book) → new.machine.names ≡ desk.book.machine.names → new.outbound ≡ desk.book.outbound → 1 ≤ length desk.book.outbound → Queues desk (with_outbox new desk.outgoing)
  quiet desk new names same some = record {
    names = names;
    some = subst (λ (log : List (List OutEntry)). 1 ≤ length log) (sym same) some;
    goes_on = subst (λ log. GoesOn desk.book.outbound log) (sym same) (g.itself desk.book.outbound);
    further = [];
    named = none_named new.outbound;
    queued = sym (with_nothing desk.outgoing);
  }

-- what waits is of the log as it is then
module _ (g : Grounds) (grow : ItemsGrow) (queue : ItemsQueue) where
  writable : (old new : Desk) → Queues old new → StaysWritable old new
  writable old new q = record {
    names = q.names;
    further = q.further;
    here = λ names items are.
        subst (λ out. AreItemsOf names new.book.outbound (items ++ q.further) out) (sym q.queued)
        (queue names new.book.outbound items q.further old.outgoing (grow names old.book.outbound new.book.outbound items old.outgoing are q.goes_on) q.named);
    there = λ names items out are. grow names old.book.outbound new.book.outbound items out are q.goes_on;
  }

  begun_waits : (at : ℕ) (acts : List Act) (machine : State) (entries : List Entry) (desk new : Desk) → machine.names ≡ desk.book.machine.names → IsBook desk.book
      → (new ≡ desk) ⊎ IsBegun at acts (with_outbox (record (desk.book) { machine = machine; entries = entries }) desk.outgoing) new → StaysWritable desk new
  begun_waits at acts machine entries desk new names is (inl same) = subst (λ (d : Desk). StaysWritable desk d) (sym same) (writable desk desk (queues_nothing g desk is.begun))
  begun_waits at acts machine entries desk new names is (inr begun) =
      subst (λ (d : Desk). StaysWritable desk d) (sym begun.new_is) (writable desk _ (machine_queues g at begun.done machine entries desk names is.begun))

  pub message_waits : (at : ℕ) (body : List ℕ) (desk : Desk) → IsBook desk.book → StaysWritable desk (after_message at body desk)
  message_waits at body desk is =
      let machine = desk.book.machine in
      writable desk _ (machine_queues g at (receive machine body at).acts (after_receive machine body at) desk.book.entries desk (received_names machine body at) is.begun)

  pub binding_waits : (c at : ℕ) (body : List ℕ) (desk : Desk) → IsBook desk.book → StaysWritable desk (after_binding at c body desk)
  binding_waits c at body desk is =
      let machine = desk.book.machine in
      writable desk _ (machine_queues g at (receive machine body at).acts (after_receive machine body at) (with_event (Binds c) desk.book).entries desk (received_names machine body at) is.begun)

  pub dial_waits : (c at : ℕ) (desk : Desk) → IsBook desk.book → StaysWritable desk (after_dial at c desk)
  dial_waits c at desk is =
      let machine = desk.book.machine in
      writable desk _ (machine_queues g at (ask machine).acts (after_ask machine at) (with_event (Binds c) desk.book).entries desk (logon_names machine at machine.dials) is.begun)

  pub tick_waits : SamenessLaws → (at : ℕ) (desk : Desk) → IsBook desk.book → StaysWritable desk (after_ticking at desk)
  tick_waits same at desk is =
      let machine = desk.book.machine in
      writable desk _ (machine_queues g at (tick machine at).acts (after_tick machine at) desk.book.entries desk (sym (same.tick machine at).names) is.begun)

  pub word_waits : (at until : ℕ) (w : Word) (bodies : List (List ℕ)) (desk : Desk) → IsBook desk.book → StaysWritable desk (after_word at until w bodies desk)
  word_waits at until w bodies desk is = writable desk _ (news_queue g at _ bodies desk is.begun)

  pub timeout_waits : (at until : ℕ) (old : Word) (bodies : List (List ℕ)) (desk : Desk) → IsBook desk.book → StaysWritable desk (after_timeout at until old bodies desk)
  timeout_waits at until old bodies desk is = writable desk _ (news_queue g at _ bodies desk is.begun)

  pub leave_waits : (c : ℕ) (desk : Desk) → IsBook desk.book → StaysWritable desk (with_outbox (after_end c desk.book) desk.outgoing)
  leave_waits c desk is = writable desk _ (quiet g desk (after_end c desk.book) refl refl is.begun)

  pub request_waits : (library nr from : ℕ) (desk : Desk) → IsBook desk.book → StaysWritable desk (with_outbox (after_request library nr from desk.book) desk.outgoing)
  request_waits library nr from desk is = writable desk _ (quiet g desk (after_request library nr from desk.book) refl refl is.begun)

  pub lapse_waits : (desk : Desk) → IsBook desk.book → StaysWritable desk (with_outbox (after_lapse desk.book) desk.outgoing)
  lapse_waits desk is = writable desk _ (quiet g desk (after_lapse desk.book) refl refl is.begun)

  pub message_begun : (at : ℕ) (body : List ℕ) (desk new : Desk) → IsBook desk.book
      → (new ≡ desk) ⊎ IsBegun at (receive desk.book.machine body at).acts (with_outbox (with_machine (after_receive desk.book.machine body at) desk.book) desk.outgoing) new
      → StaysWritable desk new
  message_begun at body desk new is begun =
      let machine = desk.book.machine in
      begun_waits at (receive machine body at).acts (after_receive machine body at) desk.book.entries desk new (received_names machine body at) is begun

  pub binding_begun : (c at : ℕ) (body : List ℕ) (desk new : Desk) → IsBook desk.book
      → (new ≡ desk) ⊎ IsBegun at (receive desk.book.machine body at).acts (with_outbox (with_machine (after_receive desk.book.machine body at) (with_event (Binds c) desk.book)) desk.outgoing) new
      → StaysWritable desk new
  binding_begun c at body desk new is begun =
      let machine = desk.book.machine in
      begun_waits at (receive machine body at).acts (after_receive machine body at) (with_event (Binds c) desk.book).entries desk new (received_names machine body at) is begun

  pub dial_begun : (c at : ℕ) (desk new : Desk) → IsBook desk.book
      → (new ≡ desk) ⊎ IsBegun at (ask desk.book.machine).acts (with_outbox (with_machine (after_ask desk.book.machine at) (with_event (Binds c) desk.book)) desk.outgoing) new
      → StaysWritable desk new
  dial_begun c at desk new is begun =
      let machine = desk.book.machine in
      begun_waits at (ask machine).acts (after_ask machine at) (with_event (Binds c) desk.book).entries desk new (logon_names machine at machine.dials) is begun

  pub tick_begun : SamenessLaws → (at : ℕ) (desk new : Desk) → IsBook desk.book
      → (new ≡ desk) ⊎ IsBegun at (tick desk.book.machine at).acts (with_outbox (with_machine (after_tick desk.book.machine at) desk.book) desk.outgoing) new
      → StaysWritable desk new
  tick_begun same at desk new is begun =
      let machine = desk.book.machine in
      begun_waits at (tick machine at).acts (after_tick machine at) desk.book.entries desk new (sym (same.tick machine at).names) is begun

-- what could be written can be written
pub written_here : (old new : Desk) → StaysWritable old new → CanBeWritten old.book old.outgoing → CanBeWritten new.book new.outgoing
written_here old new stays known = record {
  items = known.items ++ stays.further;
  are = subst (λ names. AreItemsOf (written_names names) new.book.outbound (known.items ++ stays.further) new.outgoing) (sym stays.names)
      (stays.here (written_names old.book.machine.names) known.items known.are);
}

pub written_there : (old new : Desk) (out : Outgoing) → StaysWritable old new → CanBeWritten old.book out → CanBeWritten new.book out
written_there old new out stays known = record {
  items = known.items;
  are = subst (λ names. AreItemsOf (written_names names) new.book.outbound known.items out) (sym stays.names)
      (stays.there (written_names old.book.machine.names) known.items out known.are);
}

same_names : (book : Book) (names : Names2) → AreNamesOf book.machine.names names → names ≡ written_names book.machine.names
same_names book names are =
    ap (λ us. record { us = us; them = names.them }) are.us ∙ ap (λ them. record { us = book.machine.names.us; them = them }) are.them

-- what is done with what waits, with the names and the log that the session lends
pub written_kept : (book : Book) (names : Names2) (log : List (List OutEntry)) (out later : Outgoing) → AreNamesOf book.machine.names names → log ≡ book.outbound
    → ((items : List WireItem) → AreItemsOf names log items out → AreItemsOf names log items later) → CanBeWritten book out → CanBeWritten book later
written_kept book names log out later are lent keeps known =
    let same = same_names book names are in
    let before = subst (λ l. AreItemsOf names l known.items out) (sym lent) (subst (λ n. AreItemsOf n book.outbound known.items out) (sym same) known.are) in record {
      items = known.items;
      are = subst (λ n. AreItemsOf n book.outbound known.items later) same (subst (λ l. AreItemsOf names l known.items later) lent (keeps known.items before));
    }
