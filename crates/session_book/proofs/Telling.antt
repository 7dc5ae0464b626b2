-- What comes to wait is what the journal tells.
use Rattle.std.proofs.Common.{◌≡◌, ℕ, zero, suc, ◌≤◌, ◌+◌, ◌-◌, map, Bool, if◌then◌else◌, true, false, List, [], ◌∷◌, ◌++◌, length, take, drop, fold, Option, Some, is_some, refl, sym, ap, subst, ◌∙◌, append_assoc, arith, length-take}
use Rattle.std.specs.Prelude.{◌==◌, ◌&&◌, nat_le, nat_lt}
use Rattle.std.specs.List.{All}
use Rattle.std.proofs.lemmas.Bool.{cond-true, eq-eqb}
use Rattle.std.proofs.lemmas.List.Elements.{All-append, All-cons, All-nil}
use Rattle.std.proofs.lemmas.List.{append-nil, length-map, take-append-drop, take-append-le, take_all, length_push, map-append}
use Rattle.connection_core.specs.Outgoing.{Outgoing, with_items}
use Rattle.lease_core.specs.Laws.{EntriesDecideOver}
use Rattle.lease_core.specs.State.{State as Totals, last_lease, last_or, no_lease, one_more, owner_in, owner_of, sent_in_series, with_last, series_of, state_after, state_of}
use Rattle.lease_core.specs.declared.entry.Entry.{Entry}
use Rattle.lease_core.specs.declared.entry.Entry.TheVariants.{Arrive, Admin, Bind, Plan, Leave, Reset, Granted, Refused, Send, Release, Timeout, Hold, Lapse}
use Rattle.message_log.specs.Growth.{GoesOn}
use Rattle.message_log.specs.Series.{series_at, with_entry}
use Rattle.message_log.specs.declared.entry.OutEntry.{OutEntry}
use Rattle.resend_plan.specs.Plan.{plan_of}
use Rattle.resend_plan.specs.Wire.{NamesEntry}
use Rattle.resend_plan.specs.declared.item.WireItem.{WireItem}
use Rattle.resend_plan.specs.declared.item.WireItem.TheVariants.{New}
use Rattle.session_core.specs.Receive.{receive, after_receive}
use Rattle.session_core.specs.Ask.{ask, after_ask}
use Rattle.session_core.specs.State.{State}
use Rattle.session_core.specs.Tick.{tick, after_tick}
use Rattle.lease_core.specs.declared.event.Event.TheVariants.{Binds}
use Rattle.session_core.specs.declared.acts.Act.{Act}
use Rattle.session_core.specs.declared.acts.Act.TheVariants.{Accept, Send as SendAct, Resend, Reset as ResetAct}
use Rattle.session_book.specs.Acts.{admin_entry, after_accept, after_act, after_acts, after_message, after_binding, after_dial, after_end, after_lapse, after_request, after_resend, after_reset, after_send, after_ticking, next_item, plan_items}
use Rattle.session_book.specs.Book.{Book, Desk, next_number, with_event, with_machine, with_outbox}
use Rattle.session_book.specs.Kept.{IsBook}
use Rattle.session_book.specs.Items.{HasWhatWasSent, QueuesWhatIsTold, is_connection, items_for, items_from, items_of_entry}
use Rattle.session_book.proofs.Books.{lengths, lengths_pushed, series_pushed}
use Rattle.session_book.specs.Words.{after_timeout, after_word, new_items, sent_entry, shown_sends, where_bound, with_sends}
use Rattle.session_book.specs.Grounds.{Grounds, LogsGoOn, NamesStay, SeriesBegin}
use Rattle.lease_core.specs.Steps.{entry_with, hold_entry, send_entry}
use Rattle.lease_core.specs.declared.messages.Reply.{Reply}
use Rattle.lease_core.specs.declared.messages.Reply.TheVariants.{Granted as ToGranted, Refused as ToRefused}
use Rattle.lease_core.specs.Runs.{owes_hold}
use Rattle.lease_core.specs.Lines.{entries_after_hold, entries_after_send, entries_after_sends, entries_after_standing, entries_after_timeout, entries_after_word, is_news, last_line, line_of, lines_of, news_count}
use Rattle.lease_core.specs.declared.word.Standing.{Standing}
use Rattle.lease_core.specs.declared.word.Standing.TheVariants.{Active, Released, Revoked}
use Rattle.lease_core.specs.declared.word.Word.{Word}
use Rattle.session_book.proofs.News.{begun_sent, last_changed, last_length, length_changed, lengths_sent, named, pushes, series_held, series_sent, series_stood}
use Rattle.lease_core.specs.declared.lease.Lease.{Lease}
use Rattle.lease_core.specs.declared.lease.Line.{Line}

module _ (begins : SeriesBegin) where
  pub longer : (earlier later : List (List OutEntry)) (k : ℕ) → GoesOn earlier later → length (series_at earlier k) ≤ length (series_at later k)
  longer earlier later k on = let same = ap length (begins earlier later k on) in let cut = length-take (length (series_at earlier k)) (series_at later k) in omega arith

  same_cut : (earlier later : List (List OutEntry)) (k n : ℕ) → GoesOn earlier later → n ≤ length (series_at earlier k) → take n (series_at later k) ≡ take n (series_at earlier k)
  same_cut earlier later k n on h =
      let whole = sym (take-append-drop (length (series_at earlier k)) (series_at later k)) ∙ ap (λ first. first ++ drop (length (series_at earlier k)) (series_at later k)) (begins earlier later k on) in
      ap (λ entries. take n entries) whole ∙ take-append-le n (series_at earlier k) (drop (length (series_at earlier k)) (series_at later k)) h

  pub same_entry : (earlier later : List (List OutEntry)) (s : Totals) (e : Entry) → GoesOn earlier later → sent_in_series s ≤ length (series_at earlier (series_of s)) → items_of_entry later s e ≡ items_of_entry earlier s e
  same_entry earlier later s (Arrive pos) on h = refl
  same_entry earlier later s (Admin number) on h = refl
  same_entry earlier later s (Bind c) on h = refl
  same_entry earlier later s (Plan begin last at) on h = ap (λ entries. plan_of entries (series_of s) begin last at) (same_cut earlier later (series_of s) (sent_in_series s) on h)
  same_entry earlier later s (Leave c) on h = refl
  same_entry earlier later s (Reset series) on h = refl
  same_entry earlier later s (Granted library nr lease from start) on h = refl
  same_entry earlier later s (Refused library nr why) on h = refl
  same_entry earlier later s (Send lease library ordinal number) on h = refl
  same_entry earlier later s (Release lease library count heir) on h = refl
  same_entry earlier later s (Timeout lease library count) on h = refl
  same_entry earlier later s (Hold lease until) on h = refl
  same_entry earlier later s (Lapse lease) on h = refl

  -- the items that were told stay as the log grows
  pub same_items : (c : ℕ) (earlier later : List (List OutEntry)) (s : Totals) (entries : List Entry) → GoesOn earlier later → HasWhatWasSent earlier s entries → items_from c later s entries ≡ items_from c earlier s entries
  same_items c earlier later s [] on has = refl
  same_items c earlier later s (e ∷ es) on has =
      ap (λ items. (if is_connection s.bound c then items else []) ++ items_from c later (state_after s e) es) (same_entry earlier later s e on has.0)
      ∙ ap (λ items. items_for c earlier s e ++ items) (same_items c earlier later (state_after s e) es on has.1)

  has_more : (earlier later : List (List OutEntry)) (s : Totals) (entries : List Entry) → GoesOn earlier later → HasWhatWasSent earlier s entries → HasWhatWasSent later s entries
  has_more earlier later s [] on has = tt
  has_more earlier later s (e ∷ es) on has = (let more = longer earlier later (series_of s) on in let before = has.0 in omega arith, has_more earlier later (state_after s e) es on has.1)

items_join : (c : ℕ) (log : List (List OutEntry)) (s : Totals) (first second : List Entry) → items_from c log s (first ++ second) ≡ items_from c log s first ++ items_from c log (fold state_after s first) second
items_join c log s [] second = refl
items_join c log s (e ∷ es) second =
    ap (λ items. items_for c log s e ++ items) (items_join c log (state_after s e) es second)
    ∙ sym (append_assoc (items_for c log s e) (items_from c log (state_after s e) es) (items_from c log (fold state_after (state_after s e) es) second))

has_both : (log : List (List OutEntry)) (s : Totals) (first second : List Entry) → HasWhatWasSent log s first → HasWhatWasSent log (fold state_after s first) second → HasWhatWasSent log s (first ++ second)
has_both log s [] second has more = more
has_both log s (e ∷ es) second has more = (has.0, has_both log (state_after s e) es second has.1 more)

pub with_both : (first second : List WireItem) (out : Outgoing) → with_items second (with_items first out) ≡ with_items (first ++ second) out
with_both first second out = ap (λ (unmade : List WireItem). record out { unmade = unmade }) (append_assoc out.unmade first second)

pub with_nothing : (out : Outgoing) → with_items [] out ≡ out
with_nothing out = ap (λ (unmade : List WireItem). record out { unmade = unmade }) (append-nil out.unmade)

-- one event behind another
pub queues_then : SeriesBegin → LogsGoOn → EntriesDecideOver → NamesStay → (c : ℕ) (a b d : Desk) → QueuesWhatIsTold c a b → QueuesWhatIsTold c b d → QueuesWhatIsTold c a d
queues_then begins logs decide stay c a b d first second =
    let x = first.added in
    let y = second.added in
    let s = state_of a.book.entries in
    let log = d.book.outbound in
    let mid : state_of b.book.entries ≡ fold state_after s x = ap state_of first.entries_are ∙ decide a.book.entries x in
    let told : items_from c log s (x ++ y) ≡ items_from c b.book.outbound s x ++ items_from c log (state_of b.book.entries) y =
    items_join c log s x y
    ∙ ap (λ items. items ++ items_from c log (fold state_after s x) y) (same_items begins c b.book.outbound log s x second.goes_on first.sent)
    ∙ ap (λ t. items_from c b.book.outbound s x ++ items_from c log t y) (sym mid) in
    record {
      added = x ++ y;
      entries_are = second.entries_are ∙ ap (λ es. es ++ y) first.entries_are ∙ append_assoc a.book.entries x y;
      goes_on = logs a.book.outbound b.book.outbound log first.goes_on second.goes_on;
      sent = has_both log s x y (has_more begins b.book.outbound log s x second.goes_on first.sent) (subst (λ t. HasWhatWasSent log t y) mid second.sent);
      named = subst (All (NamesEntry log)) (sym told)
          (All-append (NamesEntry log) (items_from c b.book.outbound s x) (items_from c log (state_of b.book.entries) y)
          (stay b.book.outbound log (items_from c b.book.outbound s x) second.goes_on first.named) second.named);
      queued = second.queued
          ∙ ap (λ out. with_items (items_from c log (state_of b.book.entries) y) out) first.queued
          ∙ with_both (items_from c b.book.outbound s x) (items_from c log (state_of b.book.entries) y) a.outgoing
          ∙ ap (λ items. with_items items a.outgoing) (sym told);
    }

-- the logs go with the journal
pub record LogsAgree (book : Book) : Type 0 where
  pub outbound : lengths book.outbound ≡ (state_of book.entries).series
  pub begun : 1 ≤ length book.outbound

pub series_are : (book : Book) → LogsAgree book → series_of (state_of book.entries) ≡ length book.outbound
series_are book is = sym (ap length is.outbound) ∙ length-map book.outbound (λ entries. length entries)

pub sent_is : (book : Book) → LogsAgree book → sent_in_series (state_of book.entries) ≡ length (series_at book.outbound (length book.outbound))
sent_is book is = ap (λ ns. last_or 0 ns) (sym is.outbound) ∙ last_length book.outbound is.begun

-- what one entry tells to the bound connection
told_one : (c : ℕ) (log : List (List OutEntry)) (s : Totals) (e : Entry) (items : List WireItem) → s.bound ≡ Some c → items_of_entry log s e ≡ items → items_from c log s (e ∷ []) ≡ items
told_one c log s e items bound are =
    append-nil (items_for c log s e)
    ∙ ap (λ (b : Option ℕ). if is_connection b c then items_of_entry log s e else []) bound
    ∙ cond-true (c == c) (items_of_entry log s e) [] (eq-eqb c c refl)
    ∙ are

nothing_either : (b : Bool) (items : List WireItem) → items ≡ [] → (if b then items else []) ≡ []
nothing_either true items none = none
nothing_either false items none = refl

-- an act that makes one entry queues what that tells
one_entry : SeriesBegin → (c : ℕ) (book new : Book) (e : Entry) (items : List WireItem) (out outgoing : Outgoing)
    → LogsAgree book → (state_of book.entries).bound ≡ Some c → GoesOn book.outbound new.outbound
    → new.entries ≡ book.entries ++ e ∷ [] → items_of_entry new.outbound (state_of book.entries) e ≡ items → All (NamesEntry new.outbound) items → outgoing ≡ with_items items out
    → QueuesWhatIsTold c (with_outbox book out) (with_outbox new outgoing)
one_entry begins c book new e items out outgoing is bound on entries_are told named outgoing_is =
    let s = state_of book.entries in
    let same : length (series_at book.outbound (series_of s)) ≡ length (series_at book.outbound (length book.outbound)) = ap (λ k. length (series_at book.outbound k)) (series_are book is) in
    let sent = sent_is book is in
    let more = longer begins book.outbound new.outbound (series_of s) on in
    record {
      added = e ∷ [];
      entries_are = entries_are;
      goes_on = on;
      sent = (omega arith, tt);
      named = subst (All (NamesEntry new.outbound)) (sym (told_one c new.outbound s e items bound told)) named;
      queued = outgoing_is ∙ ap (λ found. with_items found out) (sym (told_one c new.outbound s e items bound told));
    }

pub none_named : (log : List (List OutEntry)) → All (NamesEntry log) []
none_named log = All-nil (NamesEntry log)

pub one_named : (log : List (List OutEntry)) (item : WireItem) → NamesEntry log item → All (NamesEntry log) (item ∷ [])
one_named log item is = All-cons (NamesEntry log) item [] is (none_named log)

-- the entry that was pushed is named by the number behind those before it
pub pushed_named : (log : List (List OutEntry)) (entry : OutEntry) → 1 ≤ length log → NamesEntry (with_entry log entry) (New (length log) (length (series_at log (length log)) + 1))
pushed_named log entry h = ap (λ (o : Option OutEntry). is_some o) (named log entry h)

module _ (g : Grounds) where
  act_tells : (c at : ℕ) (act : Act) (book : Book) (out : Outgoing) → LogsAgree book → (state_of book.entries).bound ≡ Some c → QueuesWhatIsTold c (with_outbox book out) (after_act at act (with_outbox book out))
  act_tells c at (Accept body) book out is bound = one_entry g.begins c book (after_accept body book) _ [] out out is bound (g.itself book.outbound) refl refl (none_named book.outbound) (sym (with_nothing out))
  act_tells c at (SendAct admin) book out is bound =
      let s = state_of book.entries in
      let told = ap (λ k. New k (sent_in_series s + 1) ∷ []) (series_are book is) ∙ ap (λ n. New (length book.outbound) (n + 1) ∷ []) (sent_is book is) in
      one_entry g.begins c book (after_send at admin book) _ (next_item book) out _ is bound (g.entry book.outbound (admin_entry at admin book)) refl told
      (one_named (with_entry book.outbound (admin_entry at admin book)) (New (length book.outbound) (next_number book)) (pushed_named book.outbound (admin_entry at admin book) is.begun)) refl
  act_tells c at (Resend begin last) book out is bound =
      let s = state_of book.entries in
      let log = book.outbound in
      let sent = sent_is book is in
      let told =
      ap (λ k. plan_of (take (sent_in_series s) (series_at log k)) k begin last at) (series_are book is)
      ∙ ap (λ entries. plan_of entries (length log) begin last at) (take_all (sent_in_series s) (series_at log (length log)) (omega arith)) in
      one_entry g.begins c book (after_resend at begin last book) _ (plan_items at begin last book) out _ is bound (g.itself log) refl told (g.plans log (length log) begin last at) refl
  act_tells c at ResetAct book out is bound = one_entry g.begins c book (after_reset book) _ [] out out is bound (g.series book.outbound) refl refl (none_named (book.outbound ++ [] ∷ [])) (sym (with_nothing out))

  pub agree_after : (at : ℕ) (act : Act) (book : Book) (out : Outgoing) → LogsAgree book → LogsAgree (after_act at act (with_outbox book out)).book
  agree_after at (Accept body) book out is = record { outbound = is.outbound ∙ sym (ap (λ s. s.series) (g.decide book.entries _)); begun = is.begun }
  agree_after at (SendAct admin) book out is = record {
    outbound = lengths_pushed book.outbound (admin_entry at admin book) is.begun ∙ ap (λ ns. with_last one_more ns) is.outbound ∙ sym (ap (λ s. s.series) (g.decide book.entries _));
    begun = series_pushed book.outbound (admin_entry at admin book);
  }
  agree_after at (Resend begin last) book out is = record { outbound = is.outbound ∙ sym (ap (λ s. s.series) (g.decide book.entries _)); begun = is.begun }
  agree_after at ResetAct book out is = record {
    outbound = map-append (λ entries. length entries) book.outbound ([] ∷ []) ∙ ap (λ ns. ns ++ 0 ∷ []) is.outbound ∙ sym (ap (λ s. s.series) (g.decide book.entries _));
    begun = (let more = length_push book.outbound ([]) in omega arith);
  }

  bound_after : (c at : ℕ) (act : Act) (book : Book) (out : Outgoing) → (state_of book.entries).bound ≡ Some c → (state_of (after_act at act (with_outbox book out)).book.entries).bound ≡ Some c
  bound_after c at (Accept body) book out bound = ap (λ s. s.bound) (g.decide book.entries _) ∙ bound
  bound_after c at (SendAct admin) book out bound = ap (λ s. s.bound) (g.decide book.entries _) ∙ bound
  bound_after c at (Resend begin last) book out bound = ap (λ s. s.bound) (g.decide book.entries _) ∙ bound
  bound_after c at ResetAct book out bound = ap (λ s. s.bound) (g.decide book.entries _) ∙ bound

  -- and so do acts, one after another
  pub acts_tell : (c at : ℕ) (acts : List Act) (desk : Desk) → LogsAgree desk.book → (state_of desk.book.entries).bound ≡ Some c → QueuesWhatIsTold c desk (after_acts at acts desk)
  acts_tell c at [] desk is bound = record {
    added = [];
    entries_are = sym (append-nil desk.book.entries);
    goes_on = g.itself desk.book.outbound;
    sent = tt;
    named = none_named desk.book.outbound;
    queued = sym (with_nothing desk.outgoing);
  }
  acts_tell c at (act ∷ acts) desk is bound =
      queues_then g.begins g.further g.decide_over g.names c desk (after_act at act desk) (after_acts at acts (after_act at act desk))
      (act_tells c at act desk.book desk.outgoing is bound)
      (acts_tell c at acts (after_act at act desk) (agree_after at act desk.book desk.outgoing is) (bound_after c at act desk.book desk.outgoing bound))

  pub message_tells : (c at : ℕ) (body : List ℕ) (desk : Desk) → IsBook desk.book → (state_of desk.book.entries).bound ≡ Some c → QueuesWhatIsTold c desk (after_message at body desk)
  message_tells c at body desk is bound =
      let machine = desk.book.machine in
      let told = acts_tell c at (receive machine body at).acts (with_outbox (with_machine (after_receive machine body at) desk.book) desk.outgoing) (record { outbound = is.outbound; begun = is.begun }) bound in
      record { added = told.added; entries_are = told.entries_are; goes_on = told.goes_on; sent = told.sent; named = told.named; queued = told.queued }

  pub tick_tells : (c at : ℕ) (desk : Desk) → IsBook desk.book → (state_of desk.book.entries).bound ≡ Some c → QueuesWhatIsTold c desk (after_ticking at desk)
  tick_tells c at desk is bound =
      let machine = desk.book.machine in
      let told = acts_tell c at (tick machine at).acts (with_outbox (with_machine (after_tick machine at) desk.book) desk.outgoing) (record { outbound = is.outbound; begun = is.begun }) bound in
      record { added = told.added; entries_are = told.entries_are; goes_on = told.goes_on; sent = told.sent; named = told.named; queued = told.queued }

  -- an entry that has no items queues nothing, whoever is bound
  no_items : (c : ℕ) (book new : Book) (e : Entry) (out : Outgoing)
      → LogsAgree book → new.outbound ≡ book.outbound → new.entries ≡ book.entries ++ e ∷ []
      → items_of_entry new.outbound (state_of book.entries) e ≡ []
      → QueuesWhatIsTold c (with_outbox book out) (with_outbox new out)
  no_items c book new e out is log_is entries_are none =
      let s = state_of book.entries in
      let same : length (series_at book.outbound (series_of s)) ≡ length (series_at book.outbound (length book.outbound)) = ap (λ k. length (series_at book.outbound k)) (series_are book is) in
      let kept : length (series_at new.outbound (series_of s)) ≡ length (series_at book.outbound (series_of s)) = ap (λ log. length (series_at log (series_of s))) log_is in
      let sent = sent_is book is in
      let nothing : items_from c new.outbound s (e ∷ []) ≡ [] = append-nil (items_for c new.outbound s e) ∙ nothing_either (is_connection s.bound c) _ none in
      record {
        added = e ∷ [];
        entries_are = entries_are;
        goes_on = subst (λ log. GoesOn book.outbound log) (sym log_is) (g.itself book.outbound);
        sent = (omega arith, tt);
        named = subst (All (NamesEntry new.outbound)) (sym nothing) (none_named new.outbound);
        queued = sym (ap (λ items. with_items items out) nothing ∙ with_nothing out);
      }

  -- the session is bound, and then acts are carried out
  bind_tells : (c at : ℕ) (acts : List Act) (machine : State) (desk : Desk) → IsBook desk.book
      → QueuesWhatIsTold c desk (after_acts at acts (with_outbox (with_machine machine (with_event (Binds c) desk.book)) desk.outgoing))
  bind_tells c at acts machine desk is =
      let book = desk.book in
      let agree : LogsAgree book = record { outbound = is.outbound; begun = is.begun } in
      let next = with_machine machine (with_event (Binds c) book) in
      let after = g.decide book.entries (Bind c) in
      queues_then g.begins g.further g.decide_over g.names c desk (with_outbox next desk.outgoing) (after_acts at acts (with_outbox next desk.outgoing))
      (no_items c book next (Bind c) desk.outgoing agree refl refl refl)
      (acts_tell c at acts (with_outbox next desk.outgoing) (record { outbound = is.outbound ∙ sym (ap (λ s. s.series) after); begun = is.begun }) (ap (λ s. s.bound) after))

  pub binding_tells : (c at : ℕ) (body : List ℕ) (desk : Desk) → IsBook desk.book → QueuesWhatIsTold c desk (after_binding at c body desk)
  binding_tells c at body desk is = let machine = desk.book.machine in bind_tells c at (receive machine body at).acts (after_receive machine body at) desk is

  pub dial_tells : (c at : ℕ) (desk : Desk) → IsBook desk.book → QueuesWhatIsTold c desk (after_dial at c desk)
  dial_tells c at desk is = let machine = desk.book.machine in bind_tells c at (ask machine).acts (after_ask machine at) desk is

  abbrev with_sends_recorded : ℕ → List (List ℕ) → Book → Book
  with_sends_recorded at bodies book = record book { entries = entries_after_sends (length bodies) book.entries; outbound = with_sends at bodies book.outbound }

  pub sends_from_first : (n : ℕ) (entries : List Entry) → entries_after_sends n (entries_after_send entries) ≡ entries_after_send (entries_after_sends n entries)
  sends_from_first zero entries = refl
  sends_from_first (suc n) entries = ap entries_after_send (sends_from_first n entries)

  pub agree_sent : (at : ℕ) (body : List ℕ) (book : Book) → LogsAgree book → LogsAgree (record book { entries = entries_after_send book.entries; outbound = with_entry book.outbound (sent_entry at body) })
  agree_sent at body book is = record {
    outbound = lengths_pushed book.outbound (sent_entry at body) is.begun ∙ ap (λ ns. with_last one_more ns) is.outbound ∙ sym (ap (λ s. s.series) (g.decide book.entries _));
    begun = series_pushed book.outbound (sent_entry at body);
  }

  -- the number behind a send's
  pub number_behind : (at : ℕ) (body : List ℕ) (book : Book) → LogsAgree book
      → let log = with_entry book.outbound (sent_entry at body) in
      length (series_at log (length log)) + 1 ≡ length (series_at book.outbound (length book.outbound)) + 1 + 1
  number_behind at body book is =
      let next = record book { entries = entries_after_send book.entries; outbound = with_entry book.outbound (sent_entry at body) } in
      let sent : sent_in_series (state_of next.entries) ≡ sent_in_series (state_of book.entries) + 1 =
      ap (λ s. last_or 0 s.series) (g.decide book.entries _) ∙ last_changed 0 (state_of book.entries).series (subst (λ (ns : List ℕ). 1 ≤ length ns) is.outbound (let same = length-map book.outbound (λ entries. length entries) in let begun = is.begun in omega arith)) in
      ap (λ n. n + 1) (sym (sent_is next (agree_sent at body book is)) ∙ sent ∙ ap (λ n. n + 1) (sent_is book is))

  pub length_behind : (at : ℕ) (body : List ℕ) (book : Book) → LogsAgree book → length (with_entry book.outbound (sent_entry at body)) ≡ length book.outbound
  length_behind at body book is =
      let next = record book { entries = entries_after_send book.entries; outbound = with_entry book.outbound (sent_entry at body) } in
      sym (series_are next (agree_sent at body book is)) ∙ ap (λ s. length s.series) (g.decide book.entries _) ∙ length_changed (state_of book.entries).series ∙ series_are book is

  sends_tell : (c at : ℕ) (bodies : List (List ℕ)) (book : Book) (out : Outgoing) → LogsAgree book → (state_of book.entries).bound ≡ Some c
      → QueuesWhatIsTold c (with_outbox book out)
      (with_outbox (with_sends_recorded at bodies book) (with_items (new_items (length book.outbound) (length (series_at book.outbound (length book.outbound)) + 1) (length bodies)) out))
  sends_tell c at [] book out is bound = record {
    added = [];
    entries_are = sym (append-nil book.entries);
    goes_on = g.itself book.outbound;
    sent = tt;
    named = none_named book.outbound;
    queued = refl;
  }
  sends_tell c at (body ∷ bodies) book out is bound =
      let s = state_of book.entries in
      let log = book.outbound in
      let number = length (series_at log (length log)) + 1 in
      let item = New (length log) number in
      let next : Book = record book { entries = entries_after_send book.entries; outbound = with_entry log (sent_entry at body) } in
      let waits = with_items (item ∷ []) out in
      let told = ap (λ k. New k (sent_in_series s + 1) ∷ []) (series_are book is) ∙ ap (λ n. New (length log) (n + 1) ∷ []) (sent_is book is) in
      let first = one_entry g.begins c book next (send_entry s) (item ∷ []) out waits is bound (g.entry log (sent_entry at body)) refl told (one_named (with_entry log (sent_entry at body)) item (pushed_named log (sent_entry at body) is.begun)) refl in
      let rest = sends_tell c at bodies next waits (agree_sent at body book is) (ap (λ t. t.bound) (g.decide book.entries _) ∙ bound) in
      let both = queues_then g.begins g.further g.decide_over g.names c (with_outbox book out) (with_outbox next waits) _ first rest in
      let items : new_items (length next.outbound) (length (series_at next.outbound (length next.outbound)) + 1) (length bodies) ≡ new_items (length log) (number + 1) (length bodies) =
      ap (λ k. new_items k (length (series_at next.outbound (length next.outbound)) + 1) (length bodies)) (length_behind at body book is)
      ∙ ap (λ n. new_items (length log) n (length bodies)) (number_behind at body book is) in
      let outgoing = ap (λ found. with_items found waits) items ∙ with_both (item ∷ []) (new_items (length log) (number + 1) (length bodies)) out in
      subst (λ (d : Desk). QueuesWhatIsTold c (with_outbox book out) d)
      (ap (λ es. with_outbox (record book { entries = es; outbound = with_sends at bodies next.outbound }) (with_items (new_items (length next.outbound) (length (series_at next.outbound (length next.outbound)) + 1) (length bodies)) waits)) (sends_from_first (length bodies) book.entries)
      ∙ ap (λ o. with_outbox (with_sends_recorded at (body ∷ bodies) book) o) outgoing)
      both

  same_desk : (c : ℕ) (desk : Desk) → QueuesWhatIsTold c desk desk
  same_desk c desk = record {
    added = [];
    entries_are = sym (append-nil desk.book.entries);
    goes_on = g.itself desk.book.outbound;
    sent = tt;
    named = none_named desk.book.outbound;
    queued = sym (with_nothing desk.outgoing);
  }

  abbrev with_entries : List Entry → Book → Book
  with_entries entries book = record book { entries = entries }

  one_without : (c : ℕ) (book : Book) (e : Entry) (out : Outgoing) → LogsAgree book → items_of_entry book.outbound (state_of book.entries) e ≡ []
      → QueuesWhatIsTold c (with_outbox book out) (with_outbox (with_entries (book.entries ++ e ∷ []) book) out)
  one_without c book e out is none = no_items c book (with_entries (book.entries ++ e ∷ []) book) e out is refl refl none

  stood : (c : ℕ) (standing : Standing) (owner : ℕ) (book : Book) (out : Outgoing) → LogsAgree book → QueuesWhatIsTold c (with_outbox book out) (with_outbox (with_entries (entries_after_standing standing owner book.entries) book) out)
  stood c Active owner book out is = same_desk c (with_outbox book out)
  stood c Released owner book out is = one_without c book _ out is refl
  stood c Revoked owner book out is = same_desk c (with_outbox book out)

  held_if : (c : ℕ) (b : Bool) (until : ℕ) (book : Book) (out : Outgoing) → LogsAgree book
      → QueuesWhatIsTold c (with_outbox book out) (with_outbox (with_entries (if b then book.entries ++ hold_entry (state_of book.entries) until ∷ [] else book.entries) book) out)
  held_if c true until book out is = one_without c book _ out is refl
  held_if c false until book out is = same_desk c (with_outbox book out)

  held : (c until : ℕ) (book : Book) (out : Outgoing) → LogsAgree book → QueuesWhatIsTold c (with_outbox book out) (with_outbox (with_entries (entries_after_hold until book.entries) book) out)
  held c until book out is = held_if c (owes_hold (state_of book.entries).latest) until book out is

  timed : (c : ℕ) (standing : Standing) (book : Book) (out : Outgoing) → LogsAgree book → QueuesWhatIsTold c (with_outbox book out) (with_outbox (with_entries (entries_after_timeout standing book.entries) book) out)
  timed c Active book out is = one_without c book _ out is refl
  timed c Released book out is = same_desk c (with_outbox book out)
  timed c Revoked book out is = same_desk c (with_outbox book out)

  pub agree_with : (book : Book) (entries : List Entry) → LogsAgree book → (state_of entries).series ≡ (state_of book.entries).series → LogsAgree (with_entries entries book)
  agree_with book entries is same = record { outbound = is.outbound ∙ sym same; begun = is.begun }

  pub agree_sends : (at : ℕ) (bodies : List (List ℕ)) (book : Book) → LogsAgree book → LogsAgree (with_sends_recorded at bodies book)
  agree_sends at bodies book is = record {
    outbound = lengths_sent at bodies book.outbound is.begun ∙ ap (λ ns. pushes (length bodies) ns) is.outbound ∙ sym (series_sent g.decide (length bodies) book.entries);
    begun = begun_sent at bodies book.outbound is.begun;
  }

  pub agree_if : (at : ℕ) (b : Bool) (w : Word) (bodies : List (List ℕ)) (book : Book) → LogsAgree book → length bodies ≡ (if b then news_count book.entries w else 0)
      → LogsAgree (record book { entries = if b then entries_after_standing w.standing w.owner (entries_after_sends (news_count book.entries w) book.entries) else book.entries; outbound = with_sends at bodies book.outbound })
  agree_if at true w bodies book is count =
      let recorded = with_sends_recorded at bodies book in
      subst (λ n. LogsAgree (record book { entries = entries_after_standing w.standing w.owner (entries_after_sends n book.entries); outbound = with_sends at bodies book.outbound })) count
      (agree_with recorded _ (agree_sends at bodies book is) (series_stood g.decide w.standing w.owner (entries_after_sends (length bodies) book.entries)))
  agree_if at false w [] book is count = is
  agree_if at false w (body ∷ bodies) book is count = absurd (omega arith)

  -- sends, and then how the word stands
  word_if : (c at : ℕ) (b : Bool) (w : Word) (bodies : List (List ℕ)) (book : Book) (out : Outgoing) → LogsAgree book → (state_of book.entries).bound ≡ Some c
      → length bodies ≡ (if b then news_count book.entries w else 0)
      → QueuesWhatIsTold c (with_outbox book out)
      (with_outbox (record book { entries = if b then entries_after_standing w.standing w.owner (entries_after_sends (news_count book.entries w) book.entries) else book.entries; outbound = with_sends at bodies book.outbound })
      (with_items (new_items (length book.outbound) (length (series_at book.outbound (length book.outbound)) + 1) (length bodies)) out))
  word_if c at true w bodies book out is bound count =
      let recorded = with_sends_recorded at bodies book in
      let waits = with_items (new_items (length book.outbound) (length (series_at book.outbound (length book.outbound)) + 1) (length bodies)) out in
      subst (λ n. QueuesWhatIsTold c (with_outbox book out) (with_outbox (record book { entries = entries_after_standing w.standing w.owner (entries_after_sends n book.entries); outbound = with_sends at bodies book.outbound }) waits)) count
      (queues_then g.begins g.further g.decide_over g.names c (with_outbox book out) (with_outbox recorded waits) _
      (sends_tell c at bodies book out is bound)
      (stood c w.standing w.owner recorded waits (agree_sends at bodies book is)))
  word_if c at false w [] book out is bound count = sends_tell c at [] book out is bound
  word_if c at false w (body ∷ bodies) book out is bound count = absurd (omega arith)

  -- how a word and lines tell the same of a journal
  last_is : (d : Lease) (leases : List Lease) → last_or (line_of d) (map line_of leases) ≡ line_of (last_or d leases)
  last_is d [] = refl
  last_is d (l ∷ ls) = last_is l ls

  pub news_is : (entries : List Entry) (w : Word) → (if is_news entries w then news_count entries w else 0) ≡ shown_sends entries w
  news_is entries w =
      let leases = (state_of entries).leases in
      let last : last_line (lines_of entries) ≡ line_of (last_lease leases) = last_is no_lease leases in
      let count : length (lines_of entries) ≡ length leases = length-map leases line_of in
      sym (
      ap (λ (l : Line). if (w.lease == length (lines_of entries)) && nat_lt 0 (owner_in l.ending l.library) && nat_le l.sends w.count then w.count - l.sends else 0) last
      ∙ ap (λ n. if (w.lease == n) && nat_lt 0 (owner_of (state_of entries)) && nat_le (last_lease leases).sends w.count then news_count entries w else 0) count
      )

  news_tells : (c at until : ℕ) (w : Word) (bodies : List (List ℕ)) (book : Book) (out : Outgoing) → LogsAgree book → (state_of book.entries).bound ≡ Some c
      → length bodies ≡ shown_sends book.entries w
      → QueuesWhatIsTold c (with_outbox book out)
      (with_outbox (record book { entries = entries_after_hold until (entries_after_word book.entries w); outbound = with_sends at bodies book.outbound })
      (with_items (new_items (length book.outbound) (length (series_at book.outbound (length book.outbound)) + 1) (length bodies)) out))
  unfolding entries_after_word
  news_tells c at until w bodies book out is bound count =
      let b = is_news book.entries w in
      let many = count ∙ sym (news_is book.entries w) in
      let waits = with_items (new_items (length book.outbound) (length (series_at book.outbound (length book.outbound)) + 1) (length bodies)) out in
      queues_then g.begins g.further g.decide_over g.names c (with_outbox book out) _ _
      (word_if c at b w bodies book out is bound many)
      (held c until (record book { entries = if b then entries_after_standing w.standing w.owner (entries_after_sends (news_count book.entries w) book.entries) else book.entries; outbound = with_sends at bodies book.outbound }) waits (agree_if at b w bodies book is many))

  pub word_tells : (c at until : ℕ) (w : Word) (bodies : List (List ℕ)) (desk : Desk) → IsBook desk.book → (state_of desk.book.entries).bound ≡ Some c
      → length bodies ≡ shown_sends desk.book.entries w → QueuesWhatIsTold c desk (after_word at until w bodies desk)
  word_tells c at until w bodies desk is bound count =
      let book = desk.book in
      let told = news_tells c at until w bodies book desk.outgoing (record { outbound = is.outbound; begun = is.begun }) bound count in
      let items = new_items (length book.outbound) (length (series_at book.outbound (length book.outbound)) + 1) (length bodies) in
      let same = ap (λ (found : Option ℕ). with_items (where_bound found items) desk.outgoing) bound in
      record { added = told.added; entries_are = told.entries_are; goes_on = told.goes_on; sent = told.sent; named = told.named; queued = same ∙ told.queued }

  timeout_tells_on : (c at until : ℕ) (old : Word) (bodies : List (List ℕ)) (book : Book) (out : Outgoing) → LogsAgree book → (state_of book.entries).bound ≡ Some c
      → length bodies ≡ shown_sends book.entries old
      → QueuesWhatIsTold c (with_outbox book out)
      (with_outbox (record book { entries = entries_after_timeout old.standing (entries_after_hold until (entries_after_word book.entries old)); outbound = with_sends at bodies book.outbound })
      (with_items (new_items (length book.outbound) (length (series_at book.outbound (length book.outbound)) + 1) (length bodies)) out))
  unfolding entries_after_word
  timeout_tells_on c at until old bodies book out is bound count =
      let b = is_news book.entries old in
      let many = count ∙ sym (news_is book.entries old) in
      let waits = with_items (new_items (length book.outbound) (length (series_at book.outbound (length book.outbound)) + 1) (length bodies)) out in
      let shown = if b then entries_after_standing old.standing old.owner (entries_after_sends (news_count book.entries old) book.entries) else book.entries in
      let told : Book = record book { entries = shown; outbound = with_sends at bodies book.outbound } in
      queues_then g.begins g.further g.decide_over g.names c (with_outbox book out) _ _
      (news_tells c at until old bodies book out is bound count)
      (timed c old.standing (with_entries (entries_after_hold until shown) told) waits (agree_with told _ (agree_if at b old bodies book is many) (series_held g.decide until shown)))

  pub timeout_tells : (c at until : ℕ) (old : Word) (bodies : List (List ℕ)) (desk : Desk) → IsBook desk.book → (state_of desk.book.entries).bound ≡ Some c
      → length bodies ≡ shown_sends desk.book.entries old → QueuesWhatIsTold c desk (after_timeout at until old bodies desk)
  timeout_tells c at until old bodies desk is bound count =
      let book = desk.book in
      let told = timeout_tells_on c at until old bodies book desk.outgoing (record { outbound = is.outbound; begun = is.begun }) bound count in
      let items = new_items (length book.outbound) (length (series_at book.outbound (length book.outbound)) + 1) (length bodies) in
      let same = ap (λ (found : Option ℕ). with_items (where_bound found items) desk.outgoing) bound in
      record { added = told.added; entries_are = told.entries_are; goes_on = told.goes_on; sent = told.sent; named = told.named; queued = same ∙ told.queued }

  reply_without : (log : List (List OutEntry)) (s : Totals) (library nr from : ℕ) (reply : Reply) → items_of_entry log s (entry_with library nr from reply) ≡ []
  reply_without log s library nr from (ToGranted lease start) = refl
  reply_without log s library nr from (ToRefused why) = refl

  pub end_tells : (c d : ℕ) (desk : Desk) → IsBook desk.book → QueuesWhatIsTold c desk (with_outbox (after_end d desk.book) desk.outgoing)
  end_tells c d desk is = no_items c desk.book (after_end d desk.book) _ desk.outgoing (record { outbound = is.outbound; begun = is.begun }) refl refl refl

  pub request_tells : (c library nr from : ℕ) (desk : Desk) → IsBook desk.book → QueuesWhatIsTold c desk (with_outbox (after_request library nr from desk.book) desk.outgoing)
  request_tells c library nr from desk is =
      no_items c desk.book (after_request library nr from desk.book) _ desk.outgoing (record { outbound = is.outbound; begun = is.begun }) refl refl (reply_without desk.book.outbound (state_of desk.book.entries) library nr from _)

  pub lapse_tells : (c : ℕ) (desk : Desk) → IsBook desk.book → QueuesWhatIsTold c desk (with_outbox (after_lapse desk.book) desk.outgoing)
  lapse_tells c desk is = no_items c desk.book (after_lapse desk.book) _ desk.outgoing (record { outbound = is.outbound; begun = is.begun }) refl refl refl
