-- When the items of an event were made.
use Rattle.std.proofs.Common.{◌≡◌, ℕ, suc, ◌+◌, ◌≤◌, ◌⊎◌, inl, inr, Bool, true, false, if◌then◌else◌, List, [], ◌∷◌, ◌++◌, length, Option, Some, is_some, unwrap_or, refl, sym, ap, subst, ◌∙◌, arith}
use Rattle.std.specs.Prelude.{◌||◌, codes, nat_eq, take}
use Rattle.std.specs.Cmp.Lexicographic.{pointwise}
use Rattle.std.specs.List.{All, flat_map, list_any}
use Rattle.std.proofs.lemmas.List.{append-nil, append_cancel_left}
use Rattle.std.proofs.lemmas.List.Elements.{All-append, All-cons, All-head, All-nil, All-tail}
use Rattle.connection_core.specs.Outgoing.{Outgoing, with_items}
use Rattle.lease_core.specs.Lines.{entries_after_send}
use Rattle.lease_core.specs.State.{State as Totals, series_of, state_after, state_of}
use Rattle.lease_core.specs.declared.entry.Entry.{Entry}
use Rattle.message_log.specs.Growth.{GoesOn}
use Rattle.message_log.specs.Series.{series_at, with_entry}
use Rattle.message_log.specs.declared.entry.OutEntry.{OutEntry}
use Rattle.resend_plan.specs.Plan.{IsAnswer, plan_of}
use Rattle.resend_plan.specs.Wire.{no_entry}
use Rattle.resend_plan.specs.declared.item.WireItem.{WireItem}
use Rattle.resend_plan.specs.declared.item.WireItem.TheVariants.{Again, GapFill, New}
use Rattle.fix_fields.specs.Field.{tagged_text}
use Rattle.session_core.specs.Admin.{admin_text, is_tick_text, test_request_text}
use Rattle.session_core.specs.Receive.{after_receive, is_send, outcome}
use Rattle.session_core.specs.State.{State}
use Rattle.session_core.specs.Tasks.{is_tick_act}
use Rattle.session_core.specs.declared.acts.Act.{Act}
use Rattle.session_core.specs.declared.acts.Admin.TheVariants.{TestRequest}
use Rattle.session_core.specs.declared.acts.Act.TheVariants.{Accept, Resend, Reset as Restart, Send as SendAct}
use Rattle.session_book.specs.Acts.{admin_entry, after_act, after_acts, next_item, plan_items}
use Rattle.session_book.specs.Book.{Book, Desk, after_sending, present_series}
use Rattle.session_book.specs.Items.{QueuesWhatIsTold, items_behind_entries, items_from}
use Rattle.session_book.specs.Moments.{AreEarlier, BeatsBehind, is_beat_by, item_moment}
use Rattle.session_book.specs.Spells.{items_at, logged_body, placed, placed_from}
use Rattle.session_book.specs.Told.{TellActs, TellsAct}
use Rattle.session_book.specs.Words.{new_items, sent_entry, with_sends}
use Rattle.session_book.specs.Grounds.{RunGrounds}
use Rattle.session_book.proofs.LeaseEntries.{sends_go_on}
use Rattle.session_book.proofs.Moments.{NoBeat}
use Rattle.session_book.proofs.News.{named}
use Rattle.session_book.proofs.Runs.{body_logged}
use Rattle.session_book.proofs.Spells.{Keeps}
use Rattle.session_book.proofs.Telling.{LogsAgree, agree_after, agree_sent, length_behind, number_behind, with_both, with_nothing}
use Rattle.session_book.proofs.TextRuns.{items_placed}

abbrev pub PlansAnswer : Type 0
PlansAnswer = (log : List (List OutEntry)) (series begin last at : ℕ) → All (IsAnswer log series at) (plan_of (series_at log series) series begin last at)

-- the items that an act queues
abbrev act_items : ℕ → Act → Desk → List WireItem
act_items at (Accept body) desk = []
act_items at (SendAct admin) desk = next_item desk.book
act_items at (Resend begin last) desk = plan_items at begin last desk.book
act_items at Restart desk = []

abbrev pub acts_items : ℕ → List Act → Desk → List WireItem
acts_items at [] desk = []
acts_items at (act ∷ acts) desk = act_items at act desk ++ acts_items at acts (after_act at act desk)

act_queues : (at : ℕ) (act : Act) (desk : Desk) → (after_act at act desk).outgoing ≡ with_items (act_items at act desk) desk.outgoing
act_queues at (Accept body) desk = sym (with_nothing desk.outgoing)
act_queues at (SendAct admin) desk = refl
act_queues at (Resend begin last) desk = refl
act_queues at Restart desk = sym (with_nothing desk.outgoing)

pub acts_queue : (at : ℕ) (acts : List Act) (desk : Desk) → (after_acts at acts desk).outgoing ≡ with_items (acts_items at acts desk) desk.outgoing
acts_queue at [] desk = sym (with_nothing desk.outgoing)
acts_queue at (act ∷ acts) desk =
    let next = after_act at act desk in
    acts_queue at acts next ∙ ap (λ out. with_items (acts_items at acts next) out) (act_queues at act desk) ∙ with_both (act_items at act desk) (acts_items at acts next) desk.outgoing

-- the items that the entries tell are those that were queued
pub items_are : (c : ℕ) (old new : Desk) (added : List Entry) (items : List WireItem) (q : QueuesWhatIsTold c old new) → new.book.entries ≡ old.book.entries ++ added → (state_of old.book.entries).bound ≡ Some c → All Keeps added
    → new.outgoing ≡ with_items items old.outgoing → flat_map (items_at new.book.outbound) (placed_from (state_of old.book.entries) added) ≡ items
items_are c old new added items q are bound keep queued =
    let s = state_of old.book.entries in
    let log = new.book.outbound in
    let same : q.added ≡ added = append_cancel_left old.book.entries q.added added (sym q.entries_are ∙ are) in
    sym (items_placed c log s added bound keep)
    ∙ ap (λ es. items_from c log s es) (sym same)
    ∙ append_cancel_left old.outgoing.unmade (items_behind_entries c log old.book.entries q.added) items (ap (λ (out : Outgoing). out.unmade) (sym q.queued ∙ queued))

abbrev IsAt : List (List OutEntry) → ℕ → WireItem → Type 0
IsAt log at item = item_moment log item ≡ at

answer_at : (log later : List (List OutEntry)) (series at : ℕ) (item : WireItem) → IsAnswer log series at item → IsAt later at item
answer_at log later series at (New k n) is = absurd is
answer_at log later series at (Again k n moment) is = is.1
answer_at log later series at (GapFill k n to moment) is = is.1

answers_at : (log later : List (List OutEntry)) (series at : ℕ) (items : List WireItem) → All (IsAnswer log series at) items → All (IsAt later at) items
answers_at log later series at [] are = All-nil _
answers_at log later series at (item ∷ items) are =
    All-cons (IsAt later at) item items (answer_at log later series at item (All-head (IsAnswer log series at) item items are)) (answers_at log later series at items (All-tail (IsAnswer log series at) item items are))

-- the moment of the last sending is that of the event where something was queued
sending_sent : (at : ℕ) (items : List WireItem) (machine : State) → ((after_sending at items machine).sent ≡ at) ⊎ (((after_sending at items machine).sent ≡ machine.sent) × (items ≡ []))
sending_sent at [] machine = inr (refl, refl)
sending_sent at (item ∷ items) machine = inl refl

pub news_sent : (at : ℕ) (items : List WireItem) (machine : State) → ((after_sending at items machine).sent ≡ at) ⊎ (((after_sending at items machine).sent ≡ machine.sent) × (items ≡ []))
news_sent at items machine = sending_sent at items machine

act_sent : (at : ℕ) (act : Act) (desk : Desk) → ((after_act at act desk).book.machine.sent ≡ at) ⊎ (((after_act at act desk).book.machine.sent ≡ desk.book.machine.sent) × (act_items at act desk ≡ []))
act_sent at (Accept body) desk = inr (refl, refl)
act_sent at (SendAct admin) desk = inl refl
act_sent at (Resend begin last) desk = sending_sent at (plan_items at begin last desk.book) desk.book.machine
act_sent at Restart desk = inr (refl, refl)

then_sent : (at first mid last : ℕ) (xs ys : List WireItem) → (mid ≡ at) ⊎ ((mid ≡ first) × (xs ≡ [])) → (last ≡ at) ⊎ ((last ≡ mid) × (ys ≡ [])) → (last ≡ at) ⊎ ((last ≡ first) × (xs ++ ys ≡ []))
then_sent at first mid last xs ys a (inl is) = inl is
then_sent at first mid last xs ys (inl is) (inr b) = inl (b.0 ∙ is)
then_sent at first mid last xs ys (inr a) (inr b) = inr (b.0 ∙ a.0, ap (λ l. l ++ ys) a.1 ∙ b.1)

pub acts_sent : (at : ℕ) (acts : List Act) (desk : Desk) → ((after_acts at acts desk).book.machine.sent ≡ at) ⊎ (((after_acts at acts desk).book.machine.sent ≡ desk.book.machine.sent) × (acts_items at acts desk ≡ []))
acts_sent at [] desk = inr (refl, refl)
acts_sent at (act ∷ acts) desk =
    let next = after_act at act desk in
    then_sent at desk.book.machine.sent next.book.machine.sent (after_acts at acts next).book.machine.sent (act_items at act desk) (acts_items at acts next) (act_sent at act desk) (acts_sent at acts next)

sent_either : (b : Bool) (m n : ℕ) → ((if b then m else n) ≡ n) ⊎ ((if b then m else n) ≡ m)
sent_either true m n = inr refl
sent_either false m n = inl refl

heard_by : (b : Bool) (state t : State) (m : ℕ) → (t.sent ≡ state.sent) ⊎ (t.sent ≡ m) → ((if b then t else state).sent ≡ state.sent) ⊎ ((if b then t else state).sent ≡ m)
heard_by true state t m is = is
heard_by false state t m is = inl refl

-- a message sets it to its own moment, or leaves it
pub heard_sent : (state : State) (body : List ℕ) (m : ℕ) → ((after_receive state body m).sent ≡ state.sent) ⊎ ((after_receive state body m).sent ≡ m)
heard_sent state body m = heard_by (outcome state body).heard state _ m (sent_either (list_any is_send (outcome state body).effects.acts) m state.sent)

module _ (r : RunGrounds) where
  act_grows : (at : ℕ) (act : Act) (desk : Desk) → GoesOn desk.book.outbound (after_act at act desk).book.outbound
  act_grows at (Accept body) desk = r.logs.itself desk.book.outbound
  act_grows at (SendAct admin) desk = r.logs.entry desk.book.outbound (admin_entry at admin desk.book)
  act_grows at (Resend begin last) desk = r.logs.itself desk.book.outbound
  act_grows at Restart desk = r.logs.series desk.book.outbound

  acts_grow : (at : ℕ) (acts : List Act) (desk : Desk) → GoesOn desk.book.outbound (after_acts at acts desk).book.outbound
  acts_grow at [] desk = r.logs.itself desk.book.outbound
  acts_grow at (act ∷ acts) desk =
      let next = after_act at act desk in
      r.logs.further desk.book.outbound next.book.outbound (after_acts at acts next).book.outbound (act_grows at act desk) (acts_grow at acts next)

  -- the entry that was pushed has its moment in every later log
  pushed_at : (log later : List (List OutEntry)) (entry : OutEntry) → 1 ≤ length log → GoesOn (with_entry log entry) later → item_moment later (New (length log) (length (series_at log (length log)) + 1)) ≡ entry.at
  pushed_at log later entry h on =
      let k = length log in
      let n = length (series_at log k) + 1 in
      let found = named log entry h in
      ap (λ (o : Option OutEntry). (unwrap_or o no_entry).at) (r.stay (with_entry log entry) later k n on (ap (λ (o : Option OutEntry). is_some o) found) ∙ found)

  act_at : PlansAnswer → (at : ℕ) (act : Act) (desk : Desk) (later : List (List OutEntry)) → LogsAgree desk.book → GoesOn (after_act at act desk).book.outbound later → All (IsAt later at) (act_items at act desk)
  act_at answers at (Accept body) desk later is on = All-nil _
  act_at answers at (SendAct admin) desk later is on = All-cons (IsAt later at) _ [] (pushed_at desk.book.outbound later (admin_entry at admin desk.book) is.begun on) (All-nil _)
  act_at answers at (Resend begin last) desk later is on =
      answers_at desk.book.outbound later (present_series desk.book) at (plan_items at begin last desk.book) (answers desk.book.outbound (present_series desk.book) begin last at)
  act_at answers at Restart desk later is on = All-nil _

  -- the items of acts have the moment of the event
  pub acts_at : PlansAnswer → (at : ℕ) (acts : List Act) (desk : Desk) (later : List (List OutEntry)) → LogsAgree desk.book → GoesOn (after_acts at acts desk).book.outbound later → All (IsAt later at) (acts_items at acts desk)
  acts_at answers at [] desk later is on = All-nil _
  acts_at answers at (act ∷ acts) desk later is on =
      let next = after_act at act desk in
      All-append (IsAt later at) (act_items at act desk) (acts_items at acts next)
      (act_at answers at act desk later is (r.logs.further next.book.outbound (after_acts at acts next).book.outbound later (acts_grow at acts next) on))
      (acts_at answers at acts next later (agree_after r.logs at act desk.book desk.outgoing is) on)

  -- and so do those of sends
  pub sends_at : (at : ℕ) (bodies : List (List ℕ)) (book : Book) (later : List (List OutEntry)) → LogsAgree book → GoesOn (with_sends at bodies book.outbound) later
      → All (IsAt later at) (new_items (length book.outbound) (length (series_at book.outbound (length book.outbound)) + 1) (length bodies))
  sends_at at [] book later is on = All-nil _
  sends_at at (body ∷ bodies) book later is on =
      let log = book.outbound in
      let entry = sent_entry at body in
      let log_next = with_entry log entry in
      let number = length (series_at log (length log)) + 1 in
      let next : Book = record book { entries = entries_after_send book.entries; outbound = log_next } in
      let rest = sends_at at bodies next later (agree_sent r.logs at body book is) on in
      let same : new_items (length log_next) (length (series_at log_next (length log_next)) + 1) (length bodies) ≡ new_items (length log) (number + 1) (length bodies) =
      ap (λ k. new_items k (length (series_at log_next (length log_next)) + 1) (length bodies)) (length_behind r.logs at body book is)
      ∙ ap (λ n. new_items (length log) n (length bodies)) (number_behind r.logs at body book is) in
      All-cons (IsAt later at) (New (length log) number) (new_items (length log) (number + 1) (length bodies))
      (pushed_at log later entry is.begun (r.logs.further log_next (with_sends at bodies log_next) later (sends_go_on r.logs at bodies log_next) on))
      (subst (All (IsAt later at)) same rest)

  beat_logged : (a b : Bool) → a || b ≡ false → a ≡ false
  beat_logged true b e = e
  beat_logged false b e = refl

  act_no_beat : (inbound : List (List ℕ)) (log : List (List OutEntry)) (s : Totals) (act : Act) (e : Entry) → TellsAct inbound log s act e → is_tick_act act ≡ false → is_beat_by log s e ≡ false
  act_no_beat inbound log s (Accept body) e is fails = ap (is_beat_by log s) is.1.0
  act_no_beat inbound log s (SendAct message) e is fails =
      ap (is_beat_by log s) is.1.0
      ∙ beat_logged (pointwise nat_eq (logged_body log (series_of s) is.0) (tagged_text (codes "35") (codes "0"))) (pointwise nat_eq (take 5 (logged_body log (series_of s) is.0)) (tagged_text (codes "35") (codes "1")))
      (ap is_tick_text (body_logged log (series_of s) is.0 message is.1.1) ∙ r.texts.tick message is.0 ∙ fails)
  act_no_beat inbound log s (Resend begin last) e is fails = ap (is_beat_by log s) is.1
  act_no_beat inbound log s Restart e is fails = ap (is_beat_by log s) is.1

  pub acts_no_beats : (inbound : List (List ℕ)) (log : List (List OutEntry)) (s : Totals) (acts : List Act) (es : List Entry) → TellActs inbound log s acts es → All (λ act. is_tick_act act ≡ false) acts → All (NoBeat log) (placed_from s es)
  acts_no_beats inbound log s [] [] is fails = All-nil _
  acts_no_beats inbound log s [] (e ∷ es) is fails = absurd is
  acts_no_beats inbound log s (act ∷ acts) [] is fails = absurd is
  acts_no_beats inbound log s (act ∷ acts) (e ∷ es) is fails =
      All-cons (NoBeat log) (placed s e) (placed_from (state_after s e) es) (act_no_beat inbound log s act e is.0 (All-head (λ a. is_tick_act a ≡ false) act acts fails))
      (acts_no_beats inbound log (state_after s e) acts es is.1 (All-tail (λ a. is_tick_act a ≡ false) act acts fails))

  test_no_beat : (number : ℕ) → pointwise nat_eq (admin_text TestRequest number) (tagged_text (codes "35") (codes "0")) ≡ false
  unfolding test_request_text
  test_no_beat number = refl

  -- a TestRequest is no Heartbeat
  pub tests_no_beats : (inbound : List (List ℕ)) (log : List (List OutEntry)) (s : Totals) (es : List Entry) → TellActs inbound log s (SendAct TestRequest ∷ []) es → All (NoBeat log) (placed_from s es)
  tests_no_beats inbound log s [] is = absurd is
  tests_no_beats inbound log s (e ∷ (f ∷ es)) is = absurd is.1
  tests_no_beats inbound log s (e ∷ []) is =
      let told = is.0 in
      All-cons (NoBeat log) (placed s e) []
      (ap (is_beat_by log s) told.1.0
      ∙ ap (λ body. pointwise nat_eq body (tagged_text (codes "35") (codes "0"))) (body_logged log (series_of s) told.0 TestRequest told.1.1)
      ∙ test_no_beat told.0)
      (All-nil _)

-- items of that moment, all of which come so long behind the earlier ones
each_behind : (log : List (List OutEntry)) (wait at : ℕ) (earlier items : List WireItem) → AreEarlier log wait at earlier → All (IsAt log at) items → All (λ item. AreEarlier log wait (item_moment log item) earlier) items
each_behind log wait at earlier [] are all = All-nil _
each_behind log wait at earlier (item ∷ items) are all =
    All-cons (λ i. AreEarlier log wait (item_moment log i) earlier) item items (subst (λ m. AreEarlier log wait m earlier) (sym (All-head (IsAt log at) item items all)) are)
    (each_behind log wait at earlier items are (All-tail (IsAt log at) item items all))

-- one entry whose items were made so long behind the earlier ones
pub beats_one : (log : List (List OutEntry)) (wait at : ℕ) (earlier : List WireItem) (s : Totals) (es : List Entry) → length es ≤ 1 → AreEarlier log wait at earlier → All (IsAt log at) (flat_map (items_at log) (placed_from s es))
    → BeatsBehind log wait earlier (placed_from s es)
beats_one log wait at earlier s [] few are all = tt
beats_one log wait at earlier s (e ∷ []) few are all = (λ beat. each_behind log wait at earlier (items_at log (placed s e)) are (subst (All (IsAt log at)) (append-nil (items_at log (placed s e))) all), tt)
beats_one log wait at earlier s (e ∷ (f ∷ es)) few are all = absurd (omega arith)

-- one entry for each act
pub as_many : (inbound : List (List ℕ)) (log : List (List OutEntry)) (s : Totals) (acts : List Act) (es : List Entry) → TellActs inbound log s acts es → length es ≡ length acts
as_many inbound log s [] [] is = refl
as_many inbound log s [] (e ∷ es) is = absurd is
as_many inbound log s (act ∷ acts) [] is = absurd is
as_many inbound log s (act ∷ acts) (e ∷ es) is = ap suc (as_many inbound log (state_after s e) acts es is.1)
