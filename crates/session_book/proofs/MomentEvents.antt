-- Each event of a session goes on with its run up to the event's moment.
use Rattle.std.proofs.Common.{◌≡◌, ◌≢◌, ℕ, ◌+◌, ◌*◌, ◌≤◌, ◌⊎◌, inl, inr, List, [], ◌∷◌, ◌++◌, length, Option, None, Some, is_some, false, refl, sym, ap, subst, ◌∙◌, append_assoc, arith}
use Rattle.std.specs.List.{All, flat_map}
use Rattle.std.proofs.lemmas.Bool.{false≢true}
use Rattle.std.proofs.lemmas.List.{append-nil, append_cancel_left}
use Rattle.std.proofs.lemmas.List.Elements.{All-nil}
use Rattle.connection_core.specs.Outgoing.{with_items}
use Rattle.lease_core.specs.State.{State as Totals, lease_of, state_after, state_of}
use Rattle.lease_core.specs.Steps.{entry_with, reply_to}
use Rattle.lease_core.specs.declared.entry.Entry.{Entry}
use Rattle.lease_core.specs.declared.entry.Entry.TheVariants.{Bind, Lapse}
use Rattle.lease_core.specs.declared.event.Event.TheVariants.{Binds}
use Rattle.lease_core.specs.declared.word.Word.{Word}
use Rattle.message_log.specs.Growth.{GoesOn}
use Rattle.message_log.specs.Series.{series_at}
use Rattle.message_log.specs.declared.entry.OutEntry.{OutEntry}
use Rattle.resend_plan.specs.Wire.{NamesEntry}
use Rattle.resend_plan.specs.declared.item.WireItem.{WireItem}
use Rattle.session_core.specs.Ask.{after_ask, after_logon, ask}
use Rattle.session_core.specs.Laws.{AsksOneAct}
use Rattle.session_core.specs.Receive.{after_receive, receive}
use Rattle.session_core.specs.Runs.{SameButMoments, after_connections, behind_all}
use Rattle.session_core.specs.State.{IsState, State, heart_in}
use Rattle.session_core.specs.Tasks.{is_tick_act}
use Rattle.session_core.specs.Tick.{after_tick, tick}
use Rattle.session_core.specs.declared.acts.Act.{Act}
use Rattle.session_core.specs.declared.phases.Phase.TheVariants.{Off}
use Rattle.session_book.specs.Acts.{after_acts, after_binding, after_dial, after_end, after_lapse, after_message, after_request, after_ticking}
use Rattle.session_book.specs.Book.{Book, Desk, with_event, with_machine, with_outbox}
use Rattle.session_book.specs.Items.{HasWhatWasSent, QueuesWhatIsTold, items_behind_entries, items_from}
use Rattle.session_book.specs.Kept.{IsBook}
use Rattle.session_book.specs.Moments.{AreEarlier, BeatsBehind, IsTimedRun, TimedRuns, item_moment, wait_of}
use Rattle.session_book.specs.Runs.{Handled, IsRunOver, IsWithin, StandsBehind, bodies_of, handled_of, with_body}
use Rattle.session_book.specs.Spells.{items_at, placed_from, spells_behind}
use Rattle.session_book.specs.Told.{TellActs}
use Rattle.session_book.specs.Words.{after_timeout, after_word, new_items, send_items, shown_sends, where_bound, with_news}
use Rattle.session_book.specs.Grounds.{RunGrounds}
use Rattle.session_book.proofs.Carried.{bound_with, carried_with}
use Rattle.session_book.proofs.LeaseEntries.{AddsLeases, adds_one, adds_shown, adds_timed, leases_keep, leases_no_beats, reply_is_lease, sends_go_on}
use Rattle.session_book.proofs.MomentActs.{PlansAnswer, acts_at, acts_items, acts_no_beats, acts_queue, acts_sent, as_many, beats_one, heard_sent, items_are, news_sent, sends_at, tests_no_beats}
use Rattle.session_book.proofs.Moments.{beatless, earlier_by, made_at}
use Rattle.session_book.proofs.MomentRuns.{Batch, batch_on, ending_on, opening_on, unbound_on}
use Rattle.session_book.proofs.Runs.{Makes, acts_keep}
use Rattle.session_book.proofs.RunEvents.{ask_no_tick, binding_run, dial_run, first_run, lapse_run, leave_run, makes_of, message_run, request_run, tick_run, timeout_run, word_run}
use Rattle.session_book.proofs.Spells.{Keeps, changed_last}
use Rattle.session_book.proofs.Telling.{LogsAgree, acts_tell, lapse_tells, request_tells, timeout_tells, with_nothing, word_tells}
use Rattle.session_book.proofs.TextRuns.{items_placed, sent_placed}

-- a moment that is one of two
within_both : (sent old at new : ℕ) → old ≤ at → (sent ≡ old) ⊎ (sent ≡ at) → (new ≡ at) ⊎ (new ≡ sent) → (old ≤ new) × (new ≤ at)
within_both sent old at new order (inl a) (inl b) = (omega arith, omega arith)
within_both sent old at new order (inl a) (inr b) = (omega arith, omega arith)
within_both sent old at new order (inr a) (inl b) = (omega arith, omega arith)
within_both sent old at new order (inr a) (inr b) = (omega arith, omega arith)

weaker : (new sent at : ℕ) (items : List WireItem) → (new ≡ at) ⊎ ((new ≡ sent) × (items ≡ [])) → (new ≡ at) ⊎ (new ≡ sent)
weaker new sent at items (inl is) = inl is
weaker new sent at items (inr is) = inr is.0

-- what was queued at a moment was made up to the last sending
made_up_to : (log : List (List OutEntry)) (new sent at : ℕ) (items : List WireItem) → (new ≡ at) ⊎ ((new ≡ sent) × (items ≡ [])) → All (λ item. item_moment log item ≡ at) items → AreEarlier log 0 new items
made_up_to log new sent at items (inl is) all = made_at log at new items (omega arith) all
made_up_to log new sent at items (inr is) all = subst (λ found. AreEarlier log 0 new found) (sym is.1) (All-nil _)

ask_sent : (machine : State) (at : ℕ) (dials : Option ℕ) → ((after_logon machine at dials).sent ≡ machine.sent) ⊎ ((after_logon machine at dials).sent ≡ at)
ask_sent machine at None = inl refl
ask_sent machine at (Some heart) = inr refl

-- a later moment
pub later_timed : (before : List Entry) (start : State) (handled : List Handled) (moment at : ℕ) (book : Book) → moment ≤ at → IsTimedRun before start handled moment book → IsTimedRun before start handled at book
later_timed before start handled moment at book order tr = record { run = tr.run; timed = tr.timed; last = tr.last; up_to = (let most = tr.up_to in omega arith) }

-- the beginning of a run
pub first_timed : (book : Book) (at : ℕ) → (state_of book.entries).bound ≡ None → book.machine.sent ≤ at → ((s : State) → SameButMoments s s) → IsTimedRun book.entries book.machine [] at book
first_timed book at none up_to same =
    let run = first_run book none same in
    let nothing : run.added ≡ [] = append_cancel_left book.entries run.added [] (sym run.entries_are ∙ sym (append-nil book.entries)) in
    record {
      run = run;
      timed = subst (λ added. TimedRuns book.outbound book.machine [] (spells_behind book.entries added)) (sym nothing) tt;
      last = λ some front spell e. absurd (false≢true (sym (ap (λ (b : Option ℕ). is_some b) none) ∙ some));
      up_to = up_to;
    }

agrees : (book : Book) → IsBook book → LogsAgree book
agrees book is = record { outbound = is.outbound; begun = is.begun }

beats_none : (log : List (List OutEntry)) (wait : ℕ) (earlier : List WireItem) (s : Totals) (es : List Entry) → length es ≡ 0 → BeatsBehind log wait earlier (placed_from s es)
beats_none log wait earlier s [] none = tt
beats_none log wait earlier s (e ∷ es) none = absurd (omega arith)

-- the HeartBtInt of a connection stays
abbrev pub HeartStays : Type 0
HeartStays = (state : State) (body : List ℕ) (m : ℕ) → state.phase ≢ Off → heart_in (after_receive state body m).phase ≡ heart_in state.phase

module _ (r : RunGrounds) where
  -- entries that queue these items, all made at the moment
  batch_by : (c wait at sent : ℕ) (old new : Desk) (added : List Entry) (items : List WireItem) → QueuesWhatIsTold c old new → new.book.entries ≡ old.book.entries ++ added → (state_of old.book.entries).bound ≡ Some c → All Keeps added
      → new.outgoing ≡ with_items items old.outgoing → All (λ item. item_moment new.book.outbound item ≡ at) items
      → sent ≤ at → (old.book.machine.sent ≡ sent) ⊎ (old.book.machine.sent ≡ at)
      → (new.book.machine.sent ≡ at) ⊎ ((new.book.machine.sent ≡ old.book.machine.sent) × (items ≡ []))
      → ((earlier : List WireItem) → AreEarlier new.book.outbound 0 sent earlier → BeatsBehind new.book.outbound wait earlier (placed_from (state_of old.book.entries) added))
      → Batch new.book.outbound wait at sent new.book.machine.sent (state_of old.book.entries) added
  batch_by c wait at sent old new added items q are bound keep queued all order heard sents beats =
      let s = state_of old.book.entries in
      let log = new.book.outbound in
      let same : q.added ≡ added = append_cancel_left old.book.entries q.added added (sym q.entries_are ∙ are) in
      let told : items_behind_entries c log old.book.entries q.added ≡ flat_map (items_at log) (placed_from s added) = ap (λ es. items_from c log s es) same ∙ items_placed c log s added bound keep in
      let items_is = items_are c old new added items q are bound keep queued in
      let both = within_both old.book.machine.sent sent at new.book.machine.sent order heard (weaker new.book.machine.sent old.book.machine.sent at items sents) in
      record {
        sent = sent_placed log s added (subst (λ es. HasWhatWasSent log s es) same q.sent);
        named = subst (All (NamesEntry log)) told q.named;
        made = subst (λ found. AreEarlier log 0 new.book.machine.sent found) (sym items_is) (made_up_to log new.book.machine.sent old.book.machine.sent at items sents all);
        later = both.0;
        up_to = both.1;
        beats = beats;
      }

  -- the acts of an event
  acts_batch : PlansAnswer → (c wait at sent : ℕ) (acts : List Act) (machine : State) (desk : Desk) (added : List Entry) → LogsAgree desk.book → (state_of desk.book.entries).bound ≡ Some c
      → let new = after_acts at acts (with_outbox (with_machine machine desk.book) desk.outgoing) in
      new.book.entries ≡ desk.book.entries ++ added → All Keeps added → sent ≤ at → (machine.sent ≡ sent) ⊎ (machine.sent ≡ at)
      → ((earlier : List WireItem) → AreEarlier new.book.outbound 0 sent earlier → BeatsBehind new.book.outbound wait earlier (placed_from (state_of desk.book.entries) added))
      → Batch new.book.outbound wait at sent new.book.machine.sent (state_of desk.book.entries) added
  acts_batch answers c wait at sent acts machine desk added is bound are keep order heard beats =
      let machined = with_outbox (with_machine machine desk.book) desk.outgoing in
      let new = after_acts at acts machined in
      let agree : LogsAgree machined.book = record { outbound = is.outbound; begun = is.begun } in
      batch_by c wait at sent machined new added (acts_items at acts machined) (acts_tell r.logs c at acts machined agree bound) are bound keep (acts_queue at acts machined)
      (acts_at r answers at acts machined new.book.outbound agree (r.logs.itself new.book.outbound)) order heard (acts_sent at acts machined) beats

  module _ (heart : HeartStays) (answers : PlansAnswer) (before : List Entry) (start : State) (handled : List Handled) (moment : ℕ) where
    stood_within : (c : ℕ) (book : Book) → (state_of book.entries).bound ≡ Some c → IsTimedRun before start handled moment book → IsWithin start handled c book.machine
    stood_within c book bound tr = subst (λ b. StandsBehind b start handled book.machine) bound tr.run.machine

    pub message_timed : (c at : ℕ) (body : List ℕ) (desk : Desk) → IsBook desk.book → IsState desk.book.machine → (state_of desk.book.entries).bound ≡ Some c → desk.book.machine.phase ≢ Off → moment ≤ at
        → IsTimedRun before start handled moment desk.book → IsTimedRun before start (with_body body handled) at (after_message at body desk).book
    message_timed c at body desk is lawful bound phase order tr =
        let old = desk.book in
        let machine = old.machine in
        let stood = stood_within c old bound tr in
        let m = after_connections start (bodies_of stood.past) in
        let last = behind_all (after_ask m 0) stood.bodies in
        let later = stood.bodies ++ body ∷ [] in
        let acts = (receive machine body at).acts in
        let heard = after_receive machine body at in
        let told = carried_with r.logs r.stay at acts heard desk is in
        let new = (after_message at body desk).book in
        let wait = wait_of m (handled_of c stood.bodies) in
        let keep = acts_keep new.inbound new.outbound (state_of old.entries) acts told.added told.told in
        let none = acts_no_beats r new.inbound new.outbound (state_of old.entries) acts told.added told.told (r.acts machine body at lawful).no_tick in
        let most = tr.up_to in
        let batch = acts_batch answers c wait at machine.sent acts heard desk told.added (agrees old is) bound told.entries_are keep (omega arith) (heard_sent machine body at)
        (λ earlier are. beatless new.outbound wait earlier (placed_from (state_of old.entries) told.added) none) in
        let wait_same : wait_of m (handled_of c later) ≡ wait =
        ap (λ found. 1000 * heart_in found.phase) (r.parts.behind (after_ask m 0) stood.bodies (body ∷ []))
        ∙ ap (λ n. 1000 * n) (heart last body 0 (λ off. phase (stood.same.phase ∙ off))) in
        let handled_is : with_body body handled ≡ stood.past ++ handled_of c later ∷ [] =
        ap (with_body body) stood.are ∙ changed_last (λ (h : Handled). record h { bodies = h.bodies ++ body ∷ [] }) stood.past (handled_of c stood.bodies) in
        subst (λ hs. IsTimedRun before start hs at new) (sym handled_is)
        (batch_on r before start stood.past c stood.bodies later moment at old new told.added
        (subst (λ hs. IsTimedRun before start hs moment old) stood.are tr) bound (makes_of r acts desk (after_message at body desk) told) keep
        (subst (λ hs. IsRunOver before start hs new) handled_is (message_run r before start handled c at body desk is lawful bound tr.run))
        wait_same batch)

    -- what handles no message of a bound connection
    within_timed : (c at : ℕ) (old new : Book) (added : List Entry) → (state_of old.entries).bound ≡ Some c → IsTimedRun before start handled moment old → Makes r old new added → All Keeps added → IsRunOver before start handled new
        → ((wait : ℕ) → 1000 * heart_in old.machine.phase ≡ wait → Batch new.outbound wait at old.machine.sent new.machine.sent (state_of old.entries) added)
        → IsTimedRun before start handled at new
    within_timed c at old new added bound tr makes keep run batch =
        let stood = stood_within c old bound tr in
        let m = after_connections start (bodies_of stood.past) in
        subst (λ hs. IsTimedRun before start hs at new) (sym stood.are)
        (batch_on r before start stood.past c stood.bodies stood.bodies moment at old new added
        (subst (λ hs. IsTimedRun before start hs moment old) stood.are tr) bound makes keep
        (subst (λ hs. IsRunOver before start hs new) stood.are run) refl
        (batch (wait_of m (handled_of c stood.bodies)) (ap (λ p. 1000 * heart_in p) stood.same.phase)))

    tick_beats : (at wait : ℕ) (desk : Desk) (acts : List Act) (inbound : List (List ℕ)) (log : List (List OutEntry)) (added : List Entry) → 1000 * heart_in desk.book.machine.phase ≡ wait
        → AsksOneAct desk.book.machine (heart_in desk.book.machine.phase) at acts → TellActs inbound log (state_of desk.book.entries) acts added
        → All (λ item. item_moment log item ≡ at) (flat_map (items_at log) (placed_from (state_of desk.book.entries) added))
        → (earlier : List WireItem) → AreEarlier log 0 desk.book.machine.sent earlier → BeatsBehind log wait earlier (placed_from (state_of desk.book.entries) added)
    tick_beats at wait desk acts inbound log added wait_is (inl none) told all earlier are =
        let s = state_of desk.book.entries in
        let few = as_many inbound log s acts added told ∙ ap length none in
        beats_none log wait earlier s added few
    tick_beats at wait desk acts inbound log added wait_is (inr (inl test)) told all earlier are =
        let s = state_of desk.book.entries in
        beatless log wait earlier (placed_from s added) (tests_no_beats r inbound log s added (subst (λ found. TellActs inbound log s found added) test told))
    tick_beats at wait desk acts inbound log added wait_is (inr (inr beat)) told all earlier are =
        let s = state_of desk.book.entries in
        let few = as_many inbound log s acts added told ∙ ap length beat.0 in
        let long : desk.book.machine.sent + wait ≤ at = subst (λ w. desk.book.machine.sent + w ≤ at) wait_is beat.1 in
        beats_one log wait at earlier s added (omega arith) (earlier_by log desk.book.machine.sent wait at earlier long are) all

    tick_by : (at : ℕ) (desk : Desk) (b : Option ℕ) → (state_of desk.book.entries).bound ≡ b → IsBook desk.book → moment ≤ at → IsTimedRun before start handled moment desk.book
        → IsTimedRun before start handled at (after_ticking at desk).book
    tick_by at desk None none is order tr =
        let old = desk.book in
        let machine = old.machine in
        let acts = (tick machine at).acts in
        let ticked = after_tick machine at in
        let told = carried_with r.logs r.stay at acts ticked desk is in
        let new = (after_ticking at desk).book in
        let machined = with_outbox (with_machine ticked old) desk.outgoing in
        let most = tr.up_to in
        let both = within_both ticked.sent machine.sent at new.machine.sent (omega arith) (r.ticks.sent machine at) (weaker new.machine.sent ticked.sent at (acts_items at acts machined) (acts_sent at acts machined)) in
        unbound_on r before start handled moment at old new told.added tr none (makes_of r acts desk (after_ticking at desk) told)
        (acts_keep new.inbound new.outbound (state_of old.entries) acts told.added told.told)
        (tick_run r before start handled at desk is tr.run) both.1
    tick_by at desk (Some c) bound is order tr =
        let old = desk.book in
        let machine = old.machine in
        let s = state_of old.entries in
        let acts = (tick machine at).acts in
        let ticked = after_tick machine at in
        let told = carried_with r.logs r.stay at acts ticked desk is in
        let new = (after_ticking at desk).book in
        let machined = with_outbox (with_machine ticked old) desk.outgoing in
        let agree : LogsAgree machined.book = record { outbound = is.outbound; begun = is.begun } in
        let keep = acts_keep new.inbound new.outbound s acts told.added told.told in
        let items = acts_items at acts machined in
        let all = acts_at r answers at acts machined new.outbound agree (r.logs.itself new.outbound) in
        let items_is = items_are c machined (after_ticking at desk) told.added items (acts_tell r.logs c at acts machined agree bound) told.entries_are bound keep (acts_queue at acts machined) in
        let most = tr.up_to in
        within_timed c at old new told.added bound tr (makes_of r acts desk (after_ticking at desk) told) keep (tick_run r before start handled at desk is tr.run)
        (λ wait wait_is. acts_batch answers c wait at machine.sent acts ticked desk told.added (agrees old is) bound told.entries_are keep (omega arith) (r.ticks.sent machine at)
        (tick_beats at wait desk acts new.inbound new.outbound told.added wait_is (r.ticks.one machine at) told.told
        (subst (All (λ item. item_moment new.outbound item ≡ at)) (sym items_is) all)))

    pub tick_timed : (at : ℕ) (desk : Desk) → IsBook desk.book → moment ≤ at → IsTimedRun before start handled moment desk.book → IsTimedRun before start handled at (after_ticking at desk).book
    tick_timed at desk is order tr = tick_by at desk (state_of desk.book.entries).bound refl is order tr

    -- the session is bound
    opened_timed : (c at : ℕ) (bodies : List (List ℕ)) (acts : List Act) (machine : State) (desk : Desk) → IsBook desk.book → moment ≤ at → IsTimedRun before start handled moment desk.book
        → All (λ act. is_tick_act act ≡ false) acts → (machine.sent ≡ desk.book.machine.sent) ⊎ (machine.sent ≡ at)
        → let new = after_acts at acts (with_outbox (with_machine machine (with_event (Binds c) desk.book)) desk.outgoing) in
        IsRunOver before start (handled ++ handled_of c bodies ∷ []) new.book
        → IsTimedRun before start (handled ++ handled_of c bodies ∷ []) at new.book
    opened_timed c at bodies acts machine desk is order tr quiet heard run =
        let old = desk.book in
        let s = state_of old.entries in
        let bdesk = with_outbox (with_event (Binds c) old) desk.outgoing in
        let new = after_acts at acts (with_outbox (with_machine machine (with_event (Binds c) old)) desk.outgoing) in
        let told = bound_with r.logs r.stay c at acts machine desk is in
        let after : state_of bdesk.book.entries ≡ state_after s (Bind c) = r.logs.decide old.entries (Bind c) in
        let wait = wait_of (after_connections start (bodies_of handled)) (handled_of c bodies) in
        let log = new.book.outbound in
        let keep = acts_keep new.book.inbound log (state_of bdesk.book.entries) acts told.added told.told in
        let none = acts_no_beats r new.book.inbound log (state_of bdesk.book.entries) acts told.added told.told quiet in
        let agree : LogsAgree bdesk.book = record { outbound = is.outbound ∙ sym (ap (λ t. t.series) after); begun = is.begun } in
        let most = tr.up_to in
        let batch = acts_batch answers c wait at old.machine.sent acts machine bdesk told.added agree (ap (λ t. t.bound) after) told.entries_are keep (omega arith) heard
        (λ earlier are. beatless log wait earlier (placed_from (state_of bdesk.book.entries) told.added) none) in
        opening_on r before start handled c bodies moment at old new.book told.added tr
        (record { entries_are = told.entries_are ∙ append_assoc old.entries (Bind c ∷ []) told.added; more = told.more; inbound = told.inbound; outbound = told.outbound }) keep run
        (subst (λ t. Batch log wait at old.machine.sent new.book.machine.sent t told.added) after batch)

    pub binding_timed : (c at : ℕ) (body : List ℕ) (desk : Desk) → IsBook desk.book → IsState desk.book.machine → (state_of desk.book.entries).bound ≡ None → desk.book.machine.dials ≡ None → moment ≤ at
        → IsTimedRun before start handled moment desk.book → IsTimedRun before start (handled ++ handled_of c (body ∷ []) ∷ []) at (after_binding at c body desk).book
    binding_timed c at body desk is lawful none accepts order tr =
        let machine = desk.book.machine in
        opened_timed c at (body ∷ []) (receive machine body at).acts (after_receive machine body at) desk is order tr (r.acts machine body at lawful).no_tick (heard_sent machine body at)
        (binding_run r before start handled c at body desk is lawful none accepts tr.run)

    pub dial_timed : (c at : ℕ) (desk : Desk) → IsBook desk.book → (state_of desk.book.entries).bound ≡ None → moment ≤ at
        → IsTimedRun before start handled moment desk.book → IsTimedRun before start (handled ++ handled_of c [] ∷ []) at (after_dial at c desk).book
    dial_timed c at desk is none order tr =
        let machine = desk.book.machine in
        opened_timed c at [] (ask machine).acts (after_ask machine at) desk is order tr (ask_no_tick machine.dials) (ask_sent machine at machine.dials)
        (dial_run r before start handled c at desk is none tr.run)

    pub leave_timed : (c : ℕ) (book : Book) → (state_of book.entries).bound ≡ Some c → IsTimedRun before start handled moment book → IsTimedRun before start handled moment (after_end c book)
    leave_timed c book bound tr =
        ending_on r before start handled c moment moment book (after_end c book) tr
        (record { entries_are = refl; more = []; inbound = sym (append-nil book.inbound); outbound = r.logs.itself book.outbound })
        (leave_run r before start handled c book bound tr.run) tr.up_to

    -- what leases do, where sends may wait
    news_by : (at : ℕ) (entries : List Entry) (bodies : List (List ℕ)) (desk : Desk) (b : Option ℕ) → (state_of desk.book.entries).bound ≡ b → IsBook desk.book → moment ≤ at → IsTimedRun before start handled moment desk.book
        → (adds : AddsLeases desk.book.entries entries) → ((c : ℕ) → (state_of desk.book.entries).bound ≡ Some c → QueuesWhatIsTold c desk (with_news at entries bodies desk)) → IsRunOver before start handled (with_news at entries bodies desk).book
        → IsTimedRun before start handled at (with_news at entries bodies desk).book
    news_by at entries bodies desk None none is order tr adds q run =
        let old = desk.book in
        let new = (with_news at entries bodies desk).book in
        let most = tr.up_to in
        let both = within_both old.machine.sent old.machine.sent at new.machine.sent (omega arith) (inl refl) (weaker new.machine.sent old.machine.sent at (send_items bodies old) (news_sent at (send_items bodies old) old.machine)) in
        unbound_on r before start handled moment at old new adds.added tr none
        (record { entries_are = adds.are; more = []; inbound = sym (append-nil old.inbound); outbound = sends_go_on r.logs at bodies old.outbound })
        (leases_keep adds.added adds.leases) run both.1
    news_by at entries bodies desk (Some c) bound is order tr adds q run =
        let old = desk.book in
        let s = state_of old.entries in
        let new = with_news at entries bodies desk in
        let log = new.book.outbound in
        let items = send_items bodies old in
        let sends = new_items (length old.outbound) (length (series_at old.outbound (length old.outbound)) + 1) (length bodies) in
        let items_same : items ≡ sends = ap (λ (found : Option ℕ). where_bound found sends) bound in
        let all : All (λ item. item_moment log item ≡ at) items = subst (All (λ item. item_moment log item ≡ at)) (sym items_same) (sends_at r at bodies old log (agrees old is) (r.logs.itself log)) in
        let keep = leases_keep adds.added adds.leases in
        let most = tr.up_to in
        within_timed c at old new.book adds.added bound tr
        (record { entries_are = adds.are; more = []; inbound = sym (append-nil old.inbound); outbound = sends_go_on r.logs at bodies old.outbound }) keep run
        (λ wait wait_is. batch_by c wait at old.machine.sent desk new adds.added items (q c bound) adds.are bound keep refl all (omega arith) (inl refl) (news_sent at items old.machine)
        (λ earlier are. beatless log wait earlier (placed_from s adds.added) (leases_no_beats log s adds.added adds.leases)))

    pub word_timed : (at until : ℕ) (w : Word) (bodies : List (List ℕ)) (desk : Desk) → IsBook desk.book → length bodies ≡ shown_sends desk.book.entries w → moment ≤ at
        → IsTimedRun before start handled moment desk.book → IsTimedRun before start handled at (after_word at until w bodies desk).book
    word_timed at until w bodies desk is count order tr =
        news_by at _ bodies desk (state_of desk.book.entries).bound refl is order tr (adds_shown until desk.book.entries w)
        (λ c bound. word_tells r.logs c at until w bodies desk is bound count) (word_run r before start handled at until w bodies desk tr.run)

    pub timeout_timed : (at until : ℕ) (old : Word) (bodies : List (List ℕ)) (desk : Desk) → IsBook desk.book → length bodies ≡ shown_sends desk.book.entries old → moment ≤ at
        → IsTimedRun before start handled moment desk.book → IsTimedRun before start handled at (after_timeout at until old bodies desk).book
    timeout_timed at until old bodies desk is count order tr =
        news_by at _ bodies desk (state_of desk.book.entries).bound refl is order tr (adds_timed old.standing until desk.book.entries old)
        (λ c bound. timeout_tells r.logs c at until old bodies desk is bound count) (timeout_run r before start handled at until old bodies desk tr.run)

    -- a request, or a lapse
    still_by : (desk : Desk) (new : Book) (b : Option ℕ) → (state_of desk.book.entries).bound ≡ b → IsTimedRun before start handled moment desk.book → (adds : AddsLeases desk.book.entries new.entries)
        → new.inbound ≡ desk.book.inbound → new.outbound ≡ desk.book.outbound → new.machine ≡ desk.book.machine
        → ((c : ℕ) → QueuesWhatIsTold c desk (with_outbox new desk.outgoing)) → IsRunOver before start handled new → IsTimedRun before start handled moment new
    still_by desk new None none tr adds inbound outbound machine q run =
        let old = desk.book in
        unbound_on r before start handled moment moment old new adds.added tr none
        (record { entries_are = adds.are; more = []; inbound = inbound ∙ sym (append-nil old.inbound); outbound = subst (λ log. GoesOn old.outbound log) (sym outbound) (r.logs.itself old.outbound) })
        (leases_keep adds.added adds.leases) run (subst (λ m. m.sent ≤ moment) (sym machine) tr.up_to)
    still_by desk new (Some c) bound tr adds inbound outbound machine q run =
        let old = desk.book in
        let s = state_of old.entries in
        let keep = leases_keep adds.added adds.leases in
        within_timed c moment old new adds.added bound tr
        (record { entries_are = adds.are; more = []; inbound = inbound ∙ sym (append-nil old.inbound); outbound = subst (λ log. GoesOn old.outbound log) (sym outbound) (r.logs.itself old.outbound) }) keep run
        (λ wait wait_is. batch_by c wait moment old.machine.sent desk (with_outbox new desk.outgoing) adds.added [] (q c) adds.are bound keep (sym (with_nothing desk.outgoing)) (All-nil _) tr.up_to (inl refl)
        (inr (ap (λ m. m.sent) machine, refl))
        (λ earlier are. beatless new.outbound wait earlier (placed_from s adds.added) (leases_no_beats new.outbound s adds.added adds.leases)))

    pub request_timed : (library nr from : ℕ) (desk : Desk) → IsBook desk.book → IsTimedRun before start handled moment desk.book → IsTimedRun before start handled moment (after_request library nr from desk.book)
    request_timed library nr from desk is tr =
        let book = desk.book in
        still_by desk (after_request library nr from book) (state_of book.entries).bound refl tr
        (adds_one book.entries (entry_with library nr from (reply_to book.leases (state_of book.entries) library from)) (reply_is_lease library nr from _)) refl refl refl
        (λ c. request_tells r.logs c library nr from desk is) (request_run r before start handled library nr from book tr.run)

    pub lapse_timed : (desk : Desk) → IsBook desk.book → IsTimedRun before start handled moment desk.book → IsTimedRun before start handled moment (after_lapse desk.book)
    lapse_timed desk is tr =
        let book = desk.book in
        still_by desk (after_lapse book) (state_of book.entries).bound refl tr (adds_one book.entries (Lapse (lease_of (state_of book.entries))) refl) refl refl refl
        (λ c. lapse_tells r.logs c desk is) (lapse_run r before start handled book tr.run)
