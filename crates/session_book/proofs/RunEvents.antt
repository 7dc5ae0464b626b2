-- Each event of a session goes on with its run over its connections.
use Rattle.std.proofs.Common.{◌≡◌, ℕ, true, false, not, List, [], ◌∷◌, ◌++◌, Option, None, Some, inl, inr, refl, sym, ap, subst, ◌∙◌, append_assoc}
use Rattle.std.specs.List.{All, filter}
use Rattle.std.proofs.lemmas.Bool.{false≢true}
use Rattle.std.proofs.lemmas.List.{append-nil}
use Rattle.std.proofs.lemmas.List.Elements.{All-cons, All-head, All-nil, All-tail}
use Rattle.lease_core.specs.State.{State as Totals, lease_of, series_of, state_after, state_of}
use Rattle.lease_core.specs.Steps.{entry_with, reply_to}
use Rattle.lease_core.specs.declared.entry.Entry.{Entry}
use Rattle.lease_core.specs.declared.entry.Entry.TheVariants.{Bind, Lapse}
use Rattle.lease_core.specs.declared.event.Event.TheVariants.{Binds}
use Rattle.lease_core.specs.declared.word.Word.{Word}
use Rattle.message_log.specs.declared.entry.OutEntry.{OutEntry}
use Rattle.resend_plan.specs.declared.item.WireItem.{WireItem}
use Rattle.session_core.specs.Admin.{is_tick_text}
use Rattle.session_core.specs.Ask.{after_ask, after_logon, ask, logon_effects}
use Rattle.session_core.specs.Receive.{after_receive, receive}
use Rattle.session_core.specs.Runs.{SameButMoments, acts_on, after_connections, behind_all, connection_acts}
use Rattle.session_core.specs.State.{IsState, State, heart_in}
use Rattle.session_core.specs.Tasks.{is_tick_act}
use Rattle.session_core.specs.Laws.{AsksOneAct}
use Rattle.session_core.specs.Tick.{after_tick, tick}
use Rattle.session_core.specs.declared.acts.Act.{Act}
use Rattle.session_core.specs.declared.acts.Act.TheVariants.{Accept, Resend, Reset as Restart, Send as SendAct}
use Rattle.session_core.specs.declared.acts.Effects.{Effects}
use Rattle.session_book.specs.Acts.{IsBegun, after_act, after_acts, after_binding, after_dial, after_end, after_lapse, after_message, after_request, after_ticking, next_item, plan_items}
use Rattle.session_book.specs.Book.{Book, Desk, after_sending, with_event, with_machine, with_outbox}
use Rattle.session_book.specs.Kept.{IsBook}
use Rattle.session_book.specs.Runs.{Handled, IsInside, IsRunBegun, IsRunOver, IsWithin, StandsBehind, TellEach, bodies_of, handled_of, with_body}
use Rattle.session_book.specs.Spells.{is_act, is_act_of, placed, placed_from}
use Rattle.session_book.specs.Told.{CarriesOut, TellActs, TellsAct}
use Rattle.session_book.specs.Words.{after_timeout, after_word, send_items, with_news}
use Rattle.session_book.specs.Grounds.{RunGrounds}
use Rattle.session_book.proofs.Carried.{bound_with, carried_with}
use Rattle.session_book.proofs.LeaseEntries.{AddsLeases, adds_one, adds_shown, adds_timed, leases_keep, leases_no_acts, leases_outside, reply_is_lease, sends_go_on}
use Rattle.session_book.proofs.Runs.{Makes, acts_keep, begun_on, body_logged, closed_on, filter_no, opened_on, opening_begun, quiet_on, told_each, within_on}
use Rattle.session_book.proofs.Carrying.{no_tick_off}
use Rattle.session_book.proofs.Spells.{NoMachine, changed_last}

abbrev NoTick : Act → Type 0
NoTick act = is_tick_act act ≡ false

abbrev IsTick : Act → Type 0
IsTick act = is_tick_act act ≡ true

one_tick : (state : State) (heart m : ℕ) (acts : List Act) → AsksOneAct state heart m acts → All IsTick acts
one_tick state heart m acts (inl none) = subst (λ found. All IsTick found) (sym none) (All-nil IsTick)
one_tick state heart m acts (inr (inl test)) = subst (λ found. All IsTick found) (sym test) (All-cons IsTick _ [] refl (All-nil IsTick))
one_tick state heart m acts (inr (inr beat)) = subst (λ found. All IsTick found) (sym beat.0) (All-cons IsTick _ [] refl (All-nil IsTick))

pub ask_no_tick : (dials : Option ℕ) → All NoTick (logon_effects dials).acts
ask_no_tick None = All-nil NoTick
ask_no_tick (Some heart) = All-cons NoTick _ [] refl (All-nil NoTick)

-- the beginning of a run
pub first_run : (book : Book) → (state_of book.entries).bound ≡ None → ((s : State) → SameButMoments s s) → IsRunOver book.entries book.machine [] book
first_run book none same = record {
  added = [];
  entries_are = sym (append-nil book.entries);
  told = tt;
  inside = All-nil IsInside;
  machine = subst (λ b. StandsBehind b book.machine [] book.machine) (sym none) (same book.machine);
}

-- where no act is asked for no entry comes
nothing_told : (inbound : List (List ℕ)) (log : List (List OutEntry)) (s : Totals) (acts : List Act) (es : List Entry) → TellActs inbound log s acts es → acts ≡ [] → All NoMachine es
nothing_told inbound log s [] [] is none = All-nil NoMachine
nothing_told inbound log s [] (e ∷ es) is none = absurd is
nothing_told inbound log s (act ∷ acts) es is none = absurd (cc)

first_nothing : (first second : List Act) → first ++ second ≡ [] → first ≡ []
first_nothing [] second none = refl
first_nothing (act ∷ first) second none = absurd (cc)

module _ (r : RunGrounds) where
  sending_same : (at : ℕ) (items : List WireItem) (machine : State) → SameButMoments (after_sending at items machine) machine
  sending_same at [] machine = r.same.reflexive machine
  sending_same at (item ∷ items) machine = r.same.symmetric machine (record machine { sent = at }) (r.same.sent machine at)

  act_same : (at : ℕ) (act : Act) (desk : Desk) → SameButMoments (after_act at act desk).book.machine desk.book.machine
  act_same at (Accept body) desk = r.same.reflexive desk.book.machine
  act_same at (SendAct admin) desk = sending_same at (next_item desk.book) desk.book.machine
  act_same at (Resend begin last) desk = sending_same at (plan_items at begin last desk.book) desk.book.machine
  act_same at Restart desk = r.same.reflexive desk.book.machine

  -- carrying out acts changes moments of the machine alone
  acts_same : (at : ℕ) (acts : List Act) (desk : Desk) → SameButMoments (after_acts at acts desk).book.machine desk.book.machine
  acts_same at [] desk = r.same.reflexive desk.book.machine
  acts_same at (act ∷ acts) desk =
      let next = after_act at act desk in
      r.same.transitive (after_acts at acts next).book.machine next.book.machine desk.book.machine (acts_same at acts next) (act_same at act desk)

  pub makes_of : (acts : List Act) (old new : Desk) (told : CarriesOut acts old new) → Makes r old.book new.book told.added
  makes_of acts old new told = record { entries_are = told.entries_are; more = told.more; inbound = told.inbound; outbound = told.outbound }

  -- the acts of one message more
  message_acts : (at : ℕ) (body : List ℕ) (machine m : State) (bodies : List (List ℕ)) → SameButMoments machine (behind_all (after_ask m 0) bodies)
      → connection_acts m (bodies ++ body ∷ []) ≡ connection_acts m bodies ++ (receive machine body at).acts
  message_acts at body machine m bodies same =
      let last = behind_all (after_ask m 0) bodies in
      ap (λ found. (ask m).acts ++ found) (r.parts.acts (after_ask m 0) bodies (body ∷ []))
      ∙ ap (λ found. (ask m).acts ++ (acts_on (after_ask m 0) bodies ++ found)) (append-nil (receive last body 0).acts ∙ ap (λ (e : Effects). e.acts) (sym (r.moments machine last body at 0 same)))
      ∙ sym (append_assoc (ask m).acts (acts_on (after_ask m 0) bodies) (receive machine body at).acts)

  pub message_run : (before : List Entry) (start : State) (handled : List Handled) (c at : ℕ) (body : List ℕ) (desk : Desk) → IsBook desk.book → IsState desk.book.machine
      → (state_of desk.book.entries).bound ≡ Some c → IsRunOver before start handled desk.book
      → IsRunOver before start (with_body body handled) (after_message at body desk).book
  message_run before start handled c at body desk is lawful bound run =
      let old = desk.book in
      let machine = old.machine in
      let stood : IsWithin start handled c machine = subst (λ b. StandsBehind b start handled machine) bound run.machine in
      let m = after_connections start (bodies_of stood.past) in
      let last = behind_all (after_ask m 0) stood.bodies in
      let later = stood.bodies ++ body ∷ [] in
      let effects = receive machine body at in
      let heard = after_receive machine body at in
      let told = carried_with r.logs r.stay at effects.acts heard desk is in
      let new = (after_message at body desk).book in
      let acts_are = message_acts at body machine m stood.bodies stood.same in
      let machine_new : SameButMoments new.machine (behind_all (after_ask m 0) later) =
      r.same.transitive new.machine heard (behind_all (after_ask m 0) later)
      (acts_same at effects.acts (with_outbox (with_machine heard old) desk.outgoing))
      (subst (λ found. SameButMoments heard found) (sym (r.parts.behind (after_ask m 0) stood.bodies (body ∷ []))) (r.same.receive machine last body at 0 stood.same)) in
      let handled_is : with_body body handled ≡ stood.past ++ handled_of c later ∷ [] =
      ap (with_body body) stood.are ∙ changed_last (λ (h : Handled). record h { bodies = h.bodies ++ body ∷ [] }) stood.past (handled_of c stood.bodies) in
      subst (λ hs. IsRunOver before start hs new) (sym handled_is)
      (within_on r before start stood.past c stood.bodies later effects.acts old new told.added
      (subst (λ hs. IsRunOver before start hs old) stood.are run) bound
      (makes_of effects.acts desk (after_message at body desk) told)
      (acts_keep new.inbound new.outbound (state_of old.entries) effects.acts told.added told.told)
      acts_are
      (told_each r new.inbound new.outbound (state_of old.entries) effects.acts told.added told.told (r.acts machine body at lawful).no_tick)
      machine_new)

  tick_no_act : (inbound : List (List ℕ)) (log : List (List OutEntry)) (s : Totals) (act : Act) (e : Entry) → TellsAct inbound log s act e → IsTick act → is_act_of log s e ≡ false
  tick_no_act inbound log s (Accept body) e is tick = absurd (false≢true tick)
  tick_no_act inbound log s (SendAct message) e is tick =
      ap (is_act_of log s) is.1.0
      ∙ ap (λ body. not (is_tick_text body)) (body_logged log (series_of s) is.0 message is.1.1)
      ∙ ap not (r.texts.tick message is.0 ∙ tick)
  tick_no_act inbound log s (Resend begin last) e is tick = absurd (false≢true tick)
  tick_no_act inbound log s Restart e is tick = absurd (false≢true tick)

  -- what the clock sends tells of no act
  ticks_no_acts : (inbound : List (List ℕ)) (log : List (List OutEntry)) (s : Totals) (acts : List Act) (es : List Entry) → TellActs inbound log s acts es → All IsTick acts → filter (is_act log) (placed_from s es) ≡ []
  ticks_no_acts inbound log s [] [] is ticks = refl
  ticks_no_acts inbound log s [] (e ∷ es) is ticks = absurd is
  ticks_no_acts inbound log s (act ∷ acts) [] is ticks = absurd is
  ticks_no_acts inbound log s (act ∷ acts) (e ∷ es) is ticks =
      filter_no (is_act log) (placed s e) (placed_from (state_after s e) es) (tick_no_act inbound log s act e is.0 (All-head IsTick act acts ticks))
      ∙ ticks_no_acts inbound log (state_after s e) acts es is.1 (All-tail IsTick act acts ticks)

  pub tick_run : (before : List Entry) (start : State) (handled : List Handled) (at : ℕ) (desk : Desk) → IsBook desk.book → IsRunOver before start handled desk.book
      → IsRunOver before start handled (after_ticking at desk).book
  tick_run before start handled at desk is run =
      let old = desk.book in
      let machine = old.machine in
      let acts = (tick machine at).acts in
      let ticked = after_tick machine at in
      let told = carried_with r.logs r.stay at acts ticked desk is in
      let new = (after_ticking at desk).book in
      quiet_on r before start handled old new told.added run (makes_of acts desk (after_ticking at desk) told)
      (acts_keep new.inbound new.outbound (state_of old.entries) acts told.added told.told)
      (λ none. nothing_told new.inbound new.outbound (state_of old.entries) acts told.added told.told (no_tick_off machine at (is.off none)))
      (ticks_no_acts new.inbound new.outbound (state_of old.entries) acts told.added told.told (one_tick machine (heart_in machine.phase) at acts (r.ticks.one machine at)))
      (r.same.transitive new.machine ticked machine (acts_same at acts (with_outbox (with_machine ticked old) desk.outgoing)) (r.same.symmetric machine ticked (r.same.tick machine at)))

  -- the session is bound, and acts follow
  opened_run : (before : List Entry) (start : State) (handled : List Handled) (c at : ℕ) (bodies : List (List ℕ)) (acts : List Act) (machine : State) (desk : Desk) → IsBook desk.book
      → IsRunOver before start handled desk.book → All NoTick acts
      → connection_acts (after_connections start (bodies_of handled)) bodies ≡ acts
      → SameButMoments machine (behind_all (after_ask (after_connections start (bodies_of handled)) 0) bodies)
      → IsRunOver before start (handled ++ handled_of c bodies ∷ []) (after_acts at acts (with_outbox (with_machine machine (with_event (Binds c) desk.book)) desk.outgoing)).book
  opened_run before start handled c at bodies acts machine desk is run fails acts_are same =
      let old = desk.book in
      let s = state_of old.entries in
      let bound = with_outbox (with_event (Binds c) old) desk.outgoing in
      let machined = with_outbox (with_machine machine (with_event (Binds c) old)) desk.outgoing in
      let behind = after_acts at acts machined in
      let told = bound_with r.logs r.stay c at acts machine desk is in
      let new = behind.book in
      let told_on : TellActs new.inbound new.outbound (state_after s (Bind c)) acts told.added =
      subst (λ t. TellActs new.inbound new.outbound t acts told.added) (r.logs.decide old.entries (Bind c)) told.told in
      opened_on r before start handled c bodies old new told.added run
      (record { entries_are = told.entries_are ∙ append_assoc old.entries (Bind c ∷ []) told.added; more = told.more; inbound = told.inbound; outbound = told.outbound })
      (acts_keep new.inbound new.outbound (state_after s (Bind c)) acts told.added told_on)
      (subst (λ found. TellEach new.inbound new.outbound found (filter (is_act new.outbound) (placed_from (state_after s (Bind c)) told.added))) (sym acts_are)
      (told_each r new.inbound new.outbound (state_after s (Bind c)) acts told.added told_on fails))
      (r.same.transitive new.machine machine (behind_all (after_ask (after_connections start (bodies_of handled)) 0) bodies) (acts_same at acts machined) same)

  stood_behind : (before : List Entry) (start : State) (handled : List Handled) (book : Book) → (state_of book.entries).bound ≡ None → IsRunOver before start handled book
      → SameButMoments book.machine (after_connections start (bodies_of handled))
  stood_behind before start handled book none run = subst (λ b. StandsBehind b start handled book.machine) none run.machine

  pub dial_run : (before : List Entry) (start : State) (handled : List Handled) (c at : ℕ) (desk : Desk) → IsBook desk.book → (state_of desk.book.entries).bound ≡ None
      → IsRunOver before start handled desk.book → IsRunOver before start (handled ++ handled_of c [] ∷ []) (after_dial at c desk).book
  dial_run before start handled c at desk is none run =
      let machine = desk.book.machine in
      let m = after_connections start (bodies_of handled) in
      let stood = stood_behind before start handled desk.book none run in
      let acts_are : connection_acts m [] ≡ (ask machine).acts = append-nil (ask m).acts ∙ ap (λ dials. (logon_effects dials).acts) (sym stood.dials) in
      opened_run before start handled c at [] (ask machine).acts (after_ask machine at) desk is run (ask_no_tick machine.dials) acts_are (r.same.ask machine m at 0 stood)

  binding_acts : (at : ℕ) (body : List ℕ) (machine m : State) → SameButMoments machine m → m.dials ≡ None → connection_acts m (body ∷ []) ≡ (receive machine body at).acts
  binding_acts at body machine m same dials =
      ap (λ d. (logon_effects d).acts ++ acts_on (after_ask m 0) (body ∷ [])) dials
      ∙ append-nil (receive (after_ask m 0) body 0).acts
      ∙ ap (λ state. (receive state body 0).acts) (ap (λ d. after_logon m 0 d) dials)
      ∙ ap (λ (e : Effects). e.acts) (sym (r.moments machine m body at 0 same))

  pub binding_run : (before : List Entry) (start : State) (handled : List Handled) (c at : ℕ) (body : List ℕ) (desk : Desk) → IsBook desk.book → IsState desk.book.machine
      → (state_of desk.book.entries).bound ≡ None → desk.book.machine.dials ≡ None → IsRunOver before start handled desk.book
      → IsRunOver before start (handled ++ handled_of c (body ∷ []) ∷ []) (after_binding at c body desk).book
  binding_run before start handled c at body desk is lawful none accepts run =
      let machine = desk.book.machine in
      let m = after_connections start (bodies_of handled) in
      let stood = stood_behind before start handled desk.book none run in
      let dials : m.dials ≡ None = sym stood.dials ∙ accepts in
      let no_ask : after_ask m 0 ≡ m = ap (λ d. after_logon m 0 d) dials in
      let acts_are = binding_acts at body machine m stood dials in
      opened_run before start handled c at (body ∷ []) (receive machine body at).acts (after_receive machine body at) desk is run (r.acts machine body at lawful).no_tick acts_are
      (subst (λ state. SameButMoments (after_receive machine body at) (behind_all state (body ∷ []))) (sym no_ask) (r.same.receive machine m body at 0 stood))

  pub leave_run : (before : List Entry) (start : State) (handled : List Handled) (c : ℕ) (book : Book) → (state_of book.entries).bound ≡ Some c
      → IsRunOver before start handled book → IsRunOver before start handled (after_end c book)
  leave_run before start handled c book bound run =
      closed_on r before start handled c book (after_end c book) run bound
      (record { entries_are = refl; more = []; inbound = sym (append-nil book.inbound); outbound = r.logs.itself book.outbound })
      refl

  -- what leases do
  leases_run : (before : List Entry) (start : State) (handled : List Handled) (old new : Book) → IsRunOver before start handled old → (adds : AddsLeases old.entries new.entries)
      → Makes r old new adds.added → SameButMoments new.machine old.machine → IsRunOver before start handled new
  leases_run before start handled old new run adds makes same =
      quiet_on r before start handled old new adds.added run makes (leases_keep adds.added adds.leases) (λ none. leases_outside adds.added adds.leases) (leases_no_acts new.outbound (state_of old.entries) adds.added adds.leases) same

  news_run : (before : List Entry) (start : State) (handled : List Handled) (at : ℕ) (entries : List Entry) (bodies : List (List ℕ)) (desk : Desk) → IsRunOver before start handled desk.book
      → AddsLeases desk.book.entries entries → IsRunOver before start handled (with_news at entries bodies desk).book
  news_run before start handled at entries bodies desk run adds =
      let old = desk.book in
      leases_run before start handled old (with_news at entries bodies desk).book run adds
      (record { entries_are = adds.are; more = []; inbound = sym (append-nil old.inbound); outbound = sends_go_on r.logs at bodies old.outbound })
      (sending_same at (send_items bodies old) old.machine)

  pub word_run : (before : List Entry) (start : State) (handled : List Handled) (at until : ℕ) (w : Word) (bodies : List (List ℕ)) (desk : Desk) → IsRunOver before start handled desk.book
      → IsRunOver before start handled (after_word at until w bodies desk).book
  word_run before start handled at until w bodies desk run = news_run before start handled at _ bodies desk run (adds_shown until desk.book.entries w)

  pub timeout_run : (before : List Entry) (start : State) (handled : List Handled) (at until : ℕ) (old : Word) (bodies : List (List ℕ)) (desk : Desk) → IsRunOver before start handled desk.book
      → IsRunOver before start handled (after_timeout at until old bodies desk).book
  timeout_run before start handled at until old bodies desk run = news_run before start handled at _ bodies desk run (adds_timed old.standing until desk.book.entries old)

  pub request_run : (before : List Entry) (start : State) (handled : List Handled) (library nr from : ℕ) (book : Book) → IsRunOver before start handled book
      → IsRunOver before start handled (after_request library nr from book)
  request_run before start handled library nr from book run =
      let adds = adds_one book.entries (entry_with library nr from (reply_to book.leases (state_of book.entries) library from)) (reply_is_lease library nr from _) in
      leases_run before start handled book (after_request library nr from book) run adds
      (record { entries_are = adds.are; more = []; inbound = sym (append-nil book.inbound); outbound = r.logs.itself book.outbound })
      (r.same.reflexive book.machine)

  pub lapse_run : (before : List Entry) (start : State) (handled : List Handled) (book : Book) → IsRunOver before start handled book → IsRunOver before start handled (after_lapse book)
  lapse_run before start handled book run =
      let adds = adds_one book.entries (Lapse (lease_of (state_of book.entries))) refl in
      leases_run before start handled book (after_lapse book) run adds
      (record { entries_are = adds.are; more = []; inbound = sym (append-nil book.inbound); outbound = r.logs.itself book.outbound })
      (r.same.reflexive book.machine)

  -- where memory was wanting
  first_all : (P : Act → Type 0) (first second : List Act) → All P (first ++ second) → All P first
  first_all P [] second all = All-nil P
  first_all P (act ∷ first) second all = All-cons P act first (All-head P act (first ++ second) all) (first_all P first second (All-tail P act (first ++ second) all))

  pub message_begun : (before : List Entry) (start : State) (handled : List Handled) (c at : ℕ) (body : List ℕ) (desk new : Desk) → IsBook desk.book → IsState desk.book.machine
      → (state_of desk.book.entries).bound ≡ Some c → IsBegun at (receive desk.book.machine body at).acts (with_outbox (with_machine (after_receive desk.book.machine body at) desk.book) desk.outgoing) new
      → IsRunOver before start handled desk.book → IsRunBegun before start (with_body body handled) new.book
  message_begun before start handled c at body desk new is lawful bound begun run =
      let old = desk.book in
      let machine = old.machine in
      let stood : IsWithin start handled c machine = subst (λ b. StandsBehind b start handled machine) bound run.machine in
      let m = after_connections start (bodies_of stood.past) in
      let later = stood.bodies ++ body ∷ [] in
      let acts = (receive machine body at).acts in
      let heard = after_receive machine body at in
      let behind = after_acts at begun.done (with_outbox (with_machine heard old) desk.outgoing) in
      let told = carried_with r.logs r.stay at begun.done heard desk is in
      let none = first_all NoTick begun.done begun.left (subst (All NoTick) begun.acts_are (r.acts machine body at lawful).no_tick) in
      let acts_are = message_acts at body machine m stood.bodies stood.same ∙ ap (λ found. connection_acts m stood.bodies ++ found) begun.acts_are in
      let handled_is : with_body body handled ≡ stood.past ++ handled_of c later ∷ [] =
      ap (with_body body) stood.are ∙ changed_last (λ (h : Handled). record h { bodies = h.bodies ++ body ∷ [] }) stood.past (handled_of c stood.bodies) in
      subst (λ (d : Desk). IsRunBegun before start (with_body body handled) d.book) (sym begun.new_is)
      (subst (λ hs. IsRunBegun before start hs behind.book) (sym handled_is)
      (begun_on r before start stood.past c stood.bodies later begun.done begun.left old behind.book told.added
      (subst (λ hs. IsRunOver before start hs old) stood.are run) bound
      (makes_of begun.done desk behind told)
      (acts_keep behind.book.inbound behind.book.outbound (state_of old.entries) begun.done told.added told.told)
      acts_are
      (told_each r behind.book.inbound behind.book.outbound (state_of old.entries) begun.done told.added told.told none)))

  -- the session is bound, and some acts follow
  opened_begun : (before : List Entry) (start : State) (handled : List Handled) (c at : ℕ) (bodies : List (List ℕ)) (acts : List Act) (machine : State) (desk new : Desk) → IsBook desk.book
      → IsRunOver before start handled desk.book → All NoTick acts → connection_acts (after_connections start (bodies_of handled)) bodies ≡ acts
      → IsBegun at acts (with_outbox (with_machine machine (with_event (Binds c) desk.book)) desk.outgoing) new
      → IsRunBegun before start (handled ++ handled_of c bodies ∷ []) new.book
  opened_begun before start handled c at bodies acts machine desk new is run fails acts_are begun =
      let old = desk.book in
      let s = state_of old.entries in
      let behind = after_acts at begun.done (with_outbox (with_machine machine (with_event (Binds c) old)) desk.outgoing) in
      let told = bound_with r.logs r.stay c at begun.done machine desk is in
      let log = behind.book.outbound in
      let told_on : TellActs behind.book.inbound log (state_after s (Bind c)) begun.done told.added =
      subst (λ t. TellActs behind.book.inbound log t begun.done told.added) (r.logs.decide old.entries (Bind c)) told.told in
      subst (λ (d : Desk). IsRunBegun before start (handled ++ handled_of c bodies ∷ []) d.book) (sym begun.new_is)
      (opening_begun r before start handled c bodies begun.done begun.left old behind.book told.added run
      (record { entries_are = told.entries_are ∙ append_assoc old.entries (Bind c ∷ []) told.added; more = told.more; inbound = told.inbound; outbound = told.outbound })
      (acts_keep behind.book.inbound log (state_after s (Bind c)) begun.done told.added told_on)
      (acts_are ∙ begun.acts_are)
      (told_each r behind.book.inbound log (state_after s (Bind c)) begun.done told.added told_on (first_all NoTick begun.done begun.left (subst (All NoTick) begun.acts_are fails))))

  pub binding_begun : (before : List Entry) (start : State) (handled : List Handled) (c at : ℕ) (body : List ℕ) (desk new : Desk) → IsBook desk.book → IsState desk.book.machine
      → (state_of desk.book.entries).bound ≡ None → desk.book.machine.dials ≡ None
      → IsBegun at (receive desk.book.machine body at).acts (with_outbox (with_machine (after_receive desk.book.machine body at) (with_event (Binds c) desk.book)) desk.outgoing) new
      → IsRunOver before start handled desk.book → IsRunBegun before start (handled ++ handled_of c (body ∷ []) ∷ []) new.book
  binding_begun before start handled c at body desk new is lawful none accepts begun run =
      let machine = desk.book.machine in
      let m = after_connections start (bodies_of handled) in
      let stood = stood_behind before start handled desk.book none run in
      opened_begun before start handled c at (body ∷ []) (receive machine body at).acts (after_receive machine body at) desk new is run (r.acts machine body at lawful).no_tick
      (binding_acts at body machine m stood (sym stood.dials ∙ accepts)) begun

  pub dial_begun : (before : List Entry) (start : State) (handled : List Handled) (c at : ℕ) (desk new : Desk) → IsBook desk.book → (state_of desk.book.entries).bound ≡ None
      → IsBegun at (ask desk.book.machine).acts (with_outbox (with_machine (after_ask desk.book.machine at) (with_event (Binds c) desk.book)) desk.outgoing) new
      → IsRunOver before start handled desk.book → IsRunBegun before start (handled ++ handled_of c [] ∷ []) new.book
  dial_begun before start handled c at desk new is none begun run =
      let machine = desk.book.machine in
      let m = after_connections start (bodies_of handled) in
      let stood = stood_behind before start handled desk.book none run in
      opened_begun before start handled c at [] (ask machine).acts (after_ask machine at) desk new is run (ask_no_tick machine.dials)
      (append-nil (ask m).acts ∙ ap (λ dials. (logon_effects dials).acts) (sym stood.dials)) begun

  -- of what the clock asks
  pub tick_begun : (before : List Entry) (start : State) (handled : List Handled) (at : ℕ) (desk new : Desk) → IsBook desk.book
      → IsBegun at (tick desk.book.machine at).acts (with_outbox (with_machine (after_tick desk.book.machine at) desk.book) desk.outgoing) new
      → IsRunOver before start handled desk.book → IsRunOver before start handled new.book
  tick_begun before start handled at desk new is begun run =
      let old = desk.book in
      let machine = old.machine in
      let ticked = after_tick machine at in
      let machined = with_outbox (with_machine ticked old) desk.outgoing in
      let behind = after_acts at begun.done machined in
      let told = carried_with r.logs r.stay at begun.done ticked desk is in
      let ticks = one_tick machine (heart_in machine.phase) at (tick machine at).acts (r.ticks.one machine at) in
      subst (λ (d : Desk). IsRunOver before start handled d.book) (sym begun.new_is)
      (quiet_on r before start handled old behind.book told.added run (makes_of begun.done desk behind told)
      (acts_keep behind.book.inbound behind.book.outbound (state_of old.entries) begun.done told.added told.told)
      (λ none. nothing_told behind.book.inbound behind.book.outbound (state_of old.entries) begun.done told.added told.told (first_nothing begun.done begun.left (sym begun.acts_are ∙ no_tick_off machine at (is.off none))))
      (ticks_no_acts behind.book.inbound behind.book.outbound (state_of old.entries) begun.done told.added told.told (first_all IsTick begun.done begun.left (subst (All IsTick) begun.acts_are ticks)))
      (r.same.transitive behind.book.machine ticked machine (acts_same at begun.done machined) (r.same.symmetric machine ticked (r.same.tick machine at))))
