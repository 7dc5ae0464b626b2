-- A session's run over its connections goes on with each event.
use Rattle.std.proofs.Common.{◌≡◌, ℕ, Bool, true, false, not, if◌then◌else◌, List, [], ◌∷◌, ◌++◌, Option, None, Some, IsSome, is_some, unwrap_or, refl, sym, ap, subst, ◌∙◌, append_assoc, fold}
use Rattle.std.specs.List.{All, filter}
use Rattle.std.proofs.lemmas.Bool.{false≢true}
use Rattle.std.proofs.lemmas.List.{append-nil, map-append}
use Rattle.std.proofs.lemmas.List.Elements.{All-append, All-cons, All-head, All-nil, All-tail}
use Rattle.lease_core.specs.State.{State as Totals, series_of, state_after, state_of}
use Rattle.lease_core.specs.declared.entry.Entry.{Entry}
use Rattle.lease_core.specs.declared.entry.Entry.TheVariants.{Arrive, Admin, Bind, Plan, Leave, Reset, Granted, Refused, Send, Release, Timeout, Hold, Lapse}
use Rattle.message_log.specs.Growth.{GoesOn}
use Rattle.message_log.specs.declared.entry.OutEntry.{OutEntry}
use Rattle.resend_plan.specs.Wire.{no_entry}
use Rattle.session_core.specs.Admin.{admin_text, is_tick_text}
use Rattle.session_core.specs.Ask.{after_ask}
use Rattle.session_core.specs.Runs.{SameButMoments, after_connection, after_connections, behind_all, connection_acts}
use Rattle.session_core.specs.State.{State, after_leave}
use Rattle.session_core.specs.Tasks.{is_tick_act}
use Rattle.session_core.specs.declared.acts.Act.{Act}
use Rattle.session_core.specs.declared.acts.Act.TheVariants.{Accept, Resend, Reset as Restart, Send as SendAct}
use Rattle.session_core.specs.declared.acts.Admin.{Admin as Message}
use Rattle.session_book.specs.Book.{Book}
use Rattle.session_book.specs.Runs.{Handled, IsInside, IsRunBegun, IsRunOver, IsWithin, StandsBehind, TellEach, TellRuns, bodies_of, handled_of}
use Rattle.session_book.specs.Spells.{Placed, Spell, act_entries, is_act, is_act_of, logged_body, new_spell, placed, placed_from, spell_with, spells_behind, spells_from}
use Rattle.session_book.specs.Told.{IsLogged, TellActs, TellsAct}
use Rattle.session_book.specs.Grounds.{RunGrounds}
use Rattle.session_book.proofs.Carried.{tells_on}
use Rattle.session_book.proofs.Spells.{Keeps, NoMachine, acts_with, bound_stays, inside_bound, inside_none, keeps_bound, placed_join, spells_join, spells_within, spells_without}

pub filter_yes : {X : Type 0} (p : X → Bool) (x : X) (xs : List X) → p x ≡ true → filter p (x ∷ xs) ≡ x ∷ filter p xs
filter_yes p x xs e = ap (λ (b : Bool). if b then x ∷ filter p xs else filter p xs) e

pub filter_no : {X : Type 0} (p : X → Bool) (x : X) (xs : List X) → p x ≡ false → filter p (x ∷ xs) ≡ filter p xs
filter_no p x xs e = ap (λ (b : Bool). if b then x ∷ filter p xs else filter p xs) e

each_join : (inbound : List (List ℕ)) (log : List (List OutEntry)) (first second : List Act) (ps qs : List Placed) → TellEach inbound log first ps → TellEach inbound log second qs → TellEach inbound log (first ++ second) (ps ++ qs)
each_join inbound log [] second [] qs is more = more
each_join inbound log [] second (p ∷ ps) qs is more = absurd is
each_join inbound log (act ∷ first) second [] qs is more = absurd is
each_join inbound log (act ∷ first) second (p ∷ ps) qs is more = (is.0, each_join inbound log first second ps qs is.1 more)

each_none : (inbound later_inbound : List (List ℕ)) (log later : List (List OutEntry)) (acts : List Act) → TellEach inbound log acts [] → TellEach later_inbound later acts []
each_none inbound later_inbound log later [] is = tt
each_none inbound later_inbound log later (act ∷ acts) is = absurd is

keep_one : (inbound : List (List ℕ)) (log : List (List OutEntry)) (s : Totals) (act : Act) (e : Entry) → TellsAct inbound log s act e → Keeps e
keep_one inbound log s (Accept body) e is = ap keeps_bound is.1.0
keep_one inbound log s (SendAct message) e is = ap keeps_bound is.1.0
keep_one inbound log s (Resend begin last) e is = ap keeps_bound is.1
keep_one inbound log s Restart e is = ap keeps_bound is.1

-- the entries of acts leave the session bound as it was
pub acts_keep : (inbound : List (List ℕ)) (log : List (List OutEntry)) (s : Totals) (acts : List Act) (es : List Entry) → TellActs inbound log s acts es → All Keeps es
acts_keep inbound log s [] [] is = All-nil Keeps
acts_keep inbound log s [] (e ∷ es) is = absurd is
acts_keep inbound log s (act ∷ acts) [] is = absurd is
acts_keep inbound log s (act ∷ acts) (e ∷ es) is = All-cons Keeps e es (keep_one inbound log s act e is.0) (acts_keep inbound log (state_after s e) acts es is.1)

abbrev body_in : Option OutEntry → List ℕ
body_in o = (unwrap_or o no_entry).body

pub body_logged : (log : List (List OutEntry)) (k n : ℕ) (message : Message) → IsLogged log k n message → logged_body log k n ≡ admin_text message n
body_logged log k n message is = ap body_in is.found ∙ is.body

-- what the clock sends is in the log
tick_is_logged : (o : Option OutEntry) → not (is_tick_text (body_in o)) ≡ false → IsSome o
tick_is_logged None e = absurd (false≢true (sym e))
tick_is_logged (Some entry) e = refl

-- the last of the connections, with what is told of those before it
pub record LastRun (inbound : List (List ℕ)) (log : List (List OutEntry)) (machine : State) (past : List Handled) (h : Handled) (spells : List Spell) : Type 0 where
  pub front : List Spell
  pub last : Spell
  pub are : spells ≡ front ++ last ∷ []
  pub past_told : TellRuns inbound log machine past front
  pub connection : last.connection ≡ h.connection
  pub told : TellEach inbound log (connection_acts (after_connections machine (bodies_of past)) h.bodies) (act_entries log last)

pub last_run : (inbound : List (List ℕ)) (log : List (List OutEntry)) (machine : State) (past : List Handled) (h : Handled) (spells : List Spell)
    → TellRuns inbound log machine (past ++ h ∷ []) spells → LastRun inbound log machine past h spells
last_run inbound log machine [] h [] is = absurd is
last_run inbound log machine [] h (spell ∷ []) is = record { front = []; last = spell; are = refl; past_told = tt; connection = is.0; told = is.1 }
last_run inbound log machine [] h (spell ∷ (next ∷ later)) is = absurd is.2
last_run inbound log machine (g ∷ past) h [] is = absurd is
last_run inbound log machine (g ∷ past) h (spell ∷ spells) is =
    let rest = last_run inbound log (after_connection machine g.bodies) past h spells is.2 in
    record {
      front = spell ∷ rest.front;
      last = rest.last;
      are = ap (λ found. spell ∷ found) rest.are;
      past_told = (is.0, is.1, rest.past_told);
      connection = rest.connection;
      told = rest.told;
    }

join_run : (inbound : List (List ℕ)) (log : List (List OutEntry)) (machine : State) (past : List Handled) (h : Handled) (front : List Spell) (last : Spell)
    → TellRuns inbound log machine past front → last.connection ≡ h.connection
    → TellEach inbound log (connection_acts (after_connections machine (bodies_of past)) h.bodies) (act_entries log last)
    → TellRuns inbound log machine (past ++ h ∷ []) (front ++ last ∷ [])
join_run inbound log machine [] h [] last is c told = (c, told, tt)
join_run inbound log machine [] h (spell ∷ front) last is c told = absurd is
join_run inbound log machine (g ∷ past) h [] last is c told = absurd is
join_run inbound log machine (g ∷ past) h (spell ∷ front) last is c told = (is.0, is.1, join_run inbound log (after_connection machine g.bodies) past h front last is.2 c told)

module _ (r : RunGrounds) where
  act_is_act : (inbound : List (List ℕ)) (log : List (List OutEntry)) (s : Totals) (act : Act) (e : Entry) → TellsAct inbound log s act e → is_tick_act act ≡ false → is_act_of log s e ≡ true
  act_is_act inbound log s (Accept body) e is fails = ap (is_act_of log s) is.1.0
  act_is_act inbound log s (SendAct message) e is fails =
      ap (is_act_of log s) is.1.0
      ∙ ap (λ body. not (is_tick_text body)) (body_logged log (series_of s) is.0 message is.1.1)
      ∙ ap not (r.texts.tick message is.0 ∙ fails)
  act_is_act inbound log s (Resend begin last) e is fails = ap (is_act_of log s) is.1
  act_is_act inbound log s Restart e is fails = ap (is_act_of log s) is.1

  -- the entries that tell of the acts of a message are just those of acts
  pub told_each : (inbound : List (List ℕ)) (log : List (List OutEntry)) (s : Totals) (acts : List Act) (es : List Entry) → TellActs inbound log s acts es → All (λ act. is_tick_act act ≡ false) acts
      → TellEach inbound log acts (filter (is_act log) (placed_from s es))
  told_each inbound log s [] [] is fails = tt
  told_each inbound log s [] (e ∷ es) is fails = absurd is
  told_each inbound log s (act ∷ acts) [] is fails = absurd is
  told_each inbound log s (act ∷ acts) (e ∷ es) is fails =
      let holds = act_is_act inbound log s act e is.0 (All-head (λ a. is_tick_act a ≡ false) act acts fails) in
      subst (λ ps. TellEach inbound log (act ∷ acts) ps) (sym (filter_yes (is_act log) (placed s e) (placed_from (state_after s e) es) holds))
      (is.0, told_each inbound log (state_after s e) acts es is.1 (All-tail (λ a. is_tick_act a ≡ false) act acts fails))

  act_stays : (inbound : List (List ℕ)) (earlier later : List (List OutEntry)) (s : Totals) (act : Act) (e : Entry) → GoesOn earlier later → TellsAct inbound earlier s act e → is_act_of earlier s e ≡ true → is_act_of later s e ≡ true
  act_stays inbound earlier later s (Accept body) e on is holds = ap (is_act_of later s) is.1.0
  act_stays inbound earlier later s (SendAct message) e on is holds =
      ap (is_act_of later s) is.1.0
      ∙ ap (λ o. not (is_tick_text (body_in o))) (r.stay earlier later (series_of s) is.0 on (ap (λ (o : Option OutEntry). is_some o) is.1.1.found))
      ∙ sym (ap (is_act_of earlier s) is.1.0)
      ∙ holds
  act_stays inbound earlier later s (Resend begin last) e on is holds = ap (is_act_of later s) is.1
  act_stays inbound earlier later s Restart e on is holds = ap (is_act_of later s) is.1

  no_act_stays : (earlier later : List (List OutEntry)) (s : Totals) (e : Entry) → GoesOn earlier later → is_act_of earlier s e ≡ false → is_act_of later s e ≡ false
  no_act_stays earlier later s (Arrive pos) on fails = absurd (false≢true (sym fails))
  no_act_stays earlier later s (Admin number) on fails = ap (λ o. not (is_tick_text (body_in o))) (r.stay earlier later (series_of s) number on (tick_is_logged _ fails)) ∙ fails
  no_act_stays earlier later s (Bind c) on fails = refl
  no_act_stays earlier later s (Plan begin last at) on fails = absurd (false≢true (sym fails))
  no_act_stays earlier later s (Leave c) on fails = refl
  no_act_stays earlier later s (Reset series) on fails = absurd (false≢true (sym fails))
  no_act_stays earlier later s (Granted library nr lease from start) on fails = refl
  no_act_stays earlier later s (Refused library nr why) on fails = refl
  no_act_stays earlier later s (Send lease library ordinal number) on fails = refl
  no_act_stays earlier later s (Release lease library count heir) on fails = refl
  no_act_stays earlier later s (Timeout lease library count) on fails = refl
  no_act_stays earlier later s (Hold lease until) on fails = refl
  no_act_stays earlier later s (Lapse lease) on fails = refl

  abbrev EachStays : List (List ℕ) → List (List ℕ) → List (List OutEntry) → List (List OutEntry) → List Placed → Type 0
  EachStays inbound more earlier later ps = (acts : List Act) → TellEach inbound earlier acts (filter (is_act earlier) ps) → TellEach (inbound ++ more) later acts (filter (is_act later) ps)

  each_stays_yes : (inbound more : List (List ℕ)) (earlier later : List (List OutEntry)) (p : Placed) (ps : List Placed) → GoesOn earlier later → EachStays inbound more earlier later ps
      → is_act earlier p ≡ true → (acts : List Act) → TellEach inbound earlier acts (p ∷ filter (is_act earlier) ps) → TellEach (inbound ++ more) later acts (filter (is_act later) (p ∷ ps))
  each_stays_yes inbound more earlier later p ps on rest holds [] is = absurd is
  each_stays_yes inbound more earlier later p ps on rest holds (act ∷ acts) is =
      subst (λ found. TellEach (inbound ++ more) later (act ∷ acts) found) (sym (filter_yes (is_act later) p ps (act_stays inbound earlier later p.before act p.entry on is.0 holds)))
      (tells_on r.stay inbound more earlier later p.before act p.entry on is.0, rest acts is.1)

  each_stays_by : (inbound more : List (List ℕ)) (earlier later : List (List OutEntry)) (p : Placed) (ps : List Placed) → GoesOn earlier later → EachStays inbound more earlier later ps
      → (b : Bool) → is_act earlier p ≡ b → EachStays inbound more earlier later (p ∷ ps)
  each_stays_by inbound more earlier later p ps on rest true holds acts is =
      each_stays_yes inbound more earlier later p ps on rest holds acts (subst (λ found. TellEach inbound earlier acts found) (filter_yes (is_act earlier) p ps holds) is)
  each_stays_by inbound more earlier later p ps on rest false fails acts is =
      subst (λ found. TellEach (inbound ++ more) later acts found) (sym (filter_no (is_act later) p ps (no_act_stays earlier later p.before p.entry on fails)))
      (rest acts (subst (λ found. TellEach inbound earlier acts found) (filter_no (is_act earlier) p ps fails) is))

  each_stays : (inbound more : List (List ℕ)) (earlier later : List (List OutEntry)) (ps : List Placed) → GoesOn earlier later → EachStays inbound more earlier later ps
  each_stays inbound more earlier later [] on acts is = each_none inbound (inbound ++ more) earlier later acts is
  each_stays inbound more earlier later (p ∷ ps) on acts is = each_stays_by inbound more earlier later p ps on (each_stays inbound more earlier later ps on) (is_act earlier p) refl acts is

  -- what is told of connections stays as the logs grow
  runs_stay : (inbound more : List (List ℕ)) (earlier later : List (List OutEntry)) (machine : State) (handled : List Handled) (spells : List Spell) → GoesOn earlier later
      → TellRuns inbound earlier machine handled spells → TellRuns (inbound ++ more) later machine handled spells
  runs_stay inbound more earlier later machine [] [] on is = tt
  runs_stay inbound more earlier later machine [] (spell ∷ spells) on is = absurd is
  runs_stay inbound more earlier later machine (h ∷ hs) [] on is = absurd is
  runs_stay inbound more earlier later machine (h ∷ hs) (spell ∷ spells) on is =
      (is.0, each_stays inbound more earlier later spell.entries on (connection_acts machine h.bodies) is.1, runs_stay inbound more earlier later (after_connection machine h.bodies) hs spells on is.2)

  -- what an event made: entries, and more in the logs
  pub record Makes (old new : Book) (added : List Entry) : Type 0 where
    pub entries_are : new.entries ≡ old.entries ++ added
    pub more : List (List ℕ)
    pub inbound : new.inbound ≡ old.inbound ++ more
    pub outbound : GoesOn old.outbound new.outbound

  runs_kept : (old new : Book) (added : List Entry) (machine : State) (handled : List Handled) (spells : List Spell) → Makes old new added
      → TellRuns old.inbound old.outbound machine handled spells → TellRuns new.inbound new.outbound machine handled spells
  runs_kept old new added machine handled spells makes is =
      subst (λ inbound. TellRuns inbound new.outbound machine handled spells) (sym makes.inbound) (runs_stay old.inbound makes.more old.outbound new.outbound machine handled spells makes.outbound is)

  each_kept : (old new : Book) (added : List Entry) (acts : List Act) (ps : List Placed) → Makes old new added
      → TellEach old.inbound old.outbound acts (filter (is_act old.outbound) ps) → TellEach new.inbound new.outbound acts (filter (is_act new.outbound) ps)
  each_kept old new added acts ps makes is =
      subst (λ inbound. TellEach inbound new.outbound acts (filter (is_act new.outbound) ps)) (sym makes.inbound) (each_stays old.inbound makes.more old.outbound new.outbound ps makes.outbound acts is)

  -- the entries behind those before
  pub entries_behind : (before first : List Entry) (old new : Book) (added : List Entry) → old.entries ≡ before ++ first → Makes old new added → new.entries ≡ before ++ (first ++ added)
  entries_behind before first old new added are makes = makes.entries_are ∙ ap (λ es. es ++ added) are ∙ append_assoc before first added

  pub spells_on : (before first : List Entry) (old : Book) (added : List Entry) → old.entries ≡ before ++ first
      → spells_behind before (first ++ added) ≡ spells_from (spells_behind before first) (state_of old.entries) added
  spells_on before first old added are =
      spells_join [] (state_of before) first added
      ∙ ap (λ s. spells_from (spells_behind before first) s added) (sym (r.logs.decide_over before first) ∙ ap state_of (sym are))

  -- what lay inside the spells, and what an event adds
  inside_on : (before first : List Entry) (old : Book) (added : List Entry) → old.entries ≡ before ++ first → All IsInside (placed_from (state_of before) first) → All IsInside (placed_from (state_of old.entries) added)
      → All IsInside (placed_from (state_of before) (first ++ added))
  inside_on before first old added are inside more =
      let s = state_of before in
      let t : fold state_after s first ≡ state_of old.entries = sym (r.logs.decide_over before first) ∙ ap state_of (sym are) in
      subst (All IsInside) (sym (placed_join s first added ∙ ap (λ found. placed_from s first ++ placed_from found added) t))
      (All-append IsInside (placed_from s first) (placed_from (state_of old.entries) added) inside more)

  pub bound_new : (old new : Book) (added : List Entry) → Makes old new added → All Keeps added → (state_of new.entries).bound ≡ (state_of old.entries).bound
  bound_new old new added makes keep = ap (λ es. (state_of es).bound) makes.entries_are ∙ ap (λ s. s.bound) (r.logs.decide_over old.entries added) ∙ bound_stays (state_of old.entries) added keep

  -- on a bound session
  pub within_on : (before : List Entry) (start : State) (past : List Handled) (c : ℕ) (bodies later : List (List ℕ)) (acts : List Act) (old new : Book) (added : List Entry)
      → IsRunOver before start (past ++ handled_of c bodies ∷ []) old → (state_of old.entries).bound ≡ Some c → Makes old new added → All Keeps added
      → connection_acts (after_connections start (bodies_of past)) later ≡ connection_acts (after_connections start (bodies_of past)) bodies ++ acts
      → TellEach new.inbound new.outbound acts (filter (is_act new.outbound) (placed_from (state_of old.entries) added))
      → SameButMoments new.machine (behind_all (after_ask (after_connections start (bodies_of past)) 0) later)
      → IsRunOver before start (past ++ handled_of c later ∷ []) new
  within_on before start past c bodies later acts old new added run bound makes keep acts_are told machine =
      let s = state_of old.entries in
      let m = after_connections start (bodies_of past) in
      let was = last_run old.inbound old.outbound start past (handled_of c bodies) (spells_behind before run.added) run.told in
      let more = placed_from s added in
      let spells : spells_behind before (run.added ++ added) ≡ was.front ++ spell_with more was.last ∷ [] =
      spells_on before run.added old added run.entries_are ∙ ap (λ found. spells_from found s added) was.are ∙ spells_within was.front was.last s c added bound keep in
      let last_told : TellEach new.inbound new.outbound (connection_acts m later) (act_entries new.outbound (spell_with more was.last)) =
      subst (λ ps. TellEach new.inbound new.outbound (connection_acts m later) ps) (sym (acts_with new.outbound more was.last))
      (subst (λ found. TellEach new.inbound new.outbound found (act_entries new.outbound was.last ++ filter (is_act new.outbound) more)) (sym acts_are)
      (each_join new.inbound new.outbound (connection_acts m bodies) acts (act_entries new.outbound was.last) (filter (is_act new.outbound) more)
      (each_kept old new added (connection_acts m bodies) was.last.entries makes was.told) told)) in
      record {
        added = run.added ++ added;
        entries_are = entries_behind before run.added old new added run.entries_are makes;
        told = subst (λ found. TellRuns new.inbound new.outbound start (past ++ handled_of c later ∷ []) found) (sym spells)
            (join_run new.inbound new.outbound start past (handled_of c later) was.front (spell_with more was.last)
            (runs_kept old new added start past was.front makes was.past_told) was.connection last_told);
        inside = inside_on before run.added old added run.entries_are run.inside (inside_bound s c added bound keep);
        machine = subst (λ b. StandsBehind b start (past ++ handled_of c later ∷ []) new.machine) (sym (bound_new old new added makes keep ∙ bound))
            (record { past = past; bodies = later; are = refl; same = machine });
      }

  -- the same where some acts were carried out
  pub begun_on : (before : List Entry) (start : State) (past : List Handled) (c : ℕ) (bodies later : List (List ℕ)) (done left : List Act) (old new : Book) (added : List Entry)
      → IsRunOver before start (past ++ handled_of c bodies ∷ []) old → (state_of old.entries).bound ≡ Some c → Makes old new added → All Keeps added
      → connection_acts (after_connections start (bodies_of past)) later ≡ connection_acts (after_connections start (bodies_of past)) bodies ++ (done ++ left)
      → TellEach new.inbound new.outbound done (filter (is_act new.outbound) (placed_from (state_of old.entries) added))
      → IsRunBegun before start (past ++ handled_of c later ∷ []) new
  begun_on before start past c bodies later done left old new added run bound makes keep acts_are told =
      let s = state_of old.entries in
      let m = after_connections start (bodies_of past) in
      let was = last_run old.inbound old.outbound start past (handled_of c bodies) (spells_behind before run.added) run.told in
      let more = placed_from s added in
      record {
        added = run.added ++ added;
        entries_are = entries_behind before run.added old new added run.entries_are makes;
        past = past;
        last = handled_of c later;
        handled_are = refl;
        front = was.front;
        spell = spell_with more was.last;
        spells = spells_on before run.added old added run.entries_are ∙ ap (λ found. spells_from found s added) was.are ∙ spells_within was.front was.last s c added bound keep;
        told = runs_kept old new added start past was.front makes was.past_told;
        connection = was.connection;
        done = connection_acts m bodies ++ done;
        left = left;
        acts_are = acts_are ∙ sym (append_assoc (connection_acts m bodies) done left);
        begun = subst (λ ps. TellEach new.inbound new.outbound (connection_acts m bodies ++ done) ps) (sym (acts_with new.outbound more was.last))
            (each_join new.inbound new.outbound (connection_acts m bodies) done (act_entries new.outbound was.last) (filter (is_act new.outbound) more)
            (each_kept old new added (connection_acts m bodies) was.last.entries makes was.told) told);
      }

  pub opening_begun : (before : List Entry) (start : State) (handled : List Handled) (c : ℕ) (bodies : List (List ℕ)) (done left : List Act) (old new : Book) (added : List Entry)
      → IsRunOver before start handled old → Makes old new (Bind c ∷ added) → All Keeps added
      → connection_acts (after_connections start (bodies_of handled)) bodies ≡ done ++ left
      → TellEach new.inbound new.outbound done (filter (is_act new.outbound) (placed_from (state_after (state_of old.entries) (Bind c)) added))
      → IsRunBegun before start (handled ++ handled_of c bodies ∷ []) new
  opening_begun before start handled c bodies done left old new added run makes keep acts_are told =
      let t = state_after (state_of old.entries) (Bind c) in
      let more = placed_from t added in
      record {
        added = run.added ++ (Bind c ∷ added);
        entries_are = entries_behind before run.added old new (Bind c ∷ added) run.entries_are makes;
        past = handled;
        last = handled_of c bodies;
        handled_are = refl;
        front = spells_behind before run.added;
        spell = spell_with more (new_spell c);
        spells = spells_on before run.added old (Bind c ∷ added) run.entries_are ∙ spells_within (spells_behind before run.added) (new_spell c) t c added refl keep;
        told = runs_kept old new (Bind c ∷ added) start handled (spells_behind before run.added) makes run.told;
        connection = refl;
        done = done;
        left = left;
        acts_are = acts_are;
        begun = subst (λ ps. TellEach new.inbound new.outbound done ps) (sym (acts_with new.outbound more (new_spell c))) told;
      }

  -- on a session that is bound to no connection
  without_on : (before : List Entry) (start : State) (handled : List Handled) (old new : Book) (added : List Entry)
      → IsRunOver before start handled old → (state_of old.entries).bound ≡ None → Makes old new added → All Keeps added → All NoMachine added
      → SameButMoments new.machine (after_connections start (bodies_of handled))
      → IsRunOver before start handled new
  without_on before start handled old new added run none makes keep outside machine =
      let s = state_of old.entries in
      let spells : spells_behind before (run.added ++ added) ≡ spells_behind before run.added =
      spells_on before run.added old added run.entries_are ∙ spells_without (spells_behind before run.added) s added none keep in
      record {
        added = run.added ++ added;
        entries_are = entries_behind before run.added old new added run.entries_are makes;
        told = subst (λ found. TellRuns new.inbound new.outbound start handled found) (sym spells) (runs_kept old new added start handled (spells_behind before run.added) makes run.told);
        inside = inside_on before run.added old added run.entries_are run.inside (inside_none s added outside);
        machine = subst (λ b. StandsBehind b start handled new.machine) (sym (bound_new old new added makes keep ∙ none)) machine;
      }

  -- a connection more, to which the session is bound
  pub opened_on : (before : List Entry) (start : State) (handled : List Handled) (c : ℕ) (bodies : List (List ℕ)) (old new : Book) (added : List Entry)
      → IsRunOver before start handled old → Makes old new (Bind c ∷ added) → All Keeps added
      → TellEach new.inbound new.outbound (connection_acts (after_connections start (bodies_of handled)) bodies) (filter (is_act new.outbound) (placed_from (state_after (state_of old.entries) (Bind c)) added))
      → SameButMoments new.machine (behind_all (after_ask (after_connections start (bodies_of handled)) 0) bodies)
      → IsRunOver before start (handled ++ handled_of c bodies ∷ []) new
  opened_on before start handled c bodies old new added run makes keep told machine =
      let s = state_of old.entries in
      let t = state_after s (Bind c) in
      let more = placed_from t added in
      let spells : spells_behind before (run.added ++ (Bind c ∷ added)) ≡ spells_behind before run.added ++ spell_with more (new_spell c) ∷ [] =
      spells_on before run.added old (Bind c ∷ added) run.entries_are ∙ spells_within (spells_behind before run.added) (new_spell c) t c added refl keep in
      let bound : (state_of new.entries).bound ≡ Some c =
      ap (λ es. (state_of es).bound) makes.entries_are ∙ ap (λ found. found.bound) (r.logs.decide_over old.entries (Bind c ∷ added)) ∙ bound_stays t added keep in
      record {
        added = run.added ++ (Bind c ∷ added);
        entries_are = entries_behind before run.added old new (Bind c ∷ added) run.entries_are makes;
        told = subst (λ found. TellRuns new.inbound new.outbound start (handled ++ handled_of c bodies ∷ []) found) (sym spells)
            (join_run new.inbound new.outbound start handled (handled_of c bodies) (spells_behind before run.added) (spell_with more (new_spell c))
            (runs_kept old new (Bind c ∷ added) start handled (spells_behind before run.added) makes run.told) refl
            (subst (λ ps. TellEach new.inbound new.outbound (connection_acts (after_connections start (bodies_of handled)) bodies) ps) (sym (acts_with new.outbound more (new_spell c))) told));
        inside = inside_on before run.added old (Bind c ∷ added) run.entries_are run.inside
            (All-cons IsInside (placed s (Bind c)) more (λ is. absurd (false≢true is)) (inside_bound t c added refl keep));
        machine = subst (λ b. StandsBehind b start (handled ++ handled_of c bodies ∷ []) new.machine) (sym bound) (record { past = handled; bodies = bodies; are = refl; same = machine });
      }

  -- the connection ended
  pub closed_on : (before : List Entry) (start : State) (handled : List Handled) (c : ℕ) (old new : Book)
      → IsRunOver before start handled old → (state_of old.entries).bound ≡ Some c → Makes old new (Leave c ∷ []) → new.machine ≡ after_leave old.machine
      → IsRunOver before start handled new
  closed_on before start handled c old new run bound makes machine_is =
      let s = state_of old.entries in
      let stood : IsWithin start handled c old.machine = subst (λ b. StandsBehind b start handled old.machine) bound run.machine in
      let m = after_connections start (bodies_of stood.past) in
      let ends : after_connections start (bodies_of handled) ≡ after_connection m stood.bodies =
      ap (λ hs. after_connections start (bodies_of hs)) stood.are
      ∙ ap (λ (lists : List (List (List ℕ))). after_connections start lists) (map-append (λ (h : Handled). h.bodies) stood.past (handled_of c stood.bodies ∷ []))
      ∙ r.parts.behind_connections start (bodies_of stood.past) (stood.bodies ∷ []) in
      let same : SameButMoments (after_leave old.machine) (after_connection m stood.bodies) = r.same.leave old.machine (behind_all (after_ask m 0) stood.bodies) stood.same in
      let none : (state_of new.entries).bound ≡ None = ap (λ es. (state_of es).bound) makes.entries_are ∙ ap (λ found. found.bound) (r.logs.decide old.entries (Leave c)) in
      record {
        added = run.added ++ Leave c ∷ [];
        entries_are = entries_behind before run.added old new (Leave c ∷ []) run.entries_are makes;
        told = subst (λ found. TellRuns new.inbound new.outbound start handled found) (sym (spells_on before run.added old (Leave c ∷ []) run.entries_are))
            (runs_kept old new (Leave c ∷ []) start handled (spells_behind before run.added) makes run.told);
        inside = inside_on before run.added old (Leave c ∷ []) run.entries_are run.inside
            (All-cons IsInside (placed s (Leave c)) [] (λ is. absurd (false≢true is)) (All-nil IsInside));
        machine = subst (λ b. StandsBehind b start handled new.machine) (sym none)
            (subst (λ found. SameButMoments found (after_connections start (bodies_of handled))) (sym machine_is)
            (subst (λ found. SameButMoments (after_leave old.machine) found) (sym ends) same));
      }

  -- what changes no act
  quiet_by : (before : List Entry) (start : State) (handled : List Handled) (old new : Book) (added : List Entry) (b : Option ℕ)
      → (state_of old.entries).bound ≡ b → IsRunOver before start handled old → Makes old new added → All Keeps added → ((state_of old.entries).bound ≡ None → All NoMachine added)
      → filter (is_act new.outbound) (placed_from (state_of old.entries) added) ≡ []
      → SameButMoments new.machine old.machine
      → IsRunOver before start handled new
  quiet_by before start handled old new added None bound run makes keep outside fails same =
      let stood : SameButMoments old.machine (after_connections start (bodies_of handled)) = subst (λ b. StandsBehind b start handled old.machine) bound run.machine in
      without_on before start handled old new added run bound makes keep (outside bound) (r.same.transitive new.machine old.machine (after_connections start (bodies_of handled)) same stood)
  quiet_by before start handled old new added (Some c) bound run makes keep outside fails same =
      let stood : IsWithin start handled c old.machine = subst (λ b. StandsBehind b start handled old.machine) bound run.machine in
      let m = after_connections start (bodies_of stood.past) in
      let all = stood.past ++ handled_of c stood.bodies ∷ [] in
      subst (λ hs. IsRunOver before start hs new) (sym stood.are)
      (within_on before start stood.past c stood.bodies stood.bodies [] old new added (subst (λ hs. IsRunOver before start hs old) stood.are run) bound makes keep
      (sym (append-nil (connection_acts m stood.bodies)))
      (subst (λ ps. TellEach new.inbound new.outbound [] ps) (sym fails) tt)
      (r.same.transitive new.machine old.machine (behind_all (after_ask m 0) stood.bodies) same stood.same))

  pub quiet_on : (before : List Entry) (start : State) (handled : List Handled) (old new : Book) (added : List Entry)
      → IsRunOver before start handled old → Makes old new added → All Keeps added → ((state_of old.entries).bound ≡ None → All NoMachine added)
      → filter (is_act new.outbound) (placed_from (state_of old.entries) added) ≡ []
      → SameButMoments new.machine old.machine
      → IsRunOver before start handled new
  quiet_on before start handled old new added run makes keep outside fails same = quiet_by before start handled old new added (state_of old.entries).bound refl run makes keep outside fails same
