-- What holds of every session holds at first, and behind each call.
use Rattle.std.proofs.Common.{◌≡◌, ◌≢◌, ℕ, ◌+◌, ◌≤◌, Bool, true, false, List, [], ◌∷◌, ◌++◌, ap, sym, ◌∙◌, subst, refl, arith, if◌then◌else◌}
use Rattle.std.specs.Prelude.{Option, None, Some, IfSome, IsNone, Result, Ok, Err, codes, nat_lt, ◌==◌, not, ◌||◌, drop}
use Rattle.std.specs.FinMap.{get, empty_of_len}
use Rattle.std.specs.List.{All, list_any}
use Rattle.std.specs.Option.{option_to_list}
use Rattle.std.specs.Result.{result_ok}
use Rattle.std.proofs.lemmas.List.Elements.{All-append, All-drop, All-from_recursion, All-head, All-nil, All-tail}
use Rattle.fix_fields.specs.Field.{Field}
use Rattle.fix_fields.specs.Reading.{fields_of, first_value}
use Rattle.gate_io.specs.declared.clocks.TheConstants.{LAST_MOMENT}
use Rattle.seq_gaps.specs.declared.offered.TheConstants.{HELD_LIMIT, MAX_NUMBER}
use Rattle.seq_gaps.specs.Line.{Line, IsLine, IsNumber, IsNotHeld, fresh_line, after_fill, after_clear}
use Rattle.session_core.specs.Ask.{after_ask, after_logon}
use Rattle.session_core.specs.Carry.{Progress, after_fill_to, after_handling, after_step, closing_acts}
use Rattle.session_core.specs.Laws.{AreActs, StatesStayLawful, ActsOfMessages, OnlyLogonsReset}
use Rattle.session_core.specs.Lines.{LineLaws}
use Rattle.session_core.specs.Receive.{Outcome, outcome, outcome_in, outcome_unread, outcome_of_terms, outcome_of_logon, outcome_of_low, outcome_of_welcome, outcome_of_step, outcome_asked, outcome_of_answer, expected_at, line_at, greeting, terms_in, terms_for, step_in, after_outcome, after_receive, is_send}
use Rattle.session_core.specs.Route.{demand, demand_some, asks_reset, has_lawful_reset, has_no_reset, has_heart, terms_of, AreTerms, answer_of, answer_in}
use Rattle.session_core.specs.Said.{has_value, heart_of, seq_num_of}
use Rattle.session_core.specs.State.{State, IsState, HoldsNothing, RestsIn, HoldsTasks, IsDialHeart, heart_in, new_state, after_leave}
use Rattle.session_core.specs.Steps.{step_of}
use Rattle.session_core.specs.Tasks.{IsReply, IsTask, SendsShortTexts, is_tick_act, is_reset_act}
use Rattle.session_core.specs.Tick.{after_tick, behind_tick, tick_of}
use Rattle.session_core.specs.declared.acts.Act.{Act}
use Rattle.session_core.specs.declared.acts.Act.TheVariants.{Accept, Send, Reset}
use Rattle.session_core.specs.declared.acts.Admin.{Admin}
use Rattle.session_core.specs.declared.acts.Admin.TheVariants.{Logon}
use Rattle.session_core.specs.declared.causes.Cause.{Cause}
use Rattle.session_core.specs.declared.causes.Cause.TheVariants.{BadLogon, NoNumber, NotLogon, CompId}
use Rattle.session_core.specs.declared.names.Names.{Names}
use Rattle.session_core.specs.declared.phases.Phase.{Phase}
use Rattle.session_core.specs.declared.phases.Phase.TheVariants.{Off, Asked, On}
use Rattle.session_core.specs.declared.routing.Terms.{Terms}
use Rattle.session_core.specs.declared.said.TheConstants.{LONGEST_HEARTBEAT}
use Rattle.session_core.specs.declared.steps.Step.{Step}
use Rattle.session_core.specs.declared.steps.Step.TheVariants.{Ignore, Refuse, Close, Move, Deliver, Handle}
use Rattle.session_core.specs.declared.tasks.Task.{Task}
use Rattle.session_core.specs.declared.tasks.Task.TheVariants.{Nothing, Do}
use Rattle.session_core.specs.declared.ticks.Tick.{Tick}
use Rattle.session_core.specs.declared.ticks.Tick.TheVariants.{Quiet, Beat, Test, Expire}
use Rattle.session_core.proofs.Good.{IsGood, Grows, NoneReady, line_filled_to, tasks_filled_to, good-drained, good-handled, free-drained, free-handled}
use Rattle.session_core.proofs.StepFacts.{IsStep, step_is, seq_num, between, low_logout_is}

-- lists of acts
one : (P : Act → Type 0) (act : Act) → P act → All P (act ∷ [])
one P act is = All-from_recursion P (act ∷ []) (is, tt)

cons : (P : Act → Type 0) (act : Act) (acts : List Act) → P act → All P acts → All P (act ∷ acts)
cons P act acts is all = All-append P (act ∷ []) acts (one P act is) all

weaker : (P Q : Act → Type 0) → ((act : Act) → P act → Q act) → (acts : List Act) → All P acts → All Q acts
weaker P Q up [] all = All-nil Q
weaker P Q up (act ∷ acts) all = cons Q act acts (up act (All-head P act acts all)) (weaker P Q up acts (All-tail P act acts all))

abbrev NoTick : Act → Type 0
NoTick act = is_tick_act act ≡ false

abbrev NoReset : Act → Type 0
NoReset act = is_reset_act act ≡ false

-- the acts that may follow from a message
no_acts : AreActs []
no_acts = record { short = All-nil SendsShortTexts; no_tick = All-nil NoTick; reset_first = All-nil NoReset }

resets_grow : (acts : List Act) (act : Act) → All NoReset (drop 1 acts) → NoReset act → All NoReset (drop 1 (acts ++ act ∷ []))
resets_grow [] act all is = All-nil NoReset
resets_grow (first ∷ acts) act all is = All-append NoReset acts (act ∷ []) all (one NoReset act is)

acts_grow : Grows AreActs
acts_grow acts act all is = record {
  short = All-append SendsShortTexts acts (act ∷ []) all.short (one SendsShortTexts act is.short);
  no_tick = All-append NoTick acts (act ∷ []) all.no_tick (one NoTick act is.no_tick);
  reset_first = resets_grow acts act all.reset_first is.no_reset;
}

replies_grow : Grows (All IsReply)
replies_grow acts act all is = All-append IsReply acts (act ∷ []) all (one IsReply act is)

are_acts : (acts : List Act) → All IsReply acts → AreActs acts
are_acts acts all = record {
  short = weaker IsReply SendsShortTexts (λ act is. is.short) acts all;
  no_tick = weaker IsReply NoTick (λ act is. is.no_tick) acts all;
  reset_first = All-drop NoReset 1 acts (weaker IsReply NoReset (λ act is. is.no_reset) acts all);
}

-- what a message leaves
pub record IsLawful (o : Outcome) : Type 0 where
  pub heart : heart_in o.phase ≤ LONGEST_HEARTBEAT
  pub line : IsLine o.line
  pub none_ready : IsNotHeld o.line o.line.expected
  pub tasks : HoldsTasks o.line
  pub resting : RestsIn o.phase o.line
  pub acts : AreActs o.effects.acts

-- either of two
either : {A : Type 0} (b : Bool) (x y : A) (P : A → Type 0) → P x → P y → P (if b then x else y)
either true x y P first second = first
either false x y P first second = second

lawful_unread : (state : State) → IsState state → IsLawful (outcome_unread state)
lawful_unread state is = record { heart = is.heart; line = is.line; none_ready = is.none_ready; tasks = is.tasks; resting = is.resting; acts = no_acts }

-- the tests of a Logon that is taken were passed
demand_ok : {A : Type 0} (test : Bool) (cause : Cause) (next : Result A Cause) (x : A) → demand test cause next ≡ Ok x → next ≡ Ok x
demand_ok true cause next x is = is
demand_ok false cause next x is = absurd cc

demand_some_ok : {A : Type 0} (o : Option ℕ) (cause : Cause) (next : ℕ → Result A Cause) (x : A) → demand_some o cause next ≡ Ok x → (n : ℕ) × (o ≡ Some n) × (next n ≡ Ok x)
demand_some_ok None cause next x is = absurd cc
demand_some_ok (Some n) cause next x is = (n, refl, is)

heart_within : (fields : List Field) (heart : ℕ) → heart_of fields ≡ Some heart → heart ≤ LONGEST_HEARTBEAT
unfolding heart_of
heart_within fields heart is = (between 0 LONGEST_HEARTBEAT heart (first_value 108 fields) is).1

terms_are : (fields : List Field) (terms : Terms) → terms_of fields ≡ Ok terms → AreTerms terms
unfolding terms_of
terms_are fields terms is =
    let first = demand_ok (has_value 98 (codes "0") fields) (BadLogon 98) _ terms is in
    let heart = demand_some_ok (heart_of fields) (BadLogon 108) _ terms first in
    let third = demand_ok (has_lawful_reset fields) (BadLogon 141) _ terms heart.2 in
    let number = demand_some_ok (seq_num_of fields) NoNumber _ terms third in
    let last = demand_ok (not (asks_reset fields) || number.0 == 1) (BadLogon 34) _ terms number.2 in
    let same_heart : heart.0 ≡ terms.heart = cc in
    let same_number : number.0 ≡ terms.number = cc in
    record {
      heart = subst (λ h. h ≤ LONGEST_HEARTBEAT) same_heart (heart_within fields heart.0 heart.1);
      number = subst IsNumber same_number (seq_num fields number.0 number.1);
    }

number_is : (names : Names) (heart : ℕ) (fields : List Field) (n : ℕ) → answer_of names heart fields ≡ Ok n → IsNumber n
unfolding answer_of
number_is names heart fields n is =
    let a = demand_ok (has_value 35 (codes "A") fields) NotLogon _ n is in
    let b = demand_ok (has_value 49 names.them fields) (CompId 49) _ n a in
    let c = demand_ok (has_value 56 names.us fields) (CompId 56) _ n b in
    let d = demand_ok (has_value 98 (codes "0") fields) (BadLogon 98) _ n c in
    let e = demand_ok (has_heart heart fields) (BadLogon 108) _ n d in
    let f = demand_ok (has_no_reset fields) (BadLogon 141) _ n e in
    let g = demand_some_ok (seq_num_of fields) NoNumber _ n f in
    let same : g.0 ≡ n = cc in
    subst IsNumber same (seq_num fields g.0 g.1)

module _ (laws : LineLaws) where
  tasks_fresh : HoldsTasks fresh_line
  tasks_fresh n task is = absurd (let none = laws.items.at_first n in cc)

  tasks_cleared : (line : Line Task) → HoldsTasks (after_clear line)
  tasks_cleared line n task is = absurd (let none = laws.items.clear line n in cc)

  free_fresh : IsNotHeld (fresh_line {T = Task}) 1
  free_fresh = subst (λ (o : Option Task). IsNone o) (sym (laws.items.at_first 1)) refl

  free_cleared : (line : Line Task) (n : ℕ) → IsNotHeld (after_clear line) n
  free_cleared line n = subst (λ (o : Option Task). IsNone o) (sym (laws.items.clear line n)) refl

  one_reply : (admin : Admin) → IsReply (Send admin) → AreActs (Send admin ∷ [])
  one_reply admin is = are_acts (Send admin ∷ []) (one IsReply (Send admin) is)

  -- the Logon that binds
  greeting_acts : (terms : Terms) → AreActs (greeting terms)
  greeting_acts terms =
      let logon : Act = Send (Logon terms.heart terms.reset) in
      let is : IsReply logon = record { short = tt; no_tick = refl; no_reset = refl } in
      either terms.reset (Reset ∷ logon ∷ []) (logon ∷ []) AreActs
      (record {
        short = cons SendsShortTexts Reset (logon ∷ []) tt (one SendsShortTexts logon tt);
        no_tick = cons NoTick Reset (logon ∷ []) refl (one NoTick logon refl);
        reset_first = one NoReset logon refl;
      })
      (one_reply (Logon terms.heart terms.reset) is)

  good_at : (line : Line Task) (terms : Terms) → IsLine line → HoldsTasks line → IsGood AreActs (record { line = line_at line terms; acts = greeting terms })
  good_at line terms is tasks = record {
    line = either terms.reset _ _ (λ (l : Line Task). IsLine l) laws.lines.at_first is;
    tasks = either terms.reset _ _ HoldsTasks tasks_fresh tasks;
    acts = greeting_acts terms;
  }

  free_at : (line : Line Task) (terms : Terms) → IsNotHeld line line.expected → IsNotHeld (line_at line terms) (line_at line terms).expected
  free_at line terms free = either terms.reset _ _ (λ (l : Line Task). IsNotHeld l l.expected) free_fresh free

  lawful_welcome : (line : Line Task) (terms : Terms) → IsLine line → IsNotHeld line line.expected → HoldsTasks line → AreTerms terms → IsLawful (outcome_of_welcome line terms)
  lawful_welcome line terms is free tasks are =
      let start = good_at line terms is tasks in
      let good = good-handled laws AreActs acts_grow (record { line = line_at line terms; acts = greeting terms }) terms.number Nothing start are.number tt in
      record {
        heart = are.heart;
        line = good.line;
        none_ready = free-handled laws (record { line = line_at line terms; acts = greeting terms }) terms.number Nothing start.line start.tasks (free_at line terms free) are.number tt;
        tasks = good.tasks;
        resting = tt;
        acts = good.acts;
      }

  expected_within : (line : Line Task) (terms : Terms) → IsLine line → expected_at line terms ≤ MAX_NUMBER + 1
  expected_within line terms is = either terms.reset 1 line.expected (λ n. n ≤ MAX_NUMBER + 1) (omega arith) is.to_end

  lawful_low : (line : Line Task) (terms : Terms) → IsLine line → IsNotHeld line line.expected → HoldsTasks line → HoldsNothing line → AreTerms terms → IsLawful (outcome_of_low line terms)
  lawful_low line terms is free tasks nothing are = record {
    heart = omega arith;
    line = is;
    none_ready = free;
    tasks = tasks;
    resting = nothing;
    acts = one_reply _ (low_logout_is (expected_at line terms) terms.number (expected_within line terms is) are.number.to_largest);
  }

  lawful_logon : (line : Line Task) (terms : Terms) → IsLine line → IsNotHeld line line.expected → HoldsTasks line → HoldsNothing line → AreTerms terms → IsLawful (outcome_of_logon line terms)
  unfolding outcome_of_logon
  lawful_logon line terms is free tasks nothing are =
      either (nat_lt terms.number (expected_at line terms)) _ _ IsLawful (lawful_low line terms is free tasks nothing are) (lawful_welcome line terms is free tasks are)

  ok_some : (result : Result Terms Cause) (terms : Terms) → result_ok result ≡ Some terms → result ≡ Ok terms
  ok_some (Ok found) terms is = cc
  ok_some (Err cause) terms is = absurd cc

  terms_in_are : (fields : Option (List Field)) (terms : Terms) → terms_in fields ≡ Some terms → AreTerms terms
  terms_in_are None terms is = absurd cc
  terms_in_are (Some fields) terms is = terms_are fields terms (ok_some (terms_of fields) terms is)

  lawful_terms : (state : State) (terms : Option Terms) → IsState state → HoldsNothing state.line → ((found : Terms) → terms ≡ Some found → AreTerms found) → IsLawful (outcome_of_terms state terms)
  lawful_terms state None is nothing are = lawful_unread state is
  lawful_terms state (Some terms) is nothing are = lawful_logon state.line terms is.line is.none_ready is.tasks nothing (are terms refl)

  -- the answer to the session's own Logon
  lawful_number : (line : Line Task) (heart n : ℕ) → heart ≤ LONGEST_HEARTBEAT → IsLine line → IsNotHeld line line.expected → HoldsTasks line → IsNumber n → IsLawful (outcome_of_answer line heart n)
  unfolding outcome_of_answer
  lawful_number line heart n within is free tasks number =
      let start : IsGood AreActs (record { line = line; acts = [] }) = record { line = is; tasks = tasks; acts = no_acts } in
      let good = good-handled laws AreActs acts_grow (record { line = line; acts = [] }) n Nothing start number tt in
      either (nat_lt n line.expected) _ _ IsLawful
      (record { heart = within; line = is; none_ready = free; tasks = tasks; resting = tt; acts = one_reply _ (low_logout_is line.expected n is.to_end number.to_largest) })
      (record { heart = within; line = good.line; none_ready = free-handled laws (record { line = line; acts = [] }) n Nothing is tasks free number tt; tasks = good.tasks; resting = tt; acts = good.acts })

  lawful_asked : (state : State) (heart : ℕ) (answer : Result ℕ Cause) → IsState state → heart ≤ LONGEST_HEARTBEAT → ((n : ℕ) → answer ≡ Ok n → IsNumber n) → IsLawful (outcome_asked state heart answer)
  lawful_asked state heart (Ok n) is within number = lawful_number state.line heart n within is.line is.none_ready is.tasks (number n refl)
  lawful_asked state heart (Err cause) is within number = record { heart = is.heart; line = is.line; none_ready = is.none_ready; tasks = is.tasks; resting = is.resting; acts = no_acts }

  answer_number : (names : Names) (heart : ℕ) (fields : Option (List Field)) (n : ℕ) → answer_in names heart fields ≡ Ok n → IsNumber n
  answer_number names heart None n is = absurd cc
  answer_number names heart (Some fields) n is = number_is names heart fields n is

  -- a message on a session whose Logon was answered
  pub record IsDone (p : Progress) : Type 0 where
    pub good : IsGood (All IsReply) p
    pub free : NoneReady p

  closing_are : (first : Option Admin) (last : Admin) → IfSome first (λ admin. IsReply (Send admin)) → IsReply (Send last) → All IsReply (closing_acts first last)
  closing_are None last is are = one IsReply (Send last) are
  closing_are (Some first) last is are = cons IsReply (Send first) (Send last ∷ []) is (one IsReply (Send last) are)

  closed : (line : Line Task) (counts : Bool) → IsLine line → IsLine (after_clear (if counts then after_fill_to line (line.expected + 1) else line))
  closed line counts is = laws.lines.clear _ (either counts _ _ (λ (l : Line Task). IsLine l) (line_filled_to laws line (line.expected + 1) is) is)

  done_handled : (line : Line Task) (acts : List Act) (n : ℕ) (task : Task) → IsLine line → HoldsTasks line → IsNotHeld line line.expected → All IsReply acts → IsNumber n → IsTask task → IsDone (after_handling (record { line = line; acts = acts }) n task)
  done_handled line acts n task is tasks free are number lawful = record {
    good = good-handled laws (All IsReply) replies_grow (record { line = line; acts = acts }) n task (record { line = is; tasks = tasks; acts = are }) number lawful;
    free = free-handled laws (record { line = line; acts = acts }) n task is tasks free number lawful;
  }

  at_once_are : (act : Option Act) → IfSome act IsReply → All IsReply (option_to_list act)
  at_once_are None is = All-nil IsReply
  at_once_are (Some act) is = one IsReply act is

  accept_is : (body : List ℕ) → IsReply (Accept body)
  accept_is body = record { short = tt; no_tick = refl; no_reset = refl }

  done_step : (line : Line Task) (step : Step) (body : List ℕ) → IsLine line → HoldsTasks line → IsNotHeld line line.expected → IsStep step → IsDone (after_step line step body)
  done_step line Ignore body is tasks free lawful = record { good = record { line = is; tasks = tasks; acts = All-nil IsReply }; free = free }
  done_step line (Refuse reject) body is tasks free lawful = record { good = record { line = is; tasks = tasks; acts = one IsReply (Send reject) lawful }; free = free }
  done_step line (Close first last cause counts) body is tasks free lawful =
      let counted : Line Task = if counts then after_fill_to line (line.expected + 1) else line in
      record { good = record { line = closed line counts is; tasks = tasks_cleared counted; acts = closing_are first last lawful.0 lawful.1 }; free = free_cleared counted counted.expected }
  done_step line (Move to) body is tasks free lawful =
      let moved = line_filled_to laws line to is in
      record {
        good = good-drained laws (All IsReply) replies_grow HELD_LIMIT (record { line = after_fill_to line to; acts = [] }) (record { line = moved; tasks = tasks_filled_to laws line to tasks; acts = All-nil IsReply });
        free = free-drained laws (record { line = after_fill_to line to; acts = [] }) moved;
      }
  done_step line (Deliver n) body is tasks free lawful = done_handled line [] n (Do (Accept body)) is tasks free (All-nil IsReply) lawful (accept_is body)
  done_step line (Handle n at_once task) body is tasks free lawful = done_handled line (option_to_list at_once) n task is tasks free (at_once_are at_once lawful.1) lawful.0 lawful.2

  step_in_is : (names : Names) (expected : ℕ) (fields : Option (List Field)) (step : Step) → expected ≤ MAX_NUMBER + 1 → step_in names expected fields ≡ Some step → IsStep step
  step_in_is names expected None step e is = absurd cc
  step_in_is names expected (Some fields) step e is = subst IsStep (let same : step_of names expected fields ≡ step = cc in same) (step_is names expected fields e)

  lawful_step : (state : State) (body : List ℕ) (step : Option Step) (heart : ℕ) → IsState state → state.phase ≡ On heart → ((found : Step) → step ≡ Some found → IsStep found) → IsLawful (outcome_of_step state body step) × All IsReply (outcome_of_step state body step).effects.acts
  lawful_step state body None heart is on lawful = (lawful_unread state is, All-nil IsReply)
  lawful_step state body (Some step) heart is on lawful =
      let done = done_step state.line step body is.line is.tasks is.none_ready (lawful step refl) in (
        record {
          heart = is.heart;
          line = done.good.line;
          none_ready = done.free;
          tasks = done.good.tasks;
          resting = subst (λ (phase : Phase). RestsIn phase (after_step state.line step body).line) (sym on) tt;
          acts = are_acts _ done.good.acts;
        },
        done.good.acts,
      )

  terms_for_are : (dials : Option ℕ) (fields : Option (List Field)) (terms : Terms) → terms_for dials fields ≡ Some terms → AreTerms terms
  terms_for_are None fields terms is = terms_in_are fields terms is
  terms_for_are (Some heart) fields terms is = absurd cc

  lawful_in : (phase : Phase) (state : State) (body : List ℕ) (fields : Option (List Field)) → IsState state → state.phase ≡ phase → IsLawful (outcome_in phase state body fields)
  lawful_in Off state body fields is off =
      lawful_terms state (terms_for state.dials fields) is (subst (λ (phase : Phase). RestsIn phase state.line) off is.resting) (terms_for_are state.dials fields)
  lawful_in (Asked heart) state body fields is asked =
      lawful_asked state heart (answer_in state.names heart fields) is (subst (λ (phase : Phase). heart_in phase ≤ LONGEST_HEARTBEAT) asked is.heart) (answer_number state.names heart fields)
  lawful_in (On heart) state body fields is on =
      (lawful_step state body (step_in state.names state.line.expected fields) heart is on (λ step found. step_in_is state.names state.line.expected fields step is.line.to_end found)).0

  pub lawful_outcome : (state : State) (body : List ℕ) → IsState state → IsLawful (outcome state body)
  unfolding outcome
  lawful_outcome state body is = lawful_in state.phase state body (result_ok (fields_of body)) is refl

  pub acts_of_messages : ActsOfMessages
  acts_of_messages state body m is = (lawful_outcome state body is).acts

  -- what the answer to the session's own Logon asks for
  replies_number : (line : Line Task) (heart n : ℕ) → IsLine line → HoldsTasks line → IsNumber n → All IsReply (outcome_of_answer line heart n).effects.acts
  unfolding outcome_of_answer
  replies_number line heart n is tasks number =
      let start : IsGood (All IsReply) (record { line = line; acts = [] }) = record { line = is; tasks = tasks; acts = All-nil IsReply } in
      let good = good-handled laws (All IsReply) replies_grow (record { line = line; acts = [] }) n Nothing start number tt in
      either (nat_lt n line.expected) _ _ (λ (o : Outcome). All IsReply o.effects.acts)
      (one IsReply _ (low_logout_is line.expected n is.to_end number.to_largest))
      good.acts

  replies_asked : (state : State) (heart : ℕ) (answer : Result ℕ Cause) → IsState state → ((n : ℕ) → answer ≡ Ok n → IsNumber n) → All IsReply (outcome_asked state heart answer).effects.acts
  replies_asked state heart (Ok n) is number = replies_number state.line heart n is.line is.tasks (number n refl)
  replies_asked state heart (Err cause) is number = All-nil IsReply

  replies_in : (phase : Phase) (state : State) (body : List ℕ) (fields : Option (List Field)) → IsState state → state.phase ≡ phase → phase ≢ Off → All IsReply (outcome_in phase state body fields).effects.acts
  replies_in Off state body fields is off other = absurd (other refl)
  replies_in (Asked heart) state body fields is asked other = replies_asked state heart (answer_in state.names heart fields) is (answer_number state.names heart fields)
  replies_in (On heart) state body fields is on other =
      (lawful_step state body (step_in state.names state.line.expected fields) heart is on (λ step found. step_in_is state.names state.line.expected fields step is.line.to_end found)).1

  pub only_logons_reset : OnlyLogonsReset
  unfolding outcome
  only_logons_reset state body m is other = replies_in state.phase state body (result_ok (fields_of body)) is refl other

  after_is : (state : State) (o : Outcome) (m : ℕ) → IsState state → IsLawful o → m ≤ LAST_MOMENT → IsState (after_outcome state o m)
  after_is state o m is lawful within =
      either o.heard _ _ IsState
      (record {
        dials = is.dials;
        heart = lawful.heart;
        line = lawful.line;
        none_ready = lawful.none_ready;
        tasks = lawful.tasks;
        resting = lawful.resting;
        received = within;
        sent = either (list_any is_send o.effects.acts) _ _ (λ n. n ≤ LAST_MOMENT) within is.sent;
        waiting = omega arith;
      })
      is

  pub receive_is : (state : State) (body : List ℕ) (m : ℕ) → IsState state → m ≤ LAST_MOMENT → IsState (after_receive state body m)
  receive_is state body m is within = after_is state (outcome state body) m is (lawful_outcome state body is) within

  pub sent_is : (state : State) (m : ℕ) → IsState state → m ≤ LAST_MOMENT → IsState (record state { sent = m })
  sent_is state m is within = record { dials = is.dials; heart = is.heart; line = is.line; none_ready = is.none_ready; tasks = is.tasks; resting = is.resting; received = is.received; sent = within; waiting = is.waiting }

  tick_behind : (state : State) (m : ℕ) (tick : Tick) → IsState state → m ≤ LAST_MOMENT → IsState (behind_tick state m tick)
  tick_behind state m Quiet is within = is
  tick_behind state m Beat is within = sent_is state m is within
  tick_behind state m Test is within = record { dials = is.dials; heart = is.heart; line = is.line; none_ready = is.none_ready; tasks = is.tasks; resting = is.resting; received = is.received; sent = within; waiting = within }
  tick_behind state m Expire is within = is

  pub tick_is : (state : State) (m : ℕ) → IsState state → m ≤ LAST_MOMENT → IsState (after_tick state m)
  tick_is state m is within = tick_behind state m (tick_of state m) is within

  pub leave_is : (state : State) → IsState state → IsState (after_leave state)
  leave_is state is = record {
    dials = is.dials;
    heart = omega arith;
    line = laws.lines.clear state.line is.line;
    none_ready = free_cleared state.line state.line.expected;
    tasks = tasks_cleared state.line;
    resting = record { held = refl; horizon = refl };
    received = is.received;
    sent = is.sent;
    waiting = omega arith;
  }

  logon_is : (state : State) (m : ℕ) (dials : Option ℕ) → IsState state → IfSome dials IsDialHeart → HoldsNothing state.line → m ≤ LAST_MOMENT → IsState (after_logon state m dials)
  logon_is state m None is dials nothing within = is
  logon_is state m (Some heart) is dials nothing within = record {
    dials = is.dials;
    heart = dials.to_longest;
    line = is.line;
    none_ready = is.none_ready;
    tasks = is.tasks;
    resting = nothing;
    received = within;
    sent = within;
    waiting = omega arith;
  }

  pub ask_is : (state : State) (m : ℕ) → IsState state → state.phase ≡ Off → m ≤ LAST_MOMENT → IsState (after_ask state m)
  ask_is state m is off within = logon_is state m state.dials is is.dials (subst (λ (phase : Phase). RestsIn phase state.line) off is.resting) within

  -- a line on which nothing was heard
  tasks_resumed : (to : ℕ) → HoldsTasks (after_fill fresh_line to)
  tasks_resumed to n task is = tasks_fresh n task (laws.items.fill fresh_line to n task is)

  none_resumed : (to n : ℕ) (o : Option Task) → get (after_fill (fresh_line {T = Task}) to).held n ≡ o → IsNone o
  none_resumed to n None is = refl
  none_resumed to n (Some task) is = absurd (let none = laws.items.at_first n in let same = laws.items.fill fresh_line to n task is in cc)

  pub first_is : (us them : List ℕ) (dials : Option ℕ) (expected : ℕ) → IfSome dials IsDialHeart → 1 ≤ expected → expected ≤ MAX_NUMBER + 1 → IsState (new_state us them dials (after_fill fresh_line expected))
  first_is us them dials expected are from end = record {
    dials = are;
    heart = omega arith;
    line = laws.lines.fill fresh_line expected laws.lines.at_first from end;
    none_ready = none_resumed expected expected _ refl;
    tasks = tasks_resumed expected;
    resting = record { held = empty_of_len _ (omega (arith, laws.counts.fill fresh_line expected, laws.counts.at_first)); horizon = refl };
    received = omega arith;
    sent = omega arith;
    waiting = omega arith;
  }

  -- a session on which nothing was heard
  pub fresh_is : (us them : List ℕ) → IsState (new_state us them None fresh_line)
  fresh_is us them = record {
    dials = tt;
    heart = omega arith;
    line = laws.lines.at_first;
    none_ready = free_fresh;
    tasks = tasks_fresh;
    resting = record { held = empty_of_len _ laws.counts.at_first; horizon = refl };
    received = omega arith;
    sent = omega arith;
    waiting = omega arith;
  }

  -- the same in the words of the code: what a session is behind a Logon, an answer and any other message
  heard_is : (state : State) (phase : Phase) (line : Line Task) (m sent : ℕ) → IsState state → heart_in phase ≤ LONGEST_HEARTBEAT → IsLine line → IsNotHeld line line.expected → HoldsTasks line → RestsIn phase line → m ≤ LAST_MOMENT → sent ≤ LAST_MOMENT → IsState (record state { phase = phase; line = line; received = m; sent = sent; waiting = None })
  heard_is state phase line m sent is heart lawful free tasks resting within last = record {
    dials = is.dials;
    heart = heart;
    line = lawful;
    none_ready = free;
    tasks = tasks;
    resting = resting;
    received = within;
    sent = last;
    waiting = omega arith;
  }

  pub bound_is : (state : State) (terms : Terms) (phase : Phase) (line : Line Task) (m sent : ℕ) → IsState state → state.phase ≡ Off → AreTerms terms → phase ≡ (outcome_of_logon state.line terms).phase → line ≡ (outcome_of_logon state.line terms).line → m ≤ LAST_MOMENT → sent ≤ LAST_MOMENT → IsState (record state { phase = phase; line = line; received = m; sent = sent; waiting = None })
  bound_is state terms phase line m sent is off are same_phase same_line within last =
      let lawful = lawful_logon state.line terms is.line is.none_ready is.tasks (subst (λ (p : Phase). RestsIn p state.line) off is.resting) are in
      rw (same_phase, same_line) (heard_is state _ _ m sent is lawful.heart lawful.line lawful.none_ready lawful.tasks lawful.resting within last)

  pub answered_is : (state : State) (heart n : ℕ) (line : Line Task) (m sent : ℕ) → IsState state → state.phase ≡ Asked heart → IsNumber n → line ≡ (outcome_of_answer state.line heart n).line → m ≤ LAST_MOMENT → sent ≤ LAST_MOMENT → IsState (record state { phase = On heart; line = line; received = m; sent = sent; waiting = None })
  answered_is state heart n line m sent is asked number same_line within last =
      let short = subst (λ (p : Phase). heart_in p ≤ LONGEST_HEARTBEAT) asked is.heart in
      let lawful = lawful_number state.line heart n short is.line is.none_ready is.tasks number in
      rw (same_line) (heard_is state (On heart) _ m sent is short lawful.line lawful.none_ready lawful.tasks tt within last)

  pub next_is : (state : State) (heart expected : ℕ) (fields : Option (List Field)) (found : Option Step) (step : Step) (body : List ℕ) (after : Progress) (m sent : ℕ) → IsState state → state.phase ≡ On heart → expected ≡ state.line.expected → found ≡ step_in state.names expected fields → found ≡ Some step → after ≡ after_step state.line step body → m ≤ LAST_MOMENT → sent ≤ LAST_MOMENT → IsState (record state { line = after.line; received = m; sent = sent; waiting = None })
  next_is state heart expected fields found step body after m sent is on counted told some progress within last =
      let lawful = step_in_is state.names state.line.expected fields step is.line.to_end (ap (λ e. step_in state.names e fields) (sym counted) ∙ sym told ∙ some) in
      let done = subst (λ (p : Progress). IsDone p) (sym progress) (done_step state.line step body is.line is.tasks is.none_ready lawful) in
      heard_is state state.phase after.line m sent is is.heart done.good.line done.free done.good.tasks (subst (λ (p : Phase). RestsIn p after.line) (sym on) tt) within last

  pub states_stay_lawful : StatesStayLawful
  states_stay_lawful = record { at_first = first_is; ask = ask_is; receive = receive_is; tick = tick_is; sent = sent_is; leave = leave_is }
