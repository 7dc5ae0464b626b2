-- What a message says to a session that waits for the answer to its Logon, and what leaves a session in its phase.
use Rattle.std.proofs.Common.{◌≡◌, ℕ, Bool, true, false, List, [], ◌∷◌, ◌++◌, codes, Option, None, Some, Result, Ok, Err, refl, sym, ap, ◌∙◌}
use Rattle.std.specs.Prelude.{if◌then◌else◌, is_ok, nat_lt}
use Rattle.std.specs.Result.{result_ok}
use Rattle.fix_fields.specs.Field.{Field}
use Rattle.fix_fields.specs.Reading.{fields_of}
use Rattle.lease_core.specs.declared.word.Word.{Word}
use Rattle.resend_plan.specs.declared.item.WireItem.{WireItem}
use Rattle.session_book.specs.Acts.{after_act, after_acts, after_ticking, plan_items}
use Rattle.session_book.specs.Book.{Desk, after_sending, with_machine, with_outbox}
use Rattle.session_book.specs.Words.{after_timeout, after_word, send_items}
use Rattle.session_core.specs.Receive.{Outcome, outcome, outcome_asked, outcome_in, outcome_of_answer, outcome_of_good_answer, outcome_of_low_answer, receive}
use Rattle.session_core.specs.Route.{answer_in, answer_of, demand, demand_some, has_heart, has_no_reset}
use Rattle.session_core.specs.Said.{has_value, seq_num_of}
use Rattle.session_core.specs.State.{State}
use Rattle.session_core.specs.Runs.{SameButMoments}
use Rattle.session_core.specs.Tick.{after_tick, tick}
use Rattle.session_core.specs.declared.acts.Act.{Act}
use Rattle.session_core.specs.declared.acts.Act.TheVariants as act
use Rattle.session_core.specs.declared.causes.Cause.{Cause}
use Rattle.session_core.specs.declared.causes.Cause.TheVariants.{BadLogon, CompId, NoNumber, NotLogon}
use Rattle.session_core.specs.declared.names.Names.{Names}
use Rattle.session_core.specs.declared.phases.Phase.{Phase}
use Rattle.session_core.specs.declared.phases.Phase.TheVariants.{Asked}
use Rattle.session_desk.specs.Steps.{is_answer}
use Rattle.engine_laws.specs.texts.Answered.{answers_logon}

-- what is queued leaves the session in its phase
sending_phase : (at : ℕ) (items : List WireItem) (m : State) → (after_sending at items m).phase ≡ m.phase
sending_phase at [] m = refl
sending_phase at (item ∷ items) m = refl

pub acts_phase : (at : ℕ) (acts : List Act) (s : Desk) → (after_acts at acts s).book.machine.phase ≡ s.book.machine.phase
acts_phase at [] s = refl
acts_phase at (act.Accept body ∷ acts) s = acts_phase at acts (after_act at (act.Accept body) s)
acts_phase at (act.Send admin ∷ acts) s = acts_phase at acts (after_act at (act.Send admin) s)
acts_phase at (act.Resend begin last ∷ acts) s = acts_phase at acts (after_act at (act.Resend begin last) s) ∙ sending_phase at (plan_items at begin last s.book) s.book.machine
acts_phase at (act.Reset ∷ acts) s = acts_phase at acts (after_act at act.Reset s)

-- so does the clock
pub ticking_phase : ((state : State) (moment : ℕ) → SameButMoments state (after_tick state moment)) → (at : ℕ) (s : Desk) → (after_ticking at s).book.machine.phase ≡ s.book.machine.phase
ticking_phase same at s =
    let m = s.book.machine in
    acts_phase at (tick m at).acts (with_outbox (with_machine (after_tick m at) s.book) s.outgoing) ∙ sym (same m at).phase

pub word_phase : (at until : ℕ) (w : Word) (bodies : List (List ℕ)) (s : Desk) → (after_word at until w bodies s).book.machine.phase ≡ s.book.machine.phase
word_phase at until w bodies s = sending_phase at (send_items bodies s.book) s.book.machine

pub timeout_phase : (at until : ℕ) (w : Word) (bodies : List (List ℕ)) (s : Desk) → (after_timeout at until w bodies s).book.machine.phase ≡ s.book.machine.phase
timeout_phase at until w bodies s = sending_phase at (send_items bodies s.book) s.book.machine

-- the answer to a Logon is refused by no low number
abbrev IsNotLow : Result ℕ Cause → Type 0
IsNotLow (Ok n) = Unit {0}
IsNotLow (Err cause) = is_answer (Some cause) ≡ false

demanded : (test : Bool) (cause : Cause) (next : Result ℕ Cause) → is_answer (Some cause) ≡ false → IsNotLow next → IsNotLow (demand test cause next)
demanded true cause next other rest = rest
demanded false cause next other rest = other

some_demanded : (o : Option ℕ) (cause : Cause) → is_answer (Some cause) ≡ false → IsNotLow (demand_some o cause (λ n. Ok n))
some_demanded None cause other = other
some_demanded (Some n) cause other = tt

answer_not_low : (names : Names) (heart : ℕ) (fields : List Field) → IsNotLow (answer_of names heart fields)
unfolding answer_of
answer_not_low names heart fields =
    let number : Result ℕ Cause = demand_some (seq_num_of fields) NoNumber (λ n. Ok n) in
    let reset : Result ℕ Cause = demand (has_no_reset fields) (BadLogon 141) number in
    let beat : Result ℕ Cause = demand (has_heart heart fields) (BadLogon 108) reset in
    let plain : Result ℕ Cause = demand (has_value 98 (codes "0") fields) (BadLogon 98) beat in
    let to : Result ℕ Cause = demand (has_value 56 names.us fields) (CompId 56) plain in
    let sender : Result ℕ Cause = demand (has_value 49 names.them fields) (CompId 49) to in
    demanded (has_value 35 (codes "A") fields) NotLogon sender refl
    (demanded (has_value 49 names.them fields) (CompId 49) to refl
    (demanded (has_value 56 names.us fields) (CompId 56) plain refl
    (demanded (has_value 98 (codes "0") fields) (BadLogon 98) beat refl
    (demanded (has_heart heart fields) (BadLogon 108) reset refl
    (demanded (has_no_reset fields) (BadLogon 141) number refl
    (some_demanded (seq_num_of fields) NoNumber refl))))))

not_low : (names : Names) (heart : ℕ) (fields : Option (List Field)) → IsNotLow (answer_in names heart fields)
not_low names heart None = refl
not_low names heart (Some fields) = answer_not_low names heart fields

either_answers : (b : Bool) (one two : Outcome) → is_answer one.effects.end ≡ true → is_answer two.effects.end ≡ true → is_answer (if b then one else two).effects.end ≡ true
either_answers true one two first second = first
either_answers false one two first second = second

asked_answers : (m : State) (heart : ℕ) (r : Result ℕ Cause) → IsNotLow r → is_answer (outcome_asked m heart r).effects.end ≡ is_ok r
unfolding outcome_of_answer
asked_answers m heart (Ok n) low = either_answers (nat_lt n m.line.expected) (outcome_of_low_answer m.line heart n) (outcome_of_good_answer m.line heart n) refl refl
asked_answers m heart (Err cause) low = low

-- a session that waits takes a message for an answer where that is one
pub said : (m : State) (heart at : ℕ) (body : List ℕ) → m.phase ≡ Asked heart → is_answer (receive m body at).end ≡ answers_logon m.names heart (body ∷ [])
unfolding outcome
said m heart at body asked =
    let fields = result_ok (fields_of body) in
    ap (λ (p : Phase). is_answer (outcome_in p m body fields).effects.end) asked ∙ asked_answers m heart (answer_in m.names heart fields) (not_low m.names heart fields)

-- the first of some messages stays the first
pub answered_on : (names : Names) (heart : ℕ) (bodies : List (List ℕ)) (body : List ℕ) → answers_logon names heart bodies ≡ true → answers_logon names heart (bodies ++ body ∷ []) ≡ true
answered_on names heart [] body is = absurd (cc)
answered_on names heart (first ∷ bodies) body is = is
