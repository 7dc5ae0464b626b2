-- Carrying out acts one after another.
use Rattle.std.proofs.Common.{◌≡◌, ℕ, List, [], ◌∷◌, ◌++◌, true, false, IsTrue, IsSome, is_some, drop, Option, None, Some, refl, sym, ap, subst, ◌∙◌}
use Rattle.std.specs.List.{All}
use Rattle.std.proofs.lemmas.Bool.{false≢true}
use Rattle.std.proofs.lemmas.List.Elements.{All-head, All-tail, All-nil, All-cons}
use Rattle.session_core.specs.declared.acts.Admin.TheVariants.{Logon, Heartbeat, TestRequest, ResendRequest, Reject, Logout}
use Rattle.session_core.specs.declared.phases.Phase.{Phase}
use Rattle.session_core.specs.declared.phases.Phase.TheVariants.{Off}
use Rattle.session_core.specs.State.{State}
use Rattle.session_core.specs.Tick.{tick, tick_in, tick_of, effects_at}
use Rattle.session_book.specs.Kept.{IsBook}
use Rattle.connection_core.specs.Outgoing.{Outgoing}
use Rattle.lease_core.specs.Laws.{EntriesDecide}
use Rattle.lease_core.specs.Runs.{is_bind}
use Rattle.lease_core.specs.State.{State as Totals, state_of, state_after}
use Rattle.lease_core.specs.declared.entry.Entry.{Entry}
use Rattle.session_core.specs.declared.acts.Act.{Act}
use Rattle.session_core.specs.declared.acts.Act.TheVariants.{Accept, Send, Resend, Reset}
use Rattle.session_core.specs.Tasks.{IsReply, is_reset_act, is_tick_act, SendsShortTexts}
use Rattle.session_book.specs.Acts.{CanCarry, IsBoundFor, IsBoundIn, ResetsBehindBind, after_act, after_acts}
use Rattle.session_book.specs.Book.{Book, Desk, with_outbox}

pub acts_one_more : (at : ℕ) (acts : List Act) (act : Act) (s : Desk) → after_acts at (acts ++ act ∷ []) s ≡ after_act at act (after_acts at acts s)
acts_one_more at [] act s = refl
acts_one_more at (first ∷ acts) act s = acts_one_more at acts act (after_act at first s)

abbrev NoReset : Act → Type 0
NoReset act = is_reset_act act ≡ false

-- acts without a reset can stand behind any entry
pub no_resets : (totals : Totals) (acts : List Act) → All NoReset acts → ResetsBehindBind totals acts
no_resets totals [] all = tt
no_resets totals (act ∷ acts) all =
    (λ is. absurd (false≢true (sym (All-head NoReset act acts all) ∙ is)), All-tail NoReset act acts all)

-- directly behind a bind they can begin with one
pub first_reset : (totals : Totals) (acts : List Act) → IsTrue (is_bind totals.latest) → All NoReset (drop 1 acts) → ResetsBehindBind totals acts
first_reset totals [] is all = tt
first_reset totals (act ∷ acts) is all = (λ reset. is, all)

pub bound_for : (book : Book) (acts : List Act) → IsBoundIn book → IsBoundFor book acts
bound_for book [] is = tt
bound_for book (act ∷ acts) is = is

module _ (decide : EntriesDecide) where
  still_bound : (entries : List Entry) (e : Entry) → (state_after (state_of entries) e).bound ≡ (state_of entries).bound → IsSome (state_of entries).bound → IsSome (state_of (entries ++ e ∷ [])).bound
  still_bound entries e same is = subst (λ (b : Option ℕ). is_some b ≡ true) (sym (ap (λ s. s.bound) (decide entries e) ∙ same)) is

  bound_after_act : (at : ℕ) (act : Act) (book : Book) (out : Outgoing) → IsBoundIn book → IsBoundIn (after_act at act (with_outbox book out)).book
  bound_after_act at (Accept body) book out is = still_bound book.entries _ refl is
  bound_after_act at (Send admin) book out is = still_bound book.entries _ refl is
  bound_after_act at (Resend begin last) book out is = still_bound book.entries _ refl is
  bound_after_act at Reset book out is = still_bound book.entries _ refl is

  -- behind an act the others can be carried out
  pub can_rest : (at : ℕ) (act : Act) (acts : List Act) (book : Book) (out : Outgoing) → CanCarry book (act ∷ acts) → CanCarry (after_act at act (with_outbox book out)).book acts
  can_rest at act acts book out can = record {
    bound = bound_for (after_act at act (with_outbox book out)).book acts (bound_after_act at act book out can.bound);
    short = All-tail SendsShortTexts act acts can.short;
    resets = no_resets (state_of (after_act at act (with_outbox book out)).book.entries) acts can.resets.1;
  }

-- what the clock sends is short and no reset
tick_short : (act : Act) → is_tick_act act ≡ true → SendsShortTexts act
tick_short (Accept body) is = tt
tick_short (Send (Logon heart reset)) is = tt
tick_short (Send (Heartbeat None)) is = tt
tick_short (Send (Heartbeat (Some test))) is = absurd (false≢true is)
tick_short (Send TestRequest) is = tt
tick_short (Send (ResendRequest begin last)) is = tt
tick_short (Send (Reject seq tag kind reason)) is = tt
tick_short (Send (Logout text)) is = absurd (false≢true is)
tick_short (Resend begin last) is = tt
tick_short Reset is = tt

tick_no_reset : (act : Act) → is_tick_act act ≡ true → is_reset_act act ≡ false
tick_no_reset (Accept body) is = refl
tick_no_reset (Send admin) is = refl
tick_no_reset (Resend begin last) is = refl
tick_no_reset Reset is = absurd (false≢true is)

weaker : (P Q : Act → Type 0) → ((act : Act) → P act → Q act) → (acts : List Act) → All P acts → All Q acts
weaker P Q to [] all = All-nil Q
weaker P Q to (act ∷ acts) all = All-cons Q act acts (to act (All-head P act acts all)) (weaker P Q to acts (All-tail P act acts all))

-- nothing is due on a session that is off
pub no_tick_off : (machine : State) (at : ℕ) → machine.phase ≡ Off → (tick machine at).acts ≡ []
unfolding tick_of
no_tick_off machine at off = ap (λ (phase : Phase). (effects_at machine (tick_in machine at phase)).acts) off

-- the clock asks nothing of an unbound session, which is off
tick_bound : (book old : Book) (at : ℕ) (acts : List Act) (bound : Option ℕ) → (state_of old.entries).bound ≡ bound → IsBook old → book.entries ≡ old.entries → acts ≡ (tick old.machine at).acts → IsBoundFor book acts
tick_bound book old at acts None none is same are = subst (λ (xs : List Act). IsBoundFor book xs) (sym (are ∙ no_tick_off old.machine at (is.off none))) tt
tick_bound book old at acts (Some c) some is same are = bound_for book acts (ap (λ (es : List Entry). is_some (state_of es).bound) same ∙ ap (λ (b : Option ℕ). is_some b) some)

pub ticks_carry : (book old : Book) (at : ℕ) (acts : List Act) → IsBook old → book.entries ≡ old.entries → acts ≡ (tick old.machine at).acts → All (λ act. is_tick_act act ≡ true) acts → CanCarry book acts
ticks_carry book old at acts is same are all = record {
  bound = tick_bound book old at acts (state_of old.entries).bound refl is same are;
  short = weaker (λ act. is_tick_act act ≡ true) SendsShortTexts tick_short acts all;
  resets = no_resets (state_of book.entries) acts (weaker (λ act. is_tick_act act ≡ true) NoReset tick_no_reset acts all);
}

-- what follows from a message on a session that isn't off
pub replies_carry : (book : Book) (acts : List Act) → IsBoundIn book → All IsReply acts → CanCarry book acts
replies_carry book acts bound all = record {
  bound = bound_for book acts bound;
  short = weaker IsReply SendsShortTexts (λ act is. is.short) acts all;
  resets = no_resets (state_of book.entries) acts (weaker IsReply NoReset (λ act is. is.no_reset) acts all);
}
