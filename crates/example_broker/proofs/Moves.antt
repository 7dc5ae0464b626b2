-- Steps of a library, one behind another.
use Rattle.std.proofs.Common.{◌≡◌, ◌⊎◌, inl, inr, ℕ, zero, suc, Option, Result, Err, refl, subst, sym}
use Rattle.library_api.specs.Known.{Known}
use Rattle.library_api.specs.declared.event.Event.{Event}
use Rattle.library_calls.specs.Calls.{Polls}
use Rattle.example_broker.specs.Trades.{BeginsRound, FollowsOn, GivesAllBack, GivesBack, Looks, LooksAt, PartsWith, Repeats, Round, Trades, TradesShort}
use Rattle.example_broker.specs.declared.answering.Answer.{Answer}

pub repeats_none : {T : Type 0} (Step : T → T → Type 0) (a : T) → Repeats Step a a
repeats_none Step a = record { count = zero; steps = refl }

-- one more
pub repeats_more : {T : Type 0} (Step : T → T → Type 0) (a b c : T) → Repeats Step a b → Step b c → Repeats Step a c
repeats_more Step a b c was step = record { count = suc was.count; steps = (b, was.steps, step) }

-- a library whose number stays looks at one session more
pub looks_more : (number same s : ℕ) (a b c : Known) → same ≡ number → Looks number a b → LooksAt same s b c → Looks number a c
looks_more number same s a b c is was at = repeats_more _ a b c was (s, subst (λ (n : ℕ). LooksAt n s b c) is at)

-- and makes one round more
pub trades_more : (number same : ℕ) (a b c : Known) → same ≡ number → Trades number a b → Round same b c → Trades number a c
trades_more number same a b c is was round = repeats_more _ a b c was (subst (λ (n : ℕ). Round n b c) is round)

pub trades_short : (number same : ℕ) (a b c : Known) → same ≡ number → Trades number a b → BeginsRound same b c → TradesShort number a c
trades_short number same a b c is was begins = record { traded = b; trades = was; begins = subst (λ (n : ℕ). BeginsRound n b c) is begins }

pub round_of : (number same : ℕ) (old looked polled followed new : Known) (event : Event) (answered : Option (ℕ × Answer)) → same ≡ number → Looks number old looked → Polls event looked polled → FollowsOn event answered polled followed
    → PartsWith same answered followed new → Round number old new
round_of number same old looked polled followed new event answered is looks polls follows parts = record {
  looked = looked;
  looks = looks;
  event = event;
  polled = polled;
  polls = polls;
  answered = answered;
  followed = followed;
  follows = follows;
  parts = subst (λ (n : ℕ). PartsWith n answered followed new) is parts;
}

-- a session more is given back, or isn't held
pub gives_more : (s : ℕ) (a b c : Known) → GivesAllBack a b → (c ≡ b) ⊎ GivesBack s b c → GivesAllBack a c
gives_more s a b c was (inl same) = subst (λ (k : Known). GivesAllBack a k) (sym same) was
gives_more s a b c was (inr gives) = repeats_more _ a b c was (s, gives)
