-- The libraries' plans.
use Rattle.std.proofs.Common.{◌≡◌, ◌≢◌, ℕ, ◌+◌, ◌<◌, Bool, true, false, cond, List, [], ◌∷◌, ◌++◌, length, set, append-nil, arith, refl, ap, subst, sym, ◌∙◌}
use Rattle.std.specs.Prelude.{◌==◌, All, Some, slice_get}
use Rattle.std.proofs.lemmas.Bool.Decides.{nat_tests}
use Rattle.std.proofs.lemmas.List.{length-set}
use Rattle.std.proofs.lemmas.List.Elements.{filter-append, filter_passes}
use Rattle.std.proofs.lemmas.Option.{slice_get_within}
use Rattle.library_desk.specs.declared.shared.Shared.{Shared}
use Rattle.plan_runner.specs.Lines.{IsLineOf, IsPlanOf}
use Rattle.script_text.specs.declared.steps.Step.{Step}
use Rattle.script_text.specs.declared.steps.Step.TheVariants as step
use Rattle.serve_run.specs.Plans.{library_of, plan_of}
use Rattle.serve_run.specs.Workers.{StartsWorker, StartsWorkers}
use Rattle.serve_run.specs.declared.workers.Worker.{Worker}
use Rattle.serve_run.proofs.Places.{set_others}

plan_more : (number : ℕ) (steps : List Step) (s : Step) → plan_of number (steps ++ s ∷ []) ≡ plan_of number steps ++ plan_of number (s ∷ [])
plan_more number steps s = filter-append (λ t. library_of t == number) steps (s ∷ [])

own_step : (number : ℕ) (s : Step) → library_of s ≡ number → plan_of number (s ∷ []) ≡ s ∷ []
own_step number s is = let own : (library_of s == number) ≡ true = grind (arith, nat_tests) in ap (λ (b : Bool). cond b (s ∷ []) []) own

other_step : (number : ℕ) (s : Step) → library_of s ≢ number → plan_of number (s ∷ []) ≡ []
other_step number s other = let not_own : (library_of s == number) ≡ false = grind (arith, nat_tests) in ap (λ (b : Bool). cond b (s ∷ []) []) not_own

pub plan_with_own : (number : ℕ) (steps : List Step) (s : Step) → library_of s ≡ number → plan_of number (steps ++ s ∷ []) ≡ plan_of number steps ++ s ∷ []
plan_with_own number steps s is = plan_more number steps s ∙ ap (λ (ss : List Step). plan_of number steps ++ ss) (own_step number s is)

pub plan_with_other : (number : ℕ) (steps : List Step) (s : Step) → library_of s ≢ number → plan_of number (steps ++ s ∷ []) ≡ plan_of number steps
plan_with_other number steps s other = plan_more number steps s ∙ (ap (λ (ss : List Step). plan_of number steps ++ ss) (other_step number s other) ∙ append-nil (plan_of number steps))

-- a line of another library is added
starts_other : (asks : ℕ) (shared : Shared) (before : List Step) (s : Step) (place : ℕ) (worker : Worker) → library_of s ≢ place + 1 → StartsWorker asks shared before place worker → StartsWorker asks shared (before ++ s ∷ []) place worker
starts_other asks shared before s place worker other was = record {
  number = was.number;
  seat = was.seat;
  commands = was.commands;
  notices = was.notices;
  tail = was.tail;
  head = was.head;
  library = was.library;
  plan = was.plan ∙ sym (plan_with_other (place + 1) before s other);
}

-- and one of its own
starts_own : (asks : ℕ) (shared : Shared) (before : List Step) (s : Step) (place : ℕ) (old new : Worker) → library_of s ≡ place + 1 → new ≡ record old { plan = new.plan } → new.plan.items ≡ old.plan.items ++ s ∷ [] → StartsWorker asks shared before place old
    → StartsWorker asks shared (before ++ s ∷ []) place new
starts_own asks shared before s place old new own rest more was =
    subst (λ (w : Worker). StartsWorker asks shared (before ++ s ∷ []) place w) (sym rest) (record {
      number = was.number;
      seat = was.seat;
      commands = was.commands;
      notices = was.notices;
      tail = was.tail;
      head = was.head;
      library = was.library;
      plan = more ∙ (ap (λ (ss : List Step). ss ++ s ∷ []) was.plan ∙ sym (plan_with_own (place + 1) before s own));
    })

pub none_dealt : (asks count : ℕ) (shared : Shared) (before : List Step) (s : Step) (workers : List Worker) → ((place : ℕ) → place < length workers → library_of s ≢ place + 1) → StartsWorkers asks count shared before workers → StartsWorkers asks count shared (before ++ s ∷ []) workers
none_dealt asks count shared before s workers others was = record {
  as_many = was.as_many;
  each = λ place worker at. starts_other asks shared before s place worker (others place (slice_get_within workers place worker at)) (was.each place worker at);
}

pub one_dealt : (asks count : ℕ) (shared : Shared) (before : List Step) (s : Step) (workers : List Worker) (k : ℕ) (old new : Worker) → library_of s ≡ k + 1 → slice_get workers k ≡ Some old → new ≡ record old { plan = new.plan } → new.plan.items ≡ old.plan.items ++ s ∷ []
    → StartsWorkers asks count shared before workers → StartsWorkers asks count shared (before ++ s ∷ []) (set workers k new)
one_dealt asks count shared before s workers k old new own found rest more was = record {
  as_many = length-set workers k new ∙ was.as_many;
  each = set_others (StartsWorker asks shared (before ++ s ∷ [])) workers k new (λ j w other at. starts_other asks shared before s j w (λ same. other (omega (arith, same, own))) (was.each j w at))
      (starts_own asks shared before s k old new own rest more (was.each k old found));
}

-- a plan has lines of its own library alone
is_line : (number : ℕ) (s : Step) → library_of s ≡ number → 0 < number → IsLineOf number s
is_line number (step.Lib library what) is some = is
is_line number (step.At now) is some = absurd (omega (arith, is))
is_line number step.Connect is some = absurd (omega (arith, is))
is_line number step.Take is some = absurd (omega (arith, is))
is_line number (step.Bytes c bytes) is some = absurd (omega (arith, is))
is_line number (step.Frame c body) is some = absurd (omega (arith, is))
is_line number (step.Finish c) is some = absurd (omega (arith, is))
is_line number (step.FailRead c) is some = absurd (omega (arith, is))
is_line number (step.FailWrite c n) is some = absurd (omega (arith, is))
is_line number (step.Block c n) is some = absurd (omega (arith, is))
is_line number (step.Unblock c) is some = absurd (omega (arith, is))
is_line number step.Turn is some = absurd (omega (arith, is))

pub plans_are_own : (number : ℕ) (steps : List Step) → 0 < number → IsPlanOf number (plan_of number steps)
plans_are_own number steps some = λ i d within. is_line number _ (let passes : _ ≡ true = filter_passes (λ t. library_of t == number) steps i d within in grind (arith, nat_tests)) some

pub none_left : (steps : List Step) → length steps ≡ 0 → steps ≡ []
none_left [] none = refl
none_left (s ∷ steps) none = absurd (omega (arith, none))
