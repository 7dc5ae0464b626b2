-- What each step keeps, steps one behind another keep; and how far all connections are handled.
use Rattle.std.proofs.Common.{ℕ, zero, suc, sym, subst}
use Rattle.engine_laws.specs.Account.{Progress, all_done, cutting, done, handling, only}
use Rattle.engine_laws.specs.walks.Walks as walk
use Rattle.engine_laws.specs.walks.Walks.{TurnStep, Walk}
use Rattle.engine_loop.specs.Turns.{AtWire}
use Rattle.engine_loop.specs.declared.engine.Engine.{Engine}
use Rattle.lease_desk.specs.Desk.{InTurn}

-- steps of one kind, one after another, of something
pub each_in_turn : {T : Type 0} (Step : ℕ → T → T → Type 0) (Keeps : T → T → Type 0) → ((t : T) → Keeps t t) → ((a b c : T) → Keeps a b → Keeps b c → Keeps a c) → ((i : ℕ) (a b : T) → Step i a b → Keeps a b)
    → (n : ℕ) (old new : T) → InTurn Step n old new → Keeps old new
each_in_turn Step Keeps itself further each zero old new same = subst (λ t. Keeps old t) (sym same) (itself old)
each_in_turn Step Keeps itself further each (suc n) old new steps =
    further old steps.0 new (each_in_turn Step Keeps itself further each n old steps.0 steps.1) (each n steps.0 new steps.2)

-- what each step of a walk keeps, the whole keeps
pub walked : {T : Type 0} (Step Keeps : T → T → Type 0) → ((t : T) → Keeps t t) → ((a b c : T) → Keeps a b → Keeps b c → Keeps a c) → ((a b : T) → Step a b → Keeps a b)
    → (old new : T) → Walk Step old new → Keeps old new
walked Step Keeps itself further each _ _ (walk.nothing at) = itself at
walked Step Keeps itself further each _ _ (walk.one old new is) = each old new is
walked Step Keeps itself further each _ _ (walk.further first second third a b) =
    further first second third (walked Step Keeps itself further each first second a) (walked Step Keeps itself further each second third b)

-- what each step of a turn keeps of the engine, a turn keeps
pub turn_walked : (Keeps : Engine → Engine → Type 0) → ((e : Engine) → Keeps e e) → ((a b c : Engine) → Keeps a b → Keeps b c → Keeps a c) → ((a b : AtWire) → TurnStep a b → Keeps a.engine b.engine)
    → (old new : AtWire) → Walk TurnStep old new → Keeps old.engine new.engine
turn_walked Keeps itself further each = walked TurnStep (λ a b. Keeps a.engine b.engine) (λ a. itself a.engine) (λ a b c. further a.engine b.engine c.engine) each

-- how far all connections are handled, where this one is so far
abbrev pub so_far : ℕ → Progress → ℕ → Progress
so_far k done = all_done
so_far k cutting = only k cutting
so_far k (handling body) = only k (handling body)
