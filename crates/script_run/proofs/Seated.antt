-- A library that calls or meets the engine stays at its table and rings.
use Rattle.std.proofs.Common.{◌≡◌, ℕ, ◌<◌, List, length, set, Option, None, Some, Result, Ok, Err, refl, ap, subst, sym, ◌∙◌}
use Rattle.std.proofs.lemmas.List.{length-set}
use Rattle.std.specs.Prelude.{IfOk, OnErr, OnOk, slice_get}
use Rattle.library_api.specs.Ends.{Belongings, belongings}
use Rattle.library_desk.specs.declared.shared.Shared.{Shared}
use Rattle.ring_links.specs.Ends.{RingId}
use Rattle.script_run.specs.Runs.{AreCallers, IsCaller}
use Rattle.script_run.specs.declared.callers.Caller.{Caller}
use Rattle.script_run.proofs.Places.{set_each}

-- what follows where a call succeeded
pub on_ok : {T E P Q : Type 0} (r : Result T E) → (P → Q) → OnOk r P → OnOk r Q
on_ok (Ok x) follows holds = follows holds
on_ok (Err e) follows holds = tt

-- and where it didn't
pub on_err : {T E P : Type 0} (r : Result T E) → P → OnErr r P
on_err (Ok x) holds = tt
on_err (Err e) holds = holds

pub if_ok : {T E : Type 0} (P Q : T → Type 0) (r : Result T E) → ((x : T) → P x → Q x) → IfOk r P → IfOk r Q
if_ok P Q (Ok x) follows holds = follows x holds
if_ok P Q (Err e) follows holds = tt

-- its table and rings are the same
pub stays_caller : (shared : Shared) (place : ℕ) (old new : Caller) → new.number ≡ old.number → belongings new.library.ends ≡ belongings old.library.ends → IsCaller shared place old → IsCaller shared place new
stays_caller shared place old new number same was = record {
  number = number ∙ was.number;
  table = ap (λ (b : Belongings). b.leases) same ∙ was.table;
  commands = was.commands ∙ ap (λ (b : Belongings). Some b.commands) (sym same);
  notices = was.notices ∙ ap (λ (b : Belongings). Some b.notices) (sym same);
}

-- one of them is another
pub one_set : (shared : Shared) (callers : List Caller) (place : ℕ) (new : Caller) → AreCallers shared callers → IsCaller shared place new → AreCallers shared (set callers place new)
one_set shared callers place new were is = record {
  commands = length-set callers place new ∙ were.commands;
  notices = length-set callers place new ∙ were.notices;
  each = set_each (IsCaller shared) callers place new were.each is;
}
