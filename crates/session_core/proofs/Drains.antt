-- How a run over the held messages goes on by one.
use Rattle.std.proofs.Common.{◌≡◌, ℕ, zero, suc, ◌+◌, List, ap, sym, ◌∙◌, refl, arith, if◌then◌else◌}
use Rattle.std.specs.Prelude.{Option, None, Some, is_some}
use Rattle.std.specs.FinMap.{get, remove}
use Rattle.seq_gaps.specs.Line.{Line, after_taking}
use Rattle.session_core.specs.declared.acts.Act.{Act}
use Rattle.session_core.specs.declared.tasks.Task.{Task}
use Rattle.session_core.specs.Carry.{Progress, after_carrying, after_ready, while_ready, after_draining}

abbrev pub both : Line Task → List Act → Progress
both line acts = record { line = line; acts = acts }

pub drained-none : (most : ℕ) (p : Progress) → get p.line.held p.line.expected ≡ None → after_draining most p ≡ p
unfolding after_draining
drained-none zero p none = refl
drained-none (suc most) p none = ap (while_ready (after_draining most) p) none

pub drained-some : (most : ℕ) (p : Progress) (task : Task) → get p.line.held p.line.expected ≡ Some task → after_draining (suc most) p ≡ after_draining most (after_carrying (after_ready p) task)
unfolding after_draining
drained-some most p task some = ap (while_ready (after_draining most) p) some

pub drained-zero : (p : Progress) → after_draining 0 p ≡ p
unfolding after_draining
drained-zero p = refl

after_taking-none : (line : Line Task) → get line.held line.expected ≡ None → after_taking line ≡ line
after_taking-none line none = ap (λ (o : Option Task). if is_some o then record { expected = line.expected + 1; held = remove line.held line.expected; horizon = line.horizon } else line) none

-- nothing is ready: this is the end
pub drain-stops : (most : ℕ) (line after : Line Task) (acts : List Act) (goal : Progress) → get line.held line.expected ≡ None → after ≡ after_taking line → after_draining most (both line acts) ≡ goal → both after acts ≡ goal
drain-stops most line after acts goal none same whole =
    ap (λ l. both l acts) (same ∙ after_taking-none line none) ∙ sym (drained-none most (both line acts) none) ∙ whole

-- one message is taken and carried out
pub drain-goes_on : (more less : ℕ) (line after behind : Line Task) (acts next : List Act) (task : Task) (goal : Progress) → more ≡ less + 1 → get line.held line.expected ≡ Some task → after ≡ after_taking line → both behind next ≡ after_carrying (both after acts) task → after_draining more (both line acts) ≡ goal → after_draining less (both behind next) ≡ goal
drain-goes_on more less line after behind acts next task goal by_one some same step whole =
    let next_number : more ≡ suc less = omega (arith, by_one) in
    ap (after_draining less) (step ∙ ap (λ l. after_carrying (both l acts) task) same)
    ∙ sym (drained-some less (both line acts) task some)
    ∙ ap (λ k. after_draining k (both line acts)) (sym next_number)
    ∙ whole
