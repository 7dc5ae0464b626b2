-- A run over the held messages ends with none that is ready: each step leaves fewer held.
use Rattle.std.proofs.Common.{◌≡◌, ℕ, zero, suc, ◌+◌, ◌≤◌, Bool, true, false, ap, sym, ◌∙◌, subst, refl, arith, if◌then◌else◌}
use Rattle.std.specs.Prelude.{Option, None, Some, IsNone, is_some, nat_le, ◌&&◌}
use Rattle.std.specs.Ordering.{nat_cmp}
use Rattle.std.specs.FinMap.{get, len, empty_of_len, get-empty}
use Rattle.seq_gaps.specs.declared.offered.TheConstants.{HELD_LIMIT, MAX_NUMBER}
use Rattle.seq_gaps.specs.Line.{Line, after_fill}
use Rattle.session_core.specs.declared.tasks.Task.{Task}
use Rattle.session_core.specs.declared.tasks.Task.TheVariants.{Nothing, Do, Fill}
use Rattle.session_core.specs.Carry.{Progress, after_carrying, after_ready, after_fill_to, after_draining}
use Rattle.session_core.specs.Laws.{LeavesNoneReady}
use Rattle.session_core.specs.Lines.{LineLaws}
use Rattle.session_core.proofs.Drains.{drained-none, drained-some, drained-zero}

abbrev NoneReady : Progress → Type 0
NoneReady p = get p.line.held p.line.expected ≡ None

module _ (laws : LineLaws) where
  -- a fill holds no more
  len-either : (line : Line Task) (to : ℕ) (forward : Bool) → len (if forward then after_fill line to else line).held ≤ len line.held
  len-either line to true = laws.counts.fill line to
  len-either line to false = omega arith

  len-filled : (line : Line Task) (to : ℕ) → len (after_fill_to line to).held ≤ len line.held
  unfolding after_fill_to
  len-filled line to = len-either line to (nat_le line.expected to && nat_le to (MAX_NUMBER + 1))

  len-carried : (p : Progress) (task : Task) → len (after_carrying p task).line.held ≤ len p.line.held
  len-carried p Nothing = omega arith
  len-carried p (Do act) = omega arith
  len-carried p (Fill to) = len-filled p.line to

  on_ready : (most : ℕ) (p : Progress) (ready : Option Task) → get p.line.held p.line.expected ≡ ready → len p.line.held ≤ suc most → ((q : Progress) → len q.line.held ≤ most → NoneReady (after_draining most q)) → NoneReady (after_draining (suc most) p)
  on_ready most p None none few rest = subst NoneReady (sym (drained-none (suc most) p none)) none
  on_ready most p (Some task) some few rest =
      let fewer = laws.counts.taking p.line (ap is_some some) in
      let no_more = len-carried (after_ready p) task in
      subst NoneReady (sym (drained-some most p task some)) (rest (after_carrying (after_ready p) task) (omega arith))

  none_ready : (most : ℕ) (p : Progress) → len p.line.held ≤ most → NoneReady (after_draining most p)
  none_ready zero p few =
      subst NoneReady (sym (drained-zero p)) (ap (λ held. get held p.line.expected) (empty_of_len p.line.held (omega arith)) ∙ get-empty nat_cmp p.line.expected)
  none_ready (suc most) p few = on_ready most p (get p.line.held p.line.expected) refl few (none_ready most)

  pub leaves_none_ready : LeavesNoneReady
  leaves_none_ready p few = subst (λ (o : Option Task). IsNone o) (sym (none_ready HELD_LIMIT p few)) refl
