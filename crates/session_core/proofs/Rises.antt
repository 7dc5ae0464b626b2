-- By how much the expected number rises.
use Rattle.std.proofs.Common.{◌≡◌, ℕ, zero, suc, ◌+◌, ◌≤◌, ap, sym, subst, refl, arith}
use Rattle.std.specs.Prelude.{Option, None, Some, is_some}
use Rattle.std.specs.FinMap.{get, len}
use Rattle.seq_gaps.specs.declared.offered.Offered.{Offered}
use Rattle.seq_gaps.specs.declared.offered.Place.{Place}
use Rattle.seq_gaps.specs.declared.offered.Place.TheVariants.{Now, Held, Known, NoRoom}
use Rattle.seq_gaps.specs.declared.offered.TheConstants.{HELD_LIMIT}
use Rattle.seq_gaps.specs.Line.{Line, IsHeld, after_taking}
use Rattle.seq_gaps.specs.Offers.{answer_to_offer, after_placing, place_of}
use Rattle.session_core.specs.declared.tasks.Task.{Task}
use Rattle.session_core.specs.declared.tasks.Task.TheVariants.{Nothing, Do, Fill}
use Rattle.session_core.specs.Carry.{Progress, after_carrying, after_ready, while_ready, after_draining, on_place, after_handling}
use Rattle.session_core.specs.Laws.{IsNoFill, HoldsNoFills, RisesByWhatIsHeld}
use Rattle.session_core.specs.Lines.{LineLaws}

-- a message that is no gap fill leaves the line as it is
carried_same : (p : Progress) (task : Task) → IsNoFill task → (after_carrying p task).line ≡ p.line
carried_same p Nothing none = refl
carried_same p (Do act) none = refl
carried_same p (Fill to) none = absurd none

took : (line : Line Task) → IsHeld line line.expected → (after_taking line).expected ≡ line.expected + 1
took line held = rw (held) refl

module _ (laws : LineLaws) where
  rises_while : (most : ℕ) (p : Progress) (ready : Option Task) → get p.line.held p.line.expected ≡ ready → HoldsNoFills p.line → ((q : Progress) → HoldsNoFills q.line → (after_draining most q).line.expected ≤ q.line.expected + len q.line.held) → (while_ready (after_draining most) p ready).line.expected ≤ p.line.expected + len p.line.held
  rises_while most p None is none rest = omega arith
  rises_while most p (Some task) is none rest =
      let same = carried_same (after_ready p) task (none p.line.expected task is) in
      let held : IsHeld p.line p.line.expected = ap is_some is in
      let fewer = laws.counts.taking p.line held in
      let next = took p.line held in
      let free : HoldsNoFills (after_taking p.line) = λ n other found. none n other (laws.items.taking p.line n other found) in
      let up = rest (after_carrying (after_ready p) task) (subst HoldsNoFills (sym same) free) in
      let number = ap (λ (line : Line Task). line.expected) same in
      let count = ap (λ (line : Line Task). len line.held) same in
      omega (arith, up, number, count, fewer, next)

  rises_drained : (most : ℕ) (p : Progress) → HoldsNoFills p.line → (after_draining most p).line.expected ≤ p.line.expected + len p.line.held
  unfolding after_draining
  rises_drained zero p none = omega arith
  rises_drained (suc most) p none = rises_while most p (get p.line.held p.line.expected) refl none (rises_drained most)

  rises_placed : (p : Progress) (n : ℕ) (task : Task) (answer : Offered Task) (place : Place Task) → ((other : Task) → place ≡ Now other → IsNoFill other) → HoldsNoFills p.line → (on_place (record p { line = after_placing p.line n task place }) answer place).line.expected ≤ p.line.expected + len p.line.held + 1
  rises_placed p n task answer (Now other) is none =
      let counted : Progress = record p { line = record p.line { expected = p.line.expected + 1 } } in
      let same = carried_same counted other (is other refl) in
      let free : HoldsNoFills counted.line = none in
      let up = rises_drained HELD_LIMIT (after_carrying counted other) (subst HoldsNoFills (sym same) free) in
      let number = ap (λ (line : Line Task). line.expected) same in
      let count = ap (λ (line : Line Task). len line.held) same in
      omega (arith, up, number, count)
  rises_placed p n task answer Held is none = omega arith
  rises_placed p n task answer (Known other) is none = omega arith
  rises_placed p n task answer (NoRoom other) is none = omega arith

  pub rises_by_what_is_held : RisesByWhatIsHeld
  unfolding after_handling
  rises_by_what_is_held p n task none is =
      rises_placed p n task (answer_to_offer p.line n task) (place_of p.line n task) (λ other now. subst IsNoFill (sym (laws.numbers.only_now p.line n task other now).1) is) none
