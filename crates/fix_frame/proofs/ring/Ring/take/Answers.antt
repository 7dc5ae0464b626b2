use Rattle.std.proofs.Common.{◌≡◌, ◌+◌, ◌-◌, ◌≤◌, List, ℕ, length, take, drop, refl, ap, ap₂, ◌∙◌, arith}
use Rattle.fix_frame.specs.Store.{in_ring}
use Rattle.fix_frame.proofs.Rings.{ring-skip_near, ring-skip_all, ring-front, count_in_ring}
use Rattle.fix_frame.proofs.ring.Ring.take.Goals as goal
use Rattle.fix_frame.proofs.ring.Ring.take.Goals.{then-self-eq0, else-self-eq0}

pub returns : goal.returns
returns c =
    let r = c.self.inside in
    let new = c.straighten-start.new.buffer in
    let start = c.straighten-start.result in
    let count = c.args.count in
    let within : count ≤ r.length = count_in_ring r.start r.length count r.buffer.items (rw (← c.self.view_is) at c.requires) in
    let size = new.ok.0 in
    let straight : start + count ≤ length new.items = omega (arith, size, c.straighten-start.ensures.straight) in
    let left : in_ring c.if-self-eq0.self (r.length - count) new.items ≡ drop count (in_ring start r.length new.items) =
    elim c.if-self-eq0.branch [
      | then-self-eq0 w ↦ ap (λ (i : ℕ). in_ring i (r.length - count) new.items) w.self-is ∙ ring-skip_all start r.length count new.items (omega arith)
      | else-self-eq0 w ↦ ap (λ (i : ℕ). in_ring i (r.length - count) new.items) w.self-is ∙ ring-skip_near start r.length count new.items straight within (omega (arith, size, c.self.invariant.1, c.straighten-start.ensures.size))
    ] in
    let same = c.straighten-start.ensures.same in
    let front : take (start + count - start) (drop start new.items) ≡ take count (in_ring start r.length new.items) = ring-front start r.length count new.items straight within in
    rw (← c.self.view_is, c.deref.ensures.value) (
      (refl, λ _. tt, ap₂ (λ (room : ℕ) (bytes : List ℕ). record { room = room; bytes = bytes }) c.straighten-start.ensures.size (left ∙ ap (drop count) same)),
      record { value = front ∙ ap (take count) same; after_loan = tt },
    )
