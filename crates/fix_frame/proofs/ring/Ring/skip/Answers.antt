use Rattle.std.proofs.Common.{◌≡◌, ◌-◌, ◌≤◌, List, ℕ, length, ap, arith, vec_len}
use Rattle.fix_frame.proofs.Rings.{ring-skip_near, ring-skip_past, count_in_ring}
use Rattle.fix_frame.proofs.ring.Ring.skip.Goals as goal

pub returns-then-count-to_end : goal.returns-then-count-to_end
returns-then-count-to_end c =
    let r = c.self.inside in
    let within : c.args.count ≤ r.length = count_in_ring r.start r.length c.args.count r.buffer.items (rw (← c.self.view_is) at c.requires) in
    let size = r.buffer.ok.0 in
    rw (← c.self.view_is) (ap (λ (bytes : List ℕ). record { room = vec_len r.buffer; bytes = bytes }) (ring-skip_near r.start r.length c.args.count r.buffer.items (omega (arith, size)) within (omega (arith, size, c.self.invariant.1))))

pub returns-else-count-to_end : goal.returns-else-count-to_end
returns-else-count-to_end c =
    let r = c.self.inside in
    let within : c.args.count ≤ r.length = count_in_ring r.start r.length c.args.count r.buffer.items (rw (← c.self.view_is) at c.requires) in
    let size = r.buffer.ok.0 in
    let place : c.args.count - (c.len.result - r.start) ≡ c.args.count - (length r.buffer.items - r.start) = omega (arith, size) in
    rw (← c.self.view_is, place) (ap (λ (bytes : List ℕ). record { room = vec_len r.buffer; bytes = bytes }) (ring-skip_past r.start r.length c.args.count r.buffer.items (omega (arith, size, c.self.invariant.0)) (omega (arith, size)) within (omega (arith, size, c.self.invariant.1))))
