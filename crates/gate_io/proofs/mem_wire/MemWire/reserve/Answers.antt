use Rattle.std.proofs.Common.{◌≡◌, refl, ◌∙◌, ap, map, length, arith}
use Rattle.gate_io.specs.MemWire.{without_room}
use Rattle.gate_io.specs.contracts.mem_wire.MemWire.{the_view}
use Rattle.gate_io.proofs.WireFacts.{AreLinks-back, IsOpen-kept, SameButRoom-links, written_back}
use Rattle.gate_io.proofs.mem_wire.MemWire.reserve.Goals as goal

pub invariant_of-self : goal.invariant_of-self
invariant_of-self c =
    let same_len : length c.reserve_each.new.links ≡ c.self.inside.links.len = omega (arith, c.reserve_each.auto.links, c.as_mut_slice.ensures.len) in
    let kept : map without_room c.reserve_each.new.links ≡ map without_room c.self.inside.links.items = c.reserve_each.ensures.kept ∙ ap (map without_room) c.as_mut_slice.ensures.value in
    (AreLinks-back _ _ _ _ _ same_len c.self.invariant.0 kept, c.self.invariant.1)

pub returns-in_err-reserve_each-clause-stay_open : goal.returns-in_err-reserve_each-clause-stay_open
returns-in_err-reserve_each-clause-stay_open c =
    let same_len : length c.reserve_each.new.links ≡ c.self.inside.links.len = omega (arith, c.reserve_each.auto.links, c.as_mut_slice.ensures.len) in
    let kept : map without_room c.reserve_each.new.links ≡ map without_room c.self.inside.links.items = c.reserve_each.ensures.kept ∙ ap (map without_room) c.as_mut_slice.ensures.value in
    let back = written_back c.reserve_each.new.links c.self.inside.links.items c.self.inside.links.len same_len in
    rw (← c.self.view_is) (simp back (IsOpen-kept _ _ (SameButRoom-links (the_view c.self.inside) _ _ kept refl)))

pub invariant_of-self-2 : goal.invariant_of-self-2
invariant_of-self-2 c =
    let same_len : length c.reserve_each.new.links ≡ c.self.inside.links.len = omega (arith, c.reserve_each.auto.links, c.as_mut_slice.ensures.len) in
    let kept : map without_room c.reserve_each.new.links ≡ map without_room c.self.inside.links.items = c.reserve_each.ensures.kept ∙ ap (map without_room) c.as_mut_slice.ensures.value in
    let same_len_too : length c.reserve_each-2.new.links ≡ c.self.inside.taken.len = omega (arith, c.reserve_each-2.auto.links, c.as_mut_slice-2.ensures.len) in
    let kept_too : map without_room c.reserve_each-2.new.links ≡ map without_room c.self.inside.taken.items = c.reserve_each-2.ensures.kept ∙ ap (map without_room) c.as_mut_slice-2.ensures.value in
    (AreLinks-back _ _ _ _ _ same_len c.self.invariant.0 kept, AreLinks-back _ _ _ _ _ same_len_too c.self.invariant.1 kept_too)

pub returns-clause-stay_open : goal.returns-clause-stay_open
returns-clause-stay_open c =
    let same_len : length c.reserve_each.new.links ≡ c.self.inside.links.len = omega (arith, c.reserve_each.auto.links, c.as_mut_slice.ensures.len) in
    let kept : map without_room c.reserve_each.new.links ≡ map without_room c.self.inside.links.items = c.reserve_each.ensures.kept ∙ ap (map without_room) c.as_mut_slice.ensures.value in
    let same_len_too : length c.reserve_each-2.new.links ≡ c.self.inside.taken.len = omega (arith, c.reserve_each-2.auto.links, c.as_mut_slice-2.ensures.len) in
    let kept_too : map without_room c.reserve_each-2.new.links ≡ map without_room c.self.inside.taken.items = c.reserve_each-2.ensures.kept ∙ ap (map without_room) c.as_mut_slice-2.ensures.value in
    let back = written_back c.reserve_each.new.links c.self.inside.links.items c.self.inside.links.len same_len in
    let back_too = written_back c.reserve_each-2.new.links c.self.inside.taken.items c.self.inside.taken.len same_len_too in
    rw (← c.self.view_is) (simp (back, back_too) (IsOpen-kept _ _ (SameButRoom-links (the_view c.self.inside) _ _ kept kept_too)))
