-- what the search found decides where the item stands; it goes into both lists at the place that was found
use Rattle.std.proofs.Common.{sym, ◌∙◌, ap, arith, Ok, Err, is_some}
use Rattle.std.specs.FinMap as map
use Rattle.std.proofs.lemmas.List.Sorted.{searched}
use Rattle.std.proofs.lemmas.Result.{IfOk-at_ok}
use Rattle.seq_gaps.proofs.Rising.{rises}
use Rattle.seq_gaps.proofs.Maps.{len-held_in}
use Rattle.seq_gaps.proofs.Told.{known_told, absent_told, insert_told, early_known, early_full, early_held}
use Rattle.seq_gaps.proofs.held.Held.hold.Goals as goal

pub returns-in-Ok-clause-place : goal.returns-in-Ok-clause-place
returns-in-Ok-clause-place g c =
    let inside = c.self.inside in
    let p = c.self.invariant.0 in
    let found = searched inside.numbers.items c.args.n (Ok c.in-Ok.field-0) c.in-Ok.ensures.position (rises inside.numbers.items inside.items.items p.one_each p.rising) in
    early_known c.args.self.now c.args.n c.args.item (sym (ap (λ m. is_some (map.get m c.args.n)) c.self.view_is) ∙ known_told inside.numbers.items inside.items.items c.args.n c.in-Ok.field-0 p found.0 found.1)

pub returns-then-len-ge-HELD_LIMIT-clause-place : goal.returns-then-len-ge-HELD_LIMIT-clause-place
returns-then-len-ge-HELD_LIMIT-clause-place g c =
    let inside = c.self.inside in
    let p = c.self.invariant.0 in
    let found = searched inside.numbers.items c.args.n (Err c.in-Err.at) c.in-Err.ensures.position (rises inside.numbers.items inside.items.items p.one_each p.rising) in
    let absent = sym (ap (λ m. map.get m c.args.n) c.self.view_is) ∙ absent_told inside.numbers.items inside.items.items c.args.n c.in-Err.at p found.1 found.2 in
    let size = sym (ap map.len c.self.view_is) ∙ len-held_in inside.numbers.items inside.items.items p in
    early_full c.args.self.now c.args.n c.args.item absent (omega (arith, inside.numbers.ok.0))

pub returns-else-len-ge-HELD_LIMIT-clause-place : goal.returns-else-len-ge-HELD_LIMIT-clause-place
returns-else-len-ge-HELD_LIMIT-clause-place g c =
    let inside = c.self.inside in
    let p = c.self.invariant.0 in
    let found = searched inside.numbers.items c.args.n (Err c.in-Err.at) c.in-Err.ensures.position (rises inside.numbers.items inside.items.items p.one_each p.rising) in
    let absent = sym (ap (λ m. map.get m c.args.n) c.self.view_is) ∙ absent_told inside.numbers.items inside.items.items c.args.n c.in-Err.at p found.1 found.2 in
    let size = sym (ap map.len c.self.view_is) ∙ len-held_in inside.numbers.items inside.items.items p in
    early_held c.args.self.now c.args.n c.args.item absent (omega (arith, inside.numbers.ok.0))

pub invariant_of-self : goal.invariant_of-self
invariant_of-self g c =
    let inside = c.self.inside in
    let p = c.self.invariant.0 in
    let found = searched inside.numbers.items c.args.n (Err c.in-Err.at) c.in-Err.ensures.position (rises inside.numbers.items inside.items.items p.one_each p.rising) in
    let more = insert_told inside.numbers.items inside.items.items c.args.n c.args.item c.in-Err.at p (omega (arith, inside.numbers.ok.0)) found.0 found.1 found.2 in
    let numbers = IfOk-at_ok _ c.unwrap.ensures c.insert.ensures.items in
    let items = IfOk-at_ok _ c.unwrap-in-Err.ensures c.insert-in-Err.ensures.items in
    (rw (numbers, items) more.0, omega (arith, c.insert.ensures.capacity), omega (arith, c.insert-in-Err.ensures.capacity))

pub returns-else-len-ge-HELD_LIMIT-clause-held : goal.returns-else-len-ge-HELD_LIMIT-clause-held
returns-else-len-ge-HELD_LIMIT-clause-held g c =
    let inside = c.self.inside in
    let p = c.self.invariant.0 in
    let found = searched inside.numbers.items c.args.n (Err c.in-Err.at) c.in-Err.ensures.position (rises inside.numbers.items inside.items.items p.one_each p.rising) in
    let more = insert_told inside.numbers.items inside.items.items c.args.n c.args.item c.in-Err.at p (omega (arith, inside.numbers.ok.0)) found.0 found.1 found.2 in
    let numbers = IfOk-at_ok _ c.unwrap.ensures c.insert.ensures.items in
    let items = IfOk-at_ok _ c.unwrap-in-Err.ensures c.insert-in-Err.ensures.items in
    rw (numbers, items) (more.1 ∙ ap (λ m. map.insert m c.args.n c.args.item) c.self.view_is)
