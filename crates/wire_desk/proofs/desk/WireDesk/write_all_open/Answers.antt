use Rattle.std.proofs.Common.{◌≡◌, ◌++◌, ℕ, List, sym, ap, subst, ◌∙◌}
use Rattle.wire_desk.specs.Lines.{IsWired, standing}
use Rattle.wire_desk.specs.Places.{AreRising, open_places}
use Rattle.wire_desk.specs.Steps.{AreApart}
use Rattle.wire_desk.proofs.Turn.{apart_behind, last_within, rising_standing, standing_both, wired_behind}
use Rattle.wire_desk.proofs.desk.WireDesk.write_all_open.Given as given
use Rattle.wire_desk.proofs.desk.WireDesk.write_all_open.Goals as goal

listed : (g : given.Over) (c : goal.After-drop_ended g) → open_places c.drop_ended.new.self ≡ standing c.write_each.new.desk.board (open_places c.args.self.now)
listed g c = ap (λ (first : List ℕ). first ++ c.drop_ended.new.self.dialled.items) c.drop_ended.ensures.accepted
    ∙ ap (λ (last : List ℕ). standing c.write_each.new.desk.board c.args.self.now.accepted.items ++ last) c.drop_ended.ensures.dialled
    ∙ standing_both c.write_each.new.desk.board c.args.self.now.accepted.items c.args.self.now.dialled.items

pub returns-clause-wired : goal.returns-clause-wired
returns-clause-wired g c =
    let now = c.in_ok-bytes.ensures in
    let old = c.args.desk.now.board in
    let new = c.write_each.new.desk.board in
    subst (λ (places : List ℕ). IsWired new places (g.W.Wire.door c.write_each.new.wire) (g.W.Wire.link c.write_each.new.wire)) (sym (listed g c))
    (wired_behind old new (open_places c.args.self.now) (g.W.Wire.door c.args.wire.now) (g.W.Wire.door c.write_each.new.wire) (g.W.Wire.link c.args.wire.now) (g.W.Wire.link c.write_each.new.wire) now.progresses now.on_wire c.requires.wired)

pub returns-clause-apart : goal.returns-clause-apart
returns-clause-apart g c = subst AreApart (sym (listed g c)) (apart_behind c.write_each.new.desk.board (open_places c.args.self.now) c.requires.apart)

pub returns-clause-in_order : goal.returns-clause-in_order
returns-clause-in_order g c = λ was. record {
  accepted = subst AreRising (sym c.drop_ended.ensures.accepted) (rising_standing c.write_each.new.desk.board c.args.self.now.accepted.items was.accepted);
  dialled = subst AreRising (sym c.drop_ended.ensures.dialled) (rising_standing c.write_each.new.desk.board c.args.self.now.dialled.items was.dialled);
}

pub wait_behind_ended-requires-clause-listed : goal.wait_behind_ended-requires-clause-listed
wait_behind_ended-requires-clause-listed g c =
    last_within c.args.desk.now.board c.write_each.new.desk.board (g.W.Wire.link c.args.wire.now) c.args.self.now.accepted.items c.args.self.now.dialled.items c.in_ok-bytes.ensures.progresses.count c.requires.wired.listed
