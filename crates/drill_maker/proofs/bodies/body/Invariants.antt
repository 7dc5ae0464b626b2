use Rattle.std.proofs.Common.{◌≡◌, ◌++◌, map, drop}
use Rattle.fix_fields.specs.Field.{text_of}
use Rattle.drill_maker.specs.Bodies.{field_of}
use Rattle.drill_maker.proofs.bodies.body.Given as goal

abbrev pub invariant-loop-piece : goal.invariant-loop-piece
invariant-loop-piece l = l.text.items ++ text_of (map field_of (drop l.piece-index l.pieces)) ≡ text_of (map field_of l.pieces)
