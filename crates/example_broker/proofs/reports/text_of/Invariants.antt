use Rattle.std.proofs.Common.{◌≡◌, map, take}
use Rattle.example_broker.specs.Reports.{fields_text, put_field}
use Rattle.example_broker.proofs.reports.text_of.Given as goal

-- the fields so far are written
abbrev pub invariant-loop-field : goal.invariant-loop-field
invariant-loop-field l = l.text.items ≡ fields_text (map put_field (take l.field-index l.fields))
