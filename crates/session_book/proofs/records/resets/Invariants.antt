use Rattle.std.proofs.Common.{◌≡◌, drop}
use Rattle.session_book.specs.Records.{series_over}
use Rattle.session_book.proofs.records.resets.Given as goal

-- the resets so far, with those to come
abbrev pub invariant-loop-entry : goal.invariant-loop-entry
invariant-loop-entry l = series_over l.series (drop l.entry-index l.entries) ≡ series_over 0 l.entries
