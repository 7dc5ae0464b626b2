use Rattle.std.proofs.Common.{refl}
use Rattle.std.proofs.lemmas.List.{length-map}
use Rattle.lease_core.specs.State.{state_of, no_lease}
use Rattle.lease_core.specs.Lines.{line_of}
use Rattle.lease_core.proofs.Lasts.{last_or-map}
use Rattle.lease_core.proofs.registry.Registry.word.Goals as goal

pub returns : goal.returns
returns c =
    let leases = (state_of c.self.inside.journal.entries).leases in
    let size = length-map leases line_of in
    let last = last_or-map line_of no_lease leases in
    rw (c.word.ensures, c.totals.ensures.totals, ← c.self.view_is, size, last) refl
