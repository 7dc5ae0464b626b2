use Rattle.std.proofs.Common.{◌≡◌, ℕ, ◌<◌, List, length, sym, ap, subst, ◌∙◌, arith}
use Rattle.lease_core.specs.declared.lease.Line.{Line}
use Rattle.lease_core.specs.Lines.{line_of, no_line}
use Rattle.lease_core.specs.State.{no_lease, state_of}
use Rattle.lease_core.specs.Steps.{IsLibrary}
use Rattle.lease_core.proofs.Causes.{granted_finds}
use Rattle.lease_core.proofs.Kept.{lawful}
use Rattle.lease_core.proofs.Lasts.{last_or-map}
use Rattle.lease_core.proofs.LinesAfter.{length-lines, owner_by-lines}
use Rattle.lease_core.proofs.laws.grants_find_nobody.Goals as goal

pub returns-clause-libraries : goal.returns-clause-libraries
returns-clause-libraries c = λ limit entries run some.
    subst (λ (l : Line). IsLibrary l.library) (sym (last_or-map line_of no_lease (state_of entries).leases))
    ((lawful limit entries run).named (subst (λ n. 0 < n) (length-lines entries) some))

pub returns-clause-grants : goal.returns-clause-grants
returns-clause-grants c = λ limit entries library from lease start run granted.
    let finds = granted_finds limit (state_of entries) library from lease start granted in
    let many = length-lines entries in
    let few = (lawful limit entries run).few in
    record {
      nobody = owner_by-lines entries ∙ finds.0;
      left = (let other = finds.1 in omega arith);
      next = (let is = finds.2 in omega arith);
      end = finds.3;
      within = finds.4;
    }
