use Rattle.std.proofs.Common.{◌≡◌, ◌∙◌, ◌+◌, ◌-◌, ◌<◌, [], ℕ, Option, drop, ap, sym, subst, arith, rules}
use Rattle.std.specs.Prelude.{IfSome}
use Rattle.std.specs.Vec.{vec_len}
use Rattle.durable_journal.specs.Disk.{History, bytes_of}
use Rattle.durable_journal.specs.Files.{IsDamaged}
use Rattle.durable_journal.specs.Recovered.{ReadSoFar, IsReadTo, TakesBatch, TakesNone}
use Rattle.durable_journal.proofs.Wholes.{damages_in, step_in}
use Rattle.durable_journal.proofs.recovery.read_batches.Goals as goal

pub batch-init : goal.batch-init
batch-init g c =
    let o = g.D.Disk.history c.args.disk.now in
    let e : c.in_ok-recovered.recovered ≡ record { records = []; sessions = c.args.sessions; leases = c.args.leases } = c.in_ok-recovered.ensures in
    record {
      read = subst (λ (r : ReadSoFar). IfSome o (λ told. IsReadTo (bytes_of told) 0 c.in_ok-first.first r.records)) (sym e) c.in_ok-first.ensures.found;
      nothing_done = c.read_first.ensures.nothing_done;
      inside = omega (arith, c.requires.long);
      sessions = ap (λ (r : ReadSoFar). r.sessions) e;
      leases = ap (λ (r : ReadSoFar). r.leases) e;
      faults = c.read_first.ensures.faults_kept;
    }

pub returns-in_default-clause-damaged : goal.returns-in_default-clause-damaged
returns-in_default-clause-damaged g c = λ at is.
    let o = g.D.Disk.history c.args.disk.now in
    let r = c.batch.recovered in
    let gate = c.batch.gate in
    let open_gate : c.batch.first ≡ 1 = search rules in
    let none = subst (λ (x : Option History). IfSome x (λ told. TakesNone (drop (gate + 1) (bytes_of told)) r)) c.batch.invariant.nothing_done (rw c.in_default.is at c.in_ok-next.ensures.none) in
    let read = subst (λ (n : ℕ). IfSome o (λ told. IsReadTo (bytes_of told) gate n r.records)) open_gate c.batch.invariant.read in
    let damaged = damages_in o gate c.args.end r c.requires.long c.requires.told read c.know_runs.ensures none in
    let same : gate ≡ at = grind (arith, is) in
    subst (λ (n : ℕ). IfSome o (λ told. IsDamaged c.args.sessions c.args.leases (bytes_of told) n)) same
    (subst (λ (n : ℕ). IfSome o (λ told. IsDamaged c.args.sessions n (bytes_of told) gate)) c.batch.invariant.leases
    (subst (λ (n : ℕ). IfSome o (λ told. IsDamaged n r.leases (bytes_of told) gate)) c.batch.invariant.sessions damaged))

pub batch-preserved : goal.batch-preserved
batch-preserved g c =
    let o = g.D.Disk.history c.args.disk.now in
    let r = c.batch.recovered in
    let new = c.take_batch.new.recovered in
    let text = c.take_batch.new.text in
    let gate = c.batch.gate in
    let next = c.in-Some.next in
    let open_gate : c.batch.first ≡ 1 = search rules in
    let len : c.len.result ≡ vec_len text = c.len.ensures in
    let takes = subst (λ (x : Option History). IfSome x (λ told. TakesBatch (drop (gate + 1) (bytes_of told)) next (vec_len text - 1) r new)) c.batch.invariant.nothing_done (rw c.in-Some.is at c.in_ok-next.ensures.taken) in
    let some : 0 < vec_len text = rw c.in-Some.is at c.in_ok-next.ensures.some in
    let within : gate + 4 + vec_len text < c.args.end = rw c.in-Some.is at c.in_ok-next.ensures.within in
    let read = subst (λ (n : ℕ). IfSome o (λ told. IsReadTo (bytes_of told) gate n r.records)) open_gate c.batch.invariant.read in
    record {
      read = step_in o gate next (vec_len text - 1) r new (gate + (4 + c.len.result)) read takes (omega (arith, len, some));
      nothing_done = c.take_batch.ensures.nothing_done ∙ c.batch.invariant.nothing_done;
      inside = omega (arith, len, within);
      sessions = c.take_batch.ensures.sessions ∙ c.batch.invariant.sessions;
      leases = c.take_batch.ensures.leases ∙ c.batch.invariant.leases;
      faults = omega (arith, c.batch.invariant.faults, c.take_batch.ensures.faults_kept);
    }
