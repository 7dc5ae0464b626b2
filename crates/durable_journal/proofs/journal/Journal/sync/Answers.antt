use Rattle.std.proofs.Common.{◌≡◌, inl, ◌+◌, ◌<◌, ◌++◌, ◌∷◌, [], List, ℕ, length, sym, ap, subst, rules, arith}
use Rattle.std.specs.Prelude.{IfSome}
use Rattle.lease_core.specs.declared.record.Record.{Record}
use Rattle.durable_journal.specs.Disk.{CrashesLeaveIn, bytes_of}
use Rattle.durable_journal.specs.Files.{Stands, batch_text}
use Rattle.std.specs.Option.{option_map}
use Rattle.durable_journal.specs.Batches.{BatchLeaves, BatchStands, after_batch}
use Rattle.durable_journal.specs.Journal.{JournalState, Keeps, IsBeforeOrBehind, IsAtRest, IsDraft, TellsThat}
use Rattle.durable_journal.proofs.Rests.{rest_written, kept_written, moments_written, idle_moments, draft_none, within_some, sealed_is}
use Rattle.durable_journal.proofs.journal.Journal.sync.Goals as goal

pub returns-then-is_empty-clause-any_moment : goal.returns-then-is_empty-clause-any_moment
returns-then-is_empty-clause-any_moment g c = λ kept keeps.
    let h = g.D.Disk.history in
    let s = c.args.self in
    idle_moments s.sessions s.leases s.gate s.batch (h s.disk) (subst (λ (v : JournalState g.row.D.Denot). IfSome (h v.disk) (IsAtRest v.sessions v.leases v.gate v.batch)) c.self.view_is c.self.invariant.0) kept keeps

pub returns-in-Err-clause-any_moment_err : goal.returns-in-Err-clause-any_moment_err
returns-in-Err-clause-any_moment_err g c =
    let h = g.D.Disk.history in
    let i = c.self.inside in
    subst (λ (v : JournalState g.row.D.Denot). (kept : List Record) → Keeps h v kept → CrashesLeaveIn (IsBeforeOrBehind v.sessions v.leases kept v.batch) (h v.disk) (h c.write_batch.new.disk)) c.self.view_is
    (moments_written i.sessions i.leases i.gate i.waiting.items i.text.items c.seal.new.text.items c.self.invariant.1 c.seal.ensures.text (h i.disk) (h c.write_batch.new.disk) c.self.invariant.0
    (subst (λ (l : List ℕ). BatchLeaves i.gate l (h i.disk) (h c.write_batch.new.disk)) c.as_slice.ensures.value c.in-Err.ensures.any_moment))

pub invariant_of-result : goal.invariant_of-result
invariant_of-result g c =
    let h = g.D.Disk.history in
    let i = c.self.inside in
    let sealed = c.seal.new.text.items in
    let stands = subst (λ (l : List ℕ). BatchStands i.gate l (h i.disk) (h c.write_batch.new.disk)) c.as_slice.ensures.value c.in_default.ensures.stands in
    let len : c.len.result ≡ length sealed = search rules in
    let grown : length sealed ≡ length i.text.items + 1 = search rules in
    let some : 0 < length i.waiting.items = search rules in
    let rest = rest_written i.sessions i.leases i.gate i.waiting.items i.text.items sealed c.self.invariant.1 c.seal.ensures.text (h i.disk) (h c.write_batch.new.disk) c.self.invariant.0 stands in (
      subst (λ (n : ℕ). IfSome (h c.write_batch.new.disk) (IsAtRest i.sessions i.leases (i.gate + n) c.clear.new.self.items)) (sym len)
          (subst (λ (l : List Record). IfSome (h c.write_batch.new.disk) (IsAtRest i.sessions i.leases (i.gate + length sealed) l)) (sym c.clear.ensures.items) rest),
      subst (λ (l : List Record). IsDraft l c.truncate.new.self.items) (sym c.clear.ensures.items)
          (subst (λ (t : List ℕ). IsDraft [] t) (sym c.truncate.ensures.items) (draft_none sealed (omega (arith, ap (λ (l : List ℕ). length l) c.seal.ensures.text)))),
      inl c.clear.ensures.items,
      omega (arith, len, grown, within_some i.gate i.waiting.items i.text.items c.self.invariant.2 some),
      search rules,
    )

pub returns-clause-kept : goal.returns-clause-kept
returns-clause-kept g c =
    let h = g.D.Disk.history in
    let i = c.self.inside in
    let stands = subst (λ (l : List ℕ). BatchStands i.gate l (h i.disk) (h c.write_batch.new.disk)) c.as_slice.ensures.value c.in_default.ensures.stands in
    subst (λ (v : JournalState g.row.D.Denot). (kept : List Record) → Keeps h v kept → TellsThat (h c.write_batch.new.disk) (λ told. Stands i.sessions i.leases (bytes_of told) (kept ++ v.batch))) c.self.view_is
    (kept_written i.sessions i.leases i.gate i.waiting.items i.text.items c.seal.new.text.items c.self.invariant.1 c.seal.ensures.text (h i.disk) (h c.write_batch.new.disk) c.self.invariant.0 stands)

pub returns-clause-any_moment : goal.returns-clause-any_moment
returns-clause-any_moment g c =
    let h = g.D.Disk.history in
    let i = c.self.inside in
    subst (λ (v : JournalState g.row.D.Denot). (kept : List Record) → Keeps h v kept → CrashesLeaveIn (IsBeforeOrBehind v.sessions v.leases kept v.batch) (h v.disk) (h c.write_batch.new.disk)) c.self.view_is
    (moments_written i.sessions i.leases i.gate i.waiting.items i.text.items c.seal.new.text.items c.self.invariant.1 c.seal.ensures.text (h i.disk) (h c.write_batch.new.disk) c.self.invariant.0
    (subst (λ (l : List ℕ). BatchLeaves i.gate l (h i.disk) (h c.write_batch.new.disk)) c.as_slice.ensures.value c.in_default.ensures.any_moment))

pub returns-clause-steps : goal.returns-clause-steps
returns-clause-steps g c = λ some.
    let h = g.D.Disk.history in
    let i = c.self.inside in
    let new = h c.write_batch.new.disk in
    let sealed = c.seal.new.text.items in
    let steps = subst (λ (l : List ℕ). new ≡ option_map (after_batch i.gate l) (h i.disk)) c.as_slice.ensures.value c.in_default.ensures.steps in
    let told = subst (λ (l : List ℕ). new ≡ option_map (after_batch i.gate l) (h i.disk)) (sealed_is i.waiting.items i.text.items sealed c.self.invariant.1 c.seal.ensures.text) steps in
    subst (λ (v : JournalState g.row.D.Denot). new ≡ option_map (after_batch v.gate (batch_text v.batch ++ 0 ∷ [])) (h v.disk)) c.self.view_is told
