use Rattle.std.proofs.Common.{◌≡◌, ℕ, ◌+◌, ◌-◌, ◌<◌, length, arith, refl, ◌∙◌}
use Rattle.std.proofs.lemmas.Option.{slice_get_read}
use Rattle.serve_run.specs.Plans.{library_of}
use Rattle.serve_run.proofs.Plans.{none_dealt, one_dealt}
use Rattle.serve_run.proofs.dealing.deal.Goals as goal
use Rattle.serve_run.proofs.dealing.deal.Goals.{else-number-gt0-via-then-number-gt0+else-number-len, else-number-gt0-via-else-number-gt0}

pub returns-in_ok-push-clause-dealt : goal.returns-in_ok-push-clause-dealt
returns-in_ok-push-clause-dealt c = λ asks count shared before starts.
    let k = c.from-number.result - 1 in
    let some = c.if-number-gt0.true in
    let few = c.if-number-len.true in
    let number = c.from-number.ensures in
    let whose = c.library_of.ensures in
    let end = c.len.ensures in
    let own : library_of c.args.step ≡ k + 1 = omega arith in
    let within : k < length c.args.workers.now.items = omega arith in
    one_dealt asks count shared before c.args.step c.args.workers.now.items k c.index_mut-worker.result.now _ own
    (slice_get_read c.args.workers.now.items _ k c.index_mut-worker.result.now refl within c.index_mut-worker.ensures.value) refl c.in_ok-push.ensures.items starts

pub returns-else-number-gt0-clause-dealt : goal.returns-else-number-gt0-clause-dealt
returns-else-number-gt0-clause-dealt c = λ asks count shared before starts.
    let number = c.from-number.ensures in
    let whose = c.library_of.ensures in
    none_dealt asks count shared before c.args.step c.args.workers.now.items (λ place within same. elim c.else-number-gt0.branch [
      | else-number-gt0-via-then-number-gt0+else-number-len w ↦ (let many = w.if-number-len.false in let end = w.len.ensures in omega arith)
      | else-number-gt0-via-else-number-gt0 w ↦ (let none = w.if-number-gt0.false in omega arith)
    ]) starts
