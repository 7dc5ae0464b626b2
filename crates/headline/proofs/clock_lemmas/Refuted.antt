-- Records that don't keep time.
use Rattle.std.proofs.Common.{◌≡◌, ℕ, ◌+◌, ◌<◌, ◌≤◌, List, ◌∷◌, Option, ap, subst, arith}
use Rattle.std.proofs.lemmas.List.Elements.{All-contains}
use Rattle.headline.specs.clock.Kept.{KeepsTime, moment_at}
use Rattle.headline.specs.clock.TakenBack.{TimedOutInTime}
use Rattle.headline.specs.clock.Waited.{EndedInTime, HasWaited, messages_of, wait_by}
use Rattle.headline.specs.clock.Wrong.{HasSilent, HasTimeout, IsCutOffEarly, IsRefuted, IsRefutedWith, IsSilentBefore, IsTakenBackAtOnce, IsTakenBackEarly, StandsStill}
use Rattle.connection_core.specs.declared.limits.TheConstants.{LOGON_WAIT}
use Rattle.connection_core.specs.declared.records.ConnRecord.{ConnRecord}
use Rattle.engine_config.specs.declared.config.Config.{Config}
use Rattle.gate_io.specs.Clock.{greatest_of}
use Rattle.headline.specs.runs.Accounted.{first_machines}
use Rattle.run_report.specs.declared.records.RunRecord.{RunRecord}

waited : (config : Config) (reading : ℕ) (readings : List ℕ) (left : RunRecord) (since : ℕ) (c : ConnRecord) → HasSilent left since c → KeepsTime config reading readings left
    → HasWaited (moment_at reading) (moment_at (greatest_of (reading ∷ readings))) since (wait_by (first_machines config) c.session (messages_of c.taken))
waited config reading readings left since c silent keeps =
    All-contains (EndedInTime (first_machines config) (moment_at reading) (moment_at (greatest_of (reading ∷ readings)))) left.engine.connections c keeps.silent silent.there since silent.ended

no_time : (first last since wait : ℕ) → last ≡ first → HasWaited first last since wait → ⊥
no_time first last since wait same has = (let begun = has.begun in let long = has.waited in let some = has.some in omega arith)

not_begun : (first last since wait : ℕ) → since < first → HasWaited first last since wait → ⊥
not_begun first last since wait before has = (let begun = has.begun in omega arith)

too_early : (first last since wait : ℕ) → last < first + wait → HasWaited first last since wait → ⊥
too_early first last since wait early has = (let begun = has.begun in let long = has.waited in omega arith)

pub still_refuted : IsRefuted StandsStill
still_refuted config reading readings left wrong keeps =
    no_time (moment_at reading) (moment_at (greatest_of (reading ∷ readings))) wrong.since _ (ap moment_at wrong.still) (waited config reading readings left wrong.since wrong.c wrong.silent keeps)

pub before_refuted : IsRefuted IsSilentBefore
before_refuted config reading readings left wrong keeps =
    not_begun (moment_at reading) (moment_at (greatest_of (reading ∷ readings))) wrong.since _ wrong.before (waited config reading readings left wrong.since wrong.c wrong.silent keeps)

pub early_refuted : IsRefuted IsCutOffEarly
early_refuted config reading readings left wrong keeps =
    too_early (moment_at reading) (moment_at (greatest_of (reading ∷ readings))) wrong.since LOGON_WAIT wrong.early
    (subst (λ (session : Option ℕ). HasWaited (moment_at reading) (moment_at (greatest_of (reading ∷ readings))) wrong.since (wait_by (first_machines config) session (messages_of wrong.c.taken))) wrong.unbound
    (waited config reading readings left wrong.since wrong.c wrong.silent keeps))

timed_out : (config : Config) (reading : ℕ) (readings : List ℕ) (left : RunRecord) → HasTimeout left → KeepsTime config reading readings left
    → moment_at reading + config.timeout ≤ moment_at (greatest_of (reading ∷ readings))
timed_out config reading readings left has keeps =
    All-contains (TimedOutInTime (moment_at reading) (moment_at (greatest_of (reading ∷ readings))) config.timeout) left.engine.sessions has.session keeps.timeouts has.there has.lease has.library has.count has.told

no_timeout : (first last timeout : ℕ) → last ≡ first → 1 ≤ timeout → first + timeout ≤ last → ⊥
no_timeout first last timeout same some passed = omega arith

early_timeout : (first last timeout : ℕ) → last < first + timeout → first + timeout ≤ last → ⊥
early_timeout first last timeout early passed = omega arith

pub at_once_refuted : IsRefutedWith IsTakenBackAtOnce
at_once_refuted config reading readings left wrong keeps =
    no_timeout (moment_at reading) (moment_at (greatest_of (reading ∷ readings))) config.timeout (ap moment_at wrong.still) wrong.some (timed_out config reading readings left wrong.taken_back keeps)

pub taken_early_refuted : IsRefutedWith IsTakenBackEarly
taken_early_refuted config reading readings left wrong keeps =
    early_timeout (moment_at reading) (moment_at (greatest_of (reading ∷ readings))) config.timeout wrong.early (timed_out config reading readings left wrong.taken_back keeps)
