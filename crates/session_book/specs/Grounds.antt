-- What the laws of the definitions need of the crates below.
use Rattle.std.specs.Prelude.{◌≡◌, ℕ, List, [], ◌∷◌, ◌++◌, length, take, IsSome}
use Rattle.std.specs.List.{All}
use Rattle.lease_core.specs.Laws.{EntriesDecide, EntriesDecideOver}
use Rattle.message_log.specs.Growth.{GoesOn}
use Rattle.message_log.specs.Series.{entry_at, series_at, with_entry}
use Rattle.message_log.specs.declared.entry.OutEntry.{OutEntry}
use Rattle.resend_plan.specs.Plan.{plan_of}
use Rattle.resend_plan.specs.Wire.{NamesEntry}
use Rattle.resend_plan.specs.declared.item.WireItem.{WireItem}
use Rattle.session_core.specs.Laws.{ActsOfMessages, ActsOfTicks, MomentsDontMatter, RunsInParts, SamenessLaws, TextsOfMessages}

-- a series of the later log begins with that of the earlier one
abbrev pub SeriesBegin : Type 0
SeriesBegin = (earlier later : List (List OutEntry)) (k : ℕ) → GoesOn earlier later → take (length (series_at earlier k)) (series_at later k) ≡ series_at earlier k

abbrev pub NamesStay : Type 0
NamesStay = (earlier later : List (List OutEntry)) (items : List WireItem) → GoesOn earlier later → All (NamesEntry earlier) items → All (NamesEntry later) items

abbrev pub PlansNameEntries : Type 0
PlansNameEntries = (log : List (List OutEntry)) (series begin last at : ℕ) → All (NamesEntry log) (plan_of (series_at log series) series begin last at)

abbrev pub LogsGoOn : Type 0
LogsGoOn = (first second third : List (List OutEntry)) → GoesOn first second → GoesOn second third → GoesOn first third

-- what is needed of the crates below, of the logs and of the entries of a journal
pub record Grounds : Type 0 where
  pub begins : SeriesBegin
  pub itself : (log : List (List OutEntry)) → GoesOn log log
  pub entry : (log : List (List OutEntry)) (entry : OutEntry) → GoesOn log (with_entry log entry)
  pub series : (log : List (List OutEntry)) → GoesOn log (log ++ [] ∷ [])
  pub further : LogsGoOn
  pub decide : EntriesDecide
  pub decide_over : EntriesDecideOver
  pub names : NamesStay
  pub plans : PlansNameEntries

abbrev pub EntriesStay : Type 0
EntriesStay = (earlier later : List (List OutEntry)) (k n : ℕ) → GoesOn earlier later → IsSome (entry_at earlier k n) → entry_at later k n ≡ entry_at earlier k n

-- what is needed of the crates below, also of the session machine
pub record RunGrounds : Type 0 where
  pub logs : Grounds
  pub stay : EntriesStay
  pub moments : MomentsDontMatter
  pub parts : RunsInParts
  pub same : SamenessLaws
  pub texts : TextsOfMessages
  pub acts : ActsOfMessages
  pub ticks : ActsOfTicks
