-- Steps that fit one behind another.
use Rattle.std.proofs.Common.{◌≡◌, ℕ, suc, ◌<◌, false, List, ◌∷◌, length, drop, get_or, subst, sym}
use Rattle.std.proofs.Math.Seq.{drop-cons}
use Rattle.gate_io.specs.MemWire.{WireState}
use Rattle.script_run.specs.Comes.{FitBehind, FitsOn, next_of}
use Rattle.script_text.specs.Lawful.{StepsFit}
use Rattle.script_text.specs.SoFar.{moment_with, numbers_with}
use Rattle.script_text.specs.declared.numbers.NextNumbers.{NextNumbers}
use Rattle.script_text.specs.declared.steps.Step.{Step}

-- the first of those that are left, and the others behind it
split : (libraries : ℕ) (wire : WireState) (steps : List Step) (i : ℕ) (what : Step) → i < length steps → get_or steps i what ≡ what → (fit : FitBehind libraries wire (drop i steps))
    → StepsFit false libraries (next_of wire) fit.present (get_or steps i what ∷ drop (suc i) steps)
split libraries wire steps i what within is fit = subst (λ xs. StepsFit false libraries (next_of wire) fit.present xs) (drop-cons steps i what within) fit.fit

pub first_fits : (libraries : ℕ) (wire : WireState) (steps : List Step) (i : ℕ) (what : Step) → i < length steps → get_or steps i what ≡ what → FitBehind libraries wire (drop i steps) → FitsOn libraries wire what
first_fits libraries wire steps i what within is fit =
    subst (λ (s : Step). FitsOn libraries wire s) is (record { present = fit.present; fits = (split libraries wire steps i what within is fit).0 })

pub rest_fit : (libraries : ℕ) (old new : WireState) (steps : List Step) (i : ℕ) (what : Step) → i < length steps → get_or steps i what ≡ what → next_of new ≡ numbers_with what (next_of old)
    → FitBehind libraries old (drop i steps) → FitBehind libraries new (drop (suc i) steps)
rest_fit libraries old new steps i what within is made fit = record {
  present = moment_with (get_or steps i what) fit.present;
  fit = subst (λ (n : NextNumbers). StepsFit false libraries n (moment_with (get_or steps i what) fit.present) (drop (suc i) steps)) (sym (subst (λ (s : Step). next_of new ≡ numbers_with s (next_of old)) (sym is) made))
      (split libraries old steps i what within is fit).1;
}
