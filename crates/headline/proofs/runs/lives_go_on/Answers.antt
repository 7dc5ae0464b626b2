use Rattle.headline.proofs.run_lemmas.Calls.{call_made}
use Rattle.headline.proofs.run_lemmas.Lived.{lives, met_beside, met_served, reported, told_end, waited, met_lived}
use Rattle.headline.proofs.runs.lives_go_on.Goals as goal

pub returns : goal.returns
returns c = record {
  begins = lives;
  reports = reported;
  waits = waited;
  tells_end = told_end;
  meets = met_lived;
  seat = λ what call old new makes. (call_made what call old new makes).stays;
  served = λ before place number engine_old engine_new tail_old head_old life rings number_is answered. met_served before place number engine_old engine_new tail_old head_old life rings number_is answered;
  beside = met_beside;
}
