use Rattle.resend_plan.proofs.Answering.{plan_names, plan_answers, plan_numbers, plan_none}
use Rattle.resend_plan.proofs.laws.plans_answer.Goals as goal

pub returns-clause-named : goal.returns-clause-named
returns-clause-named c = λ log series begin last at. plan_names log series at begin last

pub returns-clause-answers : goal.returns-clause-answers
returns-clause-answers c = λ log series begin last at. plan_answers log series at begin last

pub returns-clause-numbers : goal.returns-clause-numbers
returns-clause-numbers c = plan_numbers

pub returns-clause-none : goal.returns-clause-none
returns-clause-none c = plan_none
