use Rattle.engine_laws.proofs.Accounting.{account_laws}
use Rattle.engine_laws.proofs.Turns.{takes_account, takes_moment, takes_ready, turn_account, turn_moment, turn_ready}
use Rattle.engine_laws.proofs.laws.turns_are_accounted_for.Goals as goal

pub returns-clause-takes_moment : goal.returns-clause-takes_moment
returns-clause-takes_moment c = takes_moment (account_laws c.happenings_are_accounted_for.ensures) c.serving_happens.ensures.serves

pub returns-clause-takes_ready : goal.returns-clause-takes_ready
returns-clause-takes_ready c = takes_ready (account_laws c.happenings_are_accounted_for.ensures) c.serving_happens.ensures.serves

pub returns-clause-takes_account : goal.returns-clause-takes_account
returns-clause-takes_account c = takes_account (account_laws c.happenings_are_accounted_for.ensures) c.serving_happens.ensures.serves

pub returns-clause-moment : goal.returns-clause-moment
returns-clause-moment c = turn_moment (account_laws c.happenings_are_accounted_for.ensures) c.serving_happens.ensures.serves

pub returns-clause-ready : goal.returns-clause-ready
returns-clause-ready c = turn_ready (account_laws c.happenings_are_accounted_for.ensures) c.serving_happens.ensures.serves

pub returns-clause-account : goal.returns-clause-account
returns-clause-account c = turn_account (account_laws c.happenings_are_accounted_for.ensures) c.serving_happens.ensures.serves
