use Rattle.catchup_pump.proofs.Messages.{counted, each}
use Rattle.catchup_pump.proofs.laws.pushed_messages_are_the_log.Goals as goal

pub returns-clause-count : goal.returns-clause-count
returns-clause-count c = counted

pub returns-clause-each : goal.returns-clause-each
returns-clause-each c = each
