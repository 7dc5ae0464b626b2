use Rattle.durable_journal.proofs.Images.{stands_once, stands_undamaged}
use Rattle.durable_journal.proofs.laws.files_stand_once.Goals as goal

pub returns-clause-once : goal.returns-clause-once
returns-clause-once c = stands_once

pub returns-clause-undamaged : goal.returns-clause-undamaged
returns-clause-undamaged c = stands_undamaged
