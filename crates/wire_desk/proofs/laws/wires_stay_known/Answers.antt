use Rattle.wire_desk.proofs.Known.{accept_fails, changed, connected, dialling_known, reserved, taken, wired_known}
use Rattle.wire_desk.proofs.laws.wires_stay_known.Goals as goal

pub returns-clause-wired : goal.returns-clause-wired
returns-clause-wired c = λ board places before after old new knows was. wired_known before after old new knows board places was

pub returns-clause-dialling : goal.returns-clause-dialling
returns-clause-dialling c = λ board d before after old new knows was. dialling_known before after old new knows board d was

pub returns-clause-connected : goal.returns-clause-connected
returns-clause-connected c = connected

pub returns-clause-taken : goal.returns-clause-taken
returns-clause-taken c = taken

pub returns-clause-changed : goal.returns-clause-changed
returns-clause-changed c = changed

pub returns-clause-accept_fails : goal.returns-clause-accept_fails
returns-clause-accept_fails c = accept_fails

pub returns-clause-reserved : goal.returns-clause-reserved
returns-clause-reserved c = reserved
