-- The exit status of the program, and the line that it prints.
use Rattle.std.specs.Prelude.{ℕ, List, [], ◌++◌, codes, decimal}
use Rattle.script_text.specs.Kinds.{kind_text}
use Rattle.gateway_run.specs.declared.statuses.Status.{Status}
use Rattle.gateway_run.specs.declared.statuses.Status.TheVariants.{Ok, OutOfMemory, Usage, ReadFault, WriteFault, ScriptFault, TurnsSpent, ListenFault}

abbrev pub code_of : Status → ℕ
code_of Ok = 0
code_of OutOfMemory = 1
code_of Usage = 2
code_of (ScriptFault line kind) = 3
code_of ReadFault = 4
code_of WriteFault = 5
code_of (TurnsSpent turns library) = 6
code_of ListenFault = 7

-- the line on standard error, without its end; there is none for Ok
abbrev pub line_of : Status → List ℕ
line_of Ok = []
line_of OutOfMemory = codes "fixgate: out of memory"
line_of Usage = codes "usage: fixgate replay SCRIPT | drill N | serve SCRIPT ADDRESS TURNS"
line_of (ScriptFault line kind) = codes "fixgate: script line " ++ (decimal line ++ (codes ": " ++ kind_text kind))
line_of ReadFault = codes "fixgate: cannot read the script"
line_of WriteFault = codes "fixgate: cannot write the report"
line_of (TurnsSpent turns library) = codes "fixgate: " ++ (decimal turns ++ (codes " turns spent by " ++ decimal library))
line_of ListenFault = codes "fixgate: cannot listen"
