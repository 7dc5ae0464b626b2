-- How errors are printed.
use Rattle.std.specs.Prelude.{ℕ, List, codes}
use Rattle.gate_io.specs.declared.whole.ReadAll.{ReadAll}
use Rattle.gate_io.specs.declared.whole.ReadAll.TheVariants.{OutOfMemory, ReadFault, TooLong}

-- the text of an error of `read_all`
abbrev pub text_of : ReadAll → List ℕ
text_of OutOfMemory = codes "out of memory"
text_of ReadFault = codes "a read failed"
text_of TooLong = codes "too many bytes"
