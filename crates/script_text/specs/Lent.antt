-- Names that are lent.
use Rattle.std.specs.Prelude.{ℕ, List, Result, Ok, Err}
use Rattle.std.specs.Borrow.{Bor}
use Rattle.session_core.specs.declared.names.Names.{Names}
use Rattle.script_text.specs.declared.kinds.ScriptKind.{ScriptKind}

abbrev pub names_of : List ℕ → List ℕ → Names
names_of us them = record { us = us; them = them }

abbrev pub lent_names : Result (Bor (List ℕ) × Bor (List ℕ)) ScriptKind → Result Names ScriptKind
lent_names (Ok names) = Ok (names_of names.0.now names.1.now)
lent_names (Err kind) = Err kind
