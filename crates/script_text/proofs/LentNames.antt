-- Parts of lent words are the parts of the words.
use Rattle.std.proofs.Common.{◌≡◌, ℕ, List, Result, Ok, Err, Bor, refl}
use Rattle.script_text.specs.Args.{lent_word}
use Rattle.script_text.specs.Kinds.{as_parts, both}
use Rattle.script_text.specs.Lent.{lent_names, names_of}
use Rattle.script_text.specs.declared.kinds.ScriptKind.{ScriptKind}

pub lent_names-both : (us them : Result (Bor (List ℕ)) ScriptKind) → lent_names (both us them) ≡ as_parts (λ us them. names_of us them) (lent_word us) (lent_word them)
lent_names-both (Ok us) (Ok them) = refl
lent_names-both (Ok us) (Err kind) = refl
lent_names-both (Err kind) (Ok them) = refl
lent_names-both (Err kind) (Err other) = refl
