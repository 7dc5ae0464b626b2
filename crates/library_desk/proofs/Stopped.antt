-- Where memory was wanting.
use Rattle.std.proofs.Common.{OnErr, Result, Ok, Err}

-- what holds, holds of an error
pub on_err : {T E P : Type 0} (r : Result T E) → P → OnErr r P
on_err (Ok x) holds = tt
on_err (Err e) holds = holds
