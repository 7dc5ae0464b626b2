-- A library's record of a session.
use Rattle.std.proofs.Common.{◌≡◌, ℕ, ◌≤◌, length}
use Rattle.std.proofs.lemmas.List.{set_past}
use Rattle.library_api.specs.declared.reading.Reading.{Reading}
use Rattle.library_api.specs.Known.{Known, with_reading}

-- of a session with a greater number there is none
pub without_record : (k : Known) (s : ℕ) (r : Reading) → length k.readings ≤ s → k ≡ with_reading k s r
without_record k s r past = rw (set_past k.readings s r past)
