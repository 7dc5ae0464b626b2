-- Where nobody has a session, no lease is active.
use Rattle.std.proofs.Common.{◌≡◌, ℕ, ◌<◌, ◌≤◌, List, [], ◌∷◌, length, false, refl, arith}
use Rattle.lease_core.specs.declared.lease.Ending.{Ending}
use Rattle.lease_core.specs.declared.lease.Ending.TheVariants.{GivenBack, Running, TakenBack}
use Rattle.lease_core.specs.declared.lease.Line.{Line}
use Rattle.lease_core.specs.Lines.{last_line}
use Rattle.lease_core.specs.Showable.{owner_by}
use Rattle.lease_core.specs.State.{owner_in}
use Rattle.lease_core.specs.Steps.{IsLibrary}
use Rattle.lease_words.specs.Leases.{is_running, runs}

ended : (ending : Ending) (library : ℕ) → owner_in ending library ≡ 0 → 1 ≤ library → runs ending ≡ false
ended Running library none some = absurd (omega arith)
ended (GivenBack heir) library none some = refl
ended TakenBack library none some = refl

-- where nobody has the session its last lease has ended
pub not_running : (lines : List Line) → owner_by lines ≡ 0 → (0 < length lines → IsLibrary (last_line lines).library) → is_running lines ≡ false
not_running [] none some = refl
not_running (l ∷ ls) none some = ended (last_line (l ∷ ls)).ending (last_line (l ∷ ls)).library none (some (omega arith)).from_one
