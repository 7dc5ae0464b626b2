-- What a word adds to the lines gives the session to nobody.
use Rattle.std.proofs.Common.{◌≡◌, ℕ, ◌<◌, Bool, true, false, if◌then◌else◌, List, [], ◌∷◌, refl, ap, subst, ◌∙◌, arith}
use Rattle.lease_core.specs.Laws.{KeepsLease}
use Rattle.lease_core.specs.Lines.{ending_by, last_line, no_line, raised, raised_line, raises}
use Rattle.lease_core.specs.Showable.{owner_by}
use Rattle.lease_core.specs.State.{owner_in, with_last}
use Rattle.lease_core.specs.declared.lease.Ending.{Ending}
use Rattle.lease_core.specs.declared.lease.Line.{Line}
use Rattle.lease_core.specs.declared.word.Standing.{Standing}
use Rattle.lease_core.specs.declared.word.Standing.TheVariants.{Active, Released, Revoked}
use Rattle.lease_core.specs.declared.word.Word.{Word}
use Rattle.lease_core.proofs.Lasts.{last_or-with_last, length-with_last}

still_owned : (standing : Standing) (owner library : ℕ) (ending : Ending) → 0 < owner_in (ending_by standing owner library ending) library → owner_in (ending_by standing owner library ending) library ≡ owner_in ending library
still_owned Active owner library ending some = refl
still_owned Revoked owner library ending some = refl
still_owned Released owner library ending some = absurd (omega arith)

last_raised : (w : Word) (lines : List Line) → KeepsLease lines (with_last (raised_line w) lines)
last_raised w [] some = (refl, refl)
last_raised w (l ∷ ls) some =
    let lines = l ∷ ls in
    let last : last_line (with_last (raised_line w) lines) ≡ raised_line w (last_line lines) = last_or-with_last (raised_line w) no_line lines (omega arith) in
    let owner : owner_by (with_last (raised_line w) lines) ≡ owner_in (raised_line w (last_line lines)).ending (last_line lines).library = ap (λ (x : Line). owner_in x.ending x.library) last in
    (owner ∙ still_owned w.standing w.owner (last_line lines).library (last_line lines).ending (subst (λ n. 0 < n) owner some), length-with_last (raised_line w) lines)

chosen : (b : Bool) (w : Word) (lines : List Line) → KeepsLease lines (if b then with_last (raised_line w) lines else lines)
chosen true w lines some = last_raised w lines some
chosen false w lines some = (refl, refl)

pub leases-kept : (lines : List Line) (w : Word) → KeepsLease lines (raised lines w)
unfolding raised
leases-kept lines w = chosen (raises lines w) w lines
