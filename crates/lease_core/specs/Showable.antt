-- Which words a registry can be shown, told by its lines alone.
use Rattle.std.specs.Prelude.{◌≡◌, ◌≢◌, ℕ, ◌<◌, ◌≤◌, ◌⊎◌, List, length}
use Rattle.lease_core.specs.declared.lease.Line.{Line}
use Rattle.lease_core.specs.declared.word.Standing.{Standing}
use Rattle.lease_core.specs.declared.word.Standing.TheVariants.{Active, Released, Revoked}
use Rattle.lease_core.specs.declared.word.Word.{Word}
use Rattle.lease_core.specs.State.{owner_in}
use Rattle.lease_core.specs.Steps.{IsLibrary}
use Rattle.lease_core.specs.Lines.{last_line}

-- the owner of a word is the last lease's library, or any library where the session was given back
abbrev pub NamesOwner : Standing → ℕ → ℕ → Type 0
NamesOwner Active owner library = owner ≡ library
NamesOwner Revoked owner library = owner ≡ library
NamesOwner Released owner library = (owner ≡ library) ⊎ IsLibrary owner

-- the word names the last line, and its count isn't below that line's sends
pub record IsShowable (lines : List Line) (w : Word) : Type 0 where
  pub lease : w.lease ≡ length lines
  pub owner : NamesOwner w.standing w.owner (last_line lines).library
  pub count : (last_line lines).sends ≤ w.count

-- the library that has the session by the last line, or 0 for the engine
abbrev pub owner_by : List Line → ℕ
owner_by lines = let l = last_line lines in owner_in l.ending l.library

-- a library has the session
abbrev pub IsOwned : List Line → Type 0
IsOwned lines = 0 < owner_by lines

-- the word was there as the engine took the session back from a library that had it
pub record CanTimeOut (lines : List Line) (old : Word) : Type 0 where
  pub showable : IsShowable lines old
  pub owned : IsOwned lines
  pub standing : old.standing ≢ Revoked
