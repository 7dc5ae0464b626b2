-- The word that a look or a revoke finds can be shown to a registry whose lines are the seat's.
use Rattle.std.proofs.Common.{◌≡◌, ℕ, ◌-◌, ◌<◌, ◌≤◌, List, [], ◌∷◌, length, true, false, eqb, cond, refl, ap, ◌∙◌, subst, arith}
use Rattle.lease_core.specs.declared.lease.Ending.{Ending}
use Rattle.lease_core.specs.declared.lease.Ending.TheVariants.{Running, GivenBack, TakenBack}
use Rattle.lease_core.specs.declared.lease.Line.{Line}
use Rattle.lease_core.specs.declared.word.Word.{Word}
use Rattle.lease_core.specs.Laws.{WordsAreShowable, WordsCanTimeOut}
use Rattle.lease_core.specs.State.{owner_in, with_last}
use Rattle.lease_core.specs.Lines.{no_line, word_of, raised, taken_back, taken_back_line, standing_of, shown_owner}
use Rattle.lease_words.specs.declared.view.Shape.{Shape}
use Rattle.lease_words.specs.declared.view.EngineSession.{EngineSession}
use Rattle.lease_words.specs.declared.view.LibraryKnows.{LibraryKnows}
use Rattle.lease_words.specs.Leases.{AreLines, IsLineOf, FitsHeir, is_running, runs}
use Rattle.lease_core.specs.Lines.{last_line}
use Rattle.lease_core.specs.Showable.{IsShowable, IsOwned, CanTimeOut}
use Rattle.lease_words.specs.Tells.{EngineNumbers, HasLooked, HasRevoked}
use Rattle.lease_words.proofs.Lines.{running_last, as_front, with_last_of_push, running_of_push}
use Rattle.lease_words.proofs.Lanes.{place_of_last}

-- the last line is of a library
last_known : (base libraries : ℕ) (lines : List Line) → AreLines base libraries lines → 0 < length lines → IsLineOf 16 (last_line lines)
last_known base libraries lines are some = are.known (length lines - 1) (last_line lines) (place_of_last no_line lines (length lines - 1) (omega arith))

pub owner_within : (e : Ending) (library : ℕ) → library ≤ 16 → FitsHeir 16 library e → shown_owner e library ≤ 16
owner_within Running library few heir = few
owner_within TakenBack library few heir = few
owner_within (GivenBack heir) library few fits = one_of (eqb heir 0)
  where
    one_of : (b : Rattle.std.specs.Prelude.Bool) → cond b library heir ≤ 16
    one_of true = few
    one_of false = fits.0

owner_few : (base libraries : ℕ) (lines : List Line) → AreLines base libraries lines → (word_of lines).owner ≤ 16
owner_few base libraries [] are = omega arith
owner_few base libraries (l ∷ ls) are = let known = last_known base libraries (l ∷ ls) are (omega arith) in owner_within (last_line (l ∷ ls)).ending (last_line (l ∷ ls)).library known.to_last known.heir

owned_by : (e : Ending) (library : ℕ) → runs e ≡ true → 1 ≤ library → 0 < owner_in e library
owned_by Running library ran one = one
owned_by (GivenBack heir) library ran one = absurd (let no_end : false ≡ true = ran in cc)
owned_by TakenBack library ran one = absurd (let no_end : false ≡ true = ran in cc)

is_owned : (lines : List Line) → is_running lines ≡ true → 1 ≤ (last_line lines).library → IsOwned lines
is_owned [] ran one = absurd (let no_end : false ≡ true = ran in cc)
is_owned (l ∷ ls) ran one = owned_by (last_line (l ∷ ls)).ending (last_line (l ∷ ls)).library ran one

some_line : (lines : List Line) → is_running lines ≡ true → 0 < length lines
some_line [] ran = absurd (let no_end : false ≡ true = ran in cc)
some_line (l ∷ ls) ran = omega arith

module _ (k : Shape) (s : ℕ) (es : EngineSession) (w : Word) (ls : List LibraryKnows) where
  few_of : HasLooked k s es w ls → w.owner ≤ 16
  few_of look = subst (λ (v : Word). v.owner ≤ 16) look.is (owner_few es.base k.libraries (raised es.lines w) look.are_lines)

  pub look_shows : WordsAreShowable → HasLooked k s es w ls → IsShowable es.lines w
  look_shows showable look = showable es.lines w look.is (few_of look)

  pub revoke_times_out : WordsCanTimeOut → HasRevoked k s es w ls → is_running es.lines ≡ true → CanTimeOut es.lines w
  revoke_times_out can_time_out told ran =
      let look = told.look in
      let size : length (raised es.lines w) ≡ length es.lines = ap (λ (n : EngineNumbers). n.lease) look.numbers in
      let whose : (last_line (raised es.lines w)).library ≡ (last_line es.lines).library = ap (λ (n : EngineNumbers). n.library) look.numbers in
      let known = last_known es.base k.libraries (raised es.lines w) look.are_lines (let some = some_line es.lines ran in omega arith) in
      can_time_out es.lines w look.is (few_of look) (is_owned es.lines ran (subst (λ (n : ℕ). 1 ≤ n) whose known.from_one))

-- behind a revoke no lease is active
ended_last : (lines : List Line) → runs (last_line lines).ending ≡ false → is_running lines ≡ false
ended_last [] over = refl
ended_last (l ∷ ls) over = running_last (l ∷ ls) (omega arith) ∙ over

taken_back_last : (lines : List Line) → is_running (with_last taken_back_line lines) ≡ false
taken_back_last [] = refl
taken_back_last (l ∷ ls) =
    let f = as_front (l ∷ ls) (omega arith) in
    ap (λ (x : List Line). is_running (with_last taken_back_line x)) f.2 ∙ (ap is_running (with_last_of_push taken_back_line f.0 f.1) ∙ running_of_push f.0 (taken_back_line f.1))

back_by : (lines : List Line) (e : Ending) → (last_line lines).ending ≡ e → is_running (taken_back (standing_of e) lines) ≡ false
back_by lines Running is = taken_back_last lines
back_by lines (GivenBack heir) is = ended_last lines (ap runs is)
back_by lines TakenBack is = ended_last lines (ap runs is)

pub none_runs : (lines : List Line) (w : Word) → word_of lines ≡ w → is_running (taken_back w.standing lines) ≡ false
none_runs lines w is = subst (λ (w : Word). is_running (taken_back w.standing lines) ≡ false) is (back_by lines (last_line lines).ending refl)
