-- What is noted of the sessions' owners, and what a library hasn't.
use Rattle.std.proofs.Common.{◌≡◌, ◌≢◌, ℕ, zero, suc, ◌<◌, ◌≤◌, ◌+◌, Bool, false, true, List, length, get_or, set, replicate, inl, inr, refl, sym, subst, ◌∙◌, arith}
use Rattle.std.proofs.lemmas.List.{get_or-replicate, get_or-set_other, get_or-set_same, length-replicate, length-set}
use Rattle.lease_desk.specs.Desk.{InTurn, owner_at}
use Rattle.library_desk.proofs.Cursors.{same_or_other}
use Rattle.library_desk.specs.Owners.{AreMarked}
use Rattle.library_desk.specs.Serving.{PumpsTo}
use Rattle.library_desk.specs.declared.desk.LibraryDesk.{LibraryDesk}

-- one session's owner more

pub one_more : (owner : ℕ → ℕ) (owners : List ℕ) (s found : ℕ) → s < length owners → found ≡ owner s → ((j : ℕ) → j < s → get_or owners j 0 ≡ owner j)
    → (j : ℕ) → j < s + 1 → get_or (set owners s found) j 0 ≡ owner j
one_more owner owners s found within is was j below = elim (same_or_other j s) [
  | inl same ↦ subst (λ i. get_or (set owners s found) i 0 ≡ owner i) (sym same) (get_or-set_same owners s found 0 within ∙ is)
  | inr other ↦ get_or-set_other owners s j found 0 other ∙ was j (omega (arith, other, below))
]

-- the number of one more session is marked

marked_still : (marks : List Bool) (owner n : ℕ) → owner < length marks → get_or marks n false ≡ true → get_or (set marks owner true) n false ≡ true
marked_still marks owner n within was = elim (same_or_other n owner) [
  | inl same ↦ subst (λ i. get_or (set marks owner true) i false ≡ true) (sym same) (get_or-set_same marks owner true false within)
  | inr other ↦ get_or-set_other marks owner n true false other ∙ was
]

pub marked_more : (owners : List ℕ) (marks : List Bool) (s owner : ℕ) → s < length owners → owner < length marks → AreMarked owners marks → AreMarked (set owners s owner) (set marks owner true)
marked_more owners marks s owner within known was j below = elim (same_or_other j s) [
  | inl same ↦ (
      let here : get_or (set owners s owner) j 0 ≡ owner = subst (λ i. get_or (set owners s owner) i 0 ≡ owner) (sym same) (get_or-set_same owners s owner 0 within) in
      subst (λ n. get_or (set marks owner true) n false ≡ true) (sym here) (get_or-set_same marks owner true false known)
      )
  | inr other ↦ (
      let here : get_or (set owners s owner) j 0 ≡ get_or owners j 0 = get_or-set_other owners s j owner 0 other in
      let inside : j < length owners = subst (λ n. j < n) (length-set owners s owner) below in
      subst (λ n. get_or (set marks owner true) n false ≡ true) (sym here) (marked_still marks owner (get_or owners j 0) known (was j inside))
      )
]

-- at first each session is the engine's, whose number is 0
pub marked_first : (sessions numbers : ℕ) → 0 < numbers → AreMarked (replicate sessions 0) (set (replicate numbers false) 0 true)
marked_first sessions numbers some j below =
    let inside : j < sessions = subst (λ n. j < n) (length-replicate sessions 0) below in
    let wide : 0 < length (replicate numbers false) = subst (λ n. 0 < n) (sym (length-replicate numbers false)) some in
    subst (λ n. get_or (set (replicate numbers false) 0 true) n false ≡ true) (sym (get_or-replicate sessions j 0 0 inside)) (get_or-set_same (replicate numbers false) 0 true false wide)

-- Sessions that a library hasn't aren't pumped: the turn goes on behind them.
pub passed_over : (library from to : ℕ) (old new : LibraryDesk) → from ≤ to → ((s : ℕ) → from ≤ s → s < to → owner_at new.desk.board s ≢ library)
    → InTurn (PumpsTo library) from old new → InTurn (PumpsTo library) to old new
passed_over library from zero old new within others turn =
    let none : from ≡ zero = omega (arith, within) in
    subst (λ n. InTurn (PumpsTo library) n old new) none turn
passed_over library from (suc to) old new within others turn = elim (same_or_other from (suc to)) [
  | inl same ↦ subst (λ n. InTurn (PumpsTo library) n old new) same turn
  | inr other ↦ (
    new,
    passed_over library from to old new (omega (arith, within, other)) (λ s a b. others s a (omega (arith, b))) turn,
    inr (others to (omega (arith, within, other)) (omega arith), refl),
  )
]
