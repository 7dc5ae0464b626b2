-- What a library keeps of its leases of one session, the latest first, and what lines of leases and a library's leases have to do with each other.
use Rattle.std.specs.Prelude.{◌≡◌, ◌≢◌, ℕ, suc, ◌+◌, ◌-◌, ◌^◌, ◌<◌, ◌≤◌, ◌⊎◌, ◌==◌, ◌&&◌, nat_lt, Bool, true, false, if◌then◌else◌, List, [], ◌∷◌, length, slice_get, Some}
use Rattle.lease_core.specs.declared.lease.Ending.{Ending}
use Rattle.lease_core.specs.declared.lease.Ending.TheVariants.{Running, GivenBack, TakenBack}
use Rattle.lease_core.specs.declared.lease.Line.{Line}
use Rattle.lease_core.specs.declared.word.Standing.{Standing}
use Rattle.lease_core.specs.declared.word.Standing.TheVariants.{Active, Released, Revoked}
use Rattle.lease_core.specs.declared.word.Word.{Word}
use Rattle.lease_core.specs.declared.limits.TheConstants.{MOST_LIBRARIES}
use Rattle.lease_core.specs.Lines.{no_line}
use Rattle.lease_core.specs.State.{last_or}
use Rattle.lease_words.specs.declared.view.LibraryLease.{LibraryLease}

-- a fact holds of each of a list
abbrev pub Each : {A : Type 0} → (A → Type 0) → List A → Type 0
Each P [] = Unit {0}
Each P (x ∷ xs) = P x × Each P xs

abbrev pub runs : Ending → Bool
runs Running = true
runs (GivenBack heir) = false
runs TakenBack = false

abbrev pub is_active : Standing → Bool
is_active Active = true
is_active Released = false
is_active Revoked = false

-- the word shows an active lease of this library
abbrev pub shows_lease : ℕ → Word → Bool
shows_lease library w = nat_lt 0 w.lease && is_active w.standing && (w.owner == library)

-- the lease that is held, or 0, and its count of sends
abbrev pub held_by : Ending → ℕ → ℕ
held_by Running n = n
held_by (GivenBack heir) n = 0
held_by TakenBack n = 0

abbrev pub held_lease : List LibraryLease → ℕ
held_lease [] = 0
held_lease (h ∷ hs) = held_by h.ending h.lease

abbrev pub held_count : List LibraryLease → ℕ
held_count [] = 0
held_count (h ∷ hs) = held_by h.ending h.count

-- a lease that wasn't given back was taken back
abbrev pub loss_ending : Ending → Ending
loss_ending Running = TakenBack
loss_ending (GivenBack heir) = GivenBack heir
loss_ending TakenBack = TakenBack

abbrev pub with_first_ending : (Ending → Ending) → List LibraryLease → List LibraryLease
with_first_ending f [] = []
with_first_ending f (h ∷ hs) = record h { ending = f h.ending } ∷ hs

abbrev pub with_one_send : List LibraryLease → List LibraryLease
with_one_send [] = []
with_one_send (h ∷ hs) = record h { count = h.count + 1 } ∷ hs

abbrev pub new_lease : ℕ → LibraryLease
new_lease n = record { lease = n; count = 0; ending = Running }

-- A word that shows an active lease of this library makes it hold that one, and any other word that what it held is lost.
abbrev pub leases_after_see : ℕ → Word → List LibraryLease → List LibraryLease
leases_after_see library w leases =
    if shows_lease library w
    then (if held_lease leases == w.lease then leases else new_lease w.lease ∷ with_first_ending loss_ending leases)
    else with_first_ending loss_ending leases

-- a library's lease with this number, which made no sends where the library has none with it
abbrev pub lease_in : ℕ → List LibraryLease → LibraryLease
lease_in n [] = new_lease n
lease_in n (h ∷ hs) = if h.lease == n then h else lease_in n hs

-- how a lease ended, as its library has it, beside how its line says: one that the library still has as running may have been taken back
abbrev pub FitsEnding : Ending → Ending → Type 0
FitsEnding Running ending = (ending ≡ Running) ⊎ (ending ≡ TakenBack)
FitsEnding (GivenBack heir) ending = ending ≡ GivenBack heir
FitsEnding TakenBack ending = ending ≡ TakenBack

-- the library's lease stands in these lines, with the library's own count
pub record Stands (base : ℕ) (lines : List Line) (library : ℕ) (h : LibraryLease) : Type 0 where
  pub above : base < h.lease
  pub line : Line
  pub at : slice_get lines (h.lease - 1) ≡ Some line
  pub whose : line.library ≡ library
  pub count : line.sends ≡ h.count
  pub ending : FitsEnding h.ending line.ending

-- the line wasn't given back
abbrev pub IsKept : Ending → Type 0
IsKept Running = Unit {0}
IsKept TakenBack = Unit {0}
IsKept (GivenBack heir) = ⊥

-- A line of this library above the base that isn't among its leases has no sends, and wasn't given back.
abbrev pub OthersRest : ℕ → List Line → ℕ → List LibraryLease → Type 0
OthersRest base lines library leases = (k : ℕ) (l : Line) → slice_get lines k ≡ Some l → base ≤ k → l.library ≡ library
    → Each (λ (h : LibraryLease). h.lease ≢ suc k) leases → (l.sends ≡ 0) × IsKept l.ending

-- the sends of one library in these lines
abbrev pub sends_of : ℕ → Line → ℕ
sends_of library l = if l.library == library then l.sends else 0

abbrev pub total : ℕ → List Line → ℕ
total library [] = 0
total library (l ∷ ls) = sends_of library l + total library ls

-- this lease is above each of these
abbrev pub AreBelow : ℕ → List LibraryLease → Type 0
AreBelow lease hs = Each (λ (h : LibraryLease). h.lease < lease) hs

-- all but the first have ended
abbrev pub AllEnded : List LibraryLease → Type 0
AllEnded hs = Each (λ (h : LibraryLease). runs h.ending ≡ false) hs

abbrev pub FirstRuns : List LibraryLease → Type 0
FirstRuns [] = Unit {0}
FirstRuns (h ∷ hs) = AllEnded hs

-- the heir that a released line names is another library than its own
abbrev pub FitsHeir : ℕ → ℕ → Ending → Type 0
FitsHeir most library Running = Unit {0}
FitsHeir most library TakenBack = Unit {0}
FitsHeir most library (GivenBack heir) = (heir ≤ most) × (heir ≢ library)

-- a line of a library from 1 to the most
pub record IsLineOf (most : ℕ) (l : Line) : Type 0 where
  pub from_one : 1 ≤ l.library
  pub to_last : l.library ≤ most
  pub few : l.sends < 2 ^ 32
  pub heir : FitsHeir most l.library l.ending

-- Each lease but the last has ended, and each is one of a library's, those above the base of one of the table's.
pub record AreLines (base libraries : ℕ) (lines : List Line) : Type 0 where
  pub based : base ≤ length lines
  pub few : length lines < 2 ^ 24
  pub ended : (k : ℕ) (l : Line) → slice_get lines k ≡ Some l → (suc k < length lines) ⊎ (k < base) → runs l.ending ≡ false
  pub known : (k : ℕ) (l : Line) → slice_get lines k ≡ Some l → IsLineOf MOST_LIBRARIES l
  pub here : (k : ℕ) (l : Line) → slice_get lines k ≡ Some l → base ≤ k → IsLineOf libraries l

-- b isn't an older word than a: its lease isn't smaller, on the same lease its count isn't, and what has ended stays as it is
pub record IsNotOlder (a b : Word) : Type 0 where
  pub lease : a.lease ≤ b.lease
  pub count : a.lease ≡ b.lease → a.count ≤ b.count
  pub ended : a.lease ≡ b.lease → is_active a.standing ≡ false → b ≡ a

-- the word was found in the place of a held lease's: it names a later lease, or this one as taken back with this count
abbrev pub EndsLease : ℕ → ℕ → Word → Type 0
EndsLease lease count w = (lease < w.lease) ⊎ ((w.lease ≡ lease) × (w.standing ≡ Revoked) × (w.count ≡ count))

-- the last lease is an active one
abbrev pub is_running : List Line → Bool
is_running [] = false
is_running (l ∷ ls) = runs (last_or no_line (l ∷ ls)).ending
