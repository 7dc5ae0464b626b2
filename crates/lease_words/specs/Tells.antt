-- What each step tells. A step finds its session, and its library where it has one, by the place of its word: `LookOf s` is what a look at session s
-- tells, and `LookTells` the same of the session whose word it is; so of the others.
use Rattle.std.specs.Prelude.{◌≡◌, ◌≢◌, ℕ, suc, ◌+◌, ◌-◌, ◌*◌, ◌^◌, ◌<◌, ◌≤◌, ◌⊎◌, ◌==◌, ◌||◌, Bool, MatchBool, true, if◌then◌else◌, List, [], ◌∷◌, ◌++◌, length, slice_get, Option, Some, None, option_to_list}
use mathlib.Core.List.{IsPrefix}
use mathlib.Core.Option.{some}
use lib.ListN.{get_elem?}
use Rattle.atomic_table.specs.Table.{State, Me, Step}
use Rattle.lease_core.specs.declared.lease.Ending.{Ending}
use Rattle.lease_core.specs.declared.lease.Ending.TheVariants.{Running, GivenBack, TakenBack}
use Rattle.lease_core.specs.declared.lease.Line.{Line}
use Rattle.lease_core.specs.declared.word.Standing.TheVariants.{Released, Revoked}
use Rattle.lease_core.specs.declared.word.Word.{Word}
use Rattle.lease_core.specs.Lines.{last_line}
use Rattle.lease_core.specs.Lines.{word_of, IsShown, raised, heir_named, standing_of}
use Rattle.lease_core.specs.Word.{word_in}
use Rattle.lease_words.specs.declared.item.Item.{Item}
use Rattle.lease_words.specs.declared.view.LibraryLease.{LibraryLease}
use Rattle.lease_words.specs.declared.view.Shape.{Shape}
use Rattle.lease_words.specs.declared.view.EngineSession.{EngineSession}
use Rattle.lease_words.specs.declared.view.EngineKnows.{EngineKnows}
use Rattle.lease_words.specs.declared.view.LibrarySession.{LibrarySession}
use Rattle.lease_words.specs.declared.view.LibraryKnows.{LibraryKnows}
use Rattle.lease_words.specs.declared.view.View.{View}
use Rattle.lease_words.specs.Layout.{session_at, lane_at, beating_at, lane_of, slot_of}
use Rattle.lease_words.specs.Facts.{OthersTaken, Follows}
use Rattle.lease_words.specs.Rule.{Ruled}
use Rattle.lease_words.specs.Leases.{Each, Stands, OthersRest, AreBelow, AreLines, IsNotOlder, EndsLease, lease_in, held_lease, held_count, shows_lease, total}
use Rattle.lease_words.specs.Views.{engine_session, with_engine_session, heard_of, with_heard, taken_of, library_session, with_library_session, granted_lines, last_library, pending, engine_view, library_view, first_library, other_libraries}
use Rattle.lease_words.specs.Sees.{after_look, after_grant, after_revoke, after_take, after_publish, after_beats, with_taking, after_see, after_taken_load, after_arrival, after_send, after_loss, after_release, after_beat, with_sending}

-- a seat: what it knows, and the slots that are out with it
abbrev pub Seated : Type 0
Seated = Me (Option Item) View

-- what the engine's seat keeps of a session: the number of leases, and of the last one the library, the sends that were seen and how many of these weren't taken
pub record EngineNumbers : Type 0 where
  pub lease : ℕ
  pub library : ℕ
  pub count : ℕ
  pub pending : ℕ

abbrev pub engine_numbers : EngineSession → EngineNumbers
engine_numbers es = record { lease = length es.lines; library = last_library es; count = (last_line es.lines).sends; pending = pending es }

-- the numbers behind a look that found this count
abbrev pub numbers_after_look : EngineNumbers → ℕ → EngineNumbers
numbers_after_look n count = record n { count = count; pending = n.pending + (count - n.count) }

-- what a library's seat keeps of a session: the word of the lease that it holds as a number, or 0, and how many items it sent
pub record LibraryNumbers : Type 0 where
  pub word : ℕ
  pub committed : ℕ

abbrev pub held_word : ℕ → List LibraryLease → ℕ
held_word library leases = if held_lease leases == 0 then 0 else held_lease leases * 2 ^ 40 + library * 2 ^ 34 + held_count leases

abbrev pub library_numbers : ℕ → LibrarySession → LibraryNumbers
library_numbers library ls = record { word = held_word library ls.leases; committed = length ls.items }

-- What the engine's lines tell of a library that was settled: its leases stand there with its own counts, other lines of it are at rest, each word
-- that it knew is shown, and what was taken of it begins its items, whose number the lines have.
pub record IsSettled (s : ℕ) (es : EngineSession) (k : LibraryKnows) : Type 0 where
  pub stands : Each (Stands es.base es.lines k.number) (library_session k s).leases
  pub others : OthersRest es.base es.lines k.number (library_session k s).leases
  pub words : Each (IsShown es.lines) (library_session k s).words
  pub taken : IsPrefix (taken_of es k.number) (library_session k s).items
  pub all : length (library_session k s).items ≡ total k.number (granted_lines es.base es.lines)

-- what a look tells
pub record HasLooked (shape : Shape) (s : ℕ) (es : EngineSession) (w : Word) (ks : List LibraryKnows) : Type 0 where
  pub is : word_of (raised es.lines w) ≡ w
  pub later : Each (λ (seen : Word). IsNotOlder seen w) es.words
  pub are_lines : AreLines es.base shape.libraries (raised es.lines w)
  pub within : pending (after_look es w) ≤ shape.depth
  pub others : OthersTaken shape.libraries (after_look es w)
  pub settled : Each (IsSettled s (after_look es w)) ks
  pub more : (engine_numbers es).count ≤ w.count
  pub numbers : engine_numbers (after_look es w) ≡ numbers_after_look (engine_numbers es) w.count

abbrev pub LookOf : ℕ → Step (Option Item) → Seated → ℕ → Seated → Type 0
LookOf s st m r m' =
    let es = engine_session m.0.knows s in
    let w = word_in r in
    (m' ≡ (engine_view m.0.shape (with_engine_session m.0.knows s (after_look es w)) m.0.libraries, [])) × HasLooked m.0.shape s es w m.0.libraries

abbrev pub LookTells : Step (Option Item) → Seated → ℕ → Seated → Type 0
LookTells st m r m' = LookOf (session_at st.word) st m r m'

-- what taking a session back tells besides
pub record HasRevoked (shape : Shape) (s : ℕ) (es : EngineSession) (w : Word) (ks : List LibraryKnows) : Type 0 where
  pub look : HasLooked shape s es w ks
  pub are_lines : AreLines es.base shape.libraries (after_revoke es w).lines
  pub others : OthersTaken shape.libraries (after_revoke es w)
  pub settled : Each (IsSettled s (after_revoke es w)) ks
  pub numbers : engine_numbers (after_revoke es w) ≡ numbers_after_look (engine_numbers es) w.count

abbrev pub RevokeOf : ℕ → Step (Option Item) → Seated → ℕ → Seated → Type 0
RevokeOf s st m r m' =
    let es = engine_session m.0.knows s in
    let w = word_in r in
    (m' ≡ (engine_view m.0.shape (with_engine_session m.0.knows s (after_revoke es w)) m.0.libraries, [])) × HasRevoked m.0.shape s es w m.0.libraries

abbrev pub RevokeTells : Step (Option Item) → Seated → ℕ → Seated → Type 0
RevokeTells st m r m' = RevokeOf (session_at st.word) st m r m'

-- what a grant tells
pub record HasGranted (shape : Shape) (es : EngineSession) (library : ℕ) : Type 0 where
  pub are_lines : AreLines es.base shape.libraries (after_grant es library).lines
  pub numbers : engine_numbers (after_grant es library) ≡ record { lease = length es.lines + 1; library = library; count = 0; pending = 0 }

abbrev pub GrantOf : ℕ → Step (Option Item) → Seated → ℕ → Seated → Type 0
GrantOf s st m r m' =
    let es = engine_session m.0.knows s in
    let library = (word_in st.first).owner in
    (m' ≡ (engine_view m.0.shape (with_engine_session m.0.knows s (after_grant es library)) m.0.libraries, [])) × HasGranted m.0.shape es library

abbrev pub GrantTells : Step (Option Item) → Seated → ℕ → Seated → Type 0
GrantTells st m r m' = GrantOf (session_at st.word) st m r m'

-- an item that was taken
pub record HasTaken (libraries s : ℕ) (es : EngineSession) (library r : ℕ) (item : Item) (ks : List LibraryKnows) : Type 0 where
  pub from_one : 1 ≤ library
  pub to_last : library ≤ libraries
  pub count : r ≡ length (taken_of es library)
  pub longer : length (taken_of (after_take es library (item ∷ [])) library) ≡ r + 1
  pub few : r < 2 ^ 56
  pub others : OthersTaken libraries (after_take es library (item ∷ []))
  pub settled : Each (λ (k : LibraryKnows). IsPrefix (taken_of (after_take es library (item ∷ [])) k.number) (library_session k s).items) ks
  pub numbers : engine_numbers (after_take es library (item ∷ [])) ≡ record (engine_numbers es) { pending = pending es - 1 }

-- the load of a take, which takes the slot of the first item
abbrev pub FetchOf : ℕ → ℕ → Step (Option Item) → Seated → ℕ → Seated → Type 0
FetchOf s library st m r m' =
    let es = engine_session m.0.knows s in
    let libraries = m.0.shape.libraries in
    (item : Item)
    × (m' ≡ (engine_view m.0.shape (with_taking (with_engine_session m.0.knows s (after_take es library (item ∷ []))) (suc (lane_of libraries s library))) m.0.libraries, (slot_of libraries s library r, Some item) ∷ []))
    × HasTaken libraries s es library r item m.0.libraries

abbrev pub FetchTells : Step (Option Item) → Seated → ℕ → Seated → Type 0
FetchTells st m r m' = FetchOf (session_at st.word) (lane_at st.word) st m r m'

-- the store of a take, which gives it back
abbrev pub VacateTells : Step (Option Item) → Seated → ℕ → Seated → Type 0
VacateTells st m r m' = m' ≡ (engine_view m.0.shape (with_taking m.0.knows 0) m.0.libraries, [])

abbrev pub PublishOf : ℕ → Step (Option Item) → Seated → ℕ → Seated → Type 0
PublishOf s st m r m' =
    m' ≡ (engine_view m.0.shape (with_engine_session m.0.knows s (after_publish (engine_session m.0.knows s) st.first)) m.0.libraries, [])

abbrev pub PublishTells : Step (Option Item) → Seated → ℕ → Seated → Type 0
PublishTells st m r m' = PublishOf (session_at st.word) st m r m'

abbrev pub ListenOf : ℕ → Step (Option Item) → Seated → ℕ → Seated → Type 0
ListenOf library st m r m' =
    let b = heard_of m.0.knows library in
    (b.count ≤ r) × (m' ≡ (engine_view m.0.shape (with_heard m.0.knows library (after_beats b r)) m.0.libraries, [])) × (heard_of (with_heard m.0.knows library (after_beats b r)) library ≡ after_beats b r)

abbrev pub ListenTells : Step (Option Item) → Seated → ℕ → Seated → Type 0
ListenTells st m r m' = ListenOf (beating_at m.0.shape.sessions st.word) st m r m'

-- what a library is told by a word
pub record HasFoundWord (library : ℕ) (ls : LibrarySession) (r : ℕ) : Type 0 where
  pub later : Each (λ (seen : Word). IsNotOlder seen (word_in r)) ls.words
  -- a lease that wasn't held before is above all that the library had
  pub newer : shows_lease library (word_in r) ≡ true → held_lease ls.leases ≢ (word_in r).lease → AreBelow (word_in r).lease ls.leases
  pub numbers : library_numbers library (after_see library ls (word_in r)) ≡ record { word = if shows_lease library (word_in r) then r else 0; committed = length ls.items }

abbrev pub SeeOf : ℕ → Step (Option Item) → Seated → ℕ → Seated → Type 0
SeeOf s st m r m' =
    let k = first_library m.0.libraries in
    let ls = library_session k s in
    (m' ≡ (library_view m.0.shape (with_library_session k s (after_see k.number ls (word_in r))), [])) × HasFoundWord k.number ls r

abbrev pub SeeTells : Step (Option Item) → Seated → ℕ → Seated → Type 0
SeeTells st m r m' = SeeOf (session_at st.word) st m r m'

abbrev pub ArriveOf : ℕ → Step (Option Item) → Seated → ℕ → Seated → Type 0
ArriveOf s st m r m' =
    let k = first_library m.0.libraries in
    let ls = library_session k s in
    (ls.published ≤ r) × (m' ≡ (library_view m.0.shape (with_library_session k s (after_arrival ls r)), []))

abbrev pub ArriveTells : Step (Option Item) → Seated → ℕ → Seated → Type 0
ArriveTells st m r m' = ArriveOf (session_at st.word) st m r m'

abbrev pub BeatTells : Step (Option Item) → Seated → ℕ → Seated → Type 0
BeatTells st m r m' = m' ≡ (library_view m.0.shape (after_beat (first_library m.0.libraries) st.first), [])

-- a lane with these counts takes no more, or the lease made all its sends
abbrev pub is_refused : Shape → ℕ → ℕ → ℕ → Bool
is_refused shape committed taken count = (committed == taken + shape.depth) || (count == shape.sends)

-- what a library learns of its lane
pub record HasFoundTaken (shape : Shape) (ls : LibrarySession) (r : ℕ) : Type 0 where
  pub later : ls.taken ≤ r
  pub behind : r ≤ length ls.items
  pub within : length ls.items ≤ r + shape.depth
  pub few : length ls.items < 2 ^ 56
  pub spent : held_count ls.leases ≤ shape.sends

-- the load of a send, which takes the next slot unless the send is refused
abbrev pub ClaimOf : ℕ → Step (Option Item) → Seated → ℕ → Seated → Type 0
ClaimOf s st m r m' =
    let k = first_library m.0.libraries in
    let ls = library_session k s in
    let after = with_library_session k s (after_taken_load ls r) in
    HasFoundTaken m.0.shape ls r
    × MatchBool (is_refused m.0.shape (length ls.items) r (held_count ls.leases))
    (m' ≡ (library_view m.0.shape after, []))
    (m' ≡ (library_view m.0.shape (with_sending after (suc s)), (slot_of m.0.shape.libraries s k.number (length ls.items), None) ∷ []))

abbrev pub ClaimTells : Step (Option Item) → Seated → ℕ → Seated → Type 0
ClaimTells st m r m' = ClaimOf (session_at st.word) st m r m'

-- the item in the slot that was taken last
abbrev pub carried_items : List (ℕ × Option Item) → List Item
carried_items [] = []
carried_items (x ∷ xs) = option_to_list x.1

-- another word was found than the lease's
pub record HasLost (library : ℕ) (ls : LibrarySession) (r : ℕ) : Type 0 where
  pub ends : EndsLease (held_lease ls.leases) (held_count ls.leases) (word_in r)
  pub later : Each (λ (seen : Word). IsNotOlder seen (word_in r)) ls.words
  pub numbers : library_numbers library (after_loss ls (word_in r)) ≡ record { word = 0; committed = length ls.items }

-- what a send tells that found the lease's word
pub record HasSent (library : ℕ) (ls : LibrarySession) (items : List Item) (n : ℕ) : Type 0 where
  pub numbers : library_numbers library (after_send ls items (word_in n)) ≡ record { word = n; committed = length ls.items + 1 }

-- the exchange of a send, which gives the slot back with its item where it finds the lease's word
abbrev pub CommitOf : ℕ → Step (Option Item) → Seated → ℕ → Seated → Type 0
CommitOf s st m r m' =
    let k = first_library m.0.libraries in
    let ls = library_session k s in
    MatchBool (r == st.first)
    ((m' ≡ (library_view m.0.shape (with_sending (with_library_session k s (after_send ls (carried_items m.1) (word_in st.second))) 0), [])) × HasSent k.number ls (carried_items m.1) st.second)
    ((m' ≡ (library_view m.0.shape (with_library_session k s (after_loss ls (word_in r))), m.1)) × HasLost k.number ls r)

abbrev pub CommitTells : Step (Option Item) → Seated → ℕ → Seated → Type 0
CommitTells st m r m' = CommitOf (session_at st.word) st m r m'

-- the load by which a send that was refused gives the slot back
abbrev pub HandBackTells : Step (Option Item) → Seated → ℕ → Seated → Type 0
HandBackTells st m r m' = m' ≡ (library_view m.0.shape (with_sending (first_library m.0.libraries) 0), [])

-- the exchange of a release
abbrev pub ReleaseOf : ℕ → Step (Option Item) → Seated → ℕ → Seated → Type 0
ReleaseOf s st m r m' =
    let k = first_library m.0.libraries in
    let ls = library_session k s in
    let w = word_in st.second in
    let after = after_release ls (heir_named w.owner k.number) w in
    MatchBool (r == st.first)
    ((m' ≡ (library_view m.0.shape (with_library_session k s after), [])) × (held_count ls.leases < 2 ^ 32) × (library_numbers k.number after ≡ record { word = 0; committed = length ls.items }))
    ((m' ≡ (library_view m.0.shape (with_library_session k s (after_loss ls (word_in r))), [])) × HasLost k.number ls r)

abbrev pub ReleaseTells : Step (Option Item) → Seated → ℕ → Seated → Type 0
ReleaseTells st m r m' = ReleaseOf (session_at st.word) st m r m'

-- What was told at a meeting: each side is told of the words that the other knows, the library of what was taken of it and published, and the
-- engine of the library's beats.
abbrev pub engine_session_after_meeting : EngineSession → LibrarySession → EngineSession
engine_session_after_meeting es ls = record es { words = ls.words ++ es.words }

abbrev pub library_session_after_meeting : ℕ → EngineSession → LibrarySession → LibrarySession
library_session_after_meeting library es ls = record ls { words = ls.words ++ es.words; taken = length (taken_of es library); published = es.published }

abbrev pub engine_sessions_after_meeting : List EngineSession → List LibrarySession → List EngineSession
engine_sessions_after_meeting [] ls = []
engine_sessions_after_meeting (x ∷ xs) [] = []
engine_sessions_after_meeting (x ∷ xs) (y ∷ ys) = engine_session_after_meeting x y ∷ engine_sessions_after_meeting xs ys

abbrev pub library_sessions_after_meeting : ℕ → List EngineSession → List LibrarySession → List LibrarySession
library_sessions_after_meeting library [] ls = []
library_sessions_after_meeting library (x ∷ xs) [] = []
library_sessions_after_meeting library (x ∷ xs) (y ∷ ys) = library_session_after_meeting library x y ∷ library_sessions_after_meeting library xs ys

abbrev pub engine_after_meeting : EngineKnows → LibraryKnows → EngineKnows
engine_after_meeting e k =
    let told : EngineKnows = record e { sessions = engine_sessions_after_meeting e.sessions k.sessions } in
    with_heard told k.number (record (heard_of e k.number) { count = k.beats })

abbrev pub library_after_meeting : EngineKnows → LibraryKnows → LibraryKnows
library_after_meeting e k = record k { sessions = library_sessions_after_meeting k.number e.sessions k.sessions }

-- a word that names a lease of this library shows no more than the library and the engine have done
pub record IsDone (base library : ℕ) (lines : List Line) (leases : List LibraryLease) (w : Word) : Type 0 where
  pub lease : w.lease ≤ length lines
  pub own : (l : Line) (h : LibraryLease) → base < w.lease → slice_get lines (w.lease - 1) ≡ Some l → l.library ≡ library → h ≡ lease_in w.lease leases
      → (w.count ≤ h.count) × (w.standing ≡ Released → standing_of h.ending ≡ Released) × (w.standing ≡ Revoked → l.ending ≡ TakenBack)

-- how a lease's line, as the engine has seen it, stands beside what its library did
abbrev pub HasSeen : Ending → LibraryLease → ℕ → Type 0
HasSeen Running h sends = (sends ≤ h.count) × (h.ending ≢ TakenBack)
HasSeen (GivenBack heir) h sends = (sends ≡ h.count) × (h.ending ≡ GivenBack heir)
HasSeen TakenBack h sends = (sends ≡ h.count) × ((h.ending ≡ Running) ⊎ (h.ending ≡ TakenBack))

pub record IsSeen (base library : ℕ) (lines : List Line) (h : LibraryLease) : Type 0 where
  pub above : base < h.lease
  pub line : Line
  pub at : slice_get lines (h.lease - 1) ≡ Some line
  pub whose : line.library ≡ library
  pub seen : HasSeen line.ending h line.sends

-- At a meeting there are lines, which the engine's are or have gone on to, in which the library's leases stand with its own counts and which show
-- every word that either side knew.
pub record AreOne (libraries library : ℕ) (es : EngineSession) (ls : LibrarySession) : Type 0 where
  pub lines : List Line
  pub are_lines : AreLines es.base libraries lines
  pub follows : Follows es.lines lines
  pub stands : Each (Stands es.base lines library) ls.leases
  pub rest : OthersRest es.base lines library ls.leases
  pub all : length ls.items ≡ total library (granted_lines es.base lines)
  pub engine_words : Each (IsShown lines) es.words
  pub library_words : Each (IsShown lines) ls.words

-- what is known of a session when the engine and a library meet
pub record HaveMet (libraries depth library : ℕ) (es : EngineSession) (ls : LibrarySession) : Type 0 where
  pub as_one : AreOne libraries library es ls
  pub leases : Each (IsSeen es.base library es.lines) ls.leases
  pub others : OthersRest es.base es.lines library ls.leases
  pub engine_words : Each (IsDone es.base library es.lines ls.leases) es.words
  pub library_words : Each (IsDone es.base library es.lines ls.leases) ls.words
  pub begins : IsPrefix (taken_of es library) ls.items
  pub within : length ls.items ≤ length (taken_of es library) + depth
  pub taken : ls.taken ≤ length (taken_of es library)
  pub published : ls.published ≤ es.published

-- The table's words, slots and seats at some moment, at which its rule held, and one of its seats had the knowledge of both. The other libraries
-- are those that are settled.
pub record IsUnderRule (shape : Shape) (e : EngineKnows) (k : LibraryKnows) (settled : List LibraryKnows) : Type 0 where
  pub state : State (Option Item) View
  pub ruled : Ruled shape state
  pub seat : ℕ
  pub knows : get_elem? state.views seat ≡ some (engine_view shape e (k ∷ settled))

-- and of all that they know
pub record HaveMetAll (shape : Shape) (e : EngineKnows) (k : LibraryKnows) : Type 0 where
  pub sessions : (s : ℕ) → s < shape.sessions → HaveMet shape.libraries shape.depth k.number (engine_session e s) (library_session k s)
  pub beats : (heard_of e k.number).count ≤ k.beats
  pub heard : heard_of (engine_after_meeting e k) k.number ≡ record (heard_of e k.number) { count = k.beats }

abbrev pub MeetTells : Step (Option Item) → Seated → ℕ → Seated → Type 0
MeetTells st m r m' =
    let k = first_library m.0.libraries in
    HaveMetAll m.0.shape m.0.knows k
    × (m' ≡ (engine_view m.0.shape (engine_after_meeting m.0.knows k) (library_after_meeting m.0.knows k ∷ other_libraries m.0.libraries), []))
    × IsUnderRule m.0.shape m.0.knows k (other_libraries m.0.libraries)
