-- A new table is under its rule: its lease words are those of the lines from before it, its other words are 0, its slots empty, and its one seat is
-- that of the engine and of each library.
use Rattle.std.proofs.Common.{◌≡◌, ◌≢◌, ℕ, zero, suc, ◌+◌, ◌-◌, ◌<◌, ◌≤◌, List, [], ◌∷◌, length, get_or, map, Option, Some, None, refl, sym, ap, ◌∙◌, subst, inl, arith, eqb, ne_eqb}
use Rattle.std.proofs.lemmas.Option.{slice_get_within}
use Rattle.std.specs.Prelude.{replicate, slice_get}
use mathlib.Core.Option.{some, some-injective, some-ne-none}
use lib.ListN.{get_elem?}
use Rattle.atomic_table.specs.Table.{opening}
use Rattle.atomic_table.proofs.Lists.{at_map}
use Rattle.lease_core.specs.declared.lease.Line.{Line}
use Rattle.lease_core.specs.Lines.{word_of}
use Rattle.lease_core.specs.Word.{word_in}
use Rattle.lease_words.specs.declared.item.Item.{Item}
use Rattle.lease_words.specs.declared.view.Shape.{Shape}
use Rattle.lease_words.specs.declared.view.EngineSession.{EngineSession}
use Rattle.lease_words.specs.declared.view.Heard.{Heard}
use Rattle.lease_words.specs.declared.view.LibraryKnows.{LibraryKnows}
use Rattle.lease_words.specs.declared.view.View.{View}
use Rattle.lease_words.specs.Layout.{lease_word, published_word, taken_word, beat_word, word_count, lane_of, slot_of, slot_count}
use Rattle.lease_words.specs.Leases.{Each, AreLines, total}
use Rattle.lease_words.specs.Views.{lines_before, base_of, granted_lines, shown_sends, no_engine_session, heard_of, unheard, no_library_session, taken_of, new_engine_session, new_engine_sessions, new_engine, new_library, new_libraries, engine_view}
use Rattle.lease_words.specs.Facts.{Lane, Session, IsSession, KnowsLane, EngineFits, LibraryFits, one_if}
use Rattle.lease_words.specs.Rule.{Truth, Ruled, IsShape, WordsFit, SlotsFit, EngineKnowsSo, LibraryKnowsSo, AreApart, KnowsSo}
use Rattle.lease_words.specs.Registries.{IsEndedLine, AreEnded}
use Rattle.lease_words.proofs.Places.{slot_within}

-- one thing again and again
pub same_in : {A : Type 0} (n i : ℕ) (x : A) → get_or (replicate n x) i x ≡ x
same_in zero i x = refl
same_in (suc n) zero x = refl
same_in (suc n) (suc i) x = same_in n i x

pub length-same : {A : Type 0} (n : ℕ) (x : A) → length (replicate n x) ≡ n
length-same zero x = refl
length-same (suc n) x = ap suc (length-same n x)

all_same : {A : Type 0} (a : A) (n i : ℕ) → i < n → get_elem? (replicate n a) i ≡ some a
all_same a zero i h = absurd (omega arith)
all_same a (suc n) zero h = refl
all_same a (suc n) (suc i) h = all_same a n i (omega arith)

length-mapped : {A B : Type 0} (f : A → B) (a : A) (n : ℕ) → length (map f (replicate n a)) ≡ n
length-mapped f a zero = refl
length-mapped f a (suc n) = ap suc (length-mapped f a n)

-- the engine's sessions
sessions_at : (k : Shape) (i n j : ℕ) → j < n → get_or (new_engine_sessions k i n) j no_engine_session ≡ new_engine_session k (i + j)
sessions_at k i zero j h = absurd (omega arith)
sessions_at k i (suc n) zero h = let e : i ≡ i + 0 = omega arith in ap (new_engine_session k) e
sessions_at k i (suc n) (suc j) h = let e : suc i + j ≡ i + suc j = omega arith in sessions_at k (suc i) n j (omega arith) ∙ ap (new_engine_session k) e

pub session_at_begin : (k : Shape) (n j : ℕ) → j < n → get_or (new_engine_sessions k 0 n) j no_engine_session ≡ new_engine_session k j
session_at_begin k n j h = sessions_at k 0 n j h ∙ (let e : 0 + j ≡ j = omega arith in ap (new_engine_session k) e)

pub length-sessions : (k : Shape) (i n : ℕ) → length (new_engine_sessions k i n) ≡ n
length-sessions k i zero = refl
length-sessions k i (suc n) = ap suc (length-sessions k (suc i) n)

-- none of the lines from before was granted by the table
granted_none : (lines : List Line) → granted_lines (length lines) lines ≡ []
granted_none [] = refl
granted_none (l ∷ ls) = granted_none ls

pub total_none : (library : ℕ) (lines : List Line) → total library (granted_lines (length lines) lines) ≡ 0
total_none library lines = ap (total library) (granted_none lines)

-- the line at a place is an ended one
line_at : (lines : List Line) → Each IsEndedLine lines → (k : ℕ) (l : Line) → slice_get lines k ≡ Some l → IsEndedLine l
line_at [] all k l at = absurd (let e : None ≡ Some l = at in cc)
line_at (x ∷ xs) all zero l at = subst IsEndedLine (let e : Some x ≡ Some l = at in cc) all.0
line_at (x ∷ xs) all (suc k) l at = line_at xs all.1 k l at

-- what is so of a session of a new table
abbrev new_lane : Lane
new_lane = record { leases = []; items = []; taken = 0; filling = 0; emptying = 0 }

abbrev first_session : List Line → Session
first_session lines = record { lines = lines; shown = lines; published = 0; lanes = λ _. new_lane }

lines_begin : (libraries : ℕ) (lines : List Line) → AreEnded lines → AreLines (length lines) libraries lines
lines_begin libraries lines are = record {
  based = omega arith;
  few = are.few;
  ended = λ k l at _. (line_at lines are.ended k l at).ended;
  known = λ k l at. (line_at lines are.ended k l at).known;
  here = λ k l at past. absurd (let h = slice_get_within lines k l at in omega arith);
}

session_begins : (libraries depth : ℕ) (lines : List Line) → AreEnded lines → IsSession (length lines) libraries depth (first_session lines)
session_begins libraries depth lines are = record {
  are_lines = lines_begin libraries lines are;
  are_shown = lines_begin libraries lines are;
  follows = inl refl;
  lanes = λ library a b. record {
    stands = tt;
    latest = tt;
    others = λ k l at past. absurd (let h = slice_get_within lines k l at in omega arith);
    all = sym (total_none library lines);
    behind = omega arith;
    within = omega arith;
  };
}

-- no slot is out
none_out : (n : ℕ) → 0 ≡ one_if (eqb 0 (suc n))
none_out n = sym (ap one_if (ne_eqb 0 (suc n) (λ e. omega arith)))

-- what seats know of a new session
abbrev pub engine_begins : ℕ → List Line → EngineSession
engine_begins libraries lines = record { base = length lines; lines = lines; words = []; looks = 0; taken = replicate libraries []; published = 0 }

pub taken_none : (libraries library : ℕ) (lines : List Line) → taken_of (engine_begins libraries lines) library ≡ []
taken_none libraries library lines = same_in {A = List Item} libraries (library - 1) []

engine_fits : (libraries s : ℕ) (lines : List Line) → EngineFits libraries (length lines) 0 s (first_session lines) (engine_begins libraries lines)
engine_fits libraries s lines = record {
  based = refl;
  lines = refl;
  words = tt;
  published = refl;
  count = length-same {A = List Item} libraries [];
  lanes = λ library a b. subst (KnowsLane libraries 0 s library new_lane) (sym (taken_none libraries library lines)) (record { begins = ([], refl); count = refl; out = none_out (lane_of libraries s library) });
  untaken = λ library a b.
      let e : length (taken_of (engine_begins libraries lines) library) ≡ 0 = ap length (taken_none libraries library lines) in
      let none : shown_sends (engine_begins libraries lines) library ≡ 0 = total_none library lines in
      (omega arith, λ _. e ∙ sym none);
}

library_fits : (sends library s : ℕ) (lines : List Line) → LibraryFits sends library 0 s (first_session lines) no_library_session
library_fits sends library s lines = record { leases = refl; items = refl; out = none_out s; words = tt; taken = omega arith; published = omega arith; few = omega arith }

-- what the words and the lines of a new table have to be
pub record AreBegun (k : Shape) (words : List ℕ) : Type 0 where
  pub ended : (s : ℕ) → s < k.sessions → AreEnded (lines_before k s)
  pub count : length words ≡ word_count k.sessions k.libraries
  pub leases : (s : ℕ) → s < k.sessions → word_in (get_or words (lease_word s) 0) ≡ word_of (lines_before k s)
  pub others : (i : ℕ) → ((s : ℕ) → s < k.sessions → i ≢ lease_word s) → get_or words i 0 ≡ 0

module _ (k : Shape) where
  abbrev first_truth : Truth
  first_truth = record { sessions = λ s. first_session (lines_before k s); beats = λ _. 0; engine = 0; libraries = λ _. 0 }

  words_begin : (words : List ℕ) → AreBegun k words → IsShape k → WordsFit k words first_truth
  words_begin words are shape = record {
    count = are.count;
    unused = are.others 0 (λ s h e. omega arith);
    leases = are.leases;
    published = λ s h. are.others (published_word s) (λ t _ e. omega arith);
    taken = λ s library h a b. are.others (taken_word s library) (λ t _ e. let m = shape.libraries in omega arith);
    beats = λ library a b. are.others (beat_word k.sessions library) (λ t h e. omega arith);
  }

  slots_begin : (s library : ℕ) → s < k.sessions → 1 ≤ library → library ≤ k.libraries → SlotsFit k (map some (replicate {A = Option Item} (slot_count k.sessions k.libraries) None)) s library new_lane
  slots_begin s library h a b = record {
    filled = λ p x low e. absurd (some-ne-none x (sym e));
    vacant = λ p low high. at_map some (replicate (slot_count k.sessions k.libraries) None) (slot_of k.libraries s library p) None
        (all_same None (slot_count k.sessions k.libraries) (slot_of k.libraries s library p) (slot_within k.sessions k.libraries s library p h a b));
  }

  library_begins : (number : ℕ) → 1 ≤ number → number ≤ k.libraries → LibraryKnowsSo k first_truth 0 (new_library k number)
  library_begins number one most = record {
    from_one = one;
    to_last = most;
    here = refl;
    beats = refl;
    count = length-same k.sessions no_library_session;
    sessions = λ s h. subst (LibraryFits k.sends number 0 s (first_session (lines_before k s))) (sym (same_in k.sessions s no_library_session)) (library_fits k.sends number s (lines_before k s));
  }

  libraries_begin : (number n : ℕ) → 1 ≤ number → number + n ≤ k.libraries + 1 → Each (LibraryKnowsSo k first_truth 0) (new_libraries k number n)
  libraries_begin number zero one most = tt
  libraries_begin number (suc n) one most = (library_begins number one (omega arith), libraries_begin (suc number) n (omega arith) (omega arith))

  later_others : (first number n : ℕ) → first < number → Each (λ (m : LibraryKnows). m.number ≢ first) (new_libraries k number n)
  later_others first number zero less = tt
  later_others first number (suc n) less = ((λ e. let same : number ≡ first = e in omega arith), later_others first (suc number) n (omega arith))

  apart_begin : (number n : ℕ) → AreApart (new_libraries k number n)
  apart_begin number zero = tt
  apart_begin number (suc n) = (later_others number (suc number) n (omega arith), apart_begin (suc number) n)

  engine_begins_so : EngineKnowsSo k first_truth 0 (new_engine k)
  engine_begins_so = record {
    here = refl;
    count = length-sessions k 0 k.sessions;
    sessions = λ s h. subst (EngineFits k.libraries (base_of k s) 0 s (first_session (lines_before k s))) (sym (session_at_begin k k.sessions s h)) (engine_fits k.libraries s (lines_before k s));
    beats = length-same k.libraries unheard;
    heard = λ library a b. let e : (heard_of (new_engine k) library).count ≡ 0 = ap (λ (h : Heard). h.count) (same_in k.libraries (library - 1) unheard) in omega arith;
  }

  view_begins : KnowsSo k first_truth 0 (engine_view k (new_engine k) (new_libraries k 1 k.libraries))
  view_begins = record { engine = λ _. engine_begins_so; libraries = libraries_begin 1 k.libraries (omega arith) (omega arith); apart = apart_begin 1 k.libraries }

  pub begins : (words : List ℕ) → AreBegun k words → IsShape k
      → Ruled k (opening words (replicate {A = Option Item} (slot_count k.sessions k.libraries) None) (engine_view k (new_engine k) (new_libraries k 1 k.libraries)))
  begins words are shape = record {
    truth = first_truth;
    shape = shape;
    sessions = λ s h. session_begins k.libraries k.depth (lines_before k s) (are.ended s h);
    words = words_begin words are shape;
    slots = length-mapped some None (slot_count k.sessions k.libraries);
    lanes = slots_begin;
    views = only;
  }
    where
      only : (seat : ℕ) (v : View) → get_elem? (engine_view k (new_engine k) (new_libraries k 1 k.libraries) ∷ []) seat ≡ some v → KnowsSo k first_truth seat v
      only zero v e = subst (KnowsSo k first_truth 0) (some-injective (engine_view k (new_engine k) (new_libraries k 1 k.libraries)) v e) view_begins
      only (suc j) v e = absurd (some-ne-none v (sym e))
