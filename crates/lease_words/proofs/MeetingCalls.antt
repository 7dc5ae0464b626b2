-- How a library comes into the engine's seat and leaves it, and what their meeting owes both.
use Rattle.std.proofs.Common.{◌≡◌, ℕ, zero, suc, ◌<◌, ◌≤◌, List, [], ◌∷◌, length, map, get_or, true, Option, refl, sym, ap, ◌∙◌, subst, arith}
use mathlib.Core.Option.{none}
use Rattle.atomic_table.specs.Table.{step, Allows, Splits, Joins}
use Rattle.atomic_table.specs.Seated.{TableId}
use Rattle.atomic_table.specs.declared.shared.Seat.{Seat}
use Rattle.lease_words.specs.declared.item.Item.{Item}
use Rattle.lease_words.specs.declared.view.Shape.{Shape}
use Rattle.lease_words.specs.declared.view.EngineSession.{EngineSession}
use Rattle.lease_words.specs.declared.view.EngineKnows.{EngineKnows}
use Rattle.lease_words.specs.declared.view.LibrarySession.{LibrarySession}
use Rattle.lease_words.specs.declared.view.LibraryKnows.{LibraryKnows}
use Rattle.lease_words.specs.declared.view.View.{View}
use Rattle.lease_words.specs.declared.rows.EngineRow.{EngineRow}
use Rattle.lease_words.specs.declared.rows.LibraryRow.{LibraryRow}
use Rattle.lease_words.specs.Views.{engine_session, library_session, no_engine_session, engine_view, library_view, last_library, first_library, without_first, first_alone, with_first, nobody}
use Rattle.lease_words.specs.Rule.{Ruled}
use Rattle.lease_words.specs.Tells.{Seated, HaveMetAll, IsUnderRule, MeetTells, engine_session_after_meeting, library_session_after_meeting, engine_after_meeting, library_after_meeting, engine_sessions_after_meeting, library_sessions_after_meeting}
use Rattle.lease_words.specs.Leases.{Each}
use Rattle.lease_words.specs.Tokens.{engine_row, library_row, CountsFit, IsTable, IsEngine, IsLibrary}
use Rattle.lease_words.proofs.Told.{engine_told_at, library_told_at}
use Rattle.lease_words.proofs.Joining.{parts, joins, meets_at}

-- a table has words
pub some_words : (k : Shape) (table : TableId) (sessions libraries depth sends : ℕ) → IsTable k table sessions libraries depth sends → 0 < table.words
some_words k table sessions libraries depth sends is = let w = is.words in omega arith

-- a library comes into the engine's seat
pub joins_step : (k : Shape) (id : ℕ) (v : View) (other : ℕ) (w : View) (l : LibraryKnows) → v.engine ≡ true → w ≡ library_view k l → Joins (Ruled k) id v other w (with_first v w) nobody
joins_step k id v other w l engine is = subst (λ (u : View). Joins (Ruled k) id v other u (with_first v u) nobody) (sym is) (joins k id v l other engine)

-- and leaves a seat
pub parts_step : (k : Shape) (id : ℕ) (v : View) (l : LibraryKnows) (ls : List LibraryKnows) → v.libraries ≡ l ∷ ls → Splits (Ruled k) id v (without_first v) (first_alone v)
parts_step k id v l ls is = parts k id v (subst (λ (ls : List LibraryKnows). 0 < length ls) (sym is) (omega arith))

-- the engine's seat with the library that came
pub join_told : (k : Shape) (me moving me' : Seated) (e : EngineKnows) (ls : List LibraryKnows) (v : View) → me ≡ (engine_view k e ls, []) → moving ≡ (first_alone v, []) → me' ≡ (with_first me.0 moving.0, me.1)
    → me' ≡ (engine_view k e (first_library v.libraries ∷ ls), [])
join_told k me moving me' e ls v is alone joined = joined ∙ (λ j. (with_first (is j).0 (alone j).0, (is j).1))

-- the two meet
pub meets_step : (k : Shape) (slots id : ℕ) (me : Seated) (e : EngineKnows) (l : LibraryKnows) (ls : List LibraryKnows) → me ≡ (engine_view k e (l ∷ ls), []) → e.taking ≡ 0
    → Allows (Ruled k) slots id me 0 (λ n. n) (MeetTells (step slots 0 0 0 none) me)
meets_step k slots id me e l ls is rests = subst (λ (z : Seated). Allows (Ruled k) slots id z 0 (λ n. n) (MeetTells (step slots 0 0 0 none) z)) (sym is) (meets_at k id slots e l ls rests)

pub meet_told : (k : Shape) (slots r : ℕ) (me me' : Seated) (e : EngineKnows) (l : LibraryKnows) (ls : List LibraryKnows) → me ≡ (engine_view k e (l ∷ ls), []) → MeetTells (step slots 0 0 0 none) me r me'
    → HaveMetAll k e l × (me' ≡ (engine_view k (engine_after_meeting e l) (library_after_meeting e l ∷ ls), [])) × IsUnderRule k e l ls
meet_told k slots r me me' e l ls is told = subst (λ (z : Seated). MeetTells (step slots 0 0 0 none) z r me') is told

-- the numbers that the engine's seat keeps are the same after it was told
engine_rows_told : (xs : List EngineSession) (ys : List LibrarySession) → length xs ≡ length ys → map engine_row (engine_sessions_after_meeting xs ys) ≡ map engine_row xs
engine_rows_told [] ys same = refl
engine_rows_told (x ∷ xs) [] same = absurd (omega arith)
engine_rows_told (x ∷ xs) (y ∷ ys) same = ap (λ (rs : List EngineRow). engine_row x ∷ rs) (engine_rows_told xs ys (omega arith))

length-engine_told : (xs : List EngineSession) (ys : List LibrarySession) → length xs ≡ length ys → length (engine_sessions_after_meeting xs ys) ≡ length xs
length-engine_told [] ys same = refl
length-engine_told (x ∷ xs) [] same = absurd (omega arith)
length-engine_told (x ∷ xs) (y ∷ ys) same = ap suc (length-engine_told xs ys (omega arith))

last_told : (xs : List EngineSession) (ys : List LibrarySession) (i : ℕ) → length xs ≡ length ys → last_library (get_or (engine_sessions_after_meeting xs ys) i no_engine_session) ≡ last_library (get_or xs i no_engine_session)
last_told [] ys i same = refl
last_told (x ∷ xs) [] i same = absurd (omega arith)
last_told (x ∷ xs) (y ∷ ys) zero same = refl
last_told (x ∷ xs) (y ∷ ys) (suc i) same = last_told xs ys i (omega arith)

-- and those that a library's keeps
library_rows_told : (number library : ℕ) (xs : List EngineSession) (ys : List LibrarySession) → length xs ≡ length ys → map (library_row number) (library_sessions_after_meeting library xs ys) ≡ map (library_row number) ys
library_rows_told number library [] [] same = refl
library_rows_told number library [] (y ∷ ys) same = absurd (omega arith)
library_rows_told number library (x ∷ xs) [] same = absurd (omega arith)
library_rows_told number library (x ∷ xs) (y ∷ ys) same = ap (λ (rs : List LibraryRow). library_row number y ∷ rs) (library_rows_told number library xs ys (omega arith))

length-library_told : (library : ℕ) (xs : List EngineSession) (ys : List LibrarySession) → length xs ≡ length ys → length (library_sessions_after_meeting library xs ys) ≡ length ys
length-library_told library [] [] same = refl
length-library_told library [] (y ∷ ys) same = absurd (omega arith)
length-library_told library (x ∷ xs) [] same = absurd (omega arith)
length-library_told library (x ∷ xs) (y ∷ ys) same = ap suc (length-library_told library xs ys (omega arith))

counts_told : (library : ℕ) (xs : List EngineSession) (ys : List LibrarySession) → Each CountsFit ys → Each CountsFit (library_sessions_after_meeting library xs ys)
counts_told library [] ys few = tt
counts_told library (x ∷ xs) [] few = tt
counts_told library (x ∷ xs) (y ∷ ys) few = (few.0, counts_told library xs ys few.1)

-- the engine's seat after a meeting
pub met_engine : (seat seat' : Seat (Option Item) View) (rows : List EngineRow) (k : Shape) (l : LibraryKnows) (ls : List LibraryKnows) → IsEngine seat rows → seat.me.0.shape ≡ k → length l.sessions ≡ k.sessions
    → seat'.me ≡ (engine_view k (engine_after_meeting seat.me.0.knows l) ls, []) → IsEngine seat' rows
met_engine seat seat' rows k l ls is shape size me =
    let e : EngineKnows = seat.me.0.knows in
    let knows : seat'.me.0.knows ≡ engine_after_meeting e l = ap (λ m. m.0.knows) me in
    let shape' : seat'.me.0.shape ≡ k = ap (λ m. m.0.shape) me in
    let count : length e.sessions ≡ length l.sessions = is.count ∙ (ap (λ (k : Shape). k.sessions) shape ∙ sym size) in
    record {
      rests = me ∙ (λ j. (engine_view (sym shape' j) (sym knows j) (sym (ap (λ m. m.0.libraries) me) j), []));
      idle = ap (λ (e : EngineKnows). e.taking) knows ∙ is.idle;
      rows_are = is.rows_are ∙ (sym (engine_rows_told e.sessions l.sessions count) ∙ ap (λ (e : EngineKnows). map engine_row e.sessions) (sym knows));
      count = ap (λ (e : EngineKnows). length e.sessions) knows ∙ (length-engine_told e.sessions l.sessions count ∙ (is.count ∙ ap (λ (k : Shape). k.sessions) (shape ∙ sym shape')));
      known = λ j near.
          subst (λ (e : EngineKnows). last_library (engine_session e j) ≤ 16) (sym knows)
          (subst (λ n. n ≤ 16) (sym (last_told e.sessions l.sessions j count)) (is.known j (subst (λ (k : Shape). j < k.sessions) (shape' ∙ sym shape) near)));
    }

-- and the library's
pub met_library : (seat seat' : Seat (Option Item) View) (number beats : ℕ) (rows : List LibraryRow) (k : Shape) (e : EngineKnows) → IsLibrary seat number beats rows → seat.me.0.shape ≡ k → length e.sessions ≡ k.sessions
    → seat'.me ≡ (library_view k (library_after_meeting e (first_library seat.me.0.libraries)), []) → IsLibrary seat' number beats rows
met_library seat seat' number beats rows k e is shape size me =
    let l : LibraryKnows = first_library seat.me.0.libraries in
    let first : first_library seat'.me.0.libraries ≡ library_after_meeting e l = ap (λ m. first_library m.0.libraries) me in
    let shape' : seat'.me.0.shape ≡ k = ap (λ m. m.0.shape) me in
    let count : length e.sessions ≡ length l.sessions = size ∙ sym (is.count ∙ ap (λ (k : Shape). k.sessions) shape) in
    record {
      rests = me ∙ (λ j. (library_view (sym shape' j) (sym first j), []));
      idle = ap (λ (l : LibraryKnows). l.sending) first ∙ is.idle;
      number_is = is.number_is ∙ sym (ap (λ (l : LibraryKnows). l.number) first);
      beats_are = is.beats_are ∙ sym (ap (λ (l : LibraryKnows). l.beats) first);
      rows_are = is.rows_are ∙ (sym (library_rows_told number l.number e.sessions l.sessions count) ∙ ap (λ (l : LibraryKnows). map (library_row number) l.sessions) (sym first));
      count = ap (λ (l : LibraryKnows). length l.sessions) first ∙ (length-library_told l.number e.sessions l.sessions count ∙ (is.count ∙ ap (λ (k : Shape). k.sessions) (shape ∙ sym shape')));
      from_one = is.from_one;
      to_last = is.to_last;
      few = subst (λ (l : LibraryKnows). Each CountsFit l.sessions) (sym first) (counts_told l.number e.sessions l.sessions is.few);
      within = subst (λ (k : Shape). number ≤ k.libraries) (shape ∙ sym shape') is.within;
    }

-- A session after a meeting, told by its number: n sessions have the seats, e and l they knew, e' or l' they know, and a and b they knew as contracts
-- have it.
pub engine_session_met : (n : ℕ) (e' a : EngineKnows) (b : LibraryKnows) (e : EngineKnows) (l : LibraryKnows) (s : ℕ) → length e.sessions ≡ n → length l.sessions ≡ n → s < n
    → e' ≡ engine_after_meeting e l → e ≡ a → l ≡ b → engine_session e' s ≡ engine_session_after_meeting (engine_session a s) (library_session b s)
engine_session_met n e' a b e l s size also near is was knew =
    ap (λ (x : EngineKnows). engine_session x s) is
    ∙ (engine_told_at e.sessions l.sessions s (subst (λ n. s < n) (sym size) near) (subst (λ n. s < n) (sym also) near)
    ∙ (λ j. engine_session_after_meeting (engine_session (was j) s) (library_session (knew j) s)))

pub library_session_met : (n : ℕ) (l' : LibraryKnows) (a : EngineKnows) (b : LibraryKnows) (e : EngineKnows) (l : LibraryKnows) (s : ℕ) → length e.sessions ≡ n → length l.sessions ≡ n → s < n
    → l' ≡ library_after_meeting e l → e ≡ a → l ≡ b → library_session l' s ≡ library_session_after_meeting b.number (engine_session a s) (library_session b s)
library_session_met n l' a b e l s size also near is was knew =
    ap (λ (x : LibraryKnows). library_session x s) is
    ∙ (library_told_at l.number e.sessions l.sessions s (subst (λ n. s < n) (sym size) near) (subst (λ n. s < n) (sym also) near)
    ∙ (λ j. library_session_after_meeting (knew j).number (engine_session (was j) s) (library_session (knew j) s)))
