-- What the calls that make a table owe it and its seats.
use Rattle.std.proofs.Common.{◌≡◌, ℕ, zero, suc, ◌+◌, ◌-◌, ◌<◌, ◌≤◌, List, [], ◌∷◌, ◌++◌, length, map, get_or, Option, Some, None, inl, inr, refl, sym, ap, ◌∙◌, subst, le_trans, arith}
use Rattle.std.specs.Prelude.{replicate, slice_get}
use Rattle.std.proofs.lemmas.Bool.{cases_lt}
use Rattle.std.proofs.lemmas.List.{length-map}
use Rattle.atomic_table.specs.Table.{opening}
use Rattle.atomic_table.specs.declared.shared.Seat.{Seat}
use Rattle.lease_core.specs.declared.lease.Line.{Line}
use Rattle.lease_core.specs.Kept.{Kept}
use Rattle.lease_core.specs.Lines.{no_line, word_of}
use Rattle.lease_core.specs.State.{last_or}
use Rattle.lease_words.specs.declared.item.Item.{Item}
use Rattle.lease_words.specs.declared.outset.Outset.{Outset}
use Rattle.lease_words.specs.declared.view.Shape.{Shape}
use Rattle.lease_words.specs.declared.view.EngineSession.{EngineSession}
use Rattle.lease_words.specs.declared.view.EngineKnows.{EngineKnows}
use Rattle.lease_words.specs.declared.view.LibraryKnows.{LibraryKnows}
use Rattle.lease_words.specs.declared.view.View.{View}
use Rattle.lease_words.specs.declared.rows.EngineRow.{EngineRow}
use Rattle.lease_words.specs.declared.rows.LibraryRow.{LibraryRow}
use Rattle.lease_words.specs.Layout.{word_count, slot_count}
use Rattle.lease_words.specs.Leases.{Each}
use Rattle.lease_words.specs.Registries.{kept_lines, lines_of_each, IsEndedLine, AreEnded}
use Rattle.lease_words.specs.Rule.{Ruled, IsShape}
use Rattle.lease_core.specs.Lines.{last_line}
use Rattle.lease_words.specs.Views.{TableRef, EngineView, LibraryView, other_libraries, engine_session, no_engine_session, no_library_session, engine_view, library_view, last_library, shown_sends, pending, first_library, first_alone, lines_before, new_engine_session, new_engine_sessions, new_engine, new_library, new_libraries}
use Rattle.lease_words.specs.Tokens.{engine_row, library_row, CountsFit, first_row, no_row, IsOutset, IsEngine, IsLibrary, new_library_seat, new_library_seats}
use Rattle.lease_words.proofs.Lists.{each_at}
use Rattle.lease_words.proofs.Opening.{AreBegun, begins, length-same, length-sessions, session_at_begin, engine_begins, total_none}
use Rattle.lease_words.proofs.Outsets.{same_lists}

-- rows of sessions of which a library knows nothing
abbrev pub new_library_row : LibraryRow
new_library_row = record { word = 0; committed = 0 }

-- what the shape of a new table has of what it begins with
pub record IsShapeOf (k : Shape) (o : Outset) : Type 0 where
  pub sessions : k.sessions ≡ o.sessions
  pub libraries : k.libraries ≡ o.libraries
  pub before : k.before ≡ o.before

no_lines_ended : AreEnded []
no_lines_ended = record { few = omega arith; ended = tt }

module _ (k : Shape) (o : Outset) (of : IsShapeOf k o) (is : IsOutset o) where
  lines_ended : (s : ℕ) → AreEnded (lines_before k s)
  lines_ended s = subst (λ (b : List (List Line)). AreEnded (get_or b s [])) (sym of.before) (each_at AreEnded o.before s [] is.ended no_lines_ended)

  begun : AreBegun k o.words.items
  begun = record {
    ended = λ s h. lines_ended s;
    count = is.word_count ∙ (λ j. word_count (sym of.sessions j) (sym of.libraries j));
    leases = λ s h. is.leases s (subst (λ n. s < n) of.sessions h) ∙ ap (λ (b : List (List Line)). word_of (get_or b s [])) (sym of.before);
    others = λ i apart. is.others i (λ s h. apart s (subst (λ n. s < n) (sym of.sessions) h));
  }

  -- a new table is under its rule
  pub opens_step : (words : List ℕ) (slots : ℕ) → IsShape k → words ≡ o.words.items → slots ≡ slot_count k.sessions k.libraries
      → Ruled k (opening words (replicate {A = Option Item} slots None) (engine_view k (new_engine k) (new_libraries k 1 k.libraries)))
  opens_step words slots shape given vacant =
      subst (λ (z : List ℕ × ℕ). Ruled k (opening z.0 (replicate {A = Option Item} z.1 None) (engine_view k (new_engine k) (new_libraries k 1 k.libraries)))) (λ j. (sym given j, sym vacant j)) (begins k o.words.items begun shape)

-- a new library's numbers
library_rows_begin : (number n : ℕ) → map (library_row number) (replicate n no_library_session) ≡ replicate n new_library_row
library_rows_begin number zero = refl
library_rows_begin number (suc n) = ap (λ (rs : List LibraryRow). new_library_row ∷ rs) (library_rows_begin number n)

counts_begin : (n : ℕ) → Each CountsFit (replicate n no_library_session)
counts_begin zero = tt
counts_begin (suc n) = (omega arith, counts_begin n)

mapped_at : {A B : Type 0} (f : A → B) (xs : List A) (i : ℕ) (d : A) (e : B) → i < length xs → get_or (map f xs) i e ≡ f (get_or xs i d)
mapped_at f [] i d e near = absurd (omega arith)
mapped_at f (x ∷ xs) zero d e near = refl
mapped_at f (x ∷ xs) (suc i) d e near = mapped_at f xs i d e (omega arith)

beyond : {A : Type 0} (xs : List A) (i : ℕ) (d : A) → length xs ≤ i → get_or xs i d ≡ d
beyond [] i d past = refl
beyond (x ∷ xs) zero d past = absurd (omega arith)
beyond (x ∷ xs) (suc i) d past = beyond xs i d (omega arith)

-- the seat of a library that was cut off
pub dealt : (seat : Seat (Option Item) View) (number : ℕ) (rows : List LibraryRow) (k : Shape) (v : View) → seat.me ≡ (first_alone v, []) → v.shape ≡ k → first_library v.libraries ≡ new_library k number → rows ≡ replicate k.sessions new_library_row
    → 1 ≤ number → number ≤ k.libraries → k.libraries ≤ 16 → IsLibrary seat number 0 rows
dealt seat number rows k v is shape new blank one most few =
    let first : first_library seat.me.0.libraries ≡ new_library k number = ap (λ m. first_library m.0.libraries) is ∙ new in
    let shape' : seat.me.0.shape ≡ k = ap (λ m. m.0.shape) is ∙ shape in
    record {
      rests = is ∙ (λ j. (library_view (sym (ap (λ m. m.0.shape) is) j) (sym (ap (λ m. first_library m.0.libraries) is) j), []));
      idle = ap (λ (l : LibraryKnows). l.sending) first;
      number_is = sym (ap (λ (l : LibraryKnows). l.number) first);
      beats_are = sym (ap (λ (l : LibraryKnows). l.beats) first);
      rows_are = blank ∙ (sym (library_rows_begin number k.sessions) ∙ ap (λ (l : LibraryKnows). map (library_row number) l.sessions) (sym first));
      count = ap (λ (l : LibraryKnows). length l.sessions) first ∙ (length-same k.sessions no_library_session ∙ ap (λ (k : Shape). k.sessions) (sym shape'));
      from_one = one;
      to_last = le_trans most few;
      few = subst (λ (l : LibraryKnows). Each CountsFit l.sessions) (sym first) (counts_begin k.sessions);
      within = subst (λ (k : Shape). number ≤ k.libraries) (sym shape') most;
    }

-- the engine's numbers of a new session
pub none_left : (libraries : ℕ) (lines : List Line) → pending (engine_begins libraries lines) ≡ 0
none_left libraries lines =
    let shown : shown_sends (engine_begins libraries lines) (last_library (engine_begins libraries lines)) ≡ 0 = total_none (last_library (engine_begins libraries lines)) lines in
    omega (arith, shown)

engine_row_begins : (libraries : ℕ) (lines : List Line) → engine_row (engine_begins libraries lines) ≡ first_row lines
engine_row_begins libraries lines = (λ j. record { lease = length lines; library = (last_line lines).library; count = (last_line lines).sends; pending = none_left libraries lines j })

last_few : (d : Line) (lines : List Line) → d.library ≤ 16 → Each IsEndedLine lines → (last_or d lines).library ≤ 16
last_few d [] few all = few
last_few d (l ∷ ls) few all = last_few l ls all.0.known.to_last all.1

-- the seat of a new table
module _ (k : Shape) (o : Outset) (of : IsShapeOf k o) (is : IsOutset o) where
  abbrev sessions : List EngineSession
  sessions = new_engine_sessions k 0 k.sessions

  row_begins : (i : ℕ) → i < k.sessions → get_or o.rows.items i no_row ≡ get_or (map engine_row sessions) i no_row
  row_begins i here =
      let near : i < length sessions = subst (λ n. i < n) (sym (length-sessions k 0 k.sessions)) here in
      let lines : get_or o.before i [] ≡ lines_before k i = ap (λ (b : List (List Line)). get_or b i []) (sym of.before) in
      is.rows i (subst (λ n. i < n) of.sessions here)
      ∙ (ap first_row lines ∙ (sym (engine_row_begins k.libraries (lines_before k i)) ∙ (ap engine_row (sym (session_at_begin k k.sessions i here)) ∙ sym (mapped_at engine_row sessions i no_engine_session no_row near))))

  rows_begin : o.rows.items ≡ map engine_row sessions
  rows_begin =
      let size : length o.rows.items ≡ k.sessions = is.row_count ∙ sym of.sessions in
      same_lists no_row o.rows.items (map engine_row sessions) (size ∙ sym (length-map sessions engine_row ∙ length-sessions k 0 k.sessions)) (λ i near. row_begins i (subst (λ n. i < n) size near))

  pub laid : (seat : Seat (Option Item) View) (rows : List EngineRow) (ls : List LibraryKnows) → seat.me ≡ (engine_view k (new_engine k) ls, []) → rows ≡ o.rows.items → IsEngine seat rows
  laid seat rows ls me given =
      let knows : seat.me.0.knows ≡ new_engine k = ap (λ m. m.0.knows) me in
      let shape : seat.me.0.shape ≡ k = ap (λ m. m.0.shape) me in
      record {
        rests = me ∙ (λ j. (engine_view (sym shape j) (sym knows j) (sym (ap (λ m. m.0.libraries) me) j), []));
        idle = ap (λ (e : EngineKnows). e.taking) knows;
        rows_are = given ∙ (rows_begin ∙ ap (λ (e : EngineKnows). map engine_row e.sessions) (sym knows));
        count = ap (λ (e : EngineKnows). length e.sessions) knows ∙ (length-sessions k 0 k.sessions ∙ ap (λ (k : Shape). k.sessions) (sym shape));
        known = λ i near.
            let here : i < k.sessions = subst (λ (k : Shape). i < k.sessions) shape near in
            let session : engine_session seat.me.0.knows i ≡ new_engine_session k i = ap (λ (e : EngineKnows). engine_session e i) knows ∙ session_at_begin k k.sessions i here in
            subst (λ (es : EngineSession). last_library es ≤ 16) (sym session) (last_few no_line (lines_before k i) (omega arith) (lines_ended k o of is i).ended);
      }

-- a session of a new table
module _ (k : Shape) (s : ℕ) where
  abbrev first : EngineSession
  first = engine_session (new_engine k) s

  by_place : (P : EngineSession → Type 0) → (s < k.sessions → P (new_engine_session k s)) → P no_engine_session → P first
  by_place P here nowhere = elim (cases_lt s k.sessions) [
    | inl near ↦ subst P (sym (session_at_begin k k.sessions s near)) (here near)
    | inr past ↦ subst P (sym (beyond (new_engine_sessions k 0 k.sessions) s no_engine_session (let n = length-sessions k 0 k.sessions in omega (arith, past)))) nowhere
  ]

  pub first_base : first.base ≡ length first.lines
  first_base = by_place (λ es. es.base ≡ length es.lines) (λ near. refl) refl

  pub first_pending : pending first ≡ 0
  first_pending = by_place (λ es. pending es ≡ 0) (λ near. none_left k.libraries (lines_before k s)) refl

  pub first_lines : (journals : List Kept) (journal : Kept) → length journals ≤ k.sessions → k.before ≡ lines_of_each journals → slice_get journals s ≡ Some journal → first.lines ≡ kept_lines journal
  first_lines journals journal many before at =
      let here : s < k.sessions = let h = place_within journals s journal at in omega arith in
      ap (λ (es : EngineSession). es.lines) (session_at_begin k k.sessions s here) ∙ (ap (λ (b : List (List Line)). get_or b s []) before ∙ lines_at journals s journal at)
    where
      place_within : (js : List Kept) (i : ℕ) (x : Kept) → slice_get js i ≡ Some x → i < length js
      place_within [] i x e = absurd (let no_place : None ≡ Some x = e in cc)
      place_within (y ∷ ys) zero x e = omega arith
      place_within (y ∷ ys) (suc i) x e = let h = place_within ys i x e in omega arith

      lines_at : (js : List Kept) (i : ℕ) (x : Kept) → slice_get js i ≡ Some x → get_or (map kept_lines js) i [] ≡ kept_lines x
      lines_at [] i x e = absurd (let no_place : None ≡ Some x = e in cc)
      lines_at (y ∷ ys) zero x e = ap kept_lines (let is : Some y ≡ Some x = e in let same : y ≡ x = cc in same)
      lines_at (y ∷ ys) (suc i) x e = lines_at ys i x e

-- one more library's seat
seats_more : (t : TableRef) (number n : ℕ) → new_library_seats t number (suc n) ≡ new_library_seats t number n ++ new_library_seat t (number + n) ∷ []
seats_more t number zero = let e : number ≡ number + 0 = omega arith in ap (λ (n : ℕ). new_library_seat t n ∷ []) e
seats_more t number (suc n) = let e : suc number + n ≡ number + suc n = omega arith in
    ap (λ (l : List LibraryView). new_library_seat t number ∷ l) (seats_more t (suc number) n ∙ ap (λ (i : ℕ). new_library_seats t (suc number) n ++ new_library_seat t i ∷ []) e)

-- the libraries from a number on
first_dealt : (k : Shape) (number last : ℕ) → number < last → new_libraries k number (last - number) ≡ new_library k number ∷ new_libraries k (number + 1) (last - (number + 1))
first_dealt k number last more = let e : last - number ≡ suc (last - (number + 1)) = omega arith in let o : suc number ≡ number + 1 = omega arith in
    ap (new_libraries k number) e ∙ ap (λ (n : ℕ). new_library k number ∷ new_libraries k n (last - (number + 1))) o

-- what is so of a table, its engine's seat and those of its libraries when the library with this number is to be dealt
pub record IsMaking (t : TableRef) (engine : EngineView) (seats : List LibraryView) (libraries number : ℕ) : Type 0 where
  pub one : 1 ≤ number
  pub engine_is : engine ≡ record { table = t; knows = new_engine t.shape; settled = new_libraries t.shape number (libraries + 1 - number) }
  pub seats_are : seats ≡ new_library_seats t 1 (number - 1)

-- what dealing asks for
pub record Deals (t : TableRef) (engine : EngineView) (number : ℕ) : Type 0 where
  pub some : 0 < length engine.settled
  pub first : first_library engine.settled ≡ new_library t.shape number

pub deals : (t : TableRef) (engine : EngineView) (seats : List LibraryView) (libraries number : ℕ) → IsMaking t engine seats libraries number → number < libraries + 1 → Deals t engine number
deals t engine seats libraries number is more =
    let e : engine.settled ≡ new_library t.shape number ∷ new_libraries t.shape (number + 1) (libraries + 1 - (number + 1)) = ap (λ (v : EngineView). v.settled) is.engine_is ∙ first_dealt t.shape number (libraries + 1) more in
    record { some = subst (λ (ls : List LibraryKnows). 0 < length ls) (sym e) (omega arith); first = ap first_library e }

pub making_more : (t : TableRef) (engine engine' : EngineView) (seats : List LibraryView) (seat : LibraryView) (libraries number : ℕ) → IsMaking t engine seats libraries number → number < libraries + 1
    → engine' ≡ record { table = engine.table; knows = engine.knows; settled = other_libraries engine.settled } → seat ≡ new_library_seat t number → IsMaking t engine' (seats ++ seat ∷ []) libraries (number + 1)
making_more t engine engine' seats seat libraries number is more changed one =
    let n : ℕ = number - 1 in
    let at : 1 + n ≡ number = let o = is.one in omega arith in
    let so : suc n ≡ number + 1 - 1 = let o = is.one in omega arith in
    record {
      one = omega arith;
      engine_is = changed ∙ (λ j. record { table = (is.engine_is j).table; knows = (is.engine_is j).knows; settled = other_libraries ((ap (λ (v : EngineView). v.settled) is.engine_is ∙ first_dealt t.shape number (libraries + 1) more) j) });
      seats_are = (λ j. is.seats_are j ++ (one ∙ ap (new_library_seat t) (sym at)) j ∷ []) ∙ (sym (seats_more t 1 n) ∙ ap (new_library_seats t 1) so);
    }
