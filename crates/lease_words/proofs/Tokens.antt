-- What the calls owe their seats: the steps at a seat as it is, and the numbers that it keeps.
use Rattle.std.proofs.Common.{◌≡◌, ℕ, zero, suc, ◌<◌, ◌≤◌, List, [], ◌∷◌, length, map, get_or, set, Option, refl, sym, ap, ◌∙◌, subst, arith, length-set}
use Rattle.std.proofs.lemmas.List.{get_or-set_same, get_or-set_other, map-set, length-map, set-get_or}
use native.Mathlib.Decide.{ℕ_discrete}
use Rattle.atomic_table.specs.declared.shared.Seat.{Seat}
use Rattle.lease_words.specs.declared.item.Item.{Item}
use Rattle.lease_words.specs.declared.view.Shape.{Shape}
use Rattle.lease_words.specs.declared.view.EngineSession.{EngineSession}
use Rattle.lease_words.specs.declared.view.EngineKnows.{EngineKnows}
use Rattle.lease_words.specs.declared.view.LibraryKnows.{LibraryKnows}
use Rattle.lease_words.specs.declared.view.View.{View}
use Rattle.lease_words.specs.declared.rows.EngineRow.{EngineRow}
use Rattle.lease_words.specs.Views.{engine_session, with_engine_session, no_engine_session, engine_view, last_library}
use Rattle.atomic_table.specs.Seated.{TableId}
use Rattle.lease_words.specs.Layout.{lease_word, published_word, taken_word, beat_word}
use Rattle.lease_words.specs.Tokens.{engine_row, IsTable, IsEngine}

-- the words of a table are within it
pub lease_within : (k : Shape) (table : TableId) (sessions libraries depth sends s i : ℕ) → IsTable k table sessions libraries depth sends → s < k.sessions → i ≡ lease_word s → i < table.words
lease_within k table sessions libraries depth sends s i is here at = let w = is.words in omega arith

pub published_within : (k : Shape) (table : TableId) (sessions libraries depth sends s i : ℕ) → IsTable k table sessions libraries depth sends → s < k.sessions → i ≡ published_word s → i < table.words
published_within k table sessions libraries depth sends s i is here at = let w = is.words in omega arith

pub taken_within : (k : Shape) (table : TableId) (sessions libraries depth sends s library i : ℕ) → IsTable k table sessions libraries depth sends → s < k.sessions → library ≤ 16 → i ≡ taken_word s library → i < table.words
taken_within k table sessions libraries depth sends s library i is here few at = let w = is.words in omega arith

pub beat_within : (k : Shape) (table : TableId) (sessions libraries depth sends library i : ℕ) → IsTable k table sessions libraries depth sends → 1 ≤ library → library ≤ k.libraries → i ≡ beat_word k.sessions library → i < table.words
beat_within k table sessions libraries depth sends library i is one most at = let w = is.words in omega arith

-- a row of one session of many
pub row_at : {A B : Type 0} (f : A → B) (xs : List A) (rows : List B) (i : ℕ) (d : A) (r : B) → rows ≡ map f xs → i < length xs → r ≡ get_or rows i r → r ≡ f (get_or xs i d)
row_at {A} f xs rows i d r are near is = is ∙ (ap (λ l. get_or l i r) are ∙ mapped xs i near)
  where
    mapped : (xs : List A) (i : ℕ) → i < length xs → get_or (map f xs) i r ≡ f (get_or xs i d)
    mapped [] i near = absurd (omega arith)
    mapped (x ∷ xs) zero near = refl
    mapped (x ∷ xs) (suc i) near = mapped xs i (omega arith)

-- the engine's row of a session
pub engine_row_at : (seat : Seat (Option Item) View) (rows : List EngineRow) (i : ℕ) (r : EngineRow) → IsEngine seat rows → i < seat.me.0.shape.sessions → r ≡ get_or rows i r → r ≡ engine_row (engine_session seat.me.0.knows i)
engine_row_at seat rows i r is near here = row_at engine_row seat.me.0.knows.sessions rows i no_engine_session r is.rows_are (subst (λ n. i < n) (sym is.count) near) here

-- the seat stays an engine's where one session changed
pub still_engine : (seat seat' : Seat (Option Item) View) (rows : List EngineRow) (k : Shape) (ls : List LibraryKnows) (i : ℕ) (es : EngineSession) (row : EngineRow) → IsEngine seat rows → seat.me.0.shape ≡ k
    → seat'.me ≡ (engine_view k (with_engine_session seat.me.0.knows i es) ls, []) → row ≡ engine_row es → last_library es ≤ 16 → IsEngine seat' (set rows i row)
still_engine seat seat' rows k ls i es row is shape me row_is few =
    let knows : seat'.me.0.knows ≡ with_engine_session seat.me.0.knows i es = ap (λ m. m.0.knows) me in
    let shape' : seat'.me.0.shape ≡ k = ap (λ m. m.0.shape) me in
    record {
      rests = me ∙ (λ j. (engine_view (sym shape' j) (sym knows j) (sym (ap (λ m. m.0.libraries) me) j), []));
      idle = ap (λ (e : EngineKnows). e.taking) knows ∙ is.idle;
      rows_are = (λ j. set (is.rows_are j) i (row_is j)) ∙ (sym (map-set engine_row seat.me.0.knows.sessions i es) ∙ ap (λ (e : EngineKnows). map engine_row e.sessions) (sym knows));
      count = ap (λ (e : EngineKnows). length e.sessions) knows ∙ (length-set seat.me.0.knows.sessions i es ∙ (is.count ∙ ap (λ (k : Shape). k.sessions) (shape ∙ sym shape')));
      known = λ j near.
          subst (λ (e : EngineKnows). last_library (engine_session e j) ≤ 16) (sym knows) (few_at j (subst (λ (k : Shape). j < k.sessions) (shape' ∙ sym shape) near) (ℕ_discrete j i));
    }
  where
    few_at : (j : ℕ) → j < seat.me.0.shape.sessions → Dec (j ≡ i) → last_library (get_or (set seat.me.0.knows.sessions i es) j no_engine_session) ≤ 16
    few_at j near (yes same) =
        subst (λ n. last_library (get_or (set seat.me.0.knows.sessions i es) n no_engine_session) ≤ 16) (sym same)
        (subst (λ x. last_library x ≤ 16) (sym (get_or-set_same seat.me.0.knows.sessions i es no_engine_session (subst (λ n. i < n) (sym is.count) (subst (λ n. n < seat.me.0.shape.sessions) same near)))) few)
    few_at j near (no other) = subst (λ x. last_library x ≤ 16) (sym (get_or-set_other seat.me.0.knows.sessions i j es no_engine_session other)) (is.known j near)

-- nor do its numbers change
pub same_engine : (seat seat' : Seat (Option Item) View) (rows : List EngineRow) (k : Shape) (ls : List LibraryKnows) (i : ℕ) (es : EngineSession) → IsEngine seat rows → seat.me.0.shape ≡ k → i < k.sessions
    → seat'.me ≡ (engine_view k (with_engine_session seat.me.0.knows i es) ls, []) → engine_row es ≡ engine_row (engine_session seat.me.0.knows i) → IsEngine seat' rows
same_engine seat seat' rows k ls i es is shape here me same =
    let near : i < seat.me.0.shape.sessions = subst (λ (k : Shape). i < k.sessions) (sym shape) here in
    let d : EngineRow = engine_row (engine_session seat.me.0.knows i) in
    let r : EngineRow = get_or rows i d in
    let size : length rows ≡ length seat.me.0.knows.sessions = ap length is.rows_are ∙ length-map seat.me.0.knows.sessions engine_row in
    let within : i < length rows = subst (λ n. i < n) (sym (size ∙ is.count)) near in
    let row : r ≡ engine_row (engine_session seat.me.0.knows i) = engine_row_at seat rows i r is near (get_or-default rows i d r within) in
    let few : last_library es ≤ 16 = subst (λ n. n ≤ 16) (sym (ap (λ (r : EngineRow). r.library) same)) (is.known i near) in
    subst (IsEngine seat') (set-get_or rows i d) (still_engine seat seat' rows k ls i es r is shape me (row ∙ sym same) few)
  where
    get_or-default : (rows : List EngineRow) (i : ℕ) (d r : EngineRow) → i < length rows → get_or rows i d ≡ get_or rows i r
    get_or-default [] i d r near = absurd (omega arith)
    get_or-default (x ∷ xs) zero d r near = refl
    get_or-default (x ∷ xs) (suc i) d r near = get_or-default xs i d r (omega arith)

-- the session that changed
pub session_now : (seat seat' : Seat (Option Item) View) (rows : List EngineRow) (k : Shape) (ls : List LibraryKnows) (s : ℕ) (es : EngineSession) → IsEngine seat rows → seat.me.0.shape ≡ k → s < k.sessions
    → seat'.me ≡ (engine_view k (with_engine_session seat.me.0.knows s es) ls, []) → engine_session seat'.me.0.knows s ≡ es
session_now seat seat' rows k ls s es is shape here me =
    let near : s < length seat.me.0.knows.sessions = subst (λ n. s < n) (sym (is.count ∙ ap (λ (k : Shape). k.sessions) shape)) here in
    ap (λ m. engine_session m.0.knows s) me ∙ get_or-set_same seat.me.0.knows.sessions s es no_engine_session near
