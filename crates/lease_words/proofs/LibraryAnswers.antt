-- A library's steps as the calls make them, and what the calls owe its seat.
use Rattle.std.proofs.Common.{Result, Ok, Err, Bool, true, false, eqb, eq-eqb, ne_eqb, ◌≡◌, ◌≢◌, ℕ, ◌+◌, ◌-◌, ◌^◌, ◌<◌, ◌≤◌, List, [], length, get_or, set, Option, refl, sym, ap, ◌∙◌, subst, arith}
use Rattle.std.proofs.lemmas.Bool.{cond-true, cond-false}
use Rattle.std.specs.Prelude.{IfOk, OnOk, IfErr, if◌then◌else◌}
use Rattle.std.proofs.lemmas.Bool.Decides.{when_true, when_false}
use Rattle.std.proofs.lemmas.List.{length-map}
use mathlib.Core.Option.{none}
use prog.Atomic.{either}
use Rattle.atomic_table.specs.Table.{step, Allows}
use Rattle.atomic_table.specs.declared.shared.Seat.{Seat}
use Rattle.lease_core.specs.declared.word.Word.{Word}
use Rattle.lease_core.specs.Lines.{heir_named}
use Rattle.lease_core.specs.Word.{word_in, number_of}
use Rattle.lease_words.specs.declared.item.Item.{Item}
use Rattle.lease_words.specs.declared.view.LibraryLease.{LibraryLease}
use Rattle.lease_words.specs.declared.view.Shape.{Shape}
use Rattle.lease_words.specs.declared.view.LibrarySession.{LibrarySession}
use Rattle.lease_words.specs.declared.view.LibraryKnows.{LibraryKnows}
use Rattle.lease_words.specs.declared.view.View.{View}
use Rattle.lease_words.specs.declared.rows.LibraryRow.{LibraryRow}
use Rattle.lease_words.specs.Layout.{session_at, lease_word, published_word, beat_word}
use Rattle.lease_words.specs.Leases.{shows_lease, held_lease, held_count}
use Rattle.lease_words.specs.Views.{LibraryView, library_session, with_library_session, library_view, first_library}
use Rattle.lease_words.specs.Sees.{after_see, after_arrival, after_release, after_loss}
use Rattle.lease_words.specs.Answers.{released_word, IsLoss}
use Rattle.lease_words.specs.Rule.{Ruled}
use Rattle.lease_words.specs.Tells.{Seated, HasFoundWord, SeeOf, SeeTells, ArriveOf, ArriveTells, BeatTells, ReleaseOf, ReleaseTells, held_word, library_numbers}
use Rattle.lease_words.specs.Tokens.{library_row, CountsFit, IsLibrary}
use Rattle.lease_words.proofs.Lines.{word_parts}
use Rattle.lease_words.proofs.Places.{session-lease_word, session-published_word}
use Rattle.lease_words.proofs.Publishes.{arrives_at, beats_at}
use Rattle.lease_words.proofs.LibraryHolds.{no_word, held_as_word, held_number, given_word, given_count, lost_word, lost_count, seen_count}
use Rattle.lease_words.proofs.LibrarySees.{sees_at, releases_at}
use native.Mathlib.Decide.{ℕ_discrete}
use Rattle.lease_words.proofs.LibraryCalls.{held_within, library_rests, counts_fit, library_row_at, still_library, same_library}

-- what is so of a result that was answered
pub if_ok : {T E : Type 0} (P : T → Type 0) (r : Result T E) (v : T) → r ≡ Ok v → P v → IfOk r P
if_ok P r v is p = subst (λ r. IfOk r P) (sym is) p

pub on_ok : {T E : Type 0} (P : Type 0) (r : Result T E) (v : T) → r ≡ Ok v → P → OnOk r P
on_ok P r v is p = subst (λ r. OnOk r P) (sym is) p

pub if_err : {T E : Type 0} (P : E → Type 0) (r : Result T E) (e : E) → r ≡ Err e → P e → IfErr r P
if_err P r e is p = subst (λ r. IfErr r P) (sym is) p

pub if_ok_none : {T E : Type 0} (P : T → Type 0) (r : Result T E) (e : E) → r ≡ Err e → IfOk r P
if_ok_none P r e is = subst (λ r. IfOk r P) (sym is) tt

pub on_ok_none : {T E : Type 0} (P : Type 0) (r : Result T E) (e : E) → r ≡ Err e → OnOk r P
on_ok_none P r e is = subst (λ r. OnOk r P) (sym is) tt

pub if_err_none : {T E : Type 0} (P : E → Type 0) (r : Result T E) (v : T) → r ≡ Ok v → IfErr r P
if_err_none P r v is = subst (λ r. IfErr r P) (sym is) tt

-- what a seat holds that saw a word
pub holds_shown : (b : Bool) (n r : ℕ) → b ≡ true → n ≡ r → n ≡ (if b then r else 0)
holds_shown b n r shows is = is ∙ sym (cond-true b r 0 shows)

pub holds_none : (b : Bool) (n r : ℕ) → b ≡ false → n ≡ 0 → n ≡ (if b then r else 0)
holds_none b n r shows is = is ∙ sym (cond-false b r 0 shows)

nothing : (word_in 0).lease ≡ 0
unfolding word_in
nothing = refl

-- the word of the lease that a library holds
held_reads : (number : ℕ) (leases : List LibraryLease) → 0 < held_lease leases → number < 64 → held_count leases < 2 ^ 32 → word_in (held_word number leases) ≡ held_as_word number leases
held_reads number leases some low few = ap word_in (held_number number leases some) ∙ word_parts (held_as_word number leases) low few

module _ (k : Shape) (slots id s i : ℕ) (me : Seated) (l : LibraryKnows) (is : me ≡ (library_view k l, [])) (here : s < k.sessions) where
  pub arrive_step : i ≡ published_word s → Allows (Ruled k) slots id me i (λ n. n) (ArriveTells (step slots i 0 0 none) me)
  arrive_step at = subst (λ (z : Seated × ℕ). Allows (Ruled k) slots id z.0 z.1 (λ n. n) (ArriveTells (step slots z.1 0 0 none) z.0)) (λ j. (sym is j, sym at j)) (arrives_at k id l slots s here)

  pub see_step : i ≡ lease_word s → Allows (Ruled k) slots id me i (λ n. n) (SeeTells (step slots i 0 0 none) me)
  see_step at = subst (λ (z : Seated × ℕ). Allows (Ruled k) slots id z.0 z.1 (λ n. n) (SeeTells (step slots z.1 0 0 none) z.0)) (λ j. (sym is j, sym at j)) (sees_at k id l s here slots)

  -- the exchange of a release, whose new word is the old one with another owner and standing
  pub release_step : (number owner old new : ℕ) (w : Word) → i ≡ lease_word s → number ≡ l.number → 1 ≤ owner → owner ≤ k.libraries → 0 < held_lease (library_session l s).leases → old ≡ held_word number (library_session l s).leases → w ≡ word_in old
      → new ≡ number_of (released_word w.lease owner w.count) → Allows (Ruled k) slots id me i (λ n. either (eqb n old) new n) (ReleaseTells (step slots i old new none) me)
  release_step number owner old new w at named one most held old_is word makes =
      let hs = (library_session l s).leases in
      let word_is : old ≡ held_word l.number hs = old_is ∙ ap (λ m. held_word m hs) named in
      let rest : Allows (Ruled k) slots id (library_view k l, []) (lease_word s) (λ n. either (eqb n old) new n) (ReleaseTells (step slots (lease_word s) old new none) (library_view k l, [])) =
      λ st q size there small.
      let so = (q.views id (library_view k l) there).libraries.0 in
      let few : held_count hs < 2 ^ 32 = let a = (so.sessions s here).few in let b = q.shape.sends in omega arith in
      let low : l.number < 64 = let a = so.to_last in let b = q.shape.libraries in omega arith in
      let reads : w ≡ held_as_word l.number hs = word ∙ (ap word_in word_is ∙ held_reads l.number hs held low few) in
      releases_at k id l s here slots owner old new one most held word_is (makes ∙ (λ j. number_of (released_word (reads j).lease owner (reads j).count))) st q size there small in
      subst (λ (z : Seated × ℕ). Allows (Ruled k) slots id z.0 z.1 (λ n. either (eqb n old) new n) (ReleaseTells (step slots z.1 old new none) z.0)) (λ j. (sym is j, sym at j)) rest

pub beat_step : (k : Shape) (slots id i number new : ℕ) (me : Seated) (l : LibraryKnows) → me ≡ (library_view k l, []) → number ≡ l.number → i ≡ beat_word k.sessions number → new ≡ l.beats + 1
    → Allows (Ruled k) slots id me i (λ _. new) (λ _. BeatTells (step slots i new 0 none) me new)
beat_step k slots id i number new me l is named at more =
    let place : i ≡ beat_word k.sessions l.number = at ∙ ap (beat_word k.sessions) named in
    subst (λ (z : Seated × ℕ). Allows (Ruled k) slots id z.0 z.1 (λ _. new) (λ _. BeatTells (step slots z.1 new 0 none) z.0 new)) (λ j. (sym is j, sym place j)) (beats_at k id l slots new more)

module _ (k : Shape) (slots s i r : ℕ) (me me' : Seated) (l : LibraryKnows) (is : me ≡ (library_view k l, [])) where
  pub arrive_told : i ≡ published_word s → ArriveTells (step slots i 0 0 none) me r me'
      → ((library_session l s).published ≤ r) × (me' ≡ (library_view k (with_library_session l s (after_arrival (library_session l s) r)), []))
  arrive_told at told = let same : session_at i ≡ s = ap session_at at ∙ session-published_word s in subst (λ (z : Seated × ℕ). ArriveOf z.1 (step slots i 0 0 none) z.0 r me') (λ j. (is j, same j)) told

  pub see_told : i ≡ lease_word s → SeeTells (step slots i 0 0 none) me r me' → (me' ≡ (library_view k (with_library_session l s (after_see l.number (library_session l s) (word_in r))), [])) × HasFoundWord l.number (library_session l s) r
  see_told at told = let same : session_at i ≡ s = ap session_at at ∙ session-lease_word s in subst (λ (z : Seated × ℕ). SeeOf z.1 (step slots i 0 0 none) z.0 r me') (λ j. (is j, same j)) told

  pub release_told : (old new : ℕ) → i ≡ lease_word s → ReleaseTells (step slots i old new none) me r me' → ReleaseOf s (step slots i old new none) (library_view k l, []) r me'
  release_told old new at told = let same : session_at i ≡ s = ap session_at at ∙ session-lease_word s in subst (λ (z : Seated × ℕ). ReleaseOf z.1 (step slots i old new none) z.0 r me') (λ j. (is j, same j)) told

-- the session is given back to its owner
abbrev pub gives_back : ℕ → ℕ → LibraryKnows → LibraryKnows
gives_back s owner l =
    let ls = library_session l s in
    with_library_session l s (after_release ls (heir_named owner l.number) (released_word (held_lease ls.leases) owner (held_count ls.leases)))

-- what a seat is to those who call, once it knows something else
pub view_after : (seat seat' : Seat (Option Item) View) (k : Shape) (f : LibraryKnows → LibraryKnows) (now : LibraryView) → seat'.table_id ≡ seat.table_id → seat.me.0.shape ≡ k → seat'.me ≡ (library_view k (f (first_library seat.me.0.libraries)), [])
    → record { table = record { shape = seat.me.0.shape; table = seat.table_id }; knows = first_library seat.me.0.libraries } ≡ now
    → ◌≡◌ {A = LibraryView} (record { table = record { shape = seat'.me.0.shape; table = seat'.table_id }; knows = first_library seat'.me.0.libraries }) (record { table = now.table; knows = f now.knows })
view_after seat seat' k f now table shape me is =
    (λ j. record { table = record { shape = (me j).0.shape; table = table j }; knows = first_library (me j).0.libraries })
    ∙ ((λ j. record { table = record { shape = sym shape j; table = seat.table_id }; knows = f (first_library seat.me.0.libraries) })
    ∙ (λ j. record { table = (is j).table; knows = f (is j).knows }))

module _ (seat seat' : Seat (Option Item) View) (number beats : ℕ) (rows : List LibraryRow) (k : Shape) (is : IsLibrary seat number beats rows) (shape : seat.me.0.shape ≡ k) (slots s i r : ℕ) (here : s < k.sessions) where
  abbrev l : LibraryKnows
  l = first_library seat.me.0.libraries

  abbrev mine : LibrarySession
  mine = library_session l s

  counts : CountsFit mine
  counts = counts_fit seat number beats rows k is shape s

  -- the seat after the load of a published count
  pub arrive_owes : i ≡ published_word s → ArriveTells (step slots i 0 0 none) seat.me r seat'.me → IsLibrary seat' number beats rows
  arrive_owes at tells =
      let told = arrive_told k slots s i r seat.me seat'.me l (library_rests seat number beats rows k is shape) at tells in
      same_library seat number beats rows k is shape seat' s (after_arrival mine r) here told.1 refl counts

  -- the row after the load of a lease word
  pub see_owes : (w : Word) (row : LibraryRow) (n : ℕ) → i ≡ lease_word s → w ≡ word_in r → row ≡ get_or rows s row → SeeTells (step slots i 0 0 none) seat.me r seat'.me → n ≡ (if shows_lease number w then r else 0)
      → IsLibrary seat' number beats (set rows s record { word = n; committed = row.committed })
  see_owes w row n at word row_is tells n_is =
      let told = see_told k slots s i r seat.me seat'.me l (library_rests seat number beats rows k is shape) at tells in
      let was : row ≡ library_row number mine = library_row_at seat number beats rows k is shape s row here row_is in
      let w_is : n ≡ (if shows_lease l.number (word_in r) then r else 0) = n_is ∙ (λ j. if shows_lease (is.number_is j) (word j) then r else 0) in
      let numbers : library_numbers number (after_see l.number mine (word_in r)) ≡ record { word = if shows_lease l.number (word_in r) then r else 0; committed = length mine.items } =
      subst (λ m. library_numbers m (after_see l.number mine (word_in r)) ≡ record { word = if shows_lease l.number (word_in r) then r else 0; committed = length mine.items }) (sym is.number_is) told.1.numbers in
      still_library seat number beats rows k is shape seat' s (after_see l.number mine (word_in r)) record { word = n; committed = row.committed } told.0
      ((λ j. record { word = w_is j; committed = (was j).committed }) ∙ (λ j. record { word = (sym numbers j).word; committed = (sym numbers j).committed }))
      (let c : held_count mine.leases < 2 ^ 32 = counts in let n = seen_count (word_in r) l.number (2 ^ 32 - 1) mine.leases (omega arith) in omega arith)

  -- the word in the row of a session
  pub row_word : (row : LibraryRow) → row ≡ get_or rows s row → row.word ≡ held_word number mine.leases
  row_word row row_is = ap (λ (x : LibraryRow). x.word) (library_row_at seat number beats rows k is shape s row here row_is)

  -- the session was given back
  pub gave_owes : (owner old new : ℕ) (w : Word) (row : LibraryRow) → i ≡ lease_word s → row ≡ get_or rows s row → old ≡ held_word number mine.leases → 0 < held_lease mine.leases → w ≡ word_in old → word_in new ≡ released_word w.lease owner w.count
      → ReleaseTells (step slots i old new none) seat.me r seat'.me → r ≡ old
      → IsLibrary seat' number beats (set rows s record { word = 0; committed = row.committed })
      × (w.count ≡ held_count mine.leases)
      × (seat'.me ≡ (library_view k (gives_back s owner l), []))
  gave_owes owner old new w row at row_is old_is held word makes tells same =
      let rests = library_rests seat number beats rows k is shape in
      let told = when_true _ _ (eq-eqb r old same) (release_told k slots s i r seat.me seat'.me l rests old new at tells) in
      let was : row ≡ library_row number mine = library_row_at seat number beats rows k is shape s row here row_is in
      let low : number < 64 = let a = is.to_last in omega arith in
      let reads : w ≡ held_as_word number mine.leases = word ∙ (ap word_in old_is ∙ held_reads number mine.leases held low told.1) in
      let made : word_in new ≡ released_word (held_lease mine.leases) owner (held_count mine.leases) = makes ∙ (λ j. released_word (reads j).lease owner (reads j).count) in
      let heir : ℕ = heir_named owner l.number in
      let after : LibrarySession = after_release mine heir (released_word (held_lease mine.leases) owner (held_count mine.leases)) in
      let me : seat'.me ≡ (library_view k (with_library_session l s after), []) = told.0 ∙ (λ j. (library_view k (with_library_session l s (after_release mine (heir_named (made j).owner l.number) (made j))), [])) in
      (still_library seat number beats rows k is shape seat' s after record { word = 0; committed = row.committed } me (λ j. record { word = sym (given_word number heir mine.leases) j; committed = (was j).committed }) (let none = given_count heir mine.leases in omega arith), ap (λ (v : Word). v.count) reads, me)

  -- another word was found
  pub lost_owes : (old new : ℕ) (w : Word) (row : LibraryRow) → i ≡ lease_word s → row ≡ get_or rows s row → w ≡ word_in r → ReleaseTells (step slots i old new none) seat.me r seat'.me → r ≢ old
      → IsLibrary seat' number beats (set rows s record { word = 0; committed = row.committed })
      × IsLoss mine w
      × (seat'.me ≡ (library_view k (with_library_session l s (after_loss mine w)), []))
  lost_owes old new w row at row_is word tells other =
      let rests = library_rests seat number beats rows k is shape in
      let told = when_false _ _ (ne_eqb r old other) (release_told k slots s i r seat.me seat'.me l rests old new at tells) in
      let was : row ≡ library_row number mine = library_row_at seat number beats rows k is shape s row here row_is in
      let me : seat'.me ≡ (library_view k (with_library_session l s (after_loss mine w)), []) = told.0 ∙ (λ j. (library_view k (with_library_session l s (after_loss mine (sym word j))), [])) in
      let loss : IsLoss mine (word_in r) = record { ends = told.1.ends; later = told.1.later } in
      (still_library seat number beats rows k is shape seat' s (after_loss mine w) record { word = 0; committed = row.committed } me (λ j. record { word = sym (lost_word number mine.leases) j; committed = (was j).committed }) (let none = lost_count mine.leases in omega arith), subst (IsLoss mine) (sym word) loss, me)

-- the lease that the seat holds, by the word in its row
module _ (seat : Seat (Option Item) View) (number beats : ℕ) (rows : List LibraryRow) (k : Shape) (is : IsLibrary seat number beats rows) (shape : seat.me.0.shape ≡ k) (s : ℕ) where
  pub held_told : s < k.sessions → (row : LibraryRow) → row ≡ get_or rows s row → (w : Word) → w ≡ word_in row.word → w.lease ≡ held_lease (library_session (first_library seat.me.0.libraries) s).leases
  held_told here row row_is w word =
      let leases = (library_session (first_library seat.me.0.libraries) s).leases in
      let fits : held_count leases < 2 ^ 32 = counts_fit seat number beats rows k is shape s in
      let kept : row.word ≡ held_word number leases = ap (λ (x : LibraryRow). x.word) (library_row_at seat number beats rows k is shape s row here row_is) in
      let low : number < 64 = let a = is.to_last in omega arith in
      let reads : w ≡ word_in (held_word number leases) = word ∙ ap word_in kept in
      elim (ℕ_discrete (held_lease leases) 0) [
        | yes zero_is ↦ ap (λ (v : Word). v.lease) (reads ∙ ap word_in (no_word number leases zero_is)) ∙ (nothing ∙ sym zero_is)
        | no more ↦ ap (λ (v : Word). v.lease) (reads ∙ held_reads number leases (omega (arith, more)) low fits)
      ]

  row_count : length rows ≡ k.sessions
  row_count = ap length is.rows_are ∙ (length-map (first_library seat.me.0.libraries).sessions (library_row number) ∙ (is.count ∙ ap (λ (k : Shape). k.sessions) shape))

  pub held_nowhere : length rows ≤ s → 0 ≡ held_lease (library_session (first_library seat.me.0.libraries) s).leases
  held_nowhere past =
      let size : length (first_library seat.me.0.libraries).sessions ≡ k.sessions = is.count ∙ ap (λ (k : Shape). k.sessions) shape in
      elim (ℕ_discrete (held_lease (library_session (first_library seat.me.0.libraries) s).leases) 0) [
        | yes zero_is ↦ sym zero_is
        | no more ↦ absurd (let near = held_within (first_library seat.me.0.libraries).sessions s (omega (arith, more)) in let n = row_count in omega arith)
      ]

  pub row_within : s < length rows → s < k.sessions
  row_within near = subst (λ n. s < n) row_count near
