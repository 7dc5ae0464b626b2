-- A library's seat at its calls.
use Rattle.std.proofs.Common.{◌≡◌, ℕ, zero, suc, ◌<◌, ◌≤◌, List, [], ◌∷◌, length, map, get_or, set, Option, refl, sym, ap, ◌∙◌, subst, arith, length-set}
use Rattle.std.proofs.lemmas.List.{map-set, length-map, set-get_or}
use Rattle.atomic_table.specs.declared.shared.Seat.{Seat}
use Rattle.lease_words.specs.declared.item.Item.{Item}
use Rattle.lease_words.specs.declared.view.Shape.{Shape}
use Rattle.lease_words.specs.declared.view.LibrarySession.{LibrarySession}
use Rattle.lease_words.specs.declared.view.LibraryKnows.{LibraryKnows}
use Rattle.lease_words.specs.declared.view.View.{View}
use Rattle.lease_words.specs.declared.rows.LibraryRow.{LibraryRow}
use Rattle.lease_words.specs.Views.{library_session, with_library_session, no_library_session, library_view, first_library}
use Rattle.lease_words.specs.Leases.{Each, held_lease}
use Rattle.lease_words.specs.Tokens.{library_row, CountsFit, IsLibrary}
use Rattle.lease_words.proofs.Lists.{each_set, each_at}
use Rattle.lease_words.proofs.Tokens.{row_at}

-- a session that holds a lease is one of the seat's
pub held_within : (xs : List LibrarySession) (s : ℕ) → 0 < held_lease (get_or xs s no_library_session).leases → s < length xs
held_within [] s held = absurd (omega arith)
held_within (x ∷ xs) zero held = omega arith
held_within (x ∷ xs) (suc s) held = let h = held_within xs s held in omega arith

module _ (seat : Seat (Option Item) View) (number beats : ℕ) (rows : List LibraryRow) (k : Shape) (is : IsLibrary seat number beats rows) (shape : seat.me.0.shape ≡ k) where
  abbrev pub knows : LibraryKnows
  knows = first_library seat.me.0.libraries

  -- the seat as the steps see it
  pub library_rests : seat.me ≡ (library_view k knows, [])
  library_rests = is.rests ∙ (λ j. (library_view (shape j) knows, []))

  near : (s : ℕ) → s < k.sessions → s < length knows.sessions
  near s here = subst (λ n. s < n) (sym (is.count ∙ ap (λ (k : Shape). k.sessions) shape)) here

  -- the row of a session
  pub library_row_at : (s : ℕ) (r : LibraryRow) → s < k.sessions → r ≡ get_or rows s r → r ≡ library_row number (library_session knows s)
  library_row_at s r here at = row_at (library_row number) knows.sessions rows s no_library_session r is.rows_are (near s here) at

  pub counts_fit : (s : ℕ) → CountsFit (library_session knows s)
  counts_fit s = each_at CountsFit knows.sessions s no_library_session is.few (omega arith)

  -- the seat stays a library's where one session changed
  pub still_library : (seat' : Seat (Option Item) View) (s : ℕ) (ls : LibrarySession) (row : LibraryRow) → seat'.me ≡ (library_view k (with_library_session knows s ls), []) → row ≡ library_row number ls → CountsFit ls → IsLibrary seat' number beats (set rows s row)
  still_library seat' s ls row me row_is fits =
      let first : first_library seat'.me.0.libraries ≡ with_library_session knows s ls = ap (λ m. first_library m.0.libraries) me in
      let shape' : seat'.me.0.shape ≡ k = ap (λ m. m.0.shape) me in
      record {
        rests = me ∙ (λ j. (library_view (sym shape' j) (sym first j), []));
        idle = ap (λ (l : LibraryKnows). l.sending) first ∙ is.idle;
        number_is = is.number_is ∙ sym (ap (λ (l : LibraryKnows). l.number) first);
        beats_are = is.beats_are ∙ sym (ap (λ (l : LibraryKnows). l.beats) first);
        rows_are = (λ j. set (is.rows_are j) s (row_is j)) ∙ (sym (map-set (library_row number) knows.sessions s ls) ∙ ap (λ (l : LibraryKnows). map (library_row number) l.sessions) (sym first));
        count = ap (λ (l : LibraryKnows). length l.sessions) first ∙ (length-set knows.sessions s ls ∙ (is.count ∙ ap (λ (k : Shape). k.sessions) (shape ∙ sym shape')));
        from_one = is.from_one;
        to_last = is.to_last;
        few = subst (λ (l : LibraryKnows). Each CountsFit l.sessions) (sym first) (each_set CountsFit knows.sessions s ls is.few fits);
        within = subst (λ (k : Shape). number ≤ k.libraries) (shape ∙ sym shape') is.within;
      }

  -- nor do its numbers change
  pub same_library : (seat' : Seat (Option Item) View) (s : ℕ) (ls : LibrarySession) → s < k.sessions → seat'.me ≡ (library_view k (with_library_session knows s ls), []) → library_row number ls ≡ library_row number (library_session knows s) → CountsFit ls → IsLibrary seat' number beats rows
  same_library seat' s ls here me same fits =
      let d : LibraryRow = library_row number (library_session knows s) in
      let r : LibraryRow = get_or rows s d in
      let size : length rows ≡ length knows.sessions = ap length is.rows_are ∙ length-map knows.sessions (library_row number) in
      let within : s < length rows = subst (λ n. s < n) (sym size) (near s here) in
      let row : r ≡ library_row number (library_session knows s) = library_row_at s r here (get_or-default rows s d r within) in
      subst (IsLibrary seat' number beats) (set-get_or rows s d) (still_library seat' s ls r me (row ∙ sym same) fits)
    where
      get_or-default : (rows : List LibraryRow) (i : ℕ) (d r : LibraryRow) → i < length rows → get_or rows i d ≡ get_or rows i r
      get_or-default [] i d r near = absurd (omega arith)
      get_or-default (x ∷ xs) zero d r near = refl
      get_or-default (x ∷ xs) (suc i) d r near = get_or-default xs i d r (omega arith)
