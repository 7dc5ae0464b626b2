-- What a library sees keeps the rule, and so does its giving a session back.
use Rattle.std.proofs.Common.{◌≡◌, ◌≢◌, ℕ, suc, ◌^◌, ◌<◌, ◌≤◌, List, [], ◌∷◌, ◌++◌, length, get_or, Bool, true, false, eqb, Option, Some, refl, sym, ap, ◌∙◌, subst, inr, ⊎_elim, arith, append-nil, cond, eq-eqb, ne_eqb}
use Rattle.std.specs.Prelude.{MatchBool, slice_get}
use Rattle.std.proofs.lemmas.Bool.{eqb-true, eqb-false, cases_eq, cond-true, cond-false}
use mathlib.Core.Option.{none, some}
use lib.ListN.{get_elem?}
use prog.Atomic.{either}
use Rattle.atomic_table.specs.Table.{Act, step, keeps, stepped, carried_after, Valid, Allows}
use Rattle.lease_core.specs.declared.lease.Ending.TheVariants.{GivenBack}
use Rattle.lease_core.specs.declared.lease.Line.{Line}
use Rattle.lease_core.specs.declared.word.Standing.TheVariants.{Released}
use Rattle.lease_core.specs.declared.word.Word.{Word}
use Rattle.lease_core.specs.Lines.{word_of, IsShown, heir_named, shown_owner}
use Rattle.lease_core.specs.Word.{word_in, number_of}
use Rattle.lease_words.specs.declared.item.Item.{Item}
use Rattle.lease_words.specs.declared.view.Shape.{Shape}
use Rattle.lease_words.specs.declared.view.LibrarySession.{LibrarySession}
use Rattle.lease_words.specs.declared.view.LibraryKnows.{LibraryKnows}
use Rattle.lease_words.specs.declared.view.View.{View}
use Rattle.lease_words.specs.Layout.{lease_word}
use Rattle.lease_words.specs.declared.view.LibraryLease.{LibraryLease}
use Rattle.lease_words.specs.Leases.{AreLines, AreBelow, shows_lease, held_lease, held_count, leases_after_see, with_first_ending, IsNotOlder, IsLineOf, FitsHeir}
use Rattle.lease_words.specs.Sees.{after_see, after_release, release_ending, after_loss}
use Rattle.lease_words.specs.Facts.{Lane, Session, IsLane, LibraryFits}
use Rattle.lease_words.specs.Views.{base_of, library_session, with_library_session, library_view}
use Rattle.lease_words.specs.Rule.{Ruled, LibraryKnowsSo}
use Rattle.lease_words.specs.Tells.{LibraryNumbers, library_numbers, HasFoundWord, SeeOf, ReleaseOf, HasLost, Seated, SeeTells, ReleaseTells, held_word}
use Rattle.lease_words.proofs.Lines.{shown_not_newer, GoesOn, shown_on, get_push_here, word_of_push, word_parts, words_shown}
use Rattle.lease_words.proofs.Lanes.{lane_seen, lane_given}
use Rattle.lease_words.proofs.Places.{session-lease_word}
use Rattle.lease_words.proofs.Seats.{each_map}
use Rattle.lease_words.proofs.LibraryHolds.{seen_count, seen_word, all_below, HasLast, held_few, given_word, given_count}
use Rattle.lease_words.proofs.LibrarySteps.{Table, Keeps, lost_rule, has_lost, ends_there, last_there, fits_with, lines_stay, lines_move, stays_rule, word_rule, slots_same}

-- the heir that a library names is another than itself, and the word shows the owner that was asked for
heir_of : (owner most library : ℕ) → 1 ≤ library → owner ≤ most → (heir_named owner library ≤ most) × (heir_named owner library ≢ library)
heir_of owner most library one few = ⊎_elim
    (λ (same : owner ≡ library). let e : heir_named owner library ≡ 0 = cond-true (eqb owner library) 0 owner (eq-eqb owner library same) in (omega arith, λ h. omega arith))
    (λ other. let e : heir_named owner library ≡ owner = cond-false (eqb owner library) 0 owner (ne_eqb owner library other) in (omega arith, λ h. other (sym e ∙ h)))
    (cases_eq owner library)

owner_shown : (owner library : ℕ) → 1 ≤ owner → shown_owner (GivenBack (heir_named owner library)) library ≡ owner
owner_shown owner library one = ⊎_elim
    (λ (same : owner ≡ library). ap (λ (h : ℕ). cond (eqb h 0) library h) (cond-true (eqb owner library) 0 owner (eq-eqb owner library same)) ∙ sym same)
    (λ other. ap (λ (h : ℕ). cond (eqb h 0) library h) (cond-false (eqb owner library) 0 owner (ne_eqb owner library other)) ∙ cond-false (eqb owner 0) library owner (ne_eqb owner 0 (λ e. omega arith)))
    (cases_eq owner library)

module _ (k : Shape) (id : ℕ) (l : LibraryKnows) (s : ℕ) (here : s < k.sessions) where
  abbrev mine : LibrarySession
  mine = library_session l s

  module _ (st : Table) (q : Ruled k st) (at : get_elem? st.views id ≡ some (library_view k l)) where
    abbrev z : Session
    z = q.truth.sessions s

    abbrev lane : Lane
    lane = z.lanes l.number

    abbrev found : ℕ
    found = get_or st.words (lease_word s) 0

    so : LibraryKnowsSo k q.truth id l
    so = (q.views id (library_view k l) at).libraries.0

    fits : LibraryFits k.sends l.number l.sending s z mine
    fits = so.sessions s here

    own : IsLane (base_of k s) k.depth z.lines l.number lane
    own = (q.sessions s here).lanes l.number so.from_one so.to_last

    abbrev lane_then : Lane
    lane_then = record { leases = leases_after_see l.number (word_in found) lane.leases; items = lane.items; taken = lane.taken; filling = lane.filling; emptying = lane.emptying }

    own_then : IsLane (base_of k s) k.depth z.lines l.number lane_then
    own_then = subst (λ w. IsLane (base_of k s) k.depth z.lines l.number record { leases = leases_after_see l.number w lane.leases; items = lane.items; taken = lane.taken; filling = lane.filling; emptying = lane.emptying })
        (sym (q.words.leases s here)) (lane_seen (base_of k s) k.libraries k.depth z.lines l.number lane so.from_one (q.sessions s here).are_lines own)

    seen_keeps : Keeps k q.truth l s z.lines lane_then (after_see l.number mine (word_in found)) l.sending
    seen_keeps = lines_stay k id l s here st q at lane_then (after_see l.number mine (word_in found)) l.sending own_then refl refl refl
        (fits_with k.sends l.sending s l z z.lines lane_then (after_see l.number mine (word_in found)) (ap (leases_after_see l.number (word_in found)) fits.leases) fits.items fits.out
        (subst (IsShown z.lines) (sym (q.words.leases s here)) (words_shown z.lines), fits.words) fits.taken fits.published (seen_count (word_in found) l.number k.sends mine.leases fits.few))
        (λ _ _. refl)

    saw_so : HasFoundWord l.number mine found
    saw_so = record {
      later = each_map (λ seen shown. subst (IsNotOlder seen) (sym (q.words.leases s here)) (shown_not_newer z.lines seen shown)) mine.words fits.words;
      newer = λ shows other.
          let is : word_in found ≡ word_of z.lines = q.words.leases s here in
          let lease : (word_in found).lease ≡ length z.lines = ap (λ (w : Word). w.lease) is in
          subst (λ (x : ℕ × List LibraryLease). AreBelow x.0 x.1) (λ j. (sym lease j, sym fits.leases j))
          (all_below (base_of k s) l.number z.lines (subst (λ (w : Word). shows_lease l.number w ≡ true) is shows) lane.leases (λ e. other (ap held_lease fits.leases ∙ (e ∙ sym lease))) own.latest own.stands);
      numbers = ap (λ (n : ℕ). (λ (m : ℕ). let r : LibraryNumbers = record { word = n; committed = m } in r) (length mine.items))
          (seen_word (base_of k s) k.libraries k.depth z.lines l.number mine.leases lane_then (q.sessions s here).are_lines own_then found (q.words.leases s here) (ap (leases_after_see l.number (word_in found)) (sym fits.leases)));
    }

    sees_rule : Ruled k (stepped st (lease_word s) found id [] (library_view k (with_library_session l s (after_see l.number mine (word_in found)))) keeps)
    sees_rule = stays_rule k id l s here st q at z.lines lane_then (after_see l.number mine (word_in found)) l.sending seen_keeps (lease_word s) st.homes refl (slots_same k id l s here st q at lane_then refl refl refl refl)

    -- the word that gives the session back
    module _ (owner new : ℕ) (one : 1 ≤ owner) (most : owner ≤ k.libraries) (held : 0 < held_lease mine.leases) (reads : word_in new ≡ record { lease = held_lease mine.leases; owner = owner; standing = Released; count = held_count mine.leases })
        (f : HasLast z.lines l.number lane) where
      abbrev heir : ℕ
      heir = heir_named (word_in new).owner l.number

      abbrev line_given : Line
      line_given = record { library = f.line.library; sends = f.line.sends; ending = GivenBack heir }

      abbrev lane_given_back : Lane
      lane_given_back = record { leases = with_first_ending (release_ending heir) lane.leases; items = lane.items; taken = lane.taken; filling = lane.filling; emptying = lane.emptying }

      given_reads : word_in new ≡ word_of (f.front ++ line_given ∷ [])
      given_reads =
          let lease : held_lease mine.leases ≡ suc (length f.front) = ap held_lease fits.leases ∙ f.lease in
          let count : held_count mine.leases ≡ f.line.sends = ap held_count fits.leases ∙ sym f.sends in
          let named : shown_owner (GivenBack heir) f.line.library ≡ owner = (λ i. shown_owner (GivenBack (heir_named (reads i).owner l.number)) (f.whose i)) ∙ owner_shown owner l.number one in
          reads ∙ ((λ i. record { lease = lease i; owner = sym named i; standing = Released; count = count i }) ∙ sym (word_of_push f.front line_given))

      line_known : IsLineOf k.libraries f.line
      line_known =
          let known : IsLineOf 16 f.line = (q.sessions s here).are_lines.known (length f.front) f.line (subst (λ ls. slice_get ls (length f.front) ≡ Some f.line) (sym f.lines_are) (get_push_here f.front f.line)) in
          record {
            from_one = known.from_one;
            to_last = let a = so.to_last in let b = f.whose in omega arith;
            few = known.few;
            heir = subst (FitsHeir k.libraries f.line.library) (sym f.ran) tt;
          }

      given_known : (libraries : ℕ) → k.libraries ≤ libraries → IsLineOf libraries line_given
      given_known libraries more =
          let named : (word_in new).owner ≡ owner = ap (λ (w : Word). w.owner) reads in
          let h = heir_of (word_in new).owner k.libraries l.number so.from_one (omega arith) in
          record {
            from_one = line_known.from_one;
            to_last = let a = line_known.to_last in omega arith;
            few = line_known.few;
            heir = (let a = h.0 in omega arith, λ e. h.1 (e ∙ f.whose));
          }

      given_keeps : Keeps k q.truth l s (f.front ++ line_given ∷ []) lane_given_back (after_release mine heir (word_in new)) l.sending
      given_keeps =
          let on : GoesOn f.line line_given = record { ran = f.ran; whose = refl; more = omega arith } in
          let are : AreLines (base_of k s) k.libraries (f.front ++ f.line ∷ []) = subst (AreLines (base_of k s) k.libraries) f.lines_are (q.sessions s here).are_lines in
          let none = given_count heir mine.leases in
          lines_move k id l s here st q at f.front f.line line_given lane_given_back (after_release mine heir (word_in new)) l.sending f.lines_are f.whose on (inr (heir, refl)) (given_known 16 q.shape.libraries) (given_known k.libraries (omega arith))
          (lane_given (base_of k s) k.libraries k.depth f.front f.line l.number heir lane are f.ran f.whose f.lease (subst (λ ls. IsLane (base_of k s) k.depth ls l.number lane) f.lines_are own))
          ([], append-nil lane.items) refl refl
          (fits_with k.sends l.sending s l z (f.front ++ line_given ∷ []) lane_given_back (after_release mine heir (word_in new)) (ap (with_first_ending (release_ending heir)) fits.leases) fits.items fits.out (
            subst (IsShown (f.front ++ line_given ∷ [])) (sym given_reads) (words_shown (f.front ++ line_given ∷ [])),
            each_map (λ w shown. shown_on f.front f.line line_given w on (subst (λ ls. IsShown ls w) f.lines_are shown)) mine.words fits.words,
          )
          fits.taken fits.published (omega arith))
          (λ _ _. refl)

      given_rule : Ruled k (stepped st (lease_word s) new id [] (library_view k (with_library_session l s (after_release mine heir (word_in new)))) keeps)
      given_rule = word_rule k id l s here st q at (f.front ++ line_given ∷ []) lane_given_back (after_release mine heir (word_in new)) l.sending given_keeps new st.homes given_reads (slots_same k id l s here st q at lane_given_back refl refl refl refl)

      given_numbers : library_numbers l.number (after_release mine heir (word_in new)) ≡ record { word = 0; committed = length mine.items }
      given_numbers = ap (λ (n : ℕ). (λ (m : ℕ). let r : LibraryNumbers = record { word = n; committed = m } in r) (length mine.items)) (given_word l.number heir mine.leases)

    -- what the exchange of a release owes
    abbrev Releases : ℕ → ℕ → Bool → Type 0
    Releases old new b =
        let w = word_in new in
        let after = after_release mine (heir_named w.owner l.number) w in
        (v : View) × (a : Act (Option Item)) × Valid st.homes [] a × Ruled k (stepped st (lease_word s) (either b new found) id [] v a)
        × MatchBool b
        ((◌≡◌ {A = Seated} (v, carried_after [] a) (library_view k (with_library_session l s after), [])) × (held_count mine.leases < 2 ^ 32) × (library_numbers l.number after ≡ record { word = 0; committed = length mine.items }))
        ((◌≡◌ {A = Seated} (v, carried_after [] a) (library_view k (with_library_session l s (after_loss mine (word_in found))), [])) × HasLost l.number mine found)

    released_as : (owner old new : ℕ) → 1 ≤ owner → owner ≤ k.libraries → 0 < held_lease mine.leases → old ≡ held_word l.number mine.leases
        → new ≡ number_of (record { lease = held_lease mine.leases; owner = owner; standing = Released; count = held_count mine.leases }) → (b : Bool) → eqb found old ≡ b → Releases old new b
    released_as owner old new one most held is makes true same =
        let f = last_there k id l s here st q at held (eqb-true found old same ∙ is) in
        let few : held_count mine.leases < 2 ^ 32 = subst (λ hs. held_count hs < 2 ^ 32) (sym fits.leases)
        (held_few (base_of k s) k.libraries k.depth z.lines l.number lane (q.sessions s here).are_lines own (subst (λ hs. 0 < held_lease hs) fits.leases held)) in
        let reads : word_in new ≡ record { lease = held_lease mine.leases; owner = owner; standing = Released; count = held_count mine.leases } =
        ap word_in makes ∙ word_parts (record { lease = held_lease mine.leases; owner = owner; standing = Released; count = held_count mine.leases }) (let a = q.shape.libraries in omega arith) few in
        (library_view k (with_library_session l s (after_release mine (heir_named (word_in new).owner l.number) (word_in new))), keeps, tt, given_rule owner new one most held reads f, (refl, few, given_numbers owner new one most held reads f))
    released_as owner old new one most held is makes false other =
        let ends = ends_there k id l s here st q at held (λ e. eqb-false found old other (e ∙ sym is)) in
        (library_view k (with_library_session l s (after_loss mine (word_in found))), keeps, tt, lost_rule k id l s here st q at ends, (refl, has_lost k id l s here st q at ends))

  pub sees_at : (slots : ℕ) → Allows (Ruled k) slots id (library_view k l, []) (lease_word s) (λ n. n) (SeeTells (step slots (lease_word s) 0 0 none) (library_view k l, []))
  sees_at slots st q size at small =
      let n : ℕ = get_or st.words (lease_word s) 0 in
      let w : View = library_view k (with_library_session l s (after_see l.number mine (word_in n))) in
      (w, keeps, tt, sees_rule st q at, subst (λ (i : ℕ). SeeOf i (step slots (lease_word s) 0 0 none) (library_view k l, []) n (w, [])) (sym (session-lease_word s)) (refl, saw_so st q at))

  -- the word that gives the session back to an heir, or to nobody where the owner is the library itself
  pub releases_at : (slots owner old new : ℕ) → 1 ≤ owner → owner ≤ k.libraries → 0 < held_lease mine.leases → old ≡ held_word l.number mine.leases
      → new ≡ number_of (record { lease = held_lease mine.leases; owner = owner; standing = Released; count = held_count mine.leases })
      → Allows (Ruled k) slots id (library_view k l, []) (lease_word s) (λ n. either (eqb n old) new n) (ReleaseTells (step slots (lease_word s) old new none) (library_view k l, []))
  releases_at slots owner old new one most held is makes st q size at small =
      let n : ℕ = get_or st.words (lease_word s) 0 in
      let r = released_as st q at owner old new one most held is makes (eqb n old) refl in
      (r.0, r.1, r.2, r.3, subst (λ (i : ℕ). ReleaseOf i (step slots (lease_word s) old new none) (library_view k l, []) n (r.0, carried_after [] r.1)) (sym (session-lease_word s)) r.4)
