-- A send's steps as its calls make them.
use Rattle.std.proofs.Common.{◌≡◌, ◌≢◌, ℕ, ◌+◌, ◌<◌, [], ◌∷◌, length, eqb, Some, None, refl, sym, ap, ◌∙◌, subst, eq-eqb, ne_eqb}
use Rattle.std.proofs.lemmas.Bool.Decides.{when_true, when_false}
use Rattle.std.proofs.lemmas.List.{get_or-set_same}
use mathlib.Core.Option.{none}
use prog.Atomic.{either}
use Rattle.atomic_table.specs.Table.{rest, step, Allows}
use Rattle.lease_core.specs.Word.{word_in}
use Rattle.lease_words.specs.declared.item.Item.{Item}
use Rattle.lease_words.specs.declared.view.Shape.{Shape}
use Rattle.lease_words.specs.declared.view.LibrarySession.{LibrarySession}
use Rattle.lease_words.specs.declared.view.LibraryKnows.{LibraryKnows}
use Rattle.lease_words.specs.Layout.{session_at, lease_word, taken_word, slot_of}
use Rattle.lease_words.specs.Views.{library_view, first_library, library_session, with_library_session, no_library_session}
use Rattle.lease_words.specs.Sees.{after_loss, with_sending}
use Rattle.lease_words.specs.Rule.{Ruled}
use Rattle.lease_words.specs.Tells.{Seated, CommitOf, CommitTells, HandBackTells, HasLost, HasSent, held_word}
use Rattle.lease_words.specs.Answers.{IsOffering, HasOffered, HasFailed}
use Rattle.lease_words.proofs.Places.{session-lease_word}
use Rattle.lease_words.proofs.Sends.{commits_at, hands_back_at}
use Rattle.lease_words.proofs.LibraryCalls.{held_within}

module _ (k : Shape) (s number slot word : ℕ) (item : Item) (me : Seated) (is : IsOffering k s number slot word me) where
  abbrev l : LibraryKnows
  l = first_library me.0.libraries

  abbrev ls : LibrarySession
  ls = library_session l s

  abbrev lost_knows : ℕ → LibraryKnows
  lost_knows r = with_library_session l s (after_loss ls (word_in r))

  -- the seat with the item in the slot
  filled : (me' : Seated) → me' ≡ (me.0, (slot, Some item) ∷ rest me.1) → me' ≡ (library_view k l, (slot, Some item) ∷ [])
  filled me' now = now ∙ ap (λ (m : Seated). (m.0, (slot, Some item) ∷ rest m.1)) is.rests

  place_is : slot ≡ slot_of k.libraries s l.number (length ls.items)
  place_is = is.place ∙ ap (λ (n : ℕ). slot_of k.libraries s n (length ls.items)) is.number_is

  pub commit_step : (slots id i : ℕ) (me' : Seated) → s < k.sessions → me' ≡ (me.0, (slot, Some item) ∷ rest me.1) → i ≡ lease_word s
      → Allows (Ruled k) slots id me' i (λ n. either (eqb n word) (word + 1) n) (CommitTells (step slots i word (word + 1) none) me')
  commit_step slots id i me' here now at =
      let same : me' ≡ (library_view k l, (slot_of k.libraries s l.number (length ls.items), Some item) ∷ []) = filled me' now ∙ ap (λ (n : ℕ). (library_view k l, (n, Some item) ∷ [])) place_is in
      subst (λ (z : Seated × ℕ). Allows (Ruled k) slots id z.0 z.1 (λ n. either (eqb n word) (word + 1) n) (CommitTells (step slots z.1 word (word + 1) none) z.0)) (λ j. (sym same j, sym at j))
      (commits_at k id l s here slots word (word + 1) item is.filling is.held is.room (is.word_is ∙ ap (λ (n : ℕ). held_word n ls.leases) is.number_is) refl)

  module _ (slots i r : ℕ) (me' me'' : Seated) (now : me' ≡ (me.0, (slot, Some item) ∷ rest me.1)) (at : i ≡ lease_word s) (tells : CommitTells (step slots i word (word + 1) none) me' r me'') where
    told : CommitOf s (step slots i word (word + 1) none) (library_view k l, (slot, Some item) ∷ []) r me''
    told =
        let same : session_at i ≡ s = ap session_at at ∙ session-lease_word s in
        subst (λ (z : Seated × ℕ). CommitOf z.1 (step slots i word (word + 1) none) z.0 r me'') (λ j. (filled me' now j, same j)) tells

    pub commit_sent : r ≡ word → HasOffered k s number word item me me''
    commit_sent found =
        let t = when_true _ _ (eq-eqb r word found) told in
        (t.0, subst (λ (n : ℕ). HasSent n ls (item ∷ []) (word + 1)) (sym is.number_is) t.1)

    pub commit_lost : r ≢ word → (me'' ≡ (library_view k (lost_knows r), (slot, Some item) ∷ [])) × HasLost number ls r
    commit_lost other =
        let t = when_false _ _ (ne_eqb r word other) told in
        (t.0, subst (λ (n : ℕ). HasLost n ls r) (sym is.number_is) t.1)

    pub commit_slot : r ≢ word → me''.1 ≡ (slot, Some item) ∷ rest me''.1
    commit_slot other = let is = (commit_lost other).0 in ap (λ (m : Seated). m.1) is ∙ sym (ap (λ (m : Seated). (slot, Some item) ∷ rest m.1) is)

    module _ (me3 : Seated) (other : r ≢ word) (emptied : me3 ≡ (me''.0, (slot, None) ∷ rest me''.1)) where
      pub empty_slot : me3 ≡ (library_view k (lost_knows r), (slot, None) ∷ [])
      empty_slot = emptied ∙ ap (λ (m : Seated). (m.0, (slot, None) ∷ rest m.1)) (commit_lost other).0

      -- the session has the items that it had
      same_items : library_session (lost_knows r) s ≡ after_loss ls (word_in r)
      same_items = get_or-set_same l.sessions s (after_loss ls (word_in r)) no_library_session (held_within l.sessions s is.held)

      pub hand_back_step : (id j : ℕ) → s < k.sessions → j ≡ taken_word s number → Allows (Ruled k) slots id me3 j (λ n. n) (HandBackTells (step slots j 0 0 none) me3)
      hand_back_step id j here lane =
          let items : length (library_session (lost_knows r) s).items ≡ length ls.items = ap (λ (x : LibrarySession). length x.items) same_items in
          let same : me3 ≡ (library_view k (lost_knows r), (slot_of k.libraries s l.number (length (library_session (lost_knows r) s).items), None) ∷ []) =
          empty_slot ∙ ap (λ (n : ℕ). (library_view k (lost_knows r), (n, None) ∷ [])) (place_is ∙ ap (λ (n : ℕ). slot_of k.libraries s l.number n) (sym items)) in
          let lane' : j ≡ taken_word s l.number = lane ∙ ap (taken_word s) is.number_is in
          subst (λ (z : Seated × ℕ). Allows (Ruled k) slots id z.0 z.1 (λ n. n) (HandBackTells (step slots z.1 0 0 none) z.0)) (λ j. (sym same j, sym lane' j))
          (hands_back_at k id (lost_knows r) s here slots is.filling)

      pub hand_back_failed : (j x : ℕ) (me4 : Seated) → HandBackTells (step slots j 0 0 none) me3 x me4 → HasFailed k s number r me me4
      hand_back_failed j x me4 tells = (tells ∙ ap (λ (m : Seated). (library_view m.0.shape (with_sending (first_library m.0.libraries) 0), [])) empty_slot, (commit_lost other).1)
