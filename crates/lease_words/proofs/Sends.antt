-- The steps of a send keep the rule.
use Rattle.std.proofs.Common.{◌≡◌, ◌≢◌, ℕ, suc, ◌+◌, ◌^◌, ◌<◌, ◌≤◌, List, [], ◌∷◌, ◌++◌, length, get_or, set, Bool, true, false, eqb, Option, Some, None, refl, sym, ap, ◌∙◌, subst, inl, arith, eq-eqb, ne_eqb, length-append}
use Rattle.std.specs.Prelude.{MatchBool, ◌==◌, ◌||◌}
use Rattle.std.proofs.lemmas.Bool.{eqb-true, eqb-false}
use Rattle.std.proofs.lemmas.List.{set-get_or}
use mathlib.Core.Option.{none, some}
use lib.ListN.{get_elem?}
use prog.Atomic.{either}
use Rattle.atomic_table.specs.Table.{Act, step, keeps, takes, gives, stepped, carried_after, Valid, Allows}
use Rattle.lease_core.specs.declared.lease.Ending.{Ending}
use Rattle.lease_core.specs.declared.lease.Line.{Line}
use Rattle.lease_core.specs.declared.word.Standing.TheVariants.{Active}
use Rattle.lease_core.specs.Lines.{word_of, IsShown, shown_owner, standing_of}
use Rattle.lease_core.specs.Word.{word_in, number_of}
use Rattle.lease_words.specs.declared.item.Item.{Item}
use Rattle.lease_words.specs.declared.view.Shape.{Shape}
use Rattle.lease_words.specs.declared.view.LibrarySession.{LibrarySession}
use Rattle.lease_words.specs.declared.view.LibraryKnows.{LibraryKnows}
use Rattle.lease_words.specs.declared.view.View.{View}
use Rattle.lease_words.specs.Layout.{lease_word, taken_word, slot_of}
use Rattle.lease_words.specs.Leases.{AreLines, held_lease, held_count, with_one_send, IsLineOf, FitsHeir}
use Rattle.lease_words.specs.Sees.{after_send, after_loss, with_sending, after_taken_load}
use Rattle.lease_words.specs.Facts.{Lane, Session, IsLane, LibraryFits, one_if}
use Rattle.lease_words.specs.Views.{base_of, library_session, no_library_session, with_library_session, library_view}
use Rattle.lease_words.specs.Rule.{Ruled, LibraryKnowsSo, SlotsFit}
use Rattle.lease_words.specs.Tells.{HasLost, HasSent, HasFoundTaken, is_refused, ClaimOf, CommitOf, Seated, ClaimTells, CommitTells, HandBackTells, held_word}
use Rattle.lease_words.proofs.Lines.{GoesOn, shown_on, word_of_push, word_parts, total_small, words_shown}
use Rattle.lease_words.proofs.Lanes.{lane_sent}
use Rattle.lease_words.proofs.Places.{session-lease_word, session-taken_word, slot_within, slots_filled, slots_unused, slots_claim}
use Rattle.lease_words.proofs.Seats.{each_map}
use Rattle.lease_words.proofs.LibraryHolds.{HasLast, held_number, next_number, counted_word, counted_count}
use Rattle.lease_words.proofs.LibrarySteps.{Table, Keeps, SlotsKept, fits_with, lines_stay, lines_move, stays_rule, word_rule, slots_same, slots_change, lost_rule, has_lost, ends_there, last_there}

-- a slot that is out for one session is out for no other, and none is out for another once it came back
out_else : (sending s i : ℕ) → sending ≡ suc s → i ≢ s → one_if (sending == suc i) ≡ one_if (0 == suc i)
out_else sending s i is other = ap one_if (ne_eqb sending (suc i) (λ e. other (omega arith)) ∙ sym (ne_eqb 0 (suc i) (λ e. omega arith)))

out_here : (sending s : ℕ) → sending ≡ suc s → one_if (sending == suc s) ≡ 1
out_here sending s is = ap one_if (eq-eqb sending (suc s) is)

none_out : (i : ℕ) → 0 ≡ one_if (0 == suc i)
none_out i = ap one_if (sym (ne_eqb 0 (suc i) (λ e. omega arith)))

-- a send that isn't refused has room
has_room : (size taken depth : ℕ) (spent : Bool) → size ≤ taken + depth → ((size == taken + depth) || spent) ≡ false → size < taken + depth
has_room size taken depth spent within allowed = let other : size ≢ taken + depth = λ e. eqb-false size (taken + depth) (or_left (size == taken + depth) spent allowed) e in omega arith
  where
    or_left : (x y : Bool) → (x || y) ≡ false → x ≡ false
    or_left true y e = e
    or_left false y e = refl

module _ (k : Shape) (id : ℕ) (l : LibraryKnows) (s : ℕ) (here : s < k.sessions) where
  abbrev mine : LibrarySession
  mine = library_session l s

  module _ (st : Table) (q : Ruled k st) (at : get_elem? st.views id ≡ some (library_view k l)) where
    abbrev z : Session
    z = q.truth.sessions s

    abbrev lane : Lane
    lane = z.lanes l.number

    abbrev found : ℕ
    found = get_or st.words (lease_word s) 0

    so : LibraryKnowsSo k q.truth id l
    so = (q.views id (library_view k l) at).libraries.0

    fits : LibraryFits k.sends l.number l.sending s z mine
    fits = so.sessions s here

    own : IsLane (base_of k s) k.depth z.lines l.number lane
    own = (q.sessions s here).lanes l.number so.from_one so.to_last

    number_few : l.number ≤ 16
    number_few = let a = so.to_last in let b = q.shape.libraries in omega arith

    -- the next slot lies in the table
    next_within : slot_of k.libraries s l.number (length lane.items) < length st.homes
    next_within = subst (λ (n : ℕ). slot_of k.libraries s l.number (length lane.items) < n) (sym q.slots) (slot_within k.sessions k.libraries s l.number (length lane.items) here so.from_one so.to_last)

    module _ (fills : l.sending ≡ suc s) where
      full : lane.filling ≡ 1
      full = fits.out ∙ out_here l.sending s fills

      next_room : length lane.items < lane.taken + 16
      next_room = let w = own.within in let d = q.shape.depth in let f = full in omega arith

      -- the word with one send more
      module _ (item : Item) (new : ℕ) (held : 0 < held_lease mine.leases) (room : held_count mine.leases < k.sends)
          (reads : word_in new ≡ record { lease = held_lease mine.leases; owner = l.number; standing = Active; count = held_count mine.leases + 1 }) (f : HasLast z.lines l.number lane) where
        abbrev line_on : Line
        line_on = record { library = f.line.library; sends = f.line.sends + 1; ending = f.line.ending }

        abbrev lane_longer : Lane
        lane_longer = record { leases = with_one_send lane.leases; items = lane.items ++ item ∷ []; taken = lane.taken; filling = 0; emptying = lane.emptying }

        count_is : held_count mine.leases ≡ f.line.sends
        count_is = ap held_count fits.leases ∙ sym f.sends

        sent_reads : word_in new ≡ word_of (f.front ++ line_on ∷ [])
        sent_reads =
            let lease : held_lease mine.leases ≡ suc (length f.front) = ap held_lease fits.leases ∙ f.lease in
            let named : shown_owner f.line.ending f.line.library ≡ l.number = ap (λ (e : Ending). shown_owner e f.line.library) f.ran ∙ f.whose in
            reads ∙ ((λ i. record { lease = lease i; owner = sym named i; standing = standing_of (sym f.ran i); count = count_is i + 1 }) ∙ sym (word_of_push f.front line_on))

        sent_known : (libraries : ℕ) → k.libraries ≤ libraries → IsLineOf libraries line_on
        sent_known libraries more =
            let a = so.from_one in
            let b = so.to_last in
            let w = f.whose in
            let n = count_is in
            let few = q.shape.sends in
            record {
              from_one = omega arith;
              to_last = omega arith;
              few = omega arith;
              heir = subst (FitsHeir libraries f.line.library) (sym f.ran) tt;
            }

        sent_keeps : Keeps k q.truth l s (f.front ++ line_on ∷ []) lane_longer (after_send mine (item ∷ []) (word_in new)) 0
        sent_keeps =
            let on : GoesOn f.line line_on = record { ran = f.ran; whose = refl; more = omega arith } in
            let are : AreLines (base_of k s) k.libraries (f.front ++ f.line ∷ []) = subst (AreLines (base_of k s) k.libraries) f.lines_are (q.sessions s here).are_lines in
            let more = counted_count mine.leases held in
            lines_move k id l s here st q at f.front f.line line_on lane_longer (after_send mine (item ∷ []) (word_in new)) 0 f.lines_are f.whose on (inl f.ran) (sent_known 16 q.shape.libraries) (sent_known k.libraries (omega arith))
            (lane_sent (base_of k s) k.libraries k.depth f.front f.line l.number item lane are f.ran f.whose f.lease full (subst (λ ls. IsLane (base_of k s) k.depth ls l.number lane) f.lines_are own))
            (item ∷ [], refl) refl refl
            (fits_with k.sends 0 s l z (f.front ++ line_on ∷ []) lane_longer (after_send mine (item ∷ []) (word_in new)) (ap with_one_send fits.leases) (ap (λ ls. ls ++ item ∷ []) fits.items) (none_out s) (
              subst (IsShown (f.front ++ line_on ∷ [])) (sym sent_reads) (words_shown (f.front ++ line_on ∷ [])),
              each_map (λ w shown. shown_on f.front f.line line_on w on (subst (λ ls. IsShown ls w) f.lines_are shown)) mine.words fits.words,
            )
            fits.taken fits.published (omega arith))
            (λ i other. out_else l.sending s i fills other)

        sent_slots : SlotsKept k q.truth l s lane_longer (set st.homes (slot_of k.libraries s l.number (length mine.items)) (some (Some item)))
        sent_slots = subst (λ (ls : List Item). SlotsKept k q.truth l s lane_longer (set st.homes (slot_of k.libraries s l.number (length ls)) (some (Some item)))) (sym fits.items)
            (slots_change k id l s here st q at lane_longer (length lane.items) (some (Some item))
            (slots_filled k st.homes s l.number so.from_one so.to_last item lane lane_longer full own.behind next_room next_within refl refl refl refl (q.lanes s l.number here so.from_one so.to_last)))

        sent_rule : Ruled k (stepped st (lease_word s) new id ((slot_of k.libraries s l.number (length mine.items), Some item) ∷ []) (library_view k (with_sending (with_library_session l s (after_send mine (item ∷ []) (word_in new))) 0)) gives)
        sent_rule = word_rule k id l s here st q at (f.front ++ line_on ∷ []) lane_longer (after_send mine (item ∷ []) (word_in new)) 0 sent_keeps new (set st.homes (slot_of k.libraries s l.number (length mine.items)) (some (Some item))) sent_reads sent_slots

      -- the slot came back empty
      abbrev lane_back : Lane
      lane_back = record { leases = lane.leases; items = lane.items; taken = lane.taken; filling = 0; emptying = lane.emptying }

      back_keeps : Keeps k q.truth l s z.lines lane_back mine 0
      back_keeps = lines_stay k id l s here st q at lane_back mine 0
          (record { stands = own.stands; latest = own.latest; others = own.others; all = own.all; behind = own.behind; within = let w = own.within in omega arith })
          refl refl refl
          (fits_with k.sends 0 s l z z.lines lane_back mine fits.leases fits.items (none_out s) fits.words fits.taken fits.published fits.few)
          (λ i other. out_else l.sending s i fills other)

      back_slots : SlotsKept k q.truth l s lane_back (set st.homes (slot_of k.libraries s l.number (length mine.items)) (some None))
      back_slots = subst (λ (ls : List Item). SlotsKept k q.truth l s lane_back (set st.homes (slot_of k.libraries s l.number (length ls)) (some None))) (sym fits.items)
          (slots_change k id l s here st q at lane_back (length lane.items) (some None)
          (slots_unused k st.homes s l.number so.from_one so.to_last lane lane_back full own.behind next_room next_within refl refl refl refl (q.lanes s l.number here so.from_one so.to_last)))

      back_rule : Ruled k (stepped st (taken_word s l.number) (get_or st.words (taken_word s l.number) 0) id ((slot_of k.libraries s l.number (length mine.items), None) ∷ []) (library_view k (with_sending l 0)) gives)
      back_rule =
          subst (λ (ss : List LibrarySession). Ruled k (stepped st (taken_word s l.number) (get_or st.words (taken_word s l.number) 0) id ((slot_of k.libraries s l.number (length mine.items), None) ∷ [])
          (library_view k record { number = l.number; sessions = ss; beats = l.beats; sending = 0 }) gives))
          (set-get_or l.sessions s no_library_session)
          (stays_rule k id l s here st q at z.lines lane_back mine 0 back_keeps (taken_word s l.number) (set st.homes (slot_of k.libraries s l.number (length mine.items)) (some None)) refl back_slots)

      -- what the exchange of a send owes
      abbrev carried : Item → List (ℕ × Option Item)
      carried item = (slot_of k.libraries s l.number (length mine.items), Some item) ∷ []

      abbrev Commits : Item → ℕ → Bool → Type 0
      Commits item new b =
          (v : View) × (a : Act (Option Item)) × Valid st.homes (carried item) a × Ruled k (stepped st (lease_word s) (either b new found) id (carried item) v a)
          × MatchBool b
          ((◌≡◌ {A = Seated} (v, carried_after (carried item) a) (library_view k (with_sending (with_library_session l s (after_send mine (item ∷ []) (word_in new))) 0), [])) × HasSent l.number mine (item ∷ []) new)
          ((◌≡◌ {A = Seated} (v, carried_after (carried item) a) (library_view k (with_library_session l s (after_loss mine (word_in found))), carried item)) × HasLost l.number mine found)

      committed_as : (item : Item) (old new : ℕ) → 0 < held_lease mine.leases → held_count mine.leases < k.sends → old ≡ held_word l.number mine.leases → new ≡ old + 1 → (b : Bool) → eqb found old ≡ b → Commits item new b
      committed_as item old new held room is makes true same =
          let f = last_there k id l s here st q at held (eqb-true found old same ∙ is) in
          let made : new ≡ number_of (record { lease = held_lease mine.leases; owner = l.number; standing = Active; count = held_count mine.leases + 1 }) =
          makes ∙ (ap (λ (n : ℕ). n + 1) (is ∙ held_number l.number mine.leases held) ∙ next_number (held_lease mine.leases) l.number (held_count mine.leases)) in
          let few : held_count mine.leases + 1 < 2 ^ 32 = let n = q.shape.sends in omega arith in
          let low : l.number < 64 = let a = so.to_last in let n = q.shape.libraries in omega arith in
          let reads : word_in new ≡ record { lease = held_lease mine.leases; owner = l.number; standing = Active; count = held_count mine.leases + 1 } =
          ap word_in made ∙ word_parts (record { lease = held_lease mine.leases; owner = l.number; standing = Active; count = held_count mine.leases + 1 }) low few in
          let word : held_word l.number (with_one_send mine.leases) ≡ new = counted_word l.number mine.leases held ∙ sym (makes ∙ ap (λ (n : ℕ). n + 1) is) in
          let size : length (mine.items ++ item ∷ []) ≡ length mine.items + 1 = length-append mine.items (item ∷ []) in
          (library_view k (with_sending (with_library_session l s (after_send mine (item ∷ []) (word_in new))) 0), gives, tt, sent_rule item new held room reads f, (refl, record { numbers = λ i. record { word = word i; committed = size i } }))
      committed_as item old new held room is makes false other =
          let ends = ends_there k id l s here st q at held (λ e. eqb-false found old other (e ∙ sym is)) in
          (library_view k (with_library_session l s (after_loss mine (word_in found))), keeps, tt, lost_rule k id l s here st q at ends, (refl, has_lost k id l s here st q at ends))

    -- the load of a send
    module _ (rests : l.sending ≡ 0) where
      abbrev taken : ℕ
      taken = get_or st.words (taken_word s l.number) 0

      taken_is : taken ≡ lane.taken
      taken_is = q.words.taken s l.number here so.from_one so.to_last

      empty : lane.filling ≡ 0
      empty = fits.out ∙ (ap (λ (n : ℕ). one_if (n == suc s)) rests ∙ sym (none_out s))

      told : HasFoundTaken k mine taken
      told =
          let is = taken_is in
          let size : length mine.items ≡ length lane.items = ap length fits.items in
          let small = total_small (base_of k s) k.libraries l.number z.lines (q.sessions s here).are_lines in
          let all = own.all in
          let behind = own.behind in
          let within = own.within in
          let later = fits.taken in
          record { later = omega arith; behind = omega arith; within = omega arith; few = omega arith; spent = fits.few }

      abbrev after : LibrarySession
      after = after_taken_load mine taken

      refused_rule : Ruled k (stepped st (taken_word s l.number) taken id [] (library_view k (with_library_session l s after)) keeps)
      refused_rule = stays_rule k id l s here st q at z.lines lane after l.sending
          (lines_stay k id l s here st q at lane after l.sending own refl refl refl
          (fits_with k.sends l.sending s l z z.lines lane after fits.leases fits.items fits.out fits.words (let is = taken_is in omega arith) fits.published fits.few)
          (λ _ _. refl))
          (taken_word s l.number) st.homes refl (slots_same k id l s here st q at lane refl refl refl refl)

      abbrev lane_out : Lane
      lane_out = record { leases = lane.leases; items = lane.items; taken = lane.taken; filling = 1; emptying = lane.emptying }

      module _ (room : length mine.items < taken + k.depth) where
        lane_room : length lane.items < lane.taken + k.depth
        lane_room = let is = taken_is in let size : length mine.items ≡ length lane.items = ap length fits.items in omega arith

        claim_keeps : Keeps k q.truth l s z.lines lane_out after (suc s)
        claim_keeps = lines_stay k id l s here st q at lane_out after (suc s)
            (record { stands = own.stands; latest = own.latest; others = own.others; all = own.all; behind = own.behind; within = let r = lane_room in omega arith })
            refl refl refl
            (fits_with k.sends (suc s) s l z z.lines lane_out after fits.leases fits.items (sym (out_here (suc s) s refl)) fits.words (let is = taken_is in omega arith) fits.published fits.few)
            (λ i other. ap (λ (n : ℕ). one_if (n == suc i)) rests ∙ sym (out_else (suc s) s i refl other))

        claimed : (get_elem? st.homes (slot_of k.libraries s l.number (length lane.items)) ≡ some (some None)) × SlotsFit k (set st.homes (slot_of k.libraries s l.number (length lane.items)) none) s l.number lane_out
        claimed = slots_claim k st.homes s l.number so.from_one so.to_last lane lane_out empty own.behind (let r = lane_room in let d = q.shape.depth in omega arith) refl refl refl refl (q.lanes s l.number here so.from_one so.to_last)

        claim_there : get_elem? st.homes (slot_of k.libraries s l.number (length mine.items)) ≡ some (some None)
        claim_there = subst (λ (ls : List Item). get_elem? st.homes (slot_of k.libraries s l.number (length ls)) ≡ some (some None)) (sym fits.items) claimed.0

        claim_rule : Ruled k (stepped st (taken_word s l.number) taken id [] (library_view k (with_sending (with_library_session l s after) (suc s))) (takes (slot_of k.libraries s l.number (length mine.items)) None))
        claim_rule = stays_rule k id l s here st q at z.lines lane_out after (suc s) claim_keeps (taken_word s l.number) (set st.homes (slot_of k.libraries s l.number (length mine.items)) none) refl
            (subst (λ (ls : List Item). SlotsKept k q.truth l s lane_out (set st.homes (slot_of k.libraries s l.number (length ls)) none)) (sym fits.items) (slots_change k id l s here st q at lane_out (length lane.items) none claimed.1))

      -- what the load owes
      abbrev Claims : Bool → Type 0
      Claims b =
          (v : View) × (a : Act (Option Item)) × Valid st.homes [] a × Ruled k (stepped st (taken_word s l.number) taken id [] v a)
          × (HasFoundTaken k mine taken
          × MatchBool b (◌≡◌ {A = Seated} (v, carried_after [] a) (library_view k (with_library_session l s after), []))
          (◌≡◌ {A = Seated} (v, carried_after [] a) (library_view k (with_sending (with_library_session l s after) (suc s)), (slot_of k.libraries s l.number (length mine.items), None) ∷ [])))

      claimed_as : (b : Bool) → is_refused k (length mine.items) taken (held_count mine.leases) ≡ b → Claims b
      claimed_as true refused = (library_view k (with_library_session l s after), keeps, tt, refused_rule, (told, refl))
      claimed_as false allowed =
          let within = told.within in
          let room = has_room (length mine.items) taken k.depth (held_count mine.leases == k.sends) within allowed in
          (library_view k (with_sending (with_library_session l s after) (suc s)), takes (slot_of k.libraries s l.number (length mine.items)) None, claim_there room, claim_rule room, (told, refl))

  pub claims_at : (slots : ℕ) → l.sending ≡ 0 → Allows (Ruled k) slots id (library_view k l, []) (taken_word s l.number) (λ n. n) (ClaimTells (step slots (taken_word s l.number) 0 0 none) (library_view k l, []))
  claims_at slots rests st q size at small =
      let n : ℕ = get_or st.words (taken_word s l.number) 0 in
      let r = claimed_as st q at rests (is_refused k (length mine.items) n (held_count mine.leases)) refl in
      (r.0, r.1, r.2, r.3, subst (λ (i : ℕ). ClaimOf i (step slots (taken_word s l.number) 0 0 none) (library_view k l, []) n (r.0, carried_after [] r.1)) (sym (session-taken_word s l.number (number_few st q at))) r.4)

  pub commits_at : (slots old new : ℕ) (item : Item) → l.sending ≡ suc s → 0 < held_lease mine.leases → held_count mine.leases < k.sends → old ≡ held_word l.number mine.leases → new ≡ old + 1
      → Allows (Ruled k) slots id (library_view k l, (slot_of k.libraries s l.number (length mine.items), Some item) ∷ []) (lease_word s) (λ n. either (eqb n old) new n)
      (CommitTells (step slots (lease_word s) old new none) (library_view k l, (slot_of k.libraries s l.number (length mine.items), Some item) ∷ []))
  commits_at slots old new item fills held room is makes st q size at small =
      let n : ℕ = get_or st.words (lease_word s) 0 in
      let c : List (ℕ × Option Item) = (slot_of k.libraries s l.number (length mine.items), Some item) ∷ [] in
      let r = committed_as st q at fills item old new held room is makes (eqb n old) refl in
      (r.0, r.1, r.2, r.3, subst (λ (i : ℕ). CommitOf i (step slots (lease_word s) old new none) (library_view k l, c) n (r.0, carried_after c r.1)) (sym (session-lease_word s)) r.4)

  pub hands_back_at : (slots : ℕ) → l.sending ≡ suc s
      → Allows (Ruled k) slots id (library_view k l, (slot_of k.libraries s l.number (length mine.items), None) ∷ []) (taken_word s l.number) (λ n. n)
      (HandBackTells (step slots (taken_word s l.number) 0 0 none) (library_view k l, (slot_of k.libraries s l.number (length mine.items), None) ∷ []))
  hands_back_at slots fills st q size at small = (library_view k (with_sending l 0), gives, tt, back_rule st q at fills, refl)
