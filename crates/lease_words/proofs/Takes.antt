-- The two steps of a take keep the rule.
use Rattle.std.proofs.Common.{◌≡◌, ◌≢◌, ℕ, suc, ◌+◌, ◌-◌, ◌^◌, ◌<◌, ◌≤◌, List, [], ◌∷◌, ◌++◌, length, get_or, set, eqb, Option, Some, None, refl, sym, ap, ◌∙◌, subst, lt_of_not-le, arith, length-set, length-append, eq-eqb, ne_eqb}
use Rattle.std.proofs.lemmas.List.{get_or-set_same, get_or-set_other, set-get_or}
use native.Mathlib.Decide.{ℕ_discrete}
use mathlib.Core.Option as place
use mathlib.Core.List.{IsPrefix}
use mathlib.Core.Option.{none, some, some-injective, some-ne-none}
use lib.ListN.{get_elem?}
use Rattle.atomic_table.specs.Table.{State, Act, step, takes, gives, stepped, carried_after, Valid, Allows}
use Rattle.lease_words.specs.declared.item.Item.{Item}
use Rattle.lease_words.specs.declared.view.Shape.{Shape}
use Rattle.lease_words.specs.declared.view.EngineSession.{EngineSession}
use Rattle.lease_words.specs.declared.view.EngineKnows.{EngineKnows}
use Rattle.lease_words.specs.declared.view.LibraryKnows.{LibraryKnows}
use Rattle.lease_words.specs.declared.view.View.{View}
use Rattle.lease_words.specs.Layout.{lane_at, taken_word, lane_of, slot_of}
use Rattle.lease_words.specs.Leases.{Each, AreLines, IsLineOf, total}
use Rattle.lease_words.specs.Views.{engine_session, with_engine_session, library_session, engine_view, taken_of, last_library, pending, base_of, no_engine_session, shown_sends}
use Rattle.lease_words.specs.Sees.{after_take, with_taking}
use Rattle.lease_words.specs.Facts.{Lane, Session, IsLane, IsSession, KnowsLane, EngineFits, one_if}
use Rattle.lease_words.specs.Rule.{Truth, Ruled, SlotsFit, EngineKnowsSo, LibraryKnowsSo}
use Rattle.lease_words.specs.Tells.{FetchTells, VacateTells, FetchOf, HasTaken, engine_numbers}
use Rattle.lease_core.specs.State.{last_or}
use Rattle.lease_core.specs.Lines.{no_line}
use Rattle.lease_words.proofs.Lines.{total_small}
use Rattle.lease_words.proofs.Totals.{granted_total, granted_none, last_here, follows_grown}
use Rattle.lease_words.proofs.Places.{updated, updated_all, updated_here, updated_else, session-taken_word, lane-taken_word, lanes_apart, slot_within, words_stay, words_taken, slots_else, slots_fetch, slots_emptied}
use Rattle.lease_words.proofs.Seats.{each_map, with_session, ForLibrary, engine_moves}

abbrev Table : Type 0
Table = State (Option Item) View

-- the next item joins a beginning
prefix_next : (xs rest : List Item) (x : Item) → get_elem? (xs ++ rest) (length xs) ≡ some x → IsPrefix (xs ++ x ∷ []) (xs ++ rest)
prefix_next [] [] x e = absurd (some-ne-none x (sym e))
prefix_next [] (y ∷ ys) x e = (ys, λ i. sym (some-injective y x e) i ∷ ys)
prefix_next (y ∷ ys) rest x e = let p = prefix_next ys rest x e in (p.0, ap (λ l. y ∷ l) p.1)

next_prefix : (xs log : List Item) (x : Item) → IsPrefix xs log → get_elem? log (length xs) ≡ some x → IsPrefix (xs ++ x ∷ []) log
next_prefix xs log x p e = subst (IsPrefix (xs ++ x ∷ [])) p.1 (prefix_next xs p.0 x (subst (λ (l : List Item). get_elem? l (length xs) ≡ some x) (sym p.1) e))

-- a slot that is out is of one lane
out_here : (n : ℕ) → 1 ≡ one_if (eqb n n)
out_here n = sym (ap one_if (eq-eqb n n refl))

out_nowhere : (n : ℕ) → one_if (eqb 0 (suc n)) ≡ 0
out_nowhere n = ap one_if (ne_eqb 0 (suc n) (λ e. omega arith))

out_elsewhere : (libraries s library i j : ℕ) → 1 ≤ library → library ≤ libraries → 1 ≤ j → j ≤ libraries → ((s ≡ i) × (library ≡ j) → ⊥) → one_if (eqb (suc (lane_of libraries s library)) (suc (lane_of libraries i j))) ≡ 0
out_elsewhere libraries s library i j one most a b other =
    ap one_if (ne_eqb (suc (lane_of libraries s library)) (suc (lane_of libraries i j)) (λ e. other (lanes_apart libraries s library i j one most a b (suc_same (lane_of libraries s library) (lane_of libraries i j) e))))
  where
    suc_same : (x y : ℕ) → suc x ≡ suc y → x ≡ y
    suc_same x y e = omega arith

-- another lane's slot is out than this session's, or none
retaken : (libraries base taking taking' s : ℕ) (t : Session) (es : EngineSession) → ((j : ℕ) → 1 ≤ j → j ≤ libraries → one_if (eqb taking (suc (lane_of libraries s j))) ≡ one_if (eqb taking' (suc (lane_of libraries s j))))
    → EngineFits libraries base taking s t es → EngineFits libraries base taking' s t es
retaken libraries base taking taking' s t es same fits = record {
  based = fits.based;
  lines = fits.lines;
  words = fits.words;
  published = fits.published;
  count = fits.count;
  lanes = λ j a b. let kl = fits.lanes j a b in record { begins = kl.begins; count = kl.count; out = kl.out ∙ same j a b };
  untaken = fits.untaken;
}

-- the engine's seat takes from another lane, and knows one session otherwise
taking_mine : (k : Shape) (t : Truth) (s : ℕ) (x : Session) (seat : ℕ) (e : EngineKnows) (es : EngineSession) (taking : ℕ) → s < k.sessions → EngineFits k.libraries (base_of k s) taking s x es
    → ((i j : ℕ) → i ≢ s → 1 ≤ j → j ≤ k.libraries → one_if (eqb e.taking (suc (lane_of k.libraries i j))) ≡ one_if (eqb taking (suc (lane_of k.libraries i j))))
    → EngineKnowsSo k t seat e → EngineKnowsSo k (with_session t s x) seat (with_taking (with_engine_session e s es) taking)
taking_mine k t s x seat e es taking below fits same so = record {
  here = so.here;
  count = length-set e.sessions s es ∙ so.count;
  sessions = updated_all (λ i (y : Session). i < k.sessions → EngineFits k.libraries (base_of k i) taking i y (get_or (set e.sessions s es) i no_engine_session)) t.sessions s x
      (λ _. subst (EngineFits k.libraries (base_of k s) taking s x) (sym (get_or-set_same e.sessions s es no_engine_session (subst (λ n. s < n) (sym so.count) below))) fits)
      (λ i other near. subst (EngineFits k.libraries (base_of k i) taking i (t.sessions i)) (sym (get_or-set_other e.sessions s i es no_engine_session other))
      (retaken k.libraries (base_of k i) e.taking taking i (t.sessions i) (engine_session e i) (λ j a b. same i j other a b) (so.sessions i near)));
  beats = so.beats;
  heard = so.heard;
}

-- one lane of a session changed
module _ (k : Shape) (s library : ℕ) (one : 1 ≤ library) (most : library ≤ k.libraries) where
  abbrev with_lane : Session → Lane → Session
  with_lane t y = record { lines = t.lines; shown = t.shown; published = t.published; lanes = updated t.lanes library y }

  lane_so : (t : Session) (y : Lane) → IsSession (base_of k s) k.libraries k.depth t → IsLane (base_of k s) k.depth t.lines library y → IsSession (base_of k s) k.libraries k.depth (with_lane t y)
  lane_so t y so is = record {
    are_lines = so.are_lines;
    are_shown = so.are_shown;
    follows = so.follows;
    lanes = updated_all (λ i (z : Lane). 1 ≤ i → i ≤ k.libraries → IsLane (base_of k s) k.depth t.lines i z) t.lanes library y (λ a b. is) (λ i other a b. so.lanes i a b);
  }

  lane_for : (t : Session) (y : Lane) → y.leases ≡ (t.lanes library).leases → y.items ≡ (t.lanes library).items → y.filling ≡ (t.lanes library).filling → (t.lanes library).taken ≤ y.taken → (i : ℕ) → ForLibrary i t (with_lane t y)
  lane_for t y leases items filling taken i = record {
    leases = updated_all (λ j (z : Lane). z.leases ≡ (t.lanes j).leases) t.lanes library y leases (λ j other. refl) i;
    items = updated_all (λ j (z : Lane). z.items ≡ (t.lanes j).items) t.lanes library y items (λ j other. refl) i;
    filling = updated_all (λ j (z : Lane). z.filling ≡ (t.lanes j).filling) t.lanes library y filling (λ j other. refl) i;
    taken = updated_all (λ j (z : Lane). (t.lanes j).taken ≤ z.taken) t.lanes library y taken (λ j other. omega arith) i;
    published = omega arith;
    words = λ w h. h;
  }

  -- the slots of other lanes stay
  lanes_fit : (homes : List (place.Option (Option Item))) (t : ℕ → Session) (y : Lane) (p : ℕ) (z : place.Option (Option Item))
      → ((i j : ℕ) → i < k.sessions → 1 ≤ j → j ≤ k.libraries → SlotsFit k homes i j ((t i).lanes j)) → SlotsFit k (set homes (slot_of k.libraries s library p) z) s library y
      → (i j : ℕ) → i < k.sessions → 1 ≤ j → j ≤ k.libraries → SlotsFit k (set homes (slot_of k.libraries s library p) z) i j ((updated t s (with_lane (t s) y) i).lanes j)
  lanes_fit homes t y p z fit new i j = updated_all (λ i (x : Session). i < k.sessions → 1 ≤ j → j ≤ k.libraries → SlotsFit k (set homes (slot_of k.libraries s library p) z) i j (x.lanes j)) t s (with_lane (t s) y)
      (λ below a b. updated_all (λ j (l : Lane). 1 ≤ j → j ≤ k.libraries → SlotsFit k (set homes (slot_of k.libraries s library p) z) s j l) (t s).lanes library y (λ c d. new)
      (λ j other c d. slots_else k homes s j c d s library p z ((t s).lanes j) one most (λ h. other h.1) (fit s j below c d)) j a b)
      (λ i other below a b. slots_else k homes i j a b s library p z ((t i).lanes j) one most (λ h. other h.0) (fit i j below a b)) i

-- What is so as the engine takes an item of the last lease's library
module _ (k : Shape) (e : EngineKnows) (s library : ℕ) (here : s < k.sessions) (t : Session) (so : IsSession (base_of k s) k.libraries k.depth t)
    (fits : EngineFits k.libraries (base_of k s) e.taking s t (engine_session e s)) where
  abbrev of_engine : EngineSession
  of_engine = engine_session e s

  -- where something waits, there is a lease
  some_lease : 0 < pending of_engine → base_of k s < length of_engine.lines
  some_lease more = lt_of_not-le (λ low.
      let none_shown : shown_sends of_engine (last_library of_engine) ≡ 0 = ap (total (last_library of_engine)) (granted_none of_engine.base of_engine.lines (subst (λ b. length of_engine.lines ≤ b) (sym fits.based) low)) in
      omega arith)

  of_last : 0 < pending of_engine → IsLineOf k.libraries (last_or no_line of_engine.lines)
  of_last more = last_here (base_of k s) k.libraries of_engine.lines (subst (AreLines (base_of k s) k.libraries) (sym fits.lines) so.are_shown) (some_lease more)

  shown_sent : (i : ℕ) → 1 ≤ i → i ≤ k.libraries → shown_sends of_engine i ≤ length (t.lanes i).items
  shown_sent i a b =
      let g = follows_grown (base_of k s) k.libraries i t.shown t.lines so.are_shown so.follows in
      let was : shown_sends of_engine i ≡ granted_total (base_of k s) i t.shown = λ j. granted_total (fits.based j) i (fits.lines j) in
      let more : granted_total (base_of k s) i t.shown ≤ granted_total (base_of k s) i t.lines = g.more in
      let all : length (t.lanes i).items ≡ granted_total (base_of k s) i t.lines = (so.lanes i a b).all in
      omega arith

  few_items : (i : ℕ) → 1 ≤ i → i ≤ k.libraries → length (t.lanes i).items < 2 ^ 56
  few_items i a b =
      let all : length (t.lanes i).items ≡ granted_total (base_of k s) i t.lines = (so.lanes i a b).all in
      let small : granted_total (base_of k s) i t.lines < 2 ^ 56 = total_small (base_of k s) k.libraries i t.lines so.are_lines in
      omega arith

  module _ (one : 1 ≤ library) (most : library ≤ k.libraries) where
    abbrev lane : Lane
    lane = t.lanes library

    abbrev taken_before : List Item
    taken_before = taken_of of_engine library

    -- a slot of the lane goes out
    abbrev lane_out : Lane
    lane_out = record { leases = lane.leases; items = lane.items; taken = lane.taken; filling = lane.filling; emptying = 1 }

    abbrev fetched : Session
    fetched = with_lane k s library one most t lane_out

    none_out : e.taking ≡ 0 → lane.emptying ≡ 0
    none_out rests = (fits.lanes library one most).out ∙ ap (λ (n : ℕ). one_if (eqb n (suc (lane_of k.libraries s library)))) rests ∙ out_nowhere (lane_of k.libraries s library)

    taken_is : e.taking ≡ 0 → length taken_before ≡ lane.taken
    taken_is rests = let c = (fits.lanes library one most).count in let n = none_out rests in omega arith

    pending_is : library ≡ last_library of_engine → pending of_engine ≡ shown_sends of_engine library - length taken_before
    pending_is whose = ap (λ (i : ℕ). shown_sends of_engine i - length (taken_of of_engine i)) (sym whose)

    more_shown : library ≡ last_library of_engine → 0 < pending of_engine → length taken_before < shown_sends of_engine library
    more_shown whose more = let p = pending_is whose in omega arith

    more_items : e.taking ≡ 0 → library ≡ last_library of_engine → 0 < pending of_engine → lane.taken < length lane.items
    more_items rests whose more = let a = taken_is rests in let b = more_shown whose more in let c = shown_sent library one most in omega arith

    fetched_so : e.taking ≡ 0 → library ≡ last_library of_engine → 0 < pending of_engine → IsSession (base_of k s) k.libraries k.depth fetched
    fetched_so rests whose more =
        let il = so.lanes library one most in
        let n = more_items rests whose more in
        lane_so k s library one most t lane_out so (record { stands = il.stands; latest = il.latest; others = il.others; all = il.all; behind = omega arith; within = il.within })

    taken_here : (xs : List Item) → get_or (set of_engine.taken (library - 1) xs) (library - 1) [] ≡ xs
    taken_here xs = get_or-set_same of_engine.taken (library - 1) xs [] (let n = fits.count in omega arith)

    taken_else : (xs : List Item) (i : ℕ) → 1 ≤ i → i ≢ library → get_or (set of_engine.taken (library - 1) xs) (i - 1) [] ≡ taken_of of_engine i
    taken_else xs i a other = get_or-set_other of_engine.taken (library - 1) (i - 1) xs [] (λ same. other (omega arith))

    longer : (item : Item) → length (taken_before ++ item ∷ []) ≡ length taken_before + 1
    longer item = length-append taken_before (item ∷ [])

    fetched_fits : (item : Item) → e.taking ≡ 0 → library ≡ last_library of_engine → 0 < pending of_engine → get_elem? lane.items lane.taken ≡ some item
        → EngineFits k.libraries (base_of k s) (suc (lane_of k.libraries s library)) s fetched (after_take of_engine library (item ∷ []))
    fetched_fits item rests whose more next =
        let kl = fits.lanes library one most in
        let after : List Item = taken_before ++ item ∷ [] in
        let long = longer item in
        let at = taken_is rests in
        record {
          based = fits.based;
          lines = fits.lines;
          words = fits.words;
          published = fits.published;
          count = length-set of_engine.taken (library - 1) after ∙ fits.count;
          lanes = updated_all (λ i (y : Lane). 1 ≤ i → i ≤ k.libraries → KnowsLane k.libraries (suc (lane_of k.libraries s library)) s i y (get_or (set of_engine.taken (library - 1) (taken_before ++ item ∷ [])) (i - 1) [])) t.lanes library
              lane_out
              (λ a b. subst (KnowsLane k.libraries (suc (lane_of k.libraries s library)) s library lane_out) (sym (taken_here after)) (record {
                begins = next_prefix taken_before lane.items item kl.begins (subst (λ (n : ℕ). get_elem? lane.items n ≡ some item) (sym at) next);
                count = omega arith;
                out = out_here (suc (lane_of k.libraries s library));
              }))
              (λ i other a b. subst (KnowsLane k.libraries (suc (lane_of k.libraries s library)) s i (t.lanes i)) (sym (taken_else after i a other)) (
              let known = fits.lanes i a b in record {
                begins = known.begins;
                count = known.count;
                out = known.out ∙ (ap (λ (n : ℕ). one_if (eqb n (suc (lane_of k.libraries s i)))) rests ∙ out_nowhere (lane_of k.libraries s i) ∙ sym (out_elsewhere k.libraries s library s i one most a b (λ h. other (sym h.1))));
              }));
          untaken = λ i a b. elim (ℕ_discrete i library) [
            | yes same ↦
                subst (λ (j : ℕ). (length (get_or (set of_engine.taken (library - 1) (taken_before ++ item ∷ [])) (j - 1) []) ≤ shown_sends of_engine j) × (j ≢ last_library of_engine → length (get_or (set of_engine.taken (library - 1) (taken_before ++ item ∷ [])) (j - 1) []) ≡ shown_sends of_engine j)) (sym same)
                (let n : length (get_or (set of_engine.taken (library - 1) (taken_before ++ item ∷ [])) (library - 1) []) ≡ length (taken_before ++ item ∷ []) = ap length (taken_here after) in let m = more_shown whose more in omega arith, λ other. absurd (other whose))
            | no other ↦
                subst (λ (l : List Item). (length l ≤ shown_sends of_engine i) × (i ≢ last_library of_engine → length l ≡ shown_sends of_engine i)) (sym (taken_else after i a other)) (fits.untaken i a b)
          ];
        }

    -- what the fetch tells
    fetched_told : (truth : Truth) (item : Item) (r : ℕ) (seat : ℕ) (ls : List LibraryKnows) → truth.sessions s ≡ t → e.taking ≡ 0 → library ≡ last_library of_engine → 0 < pending of_engine → get_elem? lane.items lane.taken ≡ some item
        → r ≡ lane.taken → Each (LibraryKnowsSo k truth seat) ls → HasTaken k.libraries s of_engine library r item ls
    fetched_told truth item r seat ls is rests whose more next at known =
        let long = longer item in
        let n = taken_is rests in
        let m = more_items rests whose more in
        let few = few_items library one most in
        let after : List Item = taken_before ++ item ∷ [] in
        let new = fetched_fits item rests whose more next in
        record {
          from_one = one;
          to_last = most;
          count = omega arith;
          longer = ap length (taken_here after) ∙ omega (arith, length-append taken_before (item ∷ []));
          few = omega arith;
          others = new.untaken;
          settled = each_map (λ (l : LibraryKnows) (h : LibraryKnowsSo k truth seat l).
              let items : (library_session l s).items ≡ (t.lanes l.number).items = (h.sessions s here).items ∙ ap (λ (x : Session). (x.lanes l.number).items) is in
              let same : (fetched.lanes l.number).items ≡ (t.lanes l.number).items = updated_all (λ j (z : Lane). z.items ≡ (t.lanes j).items) t.lanes library lane_out refl (λ j other. refl) l.number in
              subst (IsPrefix (taken_of (after_take of_engine library (item ∷ [])) l.number)) (same ∙ sym items) (new.lanes l.number h.from_one h.to_last).begins) ls known;
          numbers = ap (λ (p : ℕ). record { lease = (engine_numbers of_engine).lease; library = (engine_numbers of_engine).library; count = (engine_numbers of_engine).count; pending = p }) (
              let was = pending_is whose in
              let now : pending (after_take of_engine library (item ∷ [])) ≡ shown_sends of_engine library - length (taken_before ++ item ∷ []) =
              ap (λ (i : ℕ). shown_sends of_engine i - length (get_or (set of_engine.taken (library - 1) (taken_before ++ item ∷ [])) (i - 1) [])) (sym whose) ∙ ap (λ (l : List Item). shown_sends of_engine library - length l) (taken_here after) in
              omega arith);
        }

    -- the slot comes back
    abbrev lane_back : Lane
    lane_back = record { leases = lane.leases; items = lane.items; taken = lane.taken + 1; filling = lane.filling; emptying = 0 }

    abbrev vacated : Session
    vacated = with_lane k s library one most t lane_back

    module _ (takes_it : e.taking ≡ suc (lane_of k.libraries s library)) where
      one_out : lane.emptying ≡ 1
      one_out = (fits.lanes library one most).out ∙ (ap (λ (n : ℕ). one_if (eqb n (suc (lane_of k.libraries s library)))) takes_it ∙ sym (out_here (suc (lane_of k.libraries s library))))

      vacated_so : IsSession (base_of k s) k.libraries k.depth vacated
      vacated_so =
          let il = so.lanes library one most in
          let n = one_out in
          let behind : lane.taken + lane.emptying ≤ length lane.items = il.behind in
          let within : length lane.items + lane.filling ≤ lane.taken + k.depth = il.within in
          lane_so k s library one most t lane_back so (record { stands = il.stands; latest = il.latest; others = il.others; all = il.all; behind = omega arith; within = omega arith })

      elsewhere_out : (i j : ℕ) → 1 ≤ j → j ≤ k.libraries → ((s ≡ i) × (library ≡ j) → ⊥) → one_if (eqb e.taking (suc (lane_of k.libraries i j))) ≡ one_if (eqb 0 (suc (lane_of k.libraries i j)))
      elsewhere_out i j a b other =
          ap (λ (n : ℕ). one_if (eqb n (suc (lane_of k.libraries i j)))) takes_it ∙ (out_elsewhere k.libraries s library i j one most a b other ∙ sym (out_nowhere (lane_of k.libraries i j)))

      vacated_fits : EngineFits k.libraries (base_of k s) 0 s vacated of_engine
      vacated_fits =
          let n = one_out in
          let kl = fits.lanes library one most in
          let count : length taken_before ≡ lane.taken + lane.emptying = kl.count in
          record {
            based = fits.based;
            lines = fits.lines;
            words = fits.words;
            published = fits.published;
            count = fits.count;
            lanes = updated_all (λ i (y : Lane). 1 ≤ i → i ≤ k.libraries → KnowsLane k.libraries 0 s i y (taken_of of_engine i)) t.lanes library lane_back
                (λ a b. record { begins = kl.begins; count = omega arith; out = sym (out_nowhere (lane_of k.libraries s library)) })
                (λ i other a b. let known = fits.lanes i a b in record { begins = known.begins; count = known.count; out = known.out ∙ elsewhere_out s i a b (λ h. other (sym h.1)) });
            untaken = fits.untaken;
          }

module _ (k : Shape) (id : ℕ) (e : EngineKnows) (ls : List LibraryKnows) (s : ℕ) (here : s < k.sessions) where
  abbrev mine : EngineSession
  mine = engine_session e s

  -- what a take's load owes, with the session and the library
  abbrev Fetched : ℕ → ℕ → Table → Type 0
  Fetched slots library st =
      let r = get_or st.words (taken_word s library) 0 in
      (w : View) × (a : Act (Option Item)) × Valid st.homes [] a × Ruled k (stepped st (taken_word s library) r id [] w a)
      × FetchOf s library (step slots (taken_word s library) 0 0 none) (engine_view k e ls, []) r (w, carried_after [] a)

  fetched_by : (slots library : ℕ) → e.taking ≡ 0 → library ≡ last_library mine → 0 < pending mine → 1 ≤ library → library ≤ k.libraries
      → (st : Table) (q : Ruled k st) → get_elem? st.views id ≡ some (engine_view k e ls) → Fetched slots library st
  fetched_by slots library rests whose more one most st q at =
      let truth = q.truth in
      let t = truth.sessions s in
      let me = q.views id (engine_view k e ls) at in
      let mine_so = me.engine refl in
      let fits = mine_so.sessions s here in
      let so = q.sessions s here in
      let r : ℕ = get_or st.words (taken_word s library) 0 in
      let is : r ≡ (t.lanes library).taken = q.words.taken s library here one most in
      let x = fetched k e s library here t so fits one most in
      let y = lane_out k e s library here t so fits one most in
      let il = so.lanes library one most in
      let depth = q.shape.depth in
      let f = slots_fetch k st.homes s library one most (t.lanes library) y (none_out k e s library here t so fits one most rests) (more_items k e s library here t so fits one most rests whose more)
      (omega arith) refl refl refl refl (q.lanes s library here one most) in
      let item : Item = f.0 in
      let taking : ℕ = suc (lane_of k.libraries s library) in
      let e' : EngineKnows = with_taking (with_engine_session e s (after_take mine library (item ∷ []))) taking in (
        engine_view k e' ls,
        takes (slot_of k.libraries s library r) (Some item),
        subst (λ (p : ℕ). get_elem? st.homes (slot_of k.libraries s library p) ≡ some (some (Some item))) (sym is) f.2,
        record {
          truth = with_session truth s x;
          shape = q.shape;
          sessions = updated_all (λ i (z : Session). i < k.sessions → IsSession (base_of k i) k.libraries k.depth z) truth.sessions s x
              (λ below. fetched_so k e s library here t so fits one most rests whose more)
              (λ i other below. q.sessions i below);
          words = words_stay k st.words truth q.shape q.words (with_session truth s x) (taken_word s library) (record {
            lines = λ i a. updated_all (λ i (z : Session). z.lines ≡ (truth.sessions i).lines) truth.sessions s x refl (λ i other. refl) i;
            published = λ i a. updated_all (λ i (z : Session). z.published ≡ (truth.sessions i).published) truth.sessions s x refl (λ i other. refl) i;
            taken = λ i j a b c. updated_all (λ i (z : Session). (z.lanes j).taken ≡ ((truth.sessions i).lanes j).taken) truth.sessions s x
                (updated_all (λ j (l : Lane). l.taken ≡ (t.lanes j).taken) t.lanes library y refl (λ j other. refl) j) (λ i other. refl) i;
            beats = λ j a b. refl;
          });
          slots = length-set st.homes (slot_of k.libraries s library r) none ∙ q.slots;
          lanes = lanes_fit k s library one most st.homes truth.sessions y r none q.lanes
              (subst (λ (p : ℕ). SlotsFit k (set st.homes (slot_of k.libraries s library p) none) s library y) (sym is) f.3);
          views = engine_moves k truth st.views s x id e e' ls q.views at
              (taking_mine k truth s x id e (after_take mine library (item ∷ [])) taking here (fetched_fits k e s library here t so fits one most item rests whose more f.1)
              (λ i j other a b. ap (λ (n : ℕ). one_if (eqb n (suc (lane_of k.libraries i j)))) rests ∙ (out_nowhere (lane_of k.libraries i j) ∙ sym (out_elsewhere k.libraries s library i j one most a b (λ h. other (sym h.0)))))
              mine_so)
              (λ i a b. lane_for k s library one most t y refl refl refl (omega arith) i);
        },
        (item, refl {a = (engine_view k e' ls, (slot_of k.libraries s library r, Some item) ∷ [])}, fetched_told k e s library here t so fits one most truth item r id ls refl rests whose more f.1 is me.libraries),
      )

  pub fetches_at : (slots library : ℕ) → e.taking ≡ 0 → library ≡ last_library mine → 0 < pending mine
      → Allows (Ruled k) slots id (engine_view k e ls, []) (taken_word s library) (λ n. n) (FetchTells (step slots (taken_word s library) 0 0 none) (engine_view k e ls, []))
  fetches_at slots library rests whose more st q size at small =
      let mine_so = (q.views id (engine_view k e ls) at).engine refl in
      let of = of_last k e s library here (q.truth.sessions s) (q.sessions s here) (mine_so.sessions s here) more in
      let one : 1 ≤ library = let a = of.from_one in omega arith in
      let most : library ≤ k.libraries = let a = of.to_last in omega arith in
      let few : library ≤ 16 = let a = q.shape.libraries in omega arith in
      let r : ℕ = get_or st.words (taken_word s library) 0 in
      let done = fetched_by slots library rests whose more one most st q at in (
        done.0,
        done.1,
        done.2,
        done.3,
        subst (λ (i : ℕ). FetchOf i (lane_at (taken_word s library)) (step slots (taken_word s library) 0 0 none) (engine_view k e ls, []) r (done.0, carried_after [] done.1)) (sym (session-taken_word s library few))
            (subst (λ (j : ℕ). FetchOf s j (step slots (taken_word s library) 0 0 none) (engine_view k e ls, []) r (done.0, carried_after [] done.1)) (sym (lane-taken_word s library few)) done.4),
      )

  vacated_rule : (library r new : ℕ) → 1 ≤ library → library ≤ k.libraries → e.taking ≡ suc (lane_of k.libraries s library) → r + 1 ≡ length (taken_of mine library) → new ≡ r + 1
      → (st : Table) (q : Ruled k st) → get_elem? st.views id ≡ some (engine_view k e ls)
      → Ruled k (stepped st (taken_word s library) new id ((slot_of k.libraries s library r, None) ∷ []) (engine_view k (with_taking e 0) ls) gives)
  vacated_rule library r new one most takes_it last is st q at =
      let truth = q.truth in
      let t = truth.sessions s in
      let mine_so = (q.views id (engine_view k e ls) at).engine refl in
      let fits = mine_so.sessions s here in
      let so = q.sessions s here in
      let x = vacated k e s library here t so fits one most in
      let y = lane_back k e s library here t so fits one most in
      let il = so.lanes library one most in
      let depth = q.shape.depth in
      let out = one_out k e s library here t so fits one most takes_it in
      let count : length (taken_of mine library) ≡ (t.lanes library).taken + (t.lanes library).emptying = (fits.lanes library one most).count in
      let where_is : r ≡ (t.lanes library).taken = omega arith in
      let some_more : (t.lanes library).taken < length (t.lanes library).items = let b = il.behind in omega arith in
      let room : length (t.lanes library).items + (t.lanes library).filling ≤ (t.lanes library).taken + 16 = let b = il.within in omega arith in
      record {
        truth = with_session truth s x;
        shape = q.shape;
        sessions = updated_all (λ i (z : Session). i < k.sessions → IsSession (base_of k i) k.libraries k.depth z) truth.sessions s x
            (λ below. vacated_so k e s library here t so fits one most takes_it)
            (λ i other below. q.sessions i below);
        words = words_taken k st.words truth q.shape q.words s library new x here one most
            (is ∙ (ap (λ (n : ℕ). n + 1) where_is ∙ ap (λ (l : Lane). l.taken) (sym (updated_here t.lanes library y)))) refl refl
            (λ j other a b. ap (λ (l : Lane). l.taken) (updated_else t.lanes library j y other));
        slots = length-set st.homes (slot_of k.libraries s library r) (some None) ∙ q.slots;
        lanes = lanes_fit k s library one most st.homes truth.sessions y r (some None) q.lanes
            (subst (λ (p : ℕ). SlotsFit k (set st.homes (slot_of k.libraries s library p) (some None)) s library y) (sym where_is)
            (slots_emptied k st.homes s library one most (t.lanes library) y out some_more room
            (subst (λ (n : ℕ). slot_of k.libraries s library (t.lanes library).taken < n) (sym q.slots) (slot_within k.sessions k.libraries s library (t.lanes library).taken here one most))
            refl refl refl refl (q.lanes s library here one most)));
        views = engine_moves k truth st.views s x id e (with_taking e 0) ls q.views at
            (subst (λ (l : List EngineSession). EngineKnowsSo k (with_session truth s x) id record { sessions = l; beats = e.beats; taking = 0 }) (set-get_or e.sessions s no_engine_session)
            (taking_mine k truth s x id e mine 0 here (vacated_fits k e s library here t so fits one most takes_it)
            (λ i j other a b. elsewhere_out k e s library here t so fits one most takes_it i j a b (λ h. other (sym h.0))) mine_so))
            (λ i a b. lane_for k s library one most t y refl refl refl (omega arith) i);
      }

  pub vacates_at : (slots library r new : ℕ) → 1 ≤ library → library ≤ k.libraries → e.taking ≡ suc (lane_of k.libraries s library) → r + 1 ≡ length (taken_of mine library) → new ≡ r + 1
      → Allows (Ruled k) slots id (engine_view k e ls, (slot_of k.libraries s library r, None) ∷ []) (taken_word s library) (λ _. new)
      (λ _. VacateTells (step slots (taken_word s library) new 0 none) (engine_view k e ls, (slot_of k.libraries s library r, None) ∷ []) new)
  vacates_at slots library r new one most takes_it last is st q size at small = (engine_view k (with_taking e 0) ls, gives, tt, vacated_rule library r new one most takes_it last is st q at, refl)
