-- A step of a library's seat on one session keeps the rule: it changes the library's own lane there, and perhaps the last line, which is the library's.
use Rattle.std.proofs.Common.{◌≡◌, ◌≢◌, ℕ, suc, ◌+◌, ◌-◌, ◌<◌, ◌≤◌, ◌⊎◌, List, [], ◌∷◌, ◌++◌, length, get_or, set, refl, sym, ap, ◌∙◌, subst, inl, arith, length-set}
use Rattle.std.specs.Prelude.{◌==◌, Option}
use Rattle.std.proofs.lemmas.List.{get_or-set_same, get_or-set_other}
use mathlib.Core.Option.{some, none}
use mathlib.Core.Option as place
use mathlib.Core.List.{IsPrefix}
use lib.ListN.{get_elem?}
use Rattle.atomic_table.specs.Table.{State}
use Rattle.lease_core.specs.declared.lease.Ending.TheVariants.{Running, GivenBack}
use Rattle.lease_core.specs.declared.lease.Line.{Line}
use Rattle.lease_core.specs.declared.word.Word.{Word}
use Rattle.lease_core.specs.Lines.{word_of, IsShown}
use Rattle.lease_core.specs.Word.{word_in}
use Rattle.lease_words.specs.declared.item.Item.{Item}
use Rattle.lease_words.specs.declared.view.Shape.{Shape}
use Rattle.lease_words.specs.declared.view.LibrarySession.{LibrarySession}
use Rattle.lease_words.specs.declared.view.LibraryKnows.{LibraryKnows}
use Rattle.lease_words.specs.declared.view.View.{View}
use Rattle.lease_words.specs.Layout.{lease_word, slot_of, slot_count}
use Rattle.lease_words.specs.Leases.{Each, AreLines, IsLineOf, IsNotOlder, EndsLease, held_lease, held_count, with_first_ending, loss_ending}
use Rattle.lease_words.specs.Views.{base_of, no_library_session, library_session, library_view}
use Rattle.lease_words.specs.Sees.{after_loss}
use Rattle.lease_words.specs.Facts.{Lane, Session, IsLane, IsSession, Follows, LibraryFits, one_if}
use Rattle.lease_words.specs.Rule.{Truth, Ruled, WordsFit, SlotsFit, LibraryKnowsSo}
use Rattle.lease_words.specs.Tells.{HasLost, LibraryNumbers, held_word}
use Rattle.lease_words.proofs.LibraryHolds.{lost_word, lost_count, found_other, HasLast, found_held}
use Rattle.lease_words.proofs.Lines.{GoesOn, shown_on, follows_on, lines_on, shown_not_newer, words_shown}
use Rattle.lease_words.proofs.Lanes.{lane_on, lane_lost}
use Rattle.lease_words.proofs.Places.{updated, updated_all, updated_here, updated_else, words_stay, words_lease, slots_stay, slots_else, Homes}
use Rattle.lease_words.proofs.Seats.{each_map, with_session, ForLibrary, ForEngine, LaneForEngine, library_moves}

abbrev pub Table : Type 0
Table = State (Option Item) View

-- the lane of the library is this one, and the lines are these
abbrev pub session_with : LibraryKnows → Session → List Line → Lane → Session
session_with l z lines lane = record { lines = lines; shown = z.shown; published = z.published; lanes = updated z.lanes l.number lane }

abbrev pub knows_with : LibraryKnows → ℕ → LibrarySession → ℕ → LibraryKnows
knows_with l s ls sending = record { number = l.number; sessions = set l.sessions s ls; beats = l.beats; sending = sending }

-- Which slots of the table are these, once the library's lane is this one
pub record SlotsKept (k : Shape) (t : Truth) (l : LibraryKnows) (s : ℕ) (lane : Lane) (homes : Homes) : Type 0 where
  pub mine : SlotsFit k homes s l.number lane
  pub away : (i library : ℕ) → i < k.sessions → 1 ≤ library → library ≤ k.libraries → ((i ≡ s) × (library ≡ l.number) → ⊥) → SlotsFit k homes i library ((t.sessions i).lanes library)
  pub count : length homes ≡ slot_count k.sessions k.libraries

-- What a step keeps by which the lines are these, the library's lane this one, and what it knows of the session this
pub record Keeps (k : Shape) (t : Truth) (l : LibraryKnows) (s : ℕ) (lines : List Line) (lane : Lane) (ls : LibrarySession) (sending : ℕ) : Type 0 where
  pub are_lines : AreLines (base_of k s) k.libraries lines
  pub follows : Follows (t.sessions s).shown lines
  pub mine : IsLane (base_of k s) k.depth lines l.number lane
  pub others : (library : ℕ) → library ≢ l.number → 1 ≤ library → library ≤ k.libraries → IsLane (base_of k s) k.depth lines library ((t.sessions s).lanes library)
  pub shown : (w : Word) → IsShown (t.sessions s).lines w → IsShown lines w
  pub items : IsPrefix ((t.sessions s).lanes l.number).items lane.items
  pub taken : lane.taken ≡ ((t.sessions s).lanes l.number).taken
  pub emptying : lane.emptying ≡ ((t.sessions s).lanes l.number).emptying
  pub fits : LibraryFits k.sends l.number sending s (session_with l (t.sessions s) lines lane) ls
  pub elsewhere : (i : ℕ) → i ≢ s → one_if (l.sending == suc i) ≡ one_if (sending == suc i)

still_sending : (sends library sending sending' i : ℕ) (t : Session) (ls : LibrarySession) → one_if (sending == suc i) ≡ one_if (sending' == suc i) → LibraryFits sends library sending i t ls → LibraryFits sends library sending' i t ls
still_sending sends library sending sending' i t ls same f = record {
  leases = f.leases;
  items = f.items;
  out = f.out ∙ same;
  words = f.words;
  taken = f.taken;
  published = f.published;
  few = f.few;
}

-- what the library knows of the session that has these lines and this lane
pub fits_with : (sends sending s : ℕ) (l : LibraryKnows) (z : Session) (lines : List Line) (lane : Lane) (ls : LibrarySession) → ls.leases ≡ lane.leases → ls.items ≡ lane.items → lane.filling ≡ one_if (sending == suc s)
    → Each (IsShown lines) ls.words → ls.taken ≤ lane.taken → ls.published ≤ z.published → held_count ls.leases ≤ sends → LibraryFits sends l.number sending s (session_with l z lines lane) ls
fits_with sends sending s l z lines lane ls leases items out words taken published few =
    let e : lane ≡ updated z.lanes l.number lane l.number = sym (updated_here z.lanes l.number lane) in
    record {
      leases = leases ∙ ap (λ (y : Lane). y.leases) e;
      items = items ∙ ap (λ (y : Lane). y.items) e;
      out = ap (λ (y : Lane). y.filling) (sym e) ∙ out;
      words = words;
      taken = subst (λ (y : Lane). ls.taken ≤ y.taken) e taken;
      published = published;
      few = few;
    }

module _ (k : Shape) (id : ℕ) (l : LibraryKnows) (s : ℕ) (here : s < k.sessions) (st : Table) (q : Ruled k st) (at : get_elem? st.views id ≡ some (library_view k l)) where
  abbrev t : Truth
  t = q.truth

  abbrev z : Session
  z = t.sessions s

  so : LibraryKnowsSo k t id l
  so = (q.views id (library_view k l) at).libraries.0

  module _ (lines : List Line) (lane : Lane) (ls : LibrarySession) (sending : ℕ) (keep : Keeps k t l s lines lane ls sending) where
    abbrev x : Session
    x = session_with l z lines lane

    knows_so : LibraryKnowsSo k (with_session t s x) id (knows_with l s ls sending)
    knows_so = record {
      from_one = so.from_one;
      to_last = so.to_last;
      here = so.here;
      beats = so.beats;
      count = length-set l.sessions s ls ∙ so.count;
      sessions = updated_all (λ i y. i < k.sessions → LibraryFits k.sends l.number sending i y (get_or (set l.sessions s ls) i no_library_session)) t.sessions s x
          (λ _. subst (LibraryFits k.sends l.number sending s x) (sym (get_or-set_same l.sessions s ls no_library_session (subst (λ n. s < n) (sym so.count) here))) keep.fits)
          (λ i other near. subst (LibraryFits k.sends l.number sending i (t.sessions i)) (sym (get_or-set_other l.sessions s i ls no_library_session other))
          (still_sending k.sends l.number l.sending sending i (t.sessions i) (library_session l i) (keep.elsewhere i other) (so.sessions i near)));
    }

    for_engine : ForEngine k.libraries z x
    for_engine = record {
      shown = refl;
      published = refl;
      words = keep.shown;
      lanes = updated_all (λ library (y : Lane). 1 ≤ library → library ≤ k.libraries → LaneForEngine (z.lanes library) y) z.lanes l.number lane
          (λ _ _. record { items = keep.items; taken = keep.taken; emptying = keep.emptying })
          (λ library other _ _. record { items = ([], Rattle.std.proofs.Common.append-nil (z.lanes library).items); taken = refl; emptying = refl });
    }

    for_library : (library : ℕ) → library ≢ l.number → 1 ≤ library → library ≤ k.libraries → ForLibrary library z x
    for_library library other _ _ =
        let e : updated z.lanes l.number lane library ≡ z.lanes library = updated_else z.lanes l.number library lane other in
        record {
          leases = ap (λ (y : Lane). y.leases) e;
          items = ap (λ (y : Lane). y.items) e;
          filling = ap (λ (y : Lane). y.filling) e;
          taken = let same : (updated z.lanes l.number lane library).taken ≡ (z.lanes library).taken = ap (λ (y : Lane). y.taken) e in omega arith;
          published = omega arith;
          words = keep.shown;
        }

    is_session : IsSession (base_of k s) k.libraries k.depth x
    is_session = record {
      are_lines = keep.are_lines;
      are_shown = (q.sessions s here).are_shown;
      follows = keep.follows;
      lanes = updated_all (λ library (y : Lane). 1 ≤ library → library ≤ k.libraries → IsLane (base_of k s) k.depth lines library y) z.lanes l.number lane
          (λ _ _. keep.mine)
          (λ library other a b. keep.others library other a b);
    }

    pub keeps_rule : (words : List ℕ) (homes : Homes) → WordsFit k words (with_session t s x) → SlotsKept k t l s lane homes → Ruled k record { words = words; homes = homes; views = set st.views id (library_view k (knows_with l s ls sending)) }
    keeps_rule words homes fit slots = record {
      truth = with_session t s x;
      shape = q.shape;
      sessions = updated_all (λ i (y : Session). i < k.sessions → IsSession (base_of k i) k.libraries k.depth y) t.sessions s x (λ _. is_session) (λ i other near. q.sessions i near);
      words = fit;
      slots = slots.count;
      lanes = λ i library. updated_all (λ i (y : Session). i < k.sessions → 1 ≤ library → library ≤ k.libraries → SlotsFit k homes i library (y.lanes library)) t.sessions s x
          (λ near. updated_all (λ library (y : Lane). 1 ≤ library → library ≤ k.libraries → SlotsFit k homes s library y) z.lanes l.number lane
          (λ _ _. slots.mine)
          (λ library other a b. slots.away s library near a b (λ e. other e.1))
          library)
          (λ i other near a b. slots.away i library near a b (λ e. other e.0)) i;
      views = library_moves k t st.views s x id l (knows_with l s ls sending) q.views at knows_so for_engine for_library;
    }

    -- a word that was loaded, or whose exchange failed, stays
    pub stays_rule : (i : ℕ) (homes : Homes) → lines ≡ z.lines → SlotsKept k t l s lane homes
        → Ruled k record { words = set st.words i (get_or st.words i 0); homes = homes; views = set st.views id (library_view k (knows_with l s ls sending)) }
    stays_rule i homes same slots = keeps_rule (set st.words i (get_or st.words i 0)) homes (words_stay k st.words t q.shape q.words (with_session t s x) i (record {
      lines = updated_all (λ j (y : Session). j < k.sessions → y.lines ≡ (t.sessions j).lines) t.sessions s x (λ _. same) (λ j _ _. refl);
      published = updated_all (λ j (y : Session). j < k.sessions → y.published ≡ (t.sessions j).published) t.sessions s x (λ _. refl) (λ j _ _. refl);
      taken = λ j library. updated_all (λ j (y : Session). j < k.sessions → 1 ≤ library → library ≤ k.libraries → (y.lanes library).taken ≡ ((t.sessions j).lanes library).taken) t.sessions s x (λ _ _ _. taken_same library) (λ j _ _ _ _. refl) j;
      beats = λ library _ _. refl;
    })) slots
      where
        taken_same : (library : ℕ) → (x.lanes library).taken ≡ (z.lanes library).taken
        taken_same = updated_all (λ library (y : Lane). y.taken ≡ (z.lanes library).taken) z.lanes l.number lane keep.taken (λ library _. refl)

    -- the lease word is new
    pub word_rule : (n : ℕ) (homes : Homes) → word_in n ≡ word_of lines → SlotsKept k t l s lane homes
        → Ruled k record { words = set st.words (lease_word s) n; homes = homes; views = set st.views id (library_view k (knows_with l s ls sending)) }
    word_rule n homes is slots = keeps_rule (set st.words (lease_word s) n) homes
        (words_lease k st.words t q.shape q.words s n x here is refl (λ library _ _. updated_all (λ library (y : Lane). y.taken ≡ (z.lanes library).taken) z.lanes l.number lane keep.taken (λ library _. refl) library)) slots

  -- what a step keeps that changes no line
  pub lines_stay : (lane : Lane) (ls : LibrarySession) (sending : ℕ) → IsLane (base_of k s) k.depth z.lines l.number lane → lane.items ≡ (z.lanes l.number).items → lane.taken ≡ (z.lanes l.number).taken → lane.emptying ≡ (z.lanes l.number).emptying
      → LibraryFits k.sends l.number sending s (session_with l z z.lines lane) ls → ((i : ℕ) → i ≢ s → one_if (l.sending == suc i) ≡ one_if (sending == suc i)) → Keeps k t l s z.lines lane ls sending
  lines_stay lane ls sending is items taken emptying fits elsewhere = record {
    are_lines = (q.sessions s here).are_lines;
    follows = (q.sessions s here).follows;
    mine = is;
    others = λ library _ a b. (q.sessions s here).lanes library a b;
    shown = λ w h. h;
    items = ([], Rattle.std.proofs.Common.append-nil (z.lanes l.number).items ∙ sym items);
    taken = taken;
    emptying = emptying;
    fits = fits;
    elsewhere = elsewhere;
  }

  -- what a step keeps by which the last line, which is the library's, goes on
  pub lines_move : (front : List Line) (a b : Line) (lane : Lane) (ls : LibrarySession) (sending : ℕ) → z.lines ≡ front ++ a ∷ [] → a.library ≡ l.number → GoesOn a b → (b.ending ≡ Running) ⊎ ((heir : ℕ) × (b.ending ≡ GivenBack heir)) → IsLineOf 16 b → IsLineOf k.libraries b
      → IsLane (base_of k s) k.depth (front ++ b ∷ []) l.number lane → IsPrefix (z.lanes l.number).items lane.items → lane.taken ≡ (z.lanes l.number).taken → lane.emptying ≡ (z.lanes l.number).emptying
      → LibraryFits k.sends l.number sending s (session_with l z (front ++ b ∷ []) lane) ls → ((i : ℕ) → i ≢ s → one_if (l.sending == suc i) ≡ one_if (sending == suc i)) → Keeps k t l s (front ++ b ∷ []) lane ls sending
  lines_move front a b lane ls sending are whose on ending small near is items taken emptying fits elsewhere =
      let was : AreLines (base_of k s) k.libraries (front ++ a ∷ []) = subst (AreLines (base_of k s) k.libraries) are (q.sessions s here).are_lines in
      record {
        are_lines = lines_on (base_of k s) k.libraries front a b was on small near;
        follows = follows_on z.shown front a b (subst (Follows z.shown) are (q.sessions s here).follows) on ending;
        mine = is;
        others = λ library other low high. lane_on (base_of k s) k.libraries k.depth front a b library (z.lanes library) was on (inl (λ e. other (sym e ∙ whose)))
            (subst (λ ls. IsLane (base_of k s) k.depth ls library (z.lanes library)) are ((q.sessions s here).lanes library low high));
        shown = λ w h. shown_on front a b w on (subst (λ ls. IsShown ls w) are h);
        items = items;
        taken = taken;
        emptying = emptying;
        fits = fits;
        elsewhere = elsewhere;
      }

  -- no slot changes
  pub slots_same : (lane : Lane) → lane.items ≡ (z.lanes l.number).items → lane.taken ≡ (z.lanes l.number).taken → lane.filling ≡ (z.lanes l.number).filling → lane.emptying ≡ (z.lanes l.number).emptying → SlotsKept k t l s lane st.homes
  slots_same lane items taken filling emptying = record {
    mine = slots_stay k st.homes s l.number so.from_one so.to_last (z.lanes l.number) lane items taken filling emptying (q.lanes s l.number here so.from_one so.to_last);
    away = λ i library near a b _. q.lanes i library near a b;
    count = q.slots;
  }

  -- a slot of the lane changes
  pub slots_change : (lane : Lane) (p : ℕ) (v : place.Option (Option Item)) → SlotsFit k (set st.homes (slot_of k.libraries s l.number p) v) s l.number lane → SlotsKept k t l s lane (set st.homes (slot_of k.libraries s l.number p) v)
  slots_change lane p v fit = record {
    mine = fit;
    away = λ i library near a b other. slots_else k st.homes i library a b s l.number p v ((t.sessions i).lanes library) so.from_one so.to_last other (q.lanes i library near a b);
    count = length-set st.homes (slot_of k.libraries s l.number p) v ∙ q.slots;
  }

  -- a word that was found in the place of the lease's
  abbrev mine : LibrarySession
  mine = library_session l s

  abbrev found : ℕ
  found = get_or st.words (lease_word s) 0

  fits : LibraryFits k.sends l.number l.sending s z mine
  fits = so.sessions s here

  own : IsLane (base_of k s) k.depth z.lines l.number (z.lanes l.number)
  own = (q.sessions s here).lanes l.number so.from_one so.to_last

  pub ends_there : 0 < held_lease mine.leases → found ≢ held_word l.number mine.leases → EndsLease (held_lease mine.leases) (held_count mine.leases) (word_in found)
  ends_there held other =
      subst (λ hs. EndsLease (held_lease hs) (held_count hs) (word_in found)) (sym fits.leases)
      (found_other (base_of k s) k.libraries k.depth z.lines l.number (z.lanes l.number) (q.sessions s here).are_lines own found (subst (λ hs. 0 < held_lease hs) fits.leases held) (q.words.leases s here)
      (λ e. other (e ∙ ap (held_word l.number) (sym fits.leases))))

  pub has_lost : EndsLease (held_lease mine.leases) (held_count mine.leases) (word_in found) → HasLost l.number mine found
  has_lost ends = record {
    ends = ends;
    later = each_map (λ seen shown. subst (IsNotOlder seen) (sym (q.words.leases s here)) (shown_not_newer z.lines seen shown)) mine.words fits.words;
    numbers = ap (λ (n : ℕ). (λ (m : ℕ). let r : LibraryNumbers = record { word = n; committed = m } in r) (length mine.items)) (lost_word l.number mine.leases);
  }

  abbrev lane_without : Lane
  lane_without = let y = z.lanes l.number in record { leases = with_first_ending loss_ending y.leases; items = y.items; taken = y.taken; filling = y.filling; emptying = y.emptying }

  lost_keeps : EndsLease (held_lease mine.leases) (held_count mine.leases) (word_in found) → Keeps k t l s z.lines lane_without (after_loss mine (word_in found)) l.sending
  lost_keeps ends =
      let word = q.words.leases s here in
      let none = lost_count mine.leases in
      lines_stay lane_without (after_loss mine (word_in found)) l.sending
      (lane_lost (base_of k s) k.libraries k.depth z.lines l.number (z.lanes l.number) (q.sessions s here).are_lines (λ _. subst (λ w. EndsLease (held_lease (z.lanes l.number).leases) (held_count (z.lanes l.number).leases) w) word (subst (λ hs. EndsLease (held_lease hs) (held_count hs) (word_in found)) fits.leases ends)) own)
      refl refl refl
      (fits_with k.sends l.sending s l z z.lines lane_without (after_loss mine (word_in found)) (ap (with_first_ending loss_ending) fits.leases) fits.items fits.out (subst (IsShown z.lines) (sym word) (words_shown z.lines), fits.words) fits.taken fits.published (omega arith))
      (λ _ _. refl)

  -- the exchange fails, and what was held is lost
  pub lost_rule : EndsLease (held_lease mine.leases) (held_count mine.leases) (word_in found)
      → Ruled k record { words = set st.words (lease_word s) found; homes = st.homes; views = set st.views id (library_view k (knows_with l s (after_loss mine (word_in found)) l.sending)) }
  lost_rule ends = stays_rule z.lines lane_without (after_loss mine (word_in found)) l.sending (lost_keeps ends) (lease_word s) st.homes refl (slots_same lane_without refl refl refl refl)

  -- the exchange succeeds, and the last line is the library's
  pub last_there : 0 < held_lease mine.leases → found ≡ held_word l.number mine.leases → HasLast z.lines l.number (z.lanes l.number)
  last_there held same = found_held (base_of k s) k.libraries k.depth z.lines l.number (z.lanes l.number) (q.sessions s here).are_lines own found (subst (λ hs. 0 < held_lease hs) fits.leases held)
      (let a = so.to_last in let b = q.shape.libraries in omega arith) (q.words.leases s here) (same ∙ ap (held_word l.number) fits.leases)
