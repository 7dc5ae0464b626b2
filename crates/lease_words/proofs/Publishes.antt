-- Published counts and beats keep the rule.
use Rattle.std.proofs.Common.{◌≡◌, ◌≢◌, ℕ, ◌+◌, ◌-◌, ◌<◌, ◌≤◌, List, [], length, get_or, set, Option, refl, sym, ap, ◌∙◌, subst, le_trans, arith, length-set}
use Rattle.std.proofs.lemmas.List.{get_or-set_same, get_or-set_other}
use native.Mathlib.Decide.{ℕ_discrete}
use mathlib.Core.Option.{none, some}
use lib.ListN.{get_elem?}
use Rattle.atomic_table.specs.Table.{State, step, keeps, stepped, Allows}
use Rattle.lease_words.specs.declared.item.Item.{Item}
use Rattle.lease_words.specs.declared.view.Shape.{Shape}
use Rattle.lease_words.specs.declared.view.EngineSession.{EngineSession}
use Rattle.lease_words.specs.declared.view.EngineKnows.{EngineKnows}
use Rattle.lease_words.specs.declared.view.LibrarySession.{LibrarySession}
use Rattle.lease_words.specs.declared.view.LibraryKnows.{LibraryKnows}
use Rattle.lease_words.specs.declared.view.View.{View}
use Rattle.lease_words.specs.Layout.{published_word, beat_word}
use Rattle.lease_words.specs.Views.{engine_session, with_engine_session, library_session, with_library_session, engine_view, library_view, base_of, no_library_session, heard_of, with_heard, unheard}
use Rattle.lease_words.specs.Sees.{after_publish, after_beats, after_arrival, after_beat}
use Rattle.lease_words.specs.Facts.{Session, IsSession, EngineFits, LibraryFits}
use Rattle.lease_words.specs.Rule.{Truth, Ruled, SlotsFit, EngineKnowsSo, LibraryKnowsSo}
use Rattle.lease_words.specs.Tells.{PublishTells, ListenTells, ArriveTells, BeatTells, PublishOf, ListenOf, ArriveOf}
use Rattle.lease_words.specs.declared.view.Heard.{Heard}
use Rattle.lease_words.proofs.Places.{updated, updated_all, updated_here, updated_else, session-published_word, beating-beat_word, words_stay, words_published, words_beat}
use Rattle.lease_words.proofs.Seats.{off, each_map, with_session, engine_moves, engine_mine, views_set}

abbrev Table : Type 0
Table = State (Option Item) View

module _ (k : Shape) (id : ℕ) (e : EngineKnows) (ls : List LibraryKnows) (s : ℕ) (here : s < k.sessions) where
  abbrev mine : EngineSession
  mine = engine_session e s

  -- the session with another published count
  abbrev counted : Session → ℕ → Session
  counted t n = record { lines = t.lines; shown = t.shown; published = n; lanes = t.lanes }

  published_fits : (t : Session) (new : ℕ) → EngineFits k.libraries (base_of k s) e.taking s t mine → EngineFits k.libraries (base_of k s) e.taking s (counted t new) (after_publish mine new)
  published_fits t new fits = record { based = fits.based; lines = fits.lines; words = fits.words; published = refl; count = fits.count; lanes = fits.lanes; untaken = fits.untaken }

  published_so : (t : Session) (new : ℕ) → IsSession (base_of k s) k.libraries k.depth t → IsSession (base_of k s) k.libraries k.depth (counted t new)
  published_so t new so = record { are_lines = so.are_lines; are_shown = so.are_shown; follows = so.follows; lanes = so.lanes }

  published_rule : (new : ℕ) → mine.published ≤ new → (st : Table) (q : Ruled k st) → get_elem? st.views id ≡ some (engine_view k e ls)
      → Ruled k (stepped st (published_word s) new id [] (engine_view k (with_engine_session e s (after_publish mine new)) ls) keeps)
  published_rule new more st q at =
      let t = q.truth in
      let so = (q.views id (engine_view k e ls) at).engine refl in
      let fits = so.sessions s here in
      let x = counted (t.sessions s) new in
      record {
        truth = with_session t s x;
        shape = q.shape;
        sessions = updated_all (λ i (y : Session). i < k.sessions → IsSession (base_of k i) k.libraries k.depth y) t.sessions s x
            (λ below. published_so (t.sessions s) new (q.sessions s below))
            (λ i other below. q.sessions i below);
        words = words_published k st.words t q.shape q.words s new x here refl refl (λ library a b. refl);
        slots = q.slots;
        lanes = λ i library. updated_all (λ i (y : Session). i < k.sessions → 1 ≤ library → library ≤ k.libraries → SlotsFit k st.homes i library (y.lanes library)) t.sessions s x
            (λ below a b. q.lanes s library below a b)
            (λ i other below a b. q.lanes i library below a b) i;
        views = engine_moves k t st.views s x id e (with_engine_session e s (after_publish mine new)) ls q.views at
            (engine_mine k t s x id e (after_publish mine new) here (published_fits (t.sessions s) new fits) so)
            (λ library a b. record { leases = refl; items = refl; filling = refl; taken = omega arith; published = (let same = fits.published in omega arith); words = λ w h. h });
      }

  pub publishes_at : (slots new : ℕ) → mine.published ≤ new
      → Allows (Ruled k) slots id (engine_view k e ls, []) (published_word s) (λ _. new) (λ _. PublishTells (step slots (published_word s) new 0 none) (engine_view k e ls, []) new)
  publishes_at slots new more st q size at small = (
    engine_view k (with_engine_session e s (after_publish mine new)) ls,
    keeps,
    tt,
    published_rule new more st q at,
    subst (λ z. PublishOf z (step slots (published_word s) new 0 none) (engine_view k e ls, []) new (engine_view k (with_engine_session e s (after_publish mine new)) ls, [])) (sym (session-published_word s)) refl,
  )

module _ (k : Shape) (id : ℕ) (e : EngineKnows) (ls : List LibraryKnows) where
  abbrev listened : ℕ → ℕ → EngineKnows
  listened library r = with_heard e library (after_beats (heard_of e library) r)

  listened_so : (t : Truth) (library r : ℕ) → 1 ≤ library → library ≤ k.libraries → r ≡ t.beats library → EngineKnowsSo k t id e → EngineKnowsSo k t id (listened library r)
  listened_so t library r one most is so = record {
    here = so.here;
    count = so.count;
    sessions = so.sessions;
    beats = length-set e.beats (library - 1) (after_beats (heard_of e library) r) ∙ so.beats;
    heard = λ i a b. elim (ℕ_discrete i library) [
      | yes same ↦ subst (λ (j : ℕ). (get_or (set e.beats (library - 1) (after_beats (heard_of e library) r)) (j - 1) unheard).count ≤ t.beats j) (sym same)
          (subst (λ (b : Heard). b.count ≤ t.beats library) (sym (get_or-set_same e.beats (library - 1) (after_beats (heard_of e library) r) unheard (let n = so.beats in omega arith))) (omega arith))
      | no other ↦ subst (λ (b : Heard). b.count ≤ t.beats i) (sym (get_or-set_other e.beats (library - 1) (i - 1) (after_beats (heard_of e library) r) unheard (λ same. other (omega arith)))) (so.heard i a b)
    ];
  }

  listened_rule : (library : ℕ) → 1 ≤ library → library ≤ k.libraries → (st : Table) (q : Ruled k st) → get_elem? st.views id ≡ some (engine_view k e ls)
      → Ruled k (stepped st (beat_word k.sessions library) (get_or st.words (beat_word k.sessions library) 0) id [] (engine_view k (listened library (get_or st.words (beat_word k.sessions library) 0)) ls) keeps)
  listened_rule library one most st q at =
      let t = q.truth in
      let me = q.views id (engine_view k e ls) at in
      let r : ℕ = get_or st.words (beat_word k.sessions library) 0 in
      record {
        truth = t;
        shape = q.shape;
        sessions = q.sessions;
        words = words_stay k st.words t q.shape q.words t (beat_word k.sessions library) (record { lines = λ i a. refl; published = λ i a. refl; taken = λ i j a b c. refl; beats = λ j a b. refl });
        slots = q.slots;
        lanes = q.lanes;
        views = views_set k t st.views t id (engine_view k (listened library r) ls)
            (record { engine = λ _. listened_so t library r one most (q.words.beats library one most) (me.engine refl); libraries = me.libraries; apart = me.apart })
            (λ seat v other found. q.views seat v found);
      }

  pub listens_at : (slots library : ℕ) → 1 ≤ library → library ≤ k.libraries
      → Allows (Ruled k) slots id (engine_view k e ls, []) (beat_word k.sessions library) (λ n. n) (ListenTells (step slots (beat_word k.sessions library) 0 0 none) (engine_view k e ls, []))
  listens_at slots library one most st q size at small =
      let r : ℕ = get_or st.words (beat_word k.sessions library) 0 in
      let known : (heard_of e library).count ≤ q.truth.beats library = ((q.views id (engine_view k e ls) at).engine refl).heard library one most in
      let is : r ≡ q.truth.beats library = q.words.beats library one most in
      let later : (heard_of e library).count ≤ r = omega arith in
      let kept : (r : ℕ) → length e.beats ≡ k.libraries → heard_of (listened library r) library ≡ after_beats (heard_of e library) r =
      λ r size. get_or-set_same e.beats (library - 1) (after_beats (heard_of e library) r) unheard (omega arith) in (
        engine_view k (listened library r) ls,
        keeps,
        tt,
        listened_rule library one most st q at,
        subst (λ z. ListenOf z (step slots (beat_word k.sessions library) 0 0 none) (engine_view k e ls, []) r (engine_view k (listened library r) ls, [])) (sym (beating-beat_word k.sessions library)) (later, refl, kept r (((q.views id (engine_view k e ls) at).engine refl).beats)),
      )

module _ (k : Shape) (id : ℕ) (l : LibraryKnows) where
  -- what it knows of one session becomes more
  learnt_so : (t : Truth) (s : ℕ) (y : LibrarySession) → s < k.sessions → LibraryFits k.sends l.number l.sending s (t.sessions s) y → LibraryKnowsSo k t id l → LibraryKnowsSo k t id (with_library_session l s y)
  learnt_so t s y here fits so = record {
    from_one = so.from_one;
    to_last = so.to_last;
    here = so.here;
    beats = so.beats;
    count = length-set l.sessions s y ∙ so.count;
    sessions = λ i near. elim (ℕ_discrete i s) [
      | yes same ↦ subst (λ (j : ℕ). LibraryFits k.sends l.number l.sending j (t.sessions j) (get_or (set l.sessions s y) j no_library_session)) (sym same)
          (subst (LibraryFits k.sends l.number l.sending s (t.sessions s)) (sym (get_or-set_same l.sessions s y no_library_session (let n = so.count in omega arith))) fits)
      | no other ↦ subst (LibraryFits k.sends l.number l.sending i (t.sessions i)) (sym (get_or-set_other l.sessions s i y no_library_session other)) (so.sessions i near)
    ];
  }

  arrived_fits : (t : Session) (s r : ℕ) (y : LibrarySession) → r ≡ t.published → LibraryFits k.sends l.number l.sending s t y → LibraryFits k.sends l.number l.sending s t (after_arrival y r)
  arrived_fits t s r y is fits = record { leases = fits.leases; items = fits.items; out = fits.out; words = fits.words; taken = fits.taken; published = omega arith; few = fits.few }

  abbrev arrived : ℕ → ℕ → LibraryKnows
  arrived s r = with_library_session l s (after_arrival (library_session l s) r)

  arrived_rule : (s : ℕ) → s < k.sessions → (st : Table) (q : Ruled k st) → get_elem? st.views id ≡ some (library_view k l)
      → Ruled k (stepped st (published_word s) (get_or st.words (published_word s) 0) id [] (library_view k (arrived s (get_or st.words (published_word s) 0))) keeps)
  arrived_rule s here st q at =
      let t = q.truth in
      let me = (q.views id (library_view k l) at).libraries.0 in
      let r : ℕ = get_or st.words (published_word s) 0 in
      record {
        truth = t;
        shape = q.shape;
        sessions = q.sessions;
        words = words_stay k st.words t q.shape q.words t (published_word s) (record { lines = λ i a. refl; published = λ i a. refl; taken = λ i j a b c. refl; beats = λ j a b. refl });
        slots = q.slots;
        lanes = q.lanes;
        views = views_set k t st.views t id (library_view k (arrived s r))
            (record { engine = λ is. off is; libraries = (learnt_so t s (after_arrival (library_session l s) r) here (arrived_fits (t.sessions s) s r (library_session l s) (q.words.published s here) (me.sessions s here)) me, tt); apart = (tt, tt) })
            (λ seat v other found. q.views seat v found);
      }

  pub arrives_at : (slots s : ℕ) → s < k.sessions
      → Allows (Ruled k) slots id (library_view k l, []) (published_word s) (λ n. n) (ArriveTells (step slots (published_word s) 0 0 none) (library_view k l, []))
  arrives_at slots s here st q size at small =
      let r : ℕ = get_or st.words (published_word s) 0 in
      let known : (library_session l s).published ≤ (q.truth.sessions s).published = ((q.views id (library_view k l) at).libraries.0.sessions s here).published in
      let is : r ≡ (q.truth.sessions s).published = q.words.published s here in
      let later : (library_session l s).published ≤ r = omega arith in (
        library_view k (arrived s r),
        keeps,
        tt,
        arrived_rule s here st q at,
        subst (λ z. ArriveOf z (step slots (published_word s) 0 0 none) (library_view k l, []) r (library_view k (arrived s r), [])) (sym (session-published_word s)) (later, refl),
      )

  abbrev beaten : Truth → ℕ → Truth
  beaten t new = record { sessions = t.sessions; beats = updated t.beats l.number new; engine = t.engine; libraries = t.libraries }

  beaten_mine : (t : Truth) (new : ℕ) → LibraryKnowsSo k t id l → LibraryKnowsSo k (beaten t new) id (after_beat l new)
  beaten_mine t new so = record { from_one = so.from_one; to_last = so.to_last; here = so.here; beats = sym (updated_here t.beats l.number new); count = so.count; sessions = so.sessions }

  beaten_library : (t : Truth) (new seat : ℕ) (m : LibraryKnows) → m.number ≢ l.number → LibraryKnowsSo k t seat m → LibraryKnowsSo k (beaten t new) seat m
  beaten_library t new seat m other so = record { from_one = so.from_one; to_last = so.to_last; here = so.here; beats = so.beats ∙ sym (updated_else t.beats l.number m.number new other); count = so.count; sessions = so.sessions }

  beaten_engine : (t : Truth) (new seat : ℕ) (e : EngineKnows) → t.beats l.number ≤ new → EngineKnowsSo k t seat e → EngineKnowsSo k (beaten t new) seat e
  beaten_engine t new seat e more so = record {
    here = so.here;
    count = so.count;
    sessions = so.sessions;
    beats = so.beats;
    heard = updated_all (λ i (y : ℕ). 1 ≤ i → i ≤ k.libraries → (heard_of e i).count ≤ y) t.beats l.number new (λ a b. le_trans (so.heard l.number a b) more) (λ i other a b. so.heard i a b);
  }

  beaten_rule : (new : ℕ) → new ≡ l.beats + 1 → (st : Table) (q : Ruled k st) → get_elem? st.views id ≡ some (library_view k l)
      → Ruled k (stepped st (beat_word k.sessions l.number) new id [] (library_view k (after_beat l new)) keeps)
  beaten_rule new is st q at =
      let t = q.truth in
      let me = (q.views id (library_view k l) at).libraries.0 in
      let more : t.beats l.number ≤ new = let b = me.beats in omega arith in
      record {
        truth = beaten t new;
        shape = q.shape;
        sessions = q.sessions;
        words = words_beat k st.words t q.shape q.words l.number new me.from_one me.to_last;
        slots = q.slots;
        lanes = q.lanes;
        views = views_set k t st.views (beaten t new) id (library_view k (after_beat l new))
            (record { engine = λ is. off is; libraries = (beaten_mine t new me, tt); apart = (tt, tt) })
            (λ seat v other found. let them = q.views seat v found in record {
              engine = λ is. beaten_engine t new seat v.knows more (them.engine is);
              libraries = each_map (λ m so. beaten_library t new seat m (λ same. other (sym so.here ∙ (ap t.libraries same ∙ me.here))) so) v.libraries them.libraries;
              apart = them.apart;
            });
      }

  pub beats_at : (slots new : ℕ) → new ≡ l.beats + 1
      → Allows (Ruled k) slots id (library_view k l, []) (beat_word k.sessions l.number) (λ _. new) (λ _. BeatTells (step slots (beat_word k.sessions l.number) new 0 none) (library_view k l, []) new)
  beats_at slots new is st q size at small = (library_view k (after_beat l new), keeps, tt, beaten_rule new is st q at, refl)
