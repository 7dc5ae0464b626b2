-- What seats know stays so at the steps of other seats.
use Rattle.std.proofs.Common.{◌≡◌, ◌≢◌, ℕ, suc, ◌+◌, ◌-◌, ◌<◌, ◌≤◌, List, [], ◌∷◌, ◌++◌, length, get_or, set, true, false, true≢false, refl, sym, ap, ◌∙◌, subst, ⊎_elim, le_trans, arith, length-set}
use Rattle.std.proofs.lemmas.List.{get_or-set_same, get_or-set_other}
use mathlib.Core.Option.{some}
use mathlib.Core.List.{IsPrefix}
use lib.ListN.{get_elem?}
use Rattle.atomic_table.proofs.Lists.{at_set}
use Rattle.lease_core.specs.declared.word.Word.{Word}
use Rattle.lease_core.specs.Lines.{IsShown}
use Rattle.lease_words.specs.declared.item.Item.{Item}
use Rattle.lease_words.specs.declared.view.Shape.{Shape}
use Rattle.lease_words.specs.declared.view.EngineSession.{EngineSession}
use Rattle.lease_words.specs.declared.view.EngineKnows.{EngineKnows}
use Rattle.lease_words.specs.declared.view.LibrarySession.{LibrarySession}
use Rattle.lease_words.specs.declared.view.LibraryKnows.{LibraryKnows}
use Rattle.lease_words.specs.declared.view.View.{View}
use Rattle.lease_words.specs.Leases.{Each}
use Rattle.lease_words.specs.Views.{base_of, no_engine_session, engine_session, with_engine_session, no_library_session, library_session, with_library_session, engine_view, library_view, taken_of}
use Rattle.lease_words.specs.Facts.{Lane, Session, KnowsLane, EngineFits, LibraryFits}
use Rattle.lease_words.specs.Rule.{Truth, EngineKnowsSo, LibraryKnowsSo, KnowsSo}
pub use Rattle.lease_words.proofs.Lists.{each_map}
use Rattle.lease_words.proofs.Places.{updated, updated_all}

pub off : {P : Type 0} → false ≡ true → P
off e = absurd (true≢false (sym e))

abbrev pub with_session : Truth → ℕ → Session → Truth
with_session t s x = record { sessions = updated t.sessions s x; beats = t.beats; engine = t.engine; libraries = t.libraries }

-- what a library knows of a session stays so
pub record ForLibrary (library : ℕ) (t t' : Session) : Type 0 where
  pub leases : (t'.lanes library).leases ≡ (t.lanes library).leases
  pub items : (t'.lanes library).items ≡ (t.lanes library).items
  pub filling : (t'.lanes library).filling ≡ (t.lanes library).filling
  pub taken : (t.lanes library).taken ≤ (t'.lanes library).taken
  pub published : t.published ≤ t'.published
  pub words : (w : Word) → IsShown t.lines w → IsShown t'.lines w

-- and what the engine knows
pub record LaneForEngine (a b : Lane) : Type 0 where
  pub items : IsPrefix a.items b.items
  pub taken : b.taken ≡ a.taken
  pub emptying : b.emptying ≡ a.emptying

pub record ForEngine (libraries : ℕ) (t t' : Session) : Type 0 where
  pub shown : t'.shown ≡ t.shown
  pub published : t'.published ≡ t.published
  pub words : (w : Word) → IsShown t.lines w → IsShown t'.lines w
  pub lanes : (library : ℕ) → 1 ≤ library → library ≤ libraries → LaneForEngine (t.lanes library) (t'.lanes library)

pub library_fits_still : (sends library sending s : ℕ) (t t' : Session) (ls : LibrarySession) → ForLibrary library t t' → LibraryFits sends library sending s t ls → LibraryFits sends library sending s t' ls
library_fits_still sends library sending s t t' ls still k = record {
  leases = k.leases ∙ sym still.leases;
  items = k.items ∙ sym still.items;
  out = still.filling ∙ k.out;
  words = each_map still.words ls.words k.words;
  taken = le_trans k.taken still.taken;
  published = le_trans k.published still.published;
  few = k.few;
}

pub prefix_prefix : {A : Type 0} (xs ys zs : List A) → IsPrefix xs ys → IsPrefix ys zs → IsPrefix xs zs
prefix_prefix xs ys zs p q = (p.0 ++ q.0, sym (Rattle.std.proofs.Common.append_assoc xs p.0 q.0) ∙ (ap (λ l. l ++ q.0) p.1 ∙ q.1))

pub lane_known_still : (libraries taking s library : ℕ) (a b : Lane) (taken : List Item) → LaneForEngine a b → KnowsLane libraries taking s library a taken → KnowsLane libraries taking s library b taken
lane_known_still libraries taking s library a b taken still k = record {
  begins = prefix_prefix taken a.items b.items k.begins still.items;
  count = k.count ∙ (λ i. sym still.taken i + sym still.emptying i);
  out = still.emptying ∙ k.out;
}

pub engine_fits_still : (libraries base taking s : ℕ) (t t' : Session) (es : EngineSession) → ForEngine libraries t t' → EngineFits libraries base taking s t es → EngineFits libraries base taking s t' es
engine_fits_still libraries base taking s t t' es still k = record {
  based = k.based;
  lines = k.lines ∙ sym still.shown;
  words = each_map still.words es.words k.words;
  published = k.published ∙ sym still.published;
  count = k.count;
  lanes = λ library a b. lane_known_still libraries taking s library (t.lanes library) (t'.lanes library) (taken_of es library) (still.lanes library a b) (k.lanes library a b);
  untaken = k.untaken;
}

module _ (k : Shape) (t : Truth) (s : ℕ) (x : Session) where
  -- one session changed
  pub library_stays : (seat : ℕ) (l : LibraryKnows) → ForLibrary l.number (t.sessions s) x → LibraryKnowsSo k t seat l → LibraryKnowsSo k (with_session t s x) seat l
  library_stays seat l still so = record {
    from_one = so.from_one;
    to_last = so.to_last;
    here = so.here;
    beats = so.beats;
    count = so.count;
    sessions = updated_all (λ i y. i < k.sessions → LibraryFits k.sends l.number l.sending i y (library_session l i)) t.sessions s x
        (λ below. library_fits_still k.sends l.number l.sending s (t.sessions s) x (library_session l s) still (so.sessions s below))
        (λ i other below. so.sessions i below);
  }

  pub engine_stays : (seat : ℕ) (e : EngineKnows) → ForEngine k.libraries (t.sessions s) x → EngineKnowsSo k t seat e → EngineKnowsSo k (with_session t s x) seat e
  engine_stays seat e still so = record {
    here = so.here;
    count = so.count;
    sessions = updated_all (λ i y. i < k.sessions → EngineFits k.libraries (base_of k i) e.taking i y (engine_session e i)) t.sessions s x
        (λ below. engine_fits_still k.libraries (base_of k s) e.taking s (t.sessions s) x (engine_session e s) still (so.sessions s below))
        (λ i other below. so.sessions i below);
    beats = so.beats;
    heard = so.heard;
  }

  -- the seat whose step it is
  pub engine_mine : (seat : ℕ) (e : EngineKnows) (es : EngineSession) → s < k.sessions → EngineFits k.libraries (base_of k s) e.taking s x es → EngineKnowsSo k t seat e → EngineKnowsSo k (with_session t s x) seat (with_engine_session e s es)
  engine_mine seat e es below fits so = record {
    here = so.here;
    count = length-set e.sessions s es ∙ so.count;
    sessions = updated_all (λ i y. i < k.sessions → EngineFits k.libraries (base_of k i) e.taking i y (get_or (set e.sessions s es) i no_engine_session)) t.sessions s x
        (λ _. subst (EngineFits k.libraries (base_of k s) e.taking s x) (sym (get_or-set_same e.sessions s es no_engine_session (subst (λ n. s < n) (sym so.count) below))) fits)
        (λ i other near. subst (EngineFits k.libraries (base_of k i) e.taking i (t.sessions i)) (sym (get_or-set_other e.sessions s i es no_engine_session other)) (so.sessions i near));
    beats = so.beats;
    heard = so.heard;
  }

  pub library_mine : (seat : ℕ) (l : LibraryKnows) (ls : LibrarySession) → s < k.sessions → LibraryFits k.sends l.number l.sending s x ls → LibraryKnowsSo k t seat l → LibraryKnowsSo k (with_session t s x) seat (with_library_session l s ls)
  library_mine seat l ls below fits so = record {
    from_one = so.from_one;
    to_last = so.to_last;
    here = so.here;
    beats = so.beats;
    count = length-set l.sessions s ls ∙ so.count;
    sessions = updated_all (λ i y. i < k.sessions → LibraryFits k.sends l.number l.sending i y (get_or (set l.sessions s ls) i no_library_session)) t.sessions s x
        (λ _. subst (LibraryFits k.sends l.number l.sending s x) (sym (get_or-set_same l.sessions s ls no_library_session (subst (λ n. s < n) (sym so.count) below))) fits)
        (λ i other near. subst (LibraryFits k.sends l.number l.sending i (t.sessions i)) (sym (get_or-set_other l.sessions s i ls no_library_session other)) (so.sessions i near));
  }

module _ (k : Shape) (t : Truth) (views : List View) where
  abbrev pub AllKnow : Truth → List View → Type 0
  AllKnow t vs = (seat : ℕ) (v : View) → get_elem? vs seat ≡ some v → KnowsSo k t seat v

  -- one seat's view is set
  pub views_set : (t' : Truth) (id : ℕ) (w : View) → KnowsSo k t' id w → ((seat : ℕ) (v : View) → seat ≢ id → get_elem? views seat ≡ some v → KnowsSo k t' seat v) → AllKnow t' (set views id w)
  views_set t' id w mine others seat v e =
      ⊎_elim
      (λ (y : (seat ≡ id) × (w ≡ v)). subst (λ (z : ℕ × View). KnowsSo k t' z.0 z.1) (λ i. (sym y.0 i, y.1 i)) mine)
      (λ (y : (seat ≢ id) × (get_elem? views seat ≡ some v)). others seat v y.0 y.1)
      (at_set views id seat w v e)

  libraries_stay : (s : ℕ) (x : Session) (seat : ℕ) (ls : List LibraryKnows) → ((library : ℕ) → 1 ≤ library → library ≤ k.libraries → ForLibrary library (t.sessions s) x) → Each (LibraryKnowsSo k t seat) ls → Each (LibraryKnowsSo k (with_session t s x) seat) ls
  libraries_stay s x seat ls still so = each_map (λ l is. library_stays k t s x seat l (still l.number is.from_one is.to_last) is) ls so

  -- a step of the engine's seat on one session
  pub engine_moves : (s : ℕ) (x : Session) (id : ℕ) (e e' : EngineKnows) (ls : List LibraryKnows) → AllKnow t views → get_elem? views id ≡ some (engine_view k e ls) → EngineKnowsSo k (with_session t s x) id e'
      → ((library : ℕ) → 1 ≤ library → library ≤ k.libraries → ForLibrary library (t.sessions s) x) → AllKnow (with_session t s x) (set views id (engine_view k e' ls))
  engine_moves s x id e e' ls all at mine still =
      let me = all id (engine_view k e ls) at in
      views_set (with_session t s x) id (engine_view k e' ls) (record { engine = λ _. mine; libraries = libraries_stay s x id ls still me.libraries; apart = me.apart })
      (λ seat v other found. let them = all seat v found in record {
        engine = λ is. absurd (other (sym (them.engine is).here ∙ (me.engine refl).here));
        libraries = libraries_stay s x seat v.libraries still them.libraries;
        apart = them.apart;
      })

  -- a step of a library's seat on one session
  pub library_moves : (s : ℕ) (x : Session) (id : ℕ) (l l' : LibraryKnows) → AllKnow t views → get_elem? views id ≡ some (library_view k l) → LibraryKnowsSo k (with_session t s x) id l'
      → ForEngine k.libraries (t.sessions s) x → ((library : ℕ) → library ≢ l.number → 1 ≤ library → library ≤ k.libraries → ForLibrary library (t.sessions s) x) → AllKnow (with_session t s x) (set views id (library_view k l'))
  library_moves s x id l l' all at mine engine still =
      let me = (all id (library_view k l) at).libraries.0 in
      views_set (with_session t s x) id (library_view k l') (record { engine = λ is. off is; libraries = (mine, tt); apart = (tt, tt) })
      (λ seat v other found. let them = all seat v found in record {
        engine = λ is. engine_stays k t s x seat v.knows engine (them.engine is);
        libraries = each_map (λ m is. library_stays k t s x seat m (still m.number (λ same. other (sym is.here ∙ (ap t.libraries same ∙ me.here))) is.from_one is.to_last) is) v.libraries them.libraries;
        apart = them.apart;
      })
