-- A table keeps its rule where seats are cut apart, joined, and meet.
use Rattle.std.proofs.Common.{◌≡◌, ◌≢◌, ℕ, ◌<◌, List, [], ◌∷◌, ◌++◌, length, set, true, Option, refl, sym, ap, ◌∙◌, subst, ⊎_elim, arith}
use mathlib.Core.Option.{none, some}
use lib.ListN.{get_elem?}
use lib.Seq.{set-get_or}
use Rattle.atomic_table.specs.Table.{State, step, keeps, Allows, Splits, Joins}
use Rattle.lease_words.specs.declared.item.Item.{Item}
use Rattle.lease_words.specs.declared.view.Shape.{Shape}
use Rattle.lease_words.specs.declared.view.EngineKnows.{EngineKnows}
use Rattle.lease_words.specs.declared.view.LibraryKnows.{LibraryKnows}
use Rattle.lease_words.specs.declared.view.View.{View}
use Rattle.lease_words.specs.Leases.{Each}
use Rattle.lease_words.specs.Views.{engine_view, library_view, without_first, first_alone, with_first, nobody, first_library, other_libraries}
use Rattle.lease_words.specs.Rule.{Truth, Ruled, EngineKnowsSo, LibraryKnowsSo, AreApart, KnowsSo}
use Rattle.lease_words.specs.Tells.{MeetTells, engine_after_meeting, library_after_meeting}
use Rattle.atomic_table.proofs.Lists.{at_set, set_else}
use Rattle.lease_words.proofs.Told.{met, engine_met_so, library_met_so}
use Rattle.lease_words.proofs.Places.{updated, updated_here, updated_else}
use Rattle.lease_words.proofs.Lists.{at_end, each_two}
use Rattle.lease_words.proofs.Seats.{off, each_map, views_set}

-- the libraries' seats change, and nothing else
abbrev with_libraries : Truth → (ℕ → ℕ) → Truth
with_libraries t libraries = record { sessions = t.sessions; beats = t.beats; engine = t.engine; libraries = libraries }

whole : (ls : List LibraryKnows) → 0 < length ls → ls ≡ first_library ls ∷ other_libraries ls
whole [] more = absurd (omega arith)
whole (l ∷ ls) more = refl

module _ (k : Shape) (id : ℕ) where
  -- another seat is the library's
  moved_library : (t : Truth) (libraries : ℕ → ℕ) (seat seat' : ℕ) (l : LibraryKnows) → libraries l.number ≡ seat' → LibraryKnowsSo k t seat l → LibraryKnowsSo k (with_libraries t libraries) seat' l
  moved_library t libraries seat seat' l here so = record { from_one = so.from_one; to_last = so.to_last; here = here; beats = so.beats; count = so.count; sessions = so.sessions }

  moved_engine : (t : Truth) (libraries : ℕ → ℕ) (seat : ℕ) (e : EngineKnows) → EngineKnowsSo k t seat e → EngineKnowsSo k (with_libraries t libraries) seat e
  moved_engine t libraries seat e so = record { here = so.here; count = so.count; sessions = so.sessions; beats = so.beats; heard = so.heard }

  -- libraries at their seat, none of which is the one that moved
  moved_others : (t : Truth) (moved to seat : ℕ) (ls : List LibraryKnows) → Each (LibraryKnowsSo k t seat) ls → Each (λ (m : LibraryKnows). m.number ≢ moved) ls → Each (LibraryKnowsSo k (with_libraries t (updated t.libraries moved to)) seat) ls
  moved_others t moved to seat ls all others = each_two (LibraryKnowsSo k t seat) (λ (m : LibraryKnows). m.number ≢ moved) (LibraryKnowsSo k (with_libraries t (updated t.libraries moved to)) seat) ls
      (λ m so ne. moved_library t (updated t.libraries moved to) seat seat m (updated_else t.libraries moved m.number to ne ∙ so.here) so) all others

  -- a library that is here isn't in another seat
  elsewhere : (t : Truth) (number seat there : ℕ) (ls : List LibraryKnows) → t.libraries number ≡ there → seat ≢ there → Each (LibraryKnowsSo k t seat) ls → Each (λ (m : LibraryKnows). m.number ≢ number) ls
  elsewhere t number seat there ls here other = each_map (λ m so same. other (sym so.here ∙ (ap t.libraries same ∙ here))) ls

  moved_view : (t : Truth) (moved to seat : ℕ) (v : View) → t.libraries moved ≢ seat → KnowsSo k t seat v → KnowsSo k (with_libraries t (updated t.libraries moved to)) seat v
  moved_view t moved to seat v other so = record {
    engine = λ is. moved_engine t (updated t.libraries moved to) seat v.knows (so.engine is);
    libraries = moved_others t moved to seat v.libraries so.libraries (elsewhere t moved seat (t.libraries moved) v.libraries refl (λ e. other (sym e)) so.libraries);
    apart = so.apart;
  }

  -- the views and the libraries' seats change, and nothing else
  reseated : (s : State (Option Item) View) (q : Ruled k s) (views : List View) (libraries : ℕ → ℕ)
      → ((seat : ℕ) (v : View) → get_elem? views seat ≡ some v → KnowsSo k (with_libraries q.truth libraries) seat v) → Ruled k record { words = s.words; homes = s.homes; views = views }
  reseated s q views libraries knows = record {
    truth = with_libraries q.truth libraries;
    shape = q.shape;
    sessions = q.sessions;
    words = record { count = q.words.count; unused = q.words.unused; leases = q.words.leases; published = q.words.published; taken = q.words.taken; beats = q.words.beats };
    slots = q.slots;
    lanes = q.lanes;
    views = knows;
  }

  -- the first library leaves a seat for a new one
  pub parts : (v : View) → 0 < length v.libraries → Splits (Ruled k) id v (without_first v) (first_alone v)
  parts v more st q at =
      let t : Truth = q.truth in
      let mine = q.views id v at in
      let l : LibraryKnows = first_library v.libraries in
      let ls : List LibraryKnows = other_libraries v.libraries in
      let known : Each (LibraryKnowsSo k t id) (l ∷ ls) = subst (Each (LibraryKnowsSo k t id)) (whole v.libraries more) mine.libraries in
      let apart : AreApart (l ∷ ls) = subst AreApart (whole v.libraries more) mine.apart in
      let front : List View = set st.views id (without_first v) in
      let new : ℕ = length front in
      let libraries : ℕ → ℕ = updated t.libraries l.number new in
      reseated st q (front ++ first_alone v ∷ []) libraries (λ seat u e.
      ⊎_elim
      (λ there. ⊎_elim
      (λ (x : (seat ≡ id) × (without_first v ≡ u)).
      subst (λ (y : ℕ × View). KnowsSo k (with_libraries t libraries) y.0 y.1) (λ i. (sym x.0 i, x.1 i))
      (record { engine = λ is. moved_engine t libraries id v.knows (mine.engine is); libraries = moved_others t l.number new id ls known.1 apart.0; apart = apart.1 }))
      (λ (x : (seat ≢ id) × (get_elem? st.views seat ≡ some u)). moved_view t l.number new seat u (λ here. x.0 (sym here ∙ known.0.here)) (q.views seat u x.1))
      (at_set st.views id seat (without_first v) u there))
      (λ (x : (seat ≡ new) × (first_alone v ≡ u)).
      subst (λ (y : ℕ × View). KnowsSo k (with_libraries t libraries) y.0 y.1) (λ i. (sym x.0 i, x.1 i))
      (record { engine = λ is. off is; libraries = (moved_library t libraries id new l (updated_here t.libraries l.number new) known.0, tt); apart = (tt, tt) }))
      (at_end front (first_alone v) seat u e))

  -- a library comes into the engine's seat
  pub joins : (v : View) (l : LibraryKnows) (other : ℕ) → v.engine ≡ true → Joins (Ruled k) id v other (library_view k l) (with_first v (library_view k l)) nobody
  joins v l other engine st q at apart there =
      let t : Truth = q.truth in
      let w : View = library_view k l in
      let both : View = with_first v w in
      let mine = q.views id v at in
      let theirs : LibraryKnowsSo k t other l = (q.views other w (sym (set_else st.views id other both apart) ∙ there)).libraries.0 in
      let libraries : ℕ → ℕ = updated t.libraries l.number id in
      let others : Each (λ (m : LibraryKnows). m.number ≢ l.number) v.libraries = elsewhere t l.number id other v.libraries theirs.here (λ e. apart (sym e)) mine.libraries in
      reseated st q (set (set st.views id both) other nobody) libraries
      (views_set k t (set st.views id both) (with_libraries t libraries) other nobody (record { engine = λ is. off is; libraries = tt; apart = tt })
      (λ seat u ne e. ⊎_elim
      (λ (x : (seat ≡ id) × (both ≡ u)).
      subst (λ (y : ℕ × View). KnowsSo k (with_libraries t libraries) y.0 y.1) (λ i. (sym x.0 i, x.1 i))
      (record {
        engine = λ is. moved_engine t libraries id v.knows (mine.engine is);
        libraries = (moved_library t libraries other id l (updated_here t.libraries l.number id) theirs, moved_others t l.number id id v.libraries mine.libraries others);
        apart = (others, mine.apart);
      }))
      (λ (x : (seat ≢ id) × (get_elem? st.views seat ≡ some u)). moved_view t l.number id seat u (λ here. ne (sym here ∙ theirs.here)) (q.views seat u x.1))
      (at_set st.views id seat both u e)))

  -- both are told
  pub meets_at : (slots : ℕ) (e : EngineKnows) (l : LibraryKnows) (ls : List LibraryKnows) → e.taking ≡ 0
      → Allows (Ruled k) slots id (engine_view k e (l ∷ ls), []) 0 (λ n. n) (MeetTells (step slots 0 0 0 none) (engine_view k e (l ∷ ls), []))
  meets_at slots e l ls rests st q size at small =
      let t : Truth = q.truth in
      let me : KnowsSo k t id (engine_view k e (l ∷ ls)) = q.views id (engine_view k e (l ∷ ls)) at in
      let e' : EngineKnows = engine_after_meeting e l in
      let l' : LibraryKnows = library_after_meeting e l in
      let told : View = engine_view k e' (l' ∷ ls) in
      let mine : KnowsSo k t id told = record {
        engine = λ _. engine_met_so k t id e l q.sessions (me.engine refl) me.libraries.0;
        libraries = (library_met_so k t id e l q.sessions (me.engine refl) me.libraries.0 rests, me.libraries.1);
        apart = me.apart;
      } in
      let all = views_set k t st.views t id told mine (λ seat v _ found. q.views seat v found) in (
        told,
        keeps,
        tt,
        subst (λ (ws : List ℕ). Ruled k record { words = ws; homes = st.homes; views = set st.views id told }) (sym (set-get_or st.words 0 0))
            (record { truth = t; shape = q.shape; sessions = q.sessions; words = q.words; slots = q.slots; lanes = q.lanes; views = all }),
        (met k t id e l q.sessions (me.engine refl) me.libraries.0, refl, record { state = st; ruled = q; seat = id; knows = at }),
      )
