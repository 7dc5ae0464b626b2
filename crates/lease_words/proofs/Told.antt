-- What is known of a session when the engine and a library meet, and what both know once they were told.
use Rattle.std.proofs.Common.{◌≡◌, ◌≢◌, ℕ, zero, suc, ◌+◌, ◌-◌, ◌<◌, ◌≤◌, ◌⊎◌, List, [], ◌∷◌, ◌++◌, length, get_or, set, Bool, eq-eqb, ne_eqb, cond, refl, sym, ap, ◌∙◌, subst, inl, inr, ⊎_elim, arith, length-set}
use Rattle.std.proofs.lemmas.Option.{slice_get_within}
use Rattle.std.specs.Prelude.{slice_get, Some, ◌==◌}
use Rattle.std.proofs.lemmas.List.{get_or-set_same, get_or-set_other}
use native.Mathlib.Decide.{ℕ_discrete}
use mathlib.Core.List.{IsPrefix}
use Rattle.lease_core.specs.declared.lease.Ending.{Ending}
use Rattle.lease_core.specs.declared.lease.Ending.TheVariants.{Running, GivenBack, TakenBack}
use Rattle.lease_core.specs.declared.lease.Line.{Line}
use Rattle.lease_core.specs.declared.word.Standing.{Standing}
use Rattle.lease_core.specs.declared.word.Standing.TheVariants.{Active, Released, Revoked}
use Rattle.lease_core.specs.declared.word.Word.{Word}
use Rattle.lease_core.specs.Lines.{IsShown, IsShownBy, FitsLine, standing_of}
use Rattle.lease_words.specs.declared.view.LibraryLease.{LibraryLease}
use Rattle.lease_words.specs.declared.view.Heard.{Heard}
use Rattle.lease_words.specs.declared.view.Shape.{Shape}
use Rattle.lease_words.specs.declared.view.EngineSession.{EngineSession}
use Rattle.lease_words.specs.declared.view.EngineKnows.{EngineKnows}
use Rattle.lease_words.specs.declared.view.LibrarySession.{LibrarySession}
use Rattle.lease_words.specs.declared.view.LibraryKnows.{LibraryKnows}
use Rattle.lease_words.specs.Layout.{lane_of}
use Rattle.lease_words.specs.Leases.{Each, Stands, OthersRest, AreLines, FitsEnding, IsKept, new_lease, lease_in, total}
use Rattle.lease_words.specs.Views.{base_of, no_engine_session, engine_session, no_library_session, library_session, heard_of, unheard, taken_of, granted_lines}
use Rattle.lease_words.specs.Facts.{Lane, Session, IsLane, IsSession, Follows, KnowsLane, EngineFits, LibraryFits, one_if}
use Rattle.lease_words.specs.Rule.{Truth, EngineKnowsSo, LibraryKnowsSo}
use Rattle.lease_words.specs.Tells.{HasSeen, IsSeen, IsDone, AreOne, HaveMet, HaveMetAll, engine_session_after_meeting, library_session_after_meeting, engine_sessions_after_meeting, library_sessions_after_meeting, engine_after_meeting, library_after_meeting}
use Rattle.lease_words.proofs.Lines.{get_push, get_push_before, get_push_here, follows_length, fits_count}
use Rattle.lease_words.proofs.Seats.{each_map}

each_append : {A : Type 0} (P : A → Type 0) (xs ys : List A) → Each P xs → Each P ys → Each P (xs ++ ys)
each_append P [] ys all also = also
each_append P (x ∷ xs) ys all also = (all.0, each_append P xs ys all.1 also)

-- The line went on running since the engine looked.
record WentOn (was now : Line) : Type 0 where
  whose : now.library ≡ was.library
  ran : was.ending ≡ Running
  more : was.sends ≤ now.sends
  kept_or_given : (now.ending ≡ Running) ⊎ ((heir : ℕ) × (now.ending ≡ GivenBack heir))

-- a line as the engine has seen it, and as it is
abbrev Grew : Line → Line → Type 0
Grew x l = (x ≡ l) ⊎ WentOn x l

last_place : (front : List Line) (x : Line) (k : ℕ) → k ≡ length front → slice_get (front ++ x ∷ []) k ≡ Some x
last_place front x k e = subst (λ (j : ℕ). slice_get (front ++ x ∷ []) j ≡ Some x) (sym e) (get_push_here front x)

-- a place of the one list is one of the other
shown_at : (shown lines : List Line) → Follows shown lines → (k : ℕ) (l : Line) → slice_get lines k ≡ Some l → (x : Line) × (slice_get shown k ≡ Some x) × Grew x l
shown_at shown lines (inl same) k l at = (l, subst (λ (ls : List Line). slice_get ls k ≡ Some l) (sym same) at, inl refl)
shown_at shown lines (inr g) k l at = ⊎_elim
    (λ last. (
      g.was,
      subst (λ (ls : List Line). slice_get ls k ≡ Some g.was) (sym g.before) (last_place g.front g.was k last.0),
      inr (subst (WentOn g.was) (sym last.1) (record { whose = g.whose; ran = g.ran; more = g.more; kept_or_given = g.kept_or_given })),
    ))
    (λ before. (l, subst (λ (ls : List Line). slice_get ls k ≡ Some l) (sym g.before) (get_push_before g.front g.was l k before.1), inl refl))
    (get_push g.front g.now l k (subst (λ (ls : List Line). slice_get ls k ≡ Some l) g.after at))

lines_at : (shown lines : List Line) → Follows shown lines → (k : ℕ) (x : Line) → slice_get shown k ≡ Some x → (l : Line) × (slice_get lines k ≡ Some l) × Grew x l
lines_at shown lines (inl same) k x at = (x, subst (λ (ls : List Line). slice_get ls k ≡ Some x) same at, inl refl)
lines_at shown lines (inr g) k x at = ⊎_elim
    (λ last. (
      g.now,
      subst (λ (ls : List Line). slice_get ls k ≡ Some g.now) (sym g.after) (last_place g.front g.now k last.0),
      inr (subst (λ (y : Line). WentOn y g.now) (sym last.1) (record { whose = g.whose; ran = g.ran; more = g.more; kept_or_given = g.kept_or_given })),
    ))
    (λ before. (x, subst (λ (ls : List Line). slice_get ls k ≡ Some x) (sym g.after) (get_push_before g.front g.now x k before.1), inl refl))
    (get_push g.front g.was x k (subst (λ (ls : List Line). slice_get ls k ≡ Some x) g.before at))

whose_grew : (x l : Line) → Grew x l → x.library ≡ l.library
whose_grew x l (inl same) = ap (λ (y : Line). y.library) same
whose_grew x l (inr on) = sym on.whose

-- what went on wasn't taken back
not_taken : (x l : Line) → WentOn x l → l.ending ≡ TakenBack → ⊥
not_taken x l on taken = ⊎_elim (λ runs. let e : Running ≡ TakenBack = sym runs ∙ taken in cc) (λ gives. let e : GivenBack gives.0 ≡ TakenBack = sym gives.1 ∙ taken in cc) on.kept_or_given

fits_given : (e : Ending) (heir : ℕ) → FitsEnding e (GivenBack heir) → e ≡ GivenBack heir
fits_given Running heir fits = ⊎_elim (λ no. absurd (let e : GivenBack heir ≡ Running = no in cc)) (λ no. absurd (let e : GivenBack heir ≡ TakenBack = no in cc)) fits
fits_given (GivenBack other) heir fits = sym fits
fits_given TakenBack heir fits = absurd (let e : GivenBack heir ≡ TakenBack = fits in cc)

fits_taken : (e : Ending) → FitsEnding e TakenBack → (e ≡ Running) ⊎ (e ≡ TakenBack)
fits_taken Running fits = inl refl
fits_taken (GivenBack heir) fits = absurd (let e : TakenBack ≡ GivenBack heir = fits in cc)
fits_taken TakenBack fits = inr refl

lost_fits : (e f : Ending) → e ≡ TakenBack → FitsEnding e f → f ≡ TakenBack
lost_fits Running f is fits = absurd (let e : Running ≡ TakenBack = is in cc)
lost_fits (GivenBack heir) f is fits = absurd (let e : GivenBack heir ≡ TakenBack = is in cc)
lost_fits TakenBack f is fits = fits

fits_released : (e f : Ending) → FitsEnding e f → standing_of f ≡ Released → standing_of e ≡ Released
fits_released Running f fits is = ⊎_elim (λ runs. absurd (let e : Active ≡ Released = ap standing_of (sym runs) ∙ is in cc)) (λ taken. absurd (let e : Revoked ≡ Released = ap standing_of (sym taken) ∙ is in cc)) fits
fits_released (GivenBack heir) f fits is = refl
fits_released TakenBack f fits is = absurd (let e : Revoked ≡ Released = ap standing_of (sym fits) ∙ is in cc)

kept_not_released : (e : Ending) → IsKept e → standing_of e ≡ Released → ⊥
kept_not_released Running kept is = let e : Active ≡ Released = is in cc
kept_not_released (GivenBack heir) kept is = kept
kept_not_released TakenBack kept is = let e : Revoked ≡ Released = is in cc

-- a lease beside its line
seen_same : (e : Ending) (h : LibraryLease) (sends : ℕ) → sends ≡ h.count → FitsEnding h.ending e → HasSeen e h sends
seen_same Running h sends count fits = (omega arith, λ loss_ending. let e : Running ≡ TakenBack = lost_fits h.ending Running loss_ending fits in cc)
seen_same (GivenBack heir) h sends count fits = (count, fits_given h.ending heir fits)
seen_same TakenBack h sends count fits = (count, fits_taken h.ending fits)

seen_line : (h : LibraryLease) (x l : Line) → Grew x l → l.sends ≡ h.count → FitsEnding h.ending l.ending → HasSeen x.ending h x.sends
seen_line h x l (inl same) count fits = subst (λ (y : Line). HasSeen y.ending h y.sends) (sym same) (seen_same l.ending h l.sends count fits)
seen_line h x l (inr on) count fits =
    let more : x.sends ≤ l.sends = on.more in
    let few : x.sends ≤ h.count = omega arith in
    subst (λ (e : Ending). HasSeen e h x.sends) (sym on.ran) (few, λ loss_ending. not_taken x l on (lost_fits h.ending l.ending loss_ending fits))

-- the library's lease with a number, if there is one
find_lease : (P : LibraryLease → Type 0) (n : ℕ) (leases : List LibraryLease) → Each P leases
    → (P (lease_in n leases) × ((lease_in n leases).lease ≡ n)) ⊎ ((lease_in n leases ≡ new_lease n) × Each (λ (h : LibraryLease). h.lease ≢ n) leases)
find_lease P n [] all = inr (refl, tt)
find_lease P n (h ∷ hs) all =
    elim (ℕ_discrete h.lease n) [
      | yes e ↦ subst (λ (b : Bool). (P (cond b h (lease_in n hs)) × ((cond b h (lease_in n hs)).lease ≡ n)) ⊎ ((cond b h (lease_in n hs) ≡ new_lease n) × Each (λ (g : LibraryLease). g.lease ≢ n) (h ∷ hs)))
          (sym (eq-eqb h.lease n e)) (inl (all.0, e))
      | no ne ↦ subst (λ (b : Bool). (P (cond b h (lease_in n hs)) × ((cond b h (lease_in n hs)).lease ≡ n)) ⊎ ((cond b h (lease_in n hs) ≡ new_lease n) × Each (λ (g : LibraryLease). g.lease ≢ n) (h ∷ hs)))
          (sym (ne_eqb h.lease n ne)) (⊎_elim (λ is. inl is) (λ none. inr (none.0, (ne, none.1))) (find_lease P n hs all.1))
    ]

-- The engine's lines of a session, and the session's.
module _ (base library : ℕ) (shown lines : List Line) (follows : Follows shown lines) where
  is_seen : (h : LibraryLease) → Stands base lines library h → IsSeen base library shown h
  is_seen h s =
      let a = shown_at shown lines follows (h.lease - 1) s.line s.at in
      record { above = s.above; line = a.0; at = a.1; whose = whose_grew a.0 s.line a.2 ∙ s.whose; seen = seen_line h a.0 s.line a.2 s.count s.ending }

  rest_grew : (x l : Line) → Grew x l → (l.sends ≡ 0) × IsKept l.ending → (x.sends ≡ 0) × IsKept x.ending
  rest_grew x l (inl same) rests = subst (λ (y : Line). (y.sends ≡ 0) × IsKept y.ending) (sym same) rests
  rest_grew x l (inr on) rests =
      let more : x.sends ≤ l.sends = on.more in
      let none : l.sends ≡ 0 = rests.0 in
      (omega arith, subst IsKept (sym on.ran) tt)

  others_rest : (leases : List LibraryLease) → OthersRest base lines library leases → OthersRest base shown library leases
  others_rest leases others k x at above whose apart =
      let a = lines_at shown lines follows k x at in
      rest_grew x a.0 a.2 (others k a.0 a.1 above (sym (whose_grew x a.0 a.2) ∙ whose) apart)

  module _ (leases : List LibraryLease) (stands : Each (Stands base lines library) leases) (others : OthersRest base lines library leases) where
    abbrev Shows : Word → Line → LibraryLease → Type 0
    Shows w l h = (w.count ≤ h.count) × (w.standing ≡ Released → standing_of h.ending ≡ Released) × (w.standing ≡ Revoked → l.ending ≡ TakenBack)

    taken_seen : (w : Word) (x m : Line) → Grew x m → FitsLine w.standing w.owner w.count m → w.standing ≡ Revoked → x.ending ≡ TakenBack
    taken_seen w x m grew fits is =
        let taken : m.ending ≡ TakenBack = (subst (λ (s : Standing). FitsLine s w.owner w.count m) is fits).0 in
        ⊎_elim (λ same. ap (λ (y : Line). y.ending) same ∙ taken) (λ on. absurd (not_taken x m on taken)) grew

    released : (w : Word) (m : Line) → FitsLine w.standing w.owner w.count m → w.standing ≡ Released → standing_of m.ending ≡ Released
    released w m fits is = (subst (λ (s : Standing). FitsLine s w.owner w.count m) is fits).0

    own_shows : (w : Word) (x m : Line) → IsShownBy lines w m → Grew x m → base < w.lease → x.library ≡ library → Shows w x (lease_in w.lease leases)
    own_shows w x m by grew above whose = ⊎_elim
        (λ (found : Stands base lines library (lease_in w.lease leases) × ((lease_in w.lease leases).lease ≡ w.lease)).
        let h : LibraryLease = lease_in w.lease leases in
        let s : Stands base lines library h = found.0 in
        let here : slice_get lines (w.lease - 1) ≡ Some s.line = subst (λ (n : ℕ). slice_get lines (n - 1) ≡ Some s.line) found.1 s.at in
        let same : s.line ≡ m = let at : slice_get lines (w.lease - 1) ≡ Some m = by.line in cc in
        let few : w.count ≤ m.sends = fits_count w.standing w.owner w.count m by.fits in
        let count : m.sends ≡ h.count = ap (λ (l : Line). l.sends) (sym same) ∙ s.count in
        let fits : FitsEnding h.ending m.ending = subst (λ (l : Line). FitsEnding h.ending l.ending) same s.ending in
        (subst (λ (n : ℕ). w.count ≤ n) count few, λ is. fits_released h.ending m.ending fits (released w m by.fits is), taken_seen w x m grew by.fits))
        (λ (none : (lease_in w.lease leases ≡ new_lease w.lease) × Each (λ (h : LibraryLease). h.lease ≢ w.lease) leases).
        let one : 0 < w.lease = by.lease in
        let next : w.lease ≡ suc (w.lease - 1) = omega arith in
        let rests : (m.sends ≡ 0) × IsKept m.ending = others (w.lease - 1) m by.line (omega arith) (sym (whose_grew x m grew) ∙ whose)
        (subst (λ (n : ℕ). Each (λ (h : LibraryLease). h.lease ≢ n) leases) next none.1) in
        let few : w.count ≤ m.sends = fits_count w.standing w.owner w.count m by.fits in
        subst (Shows w x) (sym none.0) (subst (λ (n : ℕ). w.count ≤ n) rests.0 few, λ is. absurd (kept_not_released m.ending rests.1 (released w m by.fits is)), taken_seen w x m grew by.fits))
        (find_lease (Stands base lines library) w.lease leases stands)

    word_done : (w : Word) → IsShown lines w → IsDone base library shown leases w
    word_done w (inl opens) =
        let e : w.lease ≡ 0 = ap (λ (v : Word). v.lease) opens in
        record { lease = omega arith; own = λ l h above at whose is. absurd (omega arith) }
    word_done w (inr (m, by)) =
        let within : w.lease - 1 < length lines = slice_get_within lines (w.lease - 1) m by.line in
        let size : length shown ≡ length lines = follows_length shown lines follows in
        record {
          lease = omega arith;
          own = λ l h above at whose is.
              let a = lines_at shown lines follows (w.lease - 1) l at in
              let same : a.0 ≡ m = let here : slice_get lines (w.lease - 1) ≡ Some a.0 = a.1 in let there : slice_get lines (w.lease - 1) ≡ Some m = by.line in cc in
              subst (Shows w l) (sym is) (own_shows w l m by (subst (Grew l) same a.2) above whose);
        }

nothing_out : (taking n : ℕ) → taking ≡ 0 → one_if (taking == suc n) ≡ 0
nothing_out taking n rests = ap one_if (ne_eqb taking (suc n) (λ e. omega arith))

-- One session, and what both know of it.
module _ (libraries depth sends library base s taking sending : ℕ) (one : 1 ≤ library) (most : library ≤ libraries) (t : Session) (es : EngineSession) (ls : LibrarySession)
    (so : IsSession base libraries depth t) (e : EngineFits libraries base taking s t es) (l : LibraryFits sends library sending s t ls) where
  as_one : AreOne libraries library es ls
  as_one = let is : IsLane base depth t.lines library (t.lanes library) = so.lanes library one most in record {
    lines = t.lines;
    are_lines = subst (λ (b : ℕ). AreLines b libraries t.lines) (sym e.based) so.are_lines;
    follows = subst (λ (shown : List Line). Follows shown t.lines) (sym e.lines) so.follows;
    stands = subst (λ (z : ℕ × List LibraryLease). Each (Stands z.0 t.lines library) z.1) (λ i. (sym e.based i, sym l.leases i)) is.stands;
    rest = subst (λ (z : ℕ × List LibraryLease). OthersRest z.0 t.lines library z.1) (λ i. (sym e.based i, sym l.leases i)) is.others;
    all = ap length l.items ∙ (is.all ∙ ap (λ (b : ℕ). total library (granted_lines b t.lines)) (sym e.based));
    engine_words = e.words;
    library_words = l.words;
  }

  have_met : HaveMet libraries depth library es ls
  have_met =
      let lane : Lane = t.lanes library in
      let is : IsLane base depth t.lines library lane = so.lanes library one most in
      let known : KnowsLane libraries taking s library lane (taken_of es library) = e.lanes library one most in
      let done : (ws : List Word) → Each (IsShown t.lines) ws → Each (IsDone base library t.shown lane.leases) ws =
      λ ws shown. each_map (word_done base library t.shown t.lines so.follows lane.leases is.stands is.others) ws shown in
      let facts : Each (IsSeen es.base library es.lines) ls.leases × OthersRest es.base es.lines library ls.leases × Each (IsDone es.base library es.lines ls.leases) es.words × Each (IsDone es.base library es.lines ls.leases) ls.words =
      subst (λ (z : ℕ × List Line × List LibraryLease). Each (IsSeen z.0 library z.1) z.2 × OthersRest z.0 z.1 library z.2 × Each (IsDone z.0 library z.1 z.2) es.words × Each (IsDone z.0 library z.1 z.2) ls.words)
      (λ i. (sym e.based i, sym e.lines i, sym l.leases i)) (
        each_map (is_seen base library t.shown t.lines so.follows) lane.leases is.stands,
        others_rest base library t.shown t.lines so.follows lane.leases is.others,
        done es.words e.words,
        done ls.words l.words,
      ) in
      let count : length (taken_of es library) ≡ lane.taken + lane.emptying = known.count in
      let within : length lane.items + lane.filling ≤ lane.taken + depth = is.within in
      let items : length ls.items ≡ length lane.items = ap length l.items in
      let taken : ls.taken ≤ lane.taken = l.taken in
      record {
        as_one = as_one;
        leases = facts.0;
        others = facts.1;
        engine_words = facts.2;
        library_words = facts.3;
        begins = subst (IsPrefix (taken_of es library)) (sym l.items) known.begins;
        within = omega arith;
        taken = omega arith;
        published = subst (λ (n : ℕ). ls.published ≤ n) (sym e.published) l.published;
      }

  engine_told_fits : EngineFits libraries base taking s t (engine_session_after_meeting es ls)
  engine_told_fits = record {
    based = e.based;
    lines = e.lines;
    words = each_append (IsShown t.lines) ls.words es.words l.words e.words;
    published = e.published;
    count = e.count;
    lanes = e.lanes;
    untaken = e.untaken;
  }

  library_told_fits : taking ≡ 0 → LibraryFits sends library sending s t (library_session_after_meeting library es ls)
  library_told_fits rests =
      let lane : Lane = t.lanes library in
      let known : KnowsLane libraries taking s library lane (taken_of es library) = e.lanes library one most in
      let count : length (taken_of es library) ≡ lane.taken + lane.emptying = known.count in
      let none : lane.emptying ≡ 0 = known.out ∙ nothing_out taking (lane_of libraries s library) rests in
      let published : es.published ≡ t.published = e.published in
      record {
        leases = l.leases;
        items = l.items;
        out = l.out;
        words = each_append (IsShown t.lines) ls.words es.words l.words e.words;
        taken = omega arith;
        published = omega arith;
        few = l.few;
      }

-- the sessions of both
pub engine_told_at : (xs : List EngineSession) (ys : List LibrarySession) (s : ℕ) → s < length xs → s < length ys → get_or (engine_sessions_after_meeting xs ys) s no_engine_session ≡ engine_session_after_meeting (get_or xs s no_engine_session) (get_or ys s no_library_session)
engine_told_at [] ys s a b = absurd (omega arith)
engine_told_at (x ∷ xs) [] s a b = absurd (omega arith)
engine_told_at (x ∷ xs) (y ∷ ys) zero a b = refl
engine_told_at (x ∷ xs) (y ∷ ys) (suc s) a b = engine_told_at xs ys s (omega arith) (omega arith)

pub library_told_at : (library : ℕ) (xs : List EngineSession) (ys : List LibrarySession) (s : ℕ) → s < length xs → s < length ys → get_or (library_sessions_after_meeting library xs ys) s no_library_session ≡ library_session_after_meeting library (get_or xs s no_engine_session) (get_or ys s no_library_session)
library_told_at library [] ys s a b = absurd (omega arith)
library_told_at library (x ∷ xs) [] s a b = absurd (omega arith)
library_told_at library (x ∷ xs) (y ∷ ys) zero a b = refl
library_told_at library (x ∷ xs) (y ∷ ys) (suc s) a b = library_told_at library xs ys s (omega arith) (omega arith)

length-engine_told : (xs : List EngineSession) (ys : List LibrarySession) → length xs ≡ length ys → length (engine_sessions_after_meeting xs ys) ≡ length xs
length-engine_told [] ys same = refl
length-engine_told (x ∷ xs) [] same = absurd (omega arith)
length-engine_told (x ∷ xs) (y ∷ ys) same = ap suc (length-engine_told xs ys (omega arith))

length-library_told : (library : ℕ) (xs : List EngineSession) (ys : List LibrarySession) → length xs ≡ length ys → length (library_sessions_after_meeting library xs ys) ≡ length xs
length-library_told library [] ys same = refl
length-library_told library (x ∷ xs) [] same = absurd (omega arith)
length-library_told library (x ∷ xs) (y ∷ ys) same = ap suc (length-library_told library xs ys (omega arith))

-- Both, at one seat.
module _ (k : Shape) (t : Truth) (seat : ℕ) (e : EngineKnows) (l : LibraryKnows) (sessions : (s : ℕ) → s < k.sessions → IsSession (base_of k s) k.libraries k.depth (t.sessions s))
    (engine : EngineKnowsSo k t seat e) (library : LibraryKnowsSo k t seat l) where
  alike : length e.sessions ≡ length l.sessions
  alike = engine.count ∙ sym library.count

  within_engine : (s : ℕ) → s < k.sessions → s < length e.sessions
  within_engine s here = subst (λ (n : ℕ). s < n) (sym engine.count) here

  within_library : (s : ℕ) → s < k.sessions → s < length l.sessions
  within_library s here = subst (λ (n : ℕ). s < n) (sym library.count) here

  pub met : HaveMetAll k e l
  met = record {
    sessions = λ s here. have_met k.libraries k.depth k.sends l.number (base_of k s) s e.taking l.sending library.from_one library.to_last (t.sessions s) (engine_session e s) (library_session l s)
        (sessions s here) (engine.sessions s here) (library.sessions s here);
    beats = subst (λ (n : ℕ). (heard_of e l.number).count ≤ n) (sym library.beats) (engine.heard l.number library.from_one library.to_last);
    heard =
        let from : 1 ≤ l.number = library.from_one in
        let to : l.number ≤ k.libraries = library.to_last in
        let size : length e.beats ≡ k.libraries = engine.beats in
        get_or-set_same e.beats (l.number - 1) (record { count = l.beats; loads = (heard_of e l.number).loads }) unheard (omega arith);
  }

  heard_told : (other : ℕ) → 1 ≤ other → other ≤ k.libraries → (heard_of (engine_after_meeting e l) other).count ≤ t.beats other
  heard_told other one most =
      let h : Heard = record { count = l.beats; loads = (heard_of e l.number).loads } in
      let from : 1 ≤ l.number = library.from_one in
      let to : l.number ≤ k.libraries = library.to_last in
      let size : length e.beats ≡ k.libraries = engine.beats in
      elim (ℕ_discrete other l.number) [
        | yes same ↦ subst (λ (n : ℕ). (get_or (set e.beats (l.number - 1) h) (n - 1) unheard).count ≤ t.beats n) (sym same)
            (subst (λ (x : Heard). x.count ≤ t.beats l.number) (sym (get_or-set_same e.beats (l.number - 1) h unheard (omega arith))) (subst (λ (n : ℕ). l.beats ≤ n) library.beats (omega arith)))
        | no ne ↦ subst (λ (x : Heard). x.count ≤ t.beats other) (sym (get_or-set_other e.beats (l.number - 1) (other - 1) h unheard (λ same. ne (omega arith)))) (engine.heard other one most)
      ]

  pub engine_met_so : EngineKnowsSo k t seat (engine_after_meeting e l)
  engine_met_so = record {
    here = engine.here;
    count = length-engine_told e.sessions l.sessions alike ∙ engine.count;
    sessions = λ s here. subst (EngineFits k.libraries (base_of k s) e.taking s (t.sessions s)) (sym (engine_told_at e.sessions l.sessions s (within_engine s here) (within_library s here)))
        (engine_told_fits k.libraries k.depth k.sends l.number (base_of k s) s e.taking l.sending library.from_one library.to_last (t.sessions s) (engine_session e s) (library_session l s)
        (sessions s here) (engine.sessions s here) (library.sessions s here));
    beats = length-set e.beats (l.number - 1) (record { count = l.beats; loads = (heard_of e l.number).loads }) ∙ engine.beats;
    heard = heard_told;
  }

  pub library_met_so : e.taking ≡ 0 → LibraryKnowsSo k t seat (library_after_meeting e l)
  library_met_so rests = record {
    from_one = library.from_one;
    to_last = library.to_last;
    here = library.here;
    beats = library.beats;
    count = length-library_told l.number e.sessions l.sessions alike ∙ engine.count;
    sessions = λ s here. subst (LibraryFits k.sends l.number l.sending s (t.sessions s)) (sym (library_told_at l.number e.sessions l.sessions s (within_engine s here) (within_library s here)))
        (library_told_fits k.libraries k.depth k.sends l.number (base_of k s) s e.taking l.sending library.from_one library.to_last (t.sessions s) (engine_session e s) (library_session l s)
        (sessions s here) (engine.sessions s here) (library.sessions s here) rests);
  }
