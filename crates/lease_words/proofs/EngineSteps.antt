-- What the engine's steps on a lease word have in common: the session's lines change, which the engine sees, and no lane does.
use Rattle.std.proofs.Common.{◌≡◌, ◌≢◌, ℕ, ◌+◌, ◌-◌, ◌<◌, ◌≤◌, List, [], ◌∷◌, length, refl, sym, ap, ◌∙◌, subst, inl, arith}
use Rattle.std.specs.Prelude.{Option}
use native.Mathlib.Decide.{dec_le}
use mathlib.Core.Option.{some}
use mathlib.Core.List.{IsPrefix}
use lib.ListN.{get_elem?}
use Rattle.atomic_table.specs.Table.{State, keeps, stepped}
use Rattle.lease_core.specs.declared.lease.Line.{Line}
use Rattle.lease_core.specs.declared.word.Word.{Word}
use Rattle.lease_core.specs.State.{last_or}
use Rattle.lease_core.specs.Lines.{no_line, word_of, IsShown, raised}
use Rattle.lease_core.specs.Word.{word_in}
use Rattle.lease_words.specs.declared.item.Item.{Item}
use Rattle.lease_words.specs.declared.view.LibraryLease.{LibraryLease}
use Rattle.lease_words.specs.declared.view.Shape.{Shape}
use Rattle.lease_words.specs.declared.view.EngineSession.{EngineSession}
use Rattle.lease_words.specs.declared.view.EngineKnows.{EngineKnows}
use Rattle.lease_words.specs.declared.view.LibraryKnows.{LibraryKnows}
use Rattle.lease_words.specs.declared.view.View.{View}
use Rattle.lease_words.specs.Layout.{lease_word}
use Rattle.lease_words.specs.Leases.{Each, Stands, OthersRest, AreLines, IsLineOf, IsNotOlder, total}
use Rattle.lease_words.specs.Views.{base_of, with_engine_session, engine_view, taken_of, last_library, shown_sends, granted_lines, pending, library_session}
use Rattle.lease_words.specs.Sees.{after_look}
use Rattle.lease_words.specs.Facts.{Lane, Session, IsLane, IsSession, EngineFits, LibraryFits}
use Rattle.lease_words.specs.Rule.{Ruled, SlotsFit}
use Rattle.lease_words.specs.Tells.{HasLooked, IsSettled, engine_numbers, numbers_after_look}
use Rattle.lease_words.proofs.Lines.{raised_follows, follows_length, follows_last, shown_not_newer, words_shown}
use Rattle.lease_words.proofs.Totals.{granted_total, granted_none, last_here, HasGrown, follows_grown}
use Rattle.lease_words.proofs.Places.{updated_all, words_lease}
use Rattle.lease_words.proofs.Seats.{each_map, with_session, ForLibrary, library_fits_still, engine_moves, engine_mine}

abbrev pub Table : Type 0
Table = State (Option Item) View

-- the session with these lines, which the engine has seen
abbrev pub with_lines : Session → List Line → Session
with_lines t lines = record { lines = lines; shown = lines; published = t.published; lanes = t.lanes }

-- the engine made these lines, and their word
abbrev pub relined : EngineSession → List Line → EngineSession
relined es lines = record { base = es.base; lines = lines; words = word_of lines ∷ es.words; looks = es.looks; taken = es.taken; published = es.published }

-- the lines changed so that words stay shown and no lane has to change
pub record LinesMove (base libraries : ℕ) (lines new : List Line) : Type 0 where
  pub are : AreLines base libraries new
  pub words : (w : Word) → IsShown lines w → IsShown new w
  pub lanes : (depth library : ℕ) (lane : Lane) → 1 ≤ library → library ≤ libraries → IsLane base depth lines library lane → IsLane base depth new library lane

pub lines_rest : (base libraries : ℕ) (lines : List Line) → AreLines base libraries lines → LinesMove base libraries lines lines
lines_rest base libraries lines are = record { are = are; words = λ _ is. is; lanes = λ _ _ _ _ _ is. is }

pub move_still : (base libraries library : ℕ) (t : Session) (new : List Line) → LinesMove base libraries t.lines new → ForLibrary library t (with_lines t new)
move_still base libraries library t new moves = record { leases = refl; items = refl; filling = refl; taken = omega arith; published = omega arith; words = moves.words }

-- what a settled library knows stands in the engine's lines, once these are the session's
pub settled_told : (base depth sends s : ℕ) (t : Session) (es : EngineSession) (l : LibraryKnows) → LibraryFits sends l.number l.sending s t (library_session l s) → IsLane base depth t.lines l.number (t.lanes l.number)
    → es.base ≡ base → es.lines ≡ t.lines → IsPrefix (taken_of es l.number) (t.lanes l.number).items → IsSettled s es l
settled_told base depth sends s t es l fits lane based lines begins = record {
  stands = subst (λ (z : ℕ × List Line × List LibraryLease). Each (Stands z.0 z.1 l.number) z.2) (λ i. (sym based i, sym lines i, sym fits.leases i)) lane.stands;
  others = subst (λ (z : ℕ × List Line × List LibraryLease). OthersRest z.0 z.1 l.number z.2) (λ i. (sym based i, sym lines i, sym fits.leases i)) lane.others;
  words = subst (λ (ls : List Line). Each (IsShown ls) (library_session l s).words) (sym lines) fits.words;
  taken = subst (λ (items : List Item). IsPrefix (taken_of es l.number) items) (sym fits.items) begins;
  all = ap length fits.items ∙ (lane.all ∙ (λ i. total l.number (granted_lines (sym based i) (sym lines i))));
}

-- how much of what the lines show was taken
abbrev pub AreTaken : ℕ → List Line → ℕ → ℕ → Type 0
AreTaken base lines library n = (n ≤ granted_total base library lines) × (library ≢ (last_or no_line lines).library → n ≡ granted_total base library lines)

pub fits_relined : (libraries base taking s : ℕ) (t : Session) (new lines : List Line) (es : EngineSession) → EngineFits libraries base taking s t es → lines ≡ new → ((w : Word) → IsShown t.lines w → IsShown new w)
    → ((library : ℕ) → 1 ≤ library → library ≤ libraries → AreTaken base new library (length (taken_of es library))) → EngineFits libraries base taking s (with_lines t new) (relined es lines)
fits_relined libraries base taking s t new lines es fits is words untaken = record {
  based = fits.based;
  lines = is;
  words = (subst (λ (ls : List Line). IsShown new (word_of ls)) (sym is) (words_shown new), each_map words es.words fits.words);
  published = fits.published;
  count = fits.count;
  lanes = fits.lanes;
  untaken = λ library a b. subst (λ (z : ℕ × List Line). AreTaken z.0 z.1 library (length (taken_of es library))) (λ i. (sym fits.based i, sym is i)) (untaken library a b);
}

module _ (k : Shape) (id : ℕ) (e : EngineKnows) (ls : List LibraryKnows) (s : ℕ) (here : s < k.sessions) (st : Table) (q : Ruled k st) (at : get_elem? st.views id ≡ some (engine_view k e ls))
    (new : List Line) (moves : LinesMove (base_of k s) k.libraries (q.truth.sessions s).lines new) where
  abbrev then : Session
  then = with_lines (q.truth.sessions s) new

  session_after : IsSession (base_of k s) k.libraries k.depth then
  session_after = record {
    are_lines = moves.are;
    are_shown = moves.are;
    follows = inl refl;
    lanes = λ library a b. moves.lanes k.depth library ((q.truth.sessions s).lanes library) a b ((q.sessions s here).lanes library a b);
  }

  pub ruled_after : (n : ℕ) (es : EngineSession) → word_in n ≡ word_of new → EngineFits k.libraries (base_of k s) e.taking s then es
      → Ruled k (stepped st (lease_word s) n id [] (engine_view k (with_engine_session e s es) ls) keeps)
  ruled_after n es word fits = record {
    truth = with_session q.truth s then;
    shape = q.shape;
    sessions = updated_all (λ i (y : Session). i < k.sessions → IsSession (base_of k i) k.libraries k.depth y) q.truth.sessions s then (λ _. session_after) (λ i _ near. q.sessions i near);
    words = words_lease k st.words q.truth q.shape q.words s n then here word refl (λ _ _ _. refl);
    slots = q.slots;
    lanes = λ i library. updated_all (λ i (y : Session). i < k.sessions → 1 ≤ library → library ≤ k.libraries → SlotsFit k st.homes i library (y.lanes library)) q.truth.sessions s then
        (λ near a b. q.lanes s library near a b) (λ i _ near a b. q.lanes i library near a b) i;
    views = engine_moves k q.truth st.views s then id e (with_engine_session e s es) ls q.views at
        (engine_mine k q.truth s then id e es here fits ((q.views id (engine_view k e ls) at).engine refl))
        (λ library a b. move_still (base_of k s) k.libraries library (q.truth.sessions s) new moves);
  }

  pub settled_after : (es : EngineSession) → es.base ≡ base_of k s → es.lines ≡ new → ((library : ℕ) → 1 ≤ library → library ≤ k.libraries → IsPrefix (taken_of es library) ((q.truth.sessions s).lanes library).items) → Each (IsSettled s es) ls
  settled_after es based lines begins = each_map (λ (l : LibraryKnows) so.
      settled_told (base_of k s) k.depth k.sends s then es l
      (library_fits_still k.sends l.number l.sending s (q.truth.sessions s) then (library_session l s) (move_still (base_of k s) k.libraries l.number (q.truth.sessions s) new moves) (so.sessions s here))
      (session_after.lanes l.number so.from_one so.to_last)
      based lines (begins l.number so.from_one so.to_last)) ls (q.views id (engine_view k e ls) at).libraries

-- what a look tells the engine
module _ (k : Shape) (taking s : ℕ) (es : EngineSession) (t : Session) (w : Word) (so : IsSession (base_of k s) k.libraries k.depth t) (fits : EngineFits k.libraries (base_of k s) taking s t es) (is : w ≡ word_of t.lines) where
  -- the engine's lines are the session's then
  pub now_all : raised es.lines w ≡ t.lines
  now_all = (λ i. raised (fits.lines i) (is i)) ∙ raised_follows (base_of k s) k.libraries t.shown t.lines so.follows so.are_lines

  grown : (library : ℕ) → HasGrown (base_of k s) library t.shown t.lines
  grown library = follows_grown (base_of k s) k.libraries library t.shown t.lines so.are_shown so.follows

  before : (library : ℕ) → shown_sends es library ≡ granted_total (base_of k s) library t.shown
  before library = λ i. granted_total (fits.based i) library (fits.lines i)

  after : (library : ℕ) → shown_sends (after_look es w) library ≡ granted_total (base_of k s) library t.lines
  after library = λ i. granted_total (fits.based i) library (now_all i)

  last_now : (last_or no_line (raised es.lines w)).library ≡ (last_or no_line t.lines).library
  last_now = ap (λ l. (last_or no_line l).library) now_all

  last_is : last_library es ≡ last_library (after_look es w)
  last_is = ap (λ l. (last_or no_line l).library) fits.lines ∙ ((follows_last t.shown t.lines so.follows).0 ∙ sym last_now)

  pub fits_seen : EngineFits k.libraries (base_of k s) taking s (with_lines t t.lines) (after_look es w)
  fits_seen = record {
    based = fits.based;
    lines = now_all;
    words = (subst (IsShown t.lines) (sym is) (words_shown t.lines), fits.words);
    published = fits.published;
    count = fits.count;
    lanes = fits.lanes;
    untaken = λ library a b.
        let old = fits.untaken library a b in
        let g = grown library in
        let was = before library in
        let now = after library in
        let more : granted_total (base_of k s) library t.shown ≤ granted_total (base_of k s) library t.lines = g.more in
        let le : length (taken_of es library) ≤ shown_sends es library = old.0 in
        (omega arith, λ other. old.1 (λ same. other (same ∙ last_is)) ∙ (was ∙ (g.same (λ same. other (same ∙ sym last_now)) ∙ sym now)));
  }

  is_here : base_of k s < length t.lines → IsLineOf k.libraries (last_or no_line t.lines)
  is_here above = last_here (base_of k s) k.libraries t.lines so.are_lines above

  none_pending : (library : ℕ) → length t.lines ≤ base_of k s → shown_sends (after_look es w) library ≡ 0
  none_pending library low = after library ∙ ap (total library) (granted_none (base_of k s) t.lines low)

  -- a lane has no more items than it is deep that weren't taken
  lane_within : (library : ℕ) → 1 ≤ library → library ≤ k.libraries → shown_sends (after_look es w) library - length (taken_of es library) ≤ k.depth
  lane_within library one most =
      let lane = so.lanes library one most in
      let knows = fits.lanes library one most in
      let count : length (taken_of es library) ≡ (t.lanes library).taken + (t.lanes library).emptying = knows.count in
      let all : length (t.lanes library).items ≡ granted_total (base_of k s) library t.lines = lane.all in
      let within : length (t.lanes library).items + (t.lanes library).filling ≤ (t.lanes library).taken + k.depth = lane.within in
      let now = after library in
      omega arith

  within : pending (after_look es w) ≤ k.depth
  within =
      let library : ℕ = last_library (after_look es w) in
      elim (dec_le (length t.lines) (base_of k s)) [
        | yes low ↦ let none : shown_sends (after_look es w) library ≡ 0 = none_pending library low in omega arith
        | no high ↦
            let above : base_of k s < length t.lines = omega (arith, high) in
            let it = is_here above in
            lane_within library (subst (λ n. 1 ≤ n) (sym last_now) it.from_one) (subst (λ n. n ≤ k.libraries) (sym last_now) it.to_last)
      ]

  count_is : w.count ≡ (last_or no_line t.lines).sends
  count_is = ap (λ (v : Word). v.count) is

  more : (last_or no_line es.lines).sends ≤ w.count
  more = let le = (follows_last t.shown t.lines so.follows).1 in let a : (last_or no_line es.lines).sends ≡ (last_or no_line t.shown).sends = ap (λ l. (last_or no_line l).sends) fits.lines in let b = count_is in omega arith

  pending_is : pending es ≡ shown_sends es (last_library (after_look es w)) - length (taken_of es (last_library (after_look es w)))
  pending_is = ap (λ library. shown_sends es library - length (taken_of es library)) last_is

  pending_now : pending (after_look es w) ≡ pending es + (w.count - (last_or no_line es.lines).sends)
  pending_now =
      let library : ℕ = last_library (after_look es w) in
      let g = grown library in
      let own : granted_total (base_of k s) library t.lines ≡ granted_total (base_of k s) library t.shown + ((last_or no_line t.lines).sends - (last_or no_line t.shown).sends) = g.own last_now in
      let was : shown_sends es library ≡ granted_total (base_of k s) library t.shown = before library in
      let now : shown_sends (after_look es w) library ≡ granted_total (base_of k s) library t.lines = after library in
      let as_seen : (last_or no_line es.lines).sends ≡ (last_or no_line t.shown).sends = ap (λ l. (last_or no_line l).sends) fits.lines in
      let count : w.count ≡ (last_or no_line t.lines).sends = count_is in
      let old : pending es ≡ shown_sends es library - length (taken_of es library) = pending_is in
      elim (dec_le (length t.lines) (base_of k s)) [
        | yes low ↦ let none : shown_sends (after_look es w) library ≡ 0 = none_pending library low in omega arith
        | no high ↦
            let above : base_of k s < length t.lines = omega (arith, high) in
            let it = is_here above in
            let le : length (taken_of es library) ≤ shown_sends es library = (fits.untaken library (subst (λ n. 1 ≤ n) (sym last_now) it.from_one) (subst (λ n. n ≤ k.libraries) (sym last_now) it.to_last)).0 in
            omega arith
      ]

  pub numbers_now : engine_numbers (after_look es w) ≡ numbers_after_look (engine_numbers es) w.count
  numbers_now =
      let size : length (raised es.lines w) ≡ length es.lines = ap length now_all ∙ (sym (follows_length t.shown t.lines so.follows) ∙ sym (ap length fits.lines)) in
      let count : (last_or no_line (raised es.lines w)).sends ≡ w.count = ap (λ l. (last_or no_line l).sends) now_all ∙ sym count_is in
      λ i. record { lease = size i; library = sym last_is i; count = count i; pending = pending_now i }

  pub looked_told : (ls : List LibraryKnows) → Each (IsSettled s (after_look es w)) ls → HasLooked k s es w ls
  looked_told ls settled = record {
    is = ap word_of now_all ∙ sym is;
    later = subst (λ (v : Word). Each (λ (seen : Word). IsNotOlder seen v) es.words) (sym is) (each_map (shown_not_newer t.lines) es.words fits.words);
    are_lines = subst (λ (z : ℕ × List Line). AreLines z.0 k.libraries z.1) (λ i. (sym fits.based i, sym now_all i)) so.are_lines;
    within = within;
    others = fits_seen.untaken;
    settled = settled;
    more = more;
    numbers = numbers_now;
  }
