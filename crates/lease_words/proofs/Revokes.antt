-- The taking back of a session keeps the rule.
use Rattle.std.proofs.Common.{◌≡◌, ℕ, suc, ◌-◌, ◌^◌, ◌<◌, ◌≤◌, ◌⊎◌, List, [], ◌∷◌, ◌++◌, length, get_or, true, false, refl, sym, ap, ◌∙◌, subst, inl, inr, arith}
use Rattle.std.specs.Prelude.{bit_or}
use mathlib.Core.Option.{none}
use Rattle.atomic_table.specs.Table.{step, keeps, Allows}
use Rattle.lease_core.specs.declared.lease.Ending.{Ending}
use Rattle.lease_core.specs.declared.lease.Ending.TheVariants.{Running, GivenBack, TakenBack}
use Rattle.lease_core.specs.declared.lease.Line.{Line}
use Rattle.lease_core.specs.declared.word.Standing.TheVariants.{Released}
use Rattle.lease_core.specs.declared.word.Word.{Word}
use Rattle.lease_core.specs.State.{last_or}
use Rattle.lease_core.specs.Lines.{no_line, standing_of, word_by, word_of, raised, taken_back, taken_back_line}
use Rattle.lease_core.specs.Word.{word_in}
use Rattle.lease_words.specs.declared.view.Shape.{Shape}
use Rattle.lease_words.specs.declared.view.EngineSession.{EngineSession}
use Rattle.lease_words.specs.declared.view.EngineKnows.{EngineKnows}
use Rattle.lease_words.specs.declared.view.LibraryKnows.{LibraryKnows}
use Rattle.lease_words.specs.Layout.{lease_word}
use Rattle.lease_words.specs.Leases.{AreLines, IsLineOf, runs, is_running}
use Rattle.lease_words.specs.Views.{engine_session, with_engine_session, engine_view, base_of, taken_of, pending}
use Rattle.lease_words.specs.Sees.{after_look, after_revoke}
use Rattle.lease_words.specs.Facts.{Session, Follows}
use Rattle.lease_words.specs.Rule.{Ruled}
use Rattle.lease_words.specs.Tells.{RevokeOf, RevokeTells, HasRevoked, engine_numbers}
use Rattle.lease_words.proofs.Lines.{GoesOn, as_front, length_push, last_of_push, word_of_push, with_last_of_push, get_push_here, running_of_push, running_above, lines_on, shown_on, revoked_standing, revoked_word}
use Rattle.lease_words.proofs.Lanes.{lane_on}
use Rattle.lease_words.proofs.Totals.{granted_total, total_last}
use Rattle.lease_words.proofs.Places.{session-lease_word}
use Rattle.lease_words.proofs.EngineSteps.{with_lines, LinesMove, lines_rest, AreTaken, fits_relined, ruled_after, settled_after, now_all, fits_seen, looked_told}

runs_running : (ending : Ending) → runs ending ≡ true → ending ≡ Running
runs_running Running run = refl
runs_running (GivenBack heir) run = absurd (let no : false ≡ true = run in cc)
runs_running TakenBack run = absurd (let no : false ≡ true = run in cc)

-- lines in which the engine saw a last lease that ran have one that runs or was given back
abbrev LastOf : List Line → Type 0
LastOf lines = (front : List Line) × (x : Line) × (lines ≡ front ++ x ∷ []) × ((x.ending ≡ Running) ⊎ ((heir : ℕ) × (x.ending ≡ GivenBack heir)))

running_some : (lines : List Line) → is_running lines ≡ true → 0 < length lines
running_some [] run = absurd (let no : false ≡ true = run in cc)
running_some (x ∷ xs) run = omega arith

last_of : (shown lines : List Line) → Follows shown lines → is_running shown ≡ true → LastOf lines
last_of shown lines (inl same) run =
    let f = as_front shown (running_some shown run) in
    (f.0, f.1, sym same ∙ f.2, inl (runs_running f.1.ending (sym (running_of_push f.0 f.1) ∙ (ap is_running (sym f.2) ∙ run))))
last_of shown lines (inr on) run = (on.front, on.now, on.after, on.kept_or_given)

-- a word as the flag of the engine's taking back makes it
abbrev flagged : Word → Word
flagged v = record { lease = v.lease; owner = v.owner; standing = revoked_standing v.standing; count = v.count }

-- what taking back does to the lines of a session, whose last lease ran or was given back
record TakesBack (base libraries : ℕ) (lines new : List Line) : Type 0 where
  moves : LinesMove base libraries lines new
  word : flagged (word_of lines) ≡ word_of new
  size : length new ≡ length lines
  last : (last_or no_line new).library ≡ (last_or no_line lines).library
  sends : (last_or no_line new).sends ≡ (last_or no_line lines).sends
  totals : (library : ℕ) → granted_total base library new ≡ granted_total base library lines

-- a released word stays so
flagged_released : (v : Word) → v.standing ≡ Released → flagged v ≡ v
flagged_released v is =
    let same : revoked_standing v.standing ≡ v.standing = ap revoked_standing is ∙ sym is in
    λ i. record { lease = v.lease; owner = v.owner; standing = same i; count = v.count }

released_stays : (base libraries : ℕ) (lines : List Line) → AreLines base libraries lines → (word_of lines).standing ≡ Released → TakesBack base libraries lines lines
released_stays base libraries lines are is = record {
  moves = lines_rest base libraries lines are;
  word = flagged_released (word_of lines) is;
  size = refl;
  last = refl;
  sends = refl;
  totals = λ _. refl;
}

flagged_active : (lease : ℕ) (x : Line) → x.ending ≡ Running → flagged (word_by lease x) ≡ word_by lease (taken_back_line x)
flagged_active lease x ran = rw ran refl

running_ends : (base libraries : ℕ) (front : List Line) (x : Line) → AreLines base libraries (front ++ x ∷ []) → x.ending ≡ Running → TakesBack base libraries (front ++ x ∷ []) (front ++ taken_back_line x ∷ [])
running_ends base libraries front x are ran =
    let y : Line = taken_back_line x in
    let on : GoesOn x y = record { ran = ran; whose = refl; more = omega arith } in
    let low = running_above base libraries front x are ran in
    let here = get_push_here front x in
    let known = are.known (length front) x here in
    let own = are.here (length front) x here low in
    let small : IsLineOf 16 y = record { from_one = known.from_one; to_last = known.to_last; few = known.few; heir = tt } in
    let mine : IsLineOf libraries y = record { from_one = own.from_one; to_last = own.to_last; few = own.few; heir = tt } in
    let first = last_of_push no_line front x in
    let then = last_of_push no_line front y in
    record {
      moves = record {
        are = lines_on base libraries front x y are on small mine;
        words = λ w is. shown_on front x y w on is;
        lanes = λ depth library lane _ _ is. lane_on base libraries depth front x y library lane are on (inr (refl, refl)) is;
      };
      word = ap flagged (word_of_push front x) ∙ (flagged_active (suc (length front)) x ran ∙ sym (word_of_push front y));
      size = length_push front y ∙ sym (length_push front x);
      last = ap (λ (l : Line). l.library) then ∙ sym (ap (λ (l : Line). l.library) first);
      sends = ap (λ (l : Line). l.sends) then ∙ sym (ap (λ (l : Line). l.sends) first);
      totals = λ library. total_last base library front y low ∙ sym (total_last base library front x low);
    }

-- what stood last is told by the word
last_standing : (lines front : List Line) (x : Line) → lines ≡ front ++ x ∷ [] → (word_of lines).standing ≡ standing_of x.ending
last_standing lines front x is = ap (λ (l : List Line). (word_of l).standing) is ∙ ap (λ (v : Word). v.standing) (word_of_push front x)

taken_active : (lines front : List Line) (x : Line) → lines ≡ front ++ x ∷ [] → x.ending ≡ Running → taken_back (word_of lines).standing lines ≡ front ++ taken_back_line x ∷ []
taken_active lines front x is ran = (λ i. taken_back ((last_standing lines front x is ∙ ap standing_of ran) i) (is i)) ∙ with_last_of_push taken_back_line front x

takes_back : (base libraries : ℕ) (lines : List Line) → AreLines base libraries lines → LastOf lines → TakesBack base libraries lines (taken_back (word_of lines).standing lines)
takes_back base libraries lines are (front, x, is, inl ran) =
    subst (λ (z : List Line × List Line). TakesBack base libraries z.0 z.1) (λ i. (sym is i, sym (taken_active lines front x is ran) i))
    (running_ends base libraries front x (subst (AreLines base libraries) is are) ran)
takes_back base libraries lines are (front, x, is, inr (heir, gave)) =
    let released : (word_of lines).standing ≡ Released = last_standing lines front x is ∙ ap standing_of gave in
    subst (TakesBack base libraries lines) (λ i. taken_back (sym released i) lines) (released_stays base libraries lines are released)

still_taken : (base libraries library n : ℕ) (lines new : List Line) → TakesBack base libraries lines new → AreTaken base lines library n → AreTaken base new library n
still_taken base libraries library n lines new back was =
    let same : granted_total base library new ≡ granted_total base library lines = back.totals library in
    let low : n ≤ granted_total base library lines = was.0 in
    (omega arith, λ other. was.1 (λ own. other (own ∙ sym back.last)) ∙ sym same)

-- the numbers that the engine's seat keeps stay so
still_numbers : (base libraries : ℕ) (es : EngineSession) (lines new now : List Line) → es.base ≡ base → es.lines ≡ lines → now ≡ new → TakesBack base libraries lines new
    → engine_numbers (record { base = es.base; lines = now; words = word_of now ∷ es.words; looks = es.looks; taken = es.taken; published = es.published }) ≡ engine_numbers es
still_numbers base libraries es lines new now based was is back =
    let last : (last_or no_line now).library ≡ (last_or no_line es.lines).library = ap (λ l. (last_or no_line l).library) is ∙ (back.last ∙ ap (λ l. (last_or no_line l).library) (sym was)) in
    let totals : (library : ℕ) → granted_total es.base library now ≡ granted_total es.base library es.lines = λ library.
    (λ i. granted_total (based i) library (is i)) ∙ (back.totals library ∙ (λ i. granted_total (sym based i) library (sym was i))) in
    let size : length now ≡ length es.lines = ap length is ∙ (back.size ∙ ap length (sym was)) in
    let sends : (last_or no_line now).sends ≡ (last_or no_line es.lines).sends = ap (λ l. (last_or no_line l).sends) is ∙ (back.sends ∙ ap (λ l. (last_or no_line l).sends) (sym was)) in
    let left : granted_total es.base (last_or no_line now).library now - length (taken_of es (last_or no_line now).library) ≡ pending es =
    (λ i. totals (last_or no_line now).library i - length (taken_of es (last_or no_line now).library))
    ∙ ap (λ library. granted_total es.base library es.lines - length (taken_of es library)) last in
    λ i. record { lease = size i; library = last i; count = sends i; pending = left i }

module _ (k : Shape) (id : ℕ) (e : EngineKnows) (ls : List LibraryKnows) (s : ℕ) (here : s < k.sessions) where
  abbrev mine : EngineSession
  mine = engine_session e s

  pub revokes_at : (slots : ℕ) → is_running mine.lines ≡ true
      → Allows (Ruled k) slots id (engine_view k e ls, []) (lease_word s) (λ n. bit_or n (2 ^ 33)) (RevokeTells (step slots (lease_word s) (2 ^ 33) 0 none) (engine_view k e ls, []))
  revokes_at slots runs st q size at small =
      let n : ℕ = get_or st.words (lease_word s) 0 in
      let w : Word = word_in n in
      let t : Session = q.truth.sessions s in
      let so = q.sessions s here in
      let fits = ((q.views id (engine_view k e ls) at).engine refl).sessions s here in
      let is = q.words.leases s here in
      let new : List Line = taken_back (word_of t.lines).standing t.lines in
      let back : TakesBack (base_of k s) k.libraries t.lines new = takes_back (base_of k s) k.libraries t.lines so.are_lines (last_of t.shown t.lines so.follows (ap is_running (sym fits.lines) ∙ runs)) in
      let now = now_all k e.taking s mine t w so fits is in
      let es : EngineSession = after_look mine w in
      let seen = fits_seen k e.taking s mine t w so fits is in
      let lines : taken_back w.standing (raised mine.lines w) ≡ new = λ i. taken_back (is i).standing (now i) in
      let mine_now = fits_relined k.libraries (base_of k s) e.taking s (with_lines t t.lines) new (taken_back w.standing (raised mine.lines w)) es seen lines back.moves.words
      (λ library a b. still_taken (base_of k s) k.libraries library (length (taken_of es library)) t.lines new back
      (subst (λ (z : ℕ × List Line). AreTaken z.0 z.1 library (length (taken_of es library))) (λ i. (fits.based i, now i)) (seen.untaken library a b))) in
      let word : word_in (bit_or n (2 ^ 33)) ≡ word_of new = revoked_word n (omega arith) ∙ (ap flagged is ∙ back.word) in
      let found = settled_after k id e ls s here st q at t.lines (lines_rest (base_of k s) k.libraries t.lines so.are_lines) es fits.based now (λ library a b. (fits.lanes library a b).begins) in
      let settled = settled_after k id e ls s here st q at new back.moves (after_revoke mine w) fits.based lines (λ library a b. (fits.lanes library a b).begins) in
      let look = looked_told k e.taking s mine t w so fits is ls found in
      let told : HasRevoked k s mine w ls = record {
        look = look;
        are_lines = subst (λ (z : ℕ × List Line). AreLines z.0 k.libraries z.1) (λ i. (sym fits.based i, sym lines i)) back.moves.are;
        others = mine_now.untaken;
        settled = settled;
        numbers = still_numbers (base_of k s) k.libraries es t.lines new (taken_back w.standing (raised mine.lines w)) fits.based now lines back ∙ look.numbers;
      } in (
        engine_view k (with_engine_session e s (after_revoke mine w)) ls,
        keeps,
        tt,
        ruled_after k id e ls s here st q at new back.moves (bit_or n (2 ^ 33)) (after_revoke mine w) word mine_now,
        subst (λ z. RevokeOf z (step slots (lease_word s) (2 ^ 33) 0 none) (engine_view k e ls, []) n (engine_view k (with_engine_session e s (after_revoke mine w)) ls, [])) (sym (session-lease_word s))
            (refl, told),
      )
