-- A grant keeps the rule.
use Rattle.std.proofs.Common.{◌≡◌, ℕ, suc, ◌+◌, ◌-◌, ◌<◌, ◌≤◌, List, [], ◌∷◌, ◌++◌, length, false, refl, sym, ap, ◌∙◌, subst, arith}
use native.Mathlib.Decide.{ℕ_discrete}
use mathlib.Core.Option.{none}
use Rattle.atomic_table.specs.Table.{step, keeps, Allows}
use Rattle.lease_core.specs.declared.lease.Line.{Line}
use Rattle.lease_core.specs.declared.word.Standing.TheVariants.{Active}
use Rattle.lease_core.specs.declared.word.Word.{Word}
use Rattle.lease_core.specs.State.{last_or}
use Rattle.lease_core.specs.Lines.{no_line, word_by, word_of}
use Rattle.lease_core.specs.Word.{word_in, number_of}
use Rattle.lease_words.specs.declared.view.Shape.{Shape}
use Rattle.lease_words.specs.declared.view.EngineSession.{EngineSession}
use Rattle.lease_words.specs.declared.view.EngineKnows.{EngineKnows}
use Rattle.lease_words.specs.declared.view.LibraryKnows.{LibraryKnows}
use Rattle.lease_words.specs.Layout.{lease_word}
use Rattle.lease_words.specs.Leases.{AreLines, is_running}
use Rattle.lease_words.specs.Views.{engine_session, with_engine_session, engine_view, base_of, taken_of, last_library, shown_sends, pending}
use Rattle.lease_core.specs.Lines.{granted_line}
use Rattle.lease_words.specs.Sees.{after_grant}
use Rattle.lease_words.specs.Facts.{Session, EngineFits}
use Rattle.lease_words.specs.Rule.{Ruled}
use Rattle.lease_words.specs.Tells.{Seated, GrantTells, HasGranted, engine_numbers}
use Rattle.lease_words.proofs.Lines.{length_push, last_of_push, word_of_push, word_parts, lines_push, shown_push, follows_ended}
use Rattle.lease_words.proofs.Lanes.{lane_granted}
use Rattle.lease_words.proofs.Totals.{granted_total, total_last, sends_own, sends_none}
use Rattle.lease_words.proofs.Places.{session-lease_word}
use Rattle.lease_words.proofs.EngineSteps.{LinesMove, fits_relined, ruled_after}

-- a session without a running lease is granted
grant_moves : (base libraries : ℕ) (lines : List Line) (library : ℕ) → AreLines base libraries lines → is_running lines ≡ false → length lines < 16777215 → libraries ≤ 16 → 1 ≤ library → library ≤ libraries
    → LinesMove base libraries lines (lines ++ granted_line library ∷ [])
grant_moves base libraries lines library are ended room few one most = record {
  are = lines_push base libraries lines (granted_line library) are ended room
      (record { from_one = one; to_last = omega arith; few = omega arith; heir = tt })
      (record { from_one = one; to_last = most; few = omega arith; heir = tt });
  words = shown_push lines (granted_line library);
  lanes = λ depth other lane _ _ is. lane_granted base libraries depth lines library other lane are.based is;
}

fresh_none : (base library to : ℕ) (lines : List Line) → base ≤ length lines → granted_total base library (lines ++ granted_line to ∷ []) ≡ granted_total base library lines
fresh_none base library to lines low = total_last base library lines (granted_line to) low ∙ (let e = none_sent library to in omega arith)
  where
    none_sent : (library to : ℕ) → Rattle.lease_words.specs.Leases.sends_of library (granted_line to) ≡ 0
    none_sent library to = elim (ℕ_discrete to library) [
      | yes own ↦ sends_own library (granted_line to) own
      | no other ↦ sends_none library (granted_line to) other
    ]

-- where nothing is pending, all that the lines show was taken
all_taken : (libraries base taking s : ℕ) (t : Session) (es : EngineSession) → EngineFits libraries base taking s t es → pending es ≡ 0
    → (library : ℕ) → 1 ≤ library → library ≤ libraries → length (taken_of es library) ≡ shown_sends es library
all_taken libraries base taking s t es fits none_pending library one most = elim (ℕ_discrete library (last_library es)) [
  | yes own ↦
      let rest : shown_sends es library - length (taken_of es library) ≡ 0 = ap (λ n. shown_sends es n - length (taken_of es n)) own ∙ none_pending in
      let low : length (taken_of es library) ≤ shown_sends es library = (fits.untaken library one most).0 in
      omega arith
  | no other ↦ (fits.untaken library one most).1 other
]

fresh_word : (lines : List Line) (library n m : ℕ) → m ≡ length lines → library < 64 → n ≡ number_of (record { lease = m + 1; owner = library; standing = Active; count = 0 })
    → word_in n ≡ word_of (lines ++ granted_line library ∷ [])
fresh_word lines library n m size few is =
    let next : m + 1 ≡ suc (length lines) = omega arith in
    ap word_in is ∙ (word_parts (record { lease = m + 1; owner = library; standing = Active; count = 0 }) few (omega arith)
    ∙ (ap (λ (l : ℕ). word_by l (granted_line library)) next ∙ sym (word_of_push lines (granted_line library))))

fresh_numbers : (es : EngineSession) (library : ℕ) → es.base ≤ length es.lines → length (taken_of es library) ≡ shown_sends es library
    → engine_numbers (after_grant es library) ≡ record { lease = length es.lines + 1; library = library; count = 0; pending = 0 }
fresh_numbers es library low taken =
    let x : Line = granted_line library in
    let lines : List Line = es.lines ++ x ∷ [] in
    let last : last_or no_line lines ≡ x = last_of_push no_line es.lines x in
    let size : length lines ≡ length es.lines + 1 = length_push es.lines x ∙ omega arith in
    let whose : (last_or no_line lines).library ≡ library = ap (λ (l : Line). l.library) last in
    let sends : (last_or no_line lines).sends ≡ 0 = ap (λ (l : Line). l.sends) last in
    let total : granted_total es.base library lines ≡ granted_total es.base library es.lines = fresh_none es.base library library es.lines low in
    let left : granted_total es.base (last_or no_line lines).library lines - length (taken_of es (last_or no_line lines).library) ≡ 0 =
    ap (λ n. granted_total es.base n lines - length (taken_of es n)) whose ∙ omega arith in
    λ i. record { lease = size i; library = whose i; count = sends i; pending = left i }

-- what a grant tells, of the library that the word names
abbrev GrantBy : Shape → EngineKnows → List LibraryKnows → ℕ → ℕ → Seated → Type 0
GrantBy k e ls s library m' = (m' ≡ (engine_view k (with_engine_session e s (after_grant (engine_session e s) library)) ls, [])) × HasGranted k (engine_session e s) library

module _ (k : Shape) (id : ℕ) (e : EngineKnows) (ls : List LibraryKnows) (s : ℕ) (here : s < k.sessions) where
  abbrev mine : EngineSession
  mine = engine_session e s

  pub grants_at : (slots library new : ℕ) → 1 ≤ library → library ≤ k.libraries → is_running mine.lines ≡ false → length mine.lines < 16777215 → pending mine ≡ 0
      → new ≡ number_of (record { lease = length mine.lines + 1; owner = library; standing = Active; count = 0 })
      → Allows (Ruled k) slots id (engine_view k e ls, []) (lease_word s) (λ _. new) (GrantTells (step slots (lease_word s) new 0 none) (engine_view k e ls, []))
  grants_at slots library new one most ended room taken is st q size at small =
      let t : Session = q.truth.sessions s in
      let so = q.sessions s here in
      let fits = ((q.views id (engine_view k e ls) at).engine refl).sessions s here in
      let few : k.libraries ≤ 16 = q.shape.libraries in
      let same : t.shown ≡ t.lines = follows_ended t.shown t.lines so.follows (ap is_running (sym fits.lines) ∙ ended) in
      let lines : mine.lines ≡ t.lines = fits.lines ∙ same in
      let length_is : length mine.lines ≡ length t.lines = ap length lines in
      let based : base_of k s ≤ length t.lines = so.are_lines.based in
      let now : List Line = t.lines ++ granted_line library ∷ [] in
      let moves : LinesMove (base_of k s) k.libraries t.lines now = grant_moves (base_of k s) k.libraries t.lines library so.are_lines (ap is_running (sym lines) ∙ ended) (omega arith) few one most in
      let line_now : mine.lines ++ granted_line library ∷ [] ≡ now = ap (λ l. l ++ granted_line library ∷ []) lines in
      let all = all_taken k.libraries (base_of k s) e.taking s t mine fits taken in
      let mine_now = fits_relined k.libraries (base_of k s) e.taking s t now (mine.lines ++ granted_line library ∷ []) mine fits line_now moves.words
      (λ other a b.
      let a : length (taken_of mine other) ≡ granted_total (base_of k s) other now =
      all other a b ∙ ((λ i. granted_total (fits.based i) other (lines i)) ∙ sym (fresh_none (base_of k s) other library t.lines based)) in
      (omega arith, λ _. a)) in
      let word : word_in new ≡ word_of now = fresh_word t.lines library new (length mine.lines) length_is (omega arith) is in
      let low : mine.base ≤ length mine.lines = let b : mine.base ≡ base_of k s = fits.based in omega arith in
      let owner : library ≡ (word_in new).owner = sym (ap (λ (v : Word). v.owner) word ∙ ap (λ (v : Word). v.owner) (word_of_push t.lines (granted_line library))) in
      let told : HasGranted k mine library = record {
        are_lines = subst (λ (z : ℕ × List Line). AreLines z.0 k.libraries z.1) (λ i. (sym fits.based i, sym line_now i)) moves.are;
        numbers = fresh_numbers mine library low (all library one most);
      } in
      let view = engine_view k (with_engine_session e s (after_grant mine library)) ls in (
        view,
        keeps,
        tt,
        ruled_after k id e ls s here st q at now moves new (after_grant mine library) word mine_now,
        subst (λ (z : ℕ × ℕ). GrantBy k e ls z.0 z.1 (view, [])) (λ i. (sym (session-lease_word s) i, owner i)) (refl, told),
      )
