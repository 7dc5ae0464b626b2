-- The engine's look keeps the rule.
use Rattle.std.proofs.Common.{ℕ, ◌<◌, List, [], get_or, refl, sym, subst}
use mathlib.Core.Option.{none}
use Rattle.atomic_table.specs.Table.{step, keeps, Allows}
use Rattle.lease_core.specs.declared.word.Word.{Word}
use Rattle.lease_core.specs.Word.{word_in}
use Rattle.lease_words.specs.declared.view.Shape.{Shape}
use Rattle.lease_words.specs.declared.view.EngineSession.{EngineSession}
use Rattle.lease_words.specs.declared.view.EngineKnows.{EngineKnows}
use Rattle.lease_words.specs.declared.view.LibraryKnows.{LibraryKnows}
use Rattle.lease_words.specs.Layout.{lease_word}
use Rattle.lease_words.specs.Views.{engine_session, with_engine_session, engine_view, base_of}
use Rattle.lease_words.specs.Sees.{after_look}
use Rattle.lease_words.specs.Facts.{Session}
use Rattle.lease_words.specs.Rule.{Ruled}
use Rattle.lease_words.specs.Tells.{LookOf, LookTells}
use Rattle.lease_words.proofs.Places.{session-lease_word}
use Rattle.lease_words.proofs.EngineSteps.{lines_rest, ruled_after, settled_after, now_all, fits_seen, looked_told}

module _ (k : Shape) (id : ℕ) (e : EngineKnows) (ls : List LibraryKnows) (s : ℕ) (here : s < k.sessions) where
  abbrev mine : EngineSession
  mine = engine_session e s

  pub looks_at : (slots : ℕ) → Allows (Ruled k) slots id (engine_view k e ls, []) (lease_word s) (λ n. n) (LookTells (step slots (lease_word s) 0 0 none) (engine_view k e ls, []))
  looks_at slots st q size at small =
      let n : ℕ = get_or st.words (lease_word s) 0 in
      let w : Word = word_in n in
      let t : Session = q.truth.sessions s in
      let so = q.sessions s here in
      let fits = ((q.views id (engine_view k e ls) at).engine refl).sessions s here in
      let is = q.words.leases s here in
      let moves = lines_rest (base_of k s) k.libraries t.lines so.are_lines in
      let mine_now = fits_seen k e.taking s mine t w so fits is in
      let settled = settled_after k id e ls s here st q at t.lines moves (after_look mine w) fits.based (now_all k e.taking s mine t w so fits is) (λ library a b. (fits.lanes library a b).begins) in (
        engine_view k (with_engine_session e s (after_look mine w)) ls,
        keeps,
        tt,
        ruled_after k id e ls s here st q at t.lines moves n (after_look mine w) is mine_now,
        subst (λ z. LookOf z (step slots (lease_word s) 0 0 none) (engine_view k e ls, []) n (engine_view k (with_engine_session e s (after_look mine w)) ls, [])) (sym (session-lease_word s))
            (refl, looked_told k e.taking s mine t w so fits is ls settled),
      )
