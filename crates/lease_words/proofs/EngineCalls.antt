-- The engine's steps as the calls make them.
use Rattle.std.proofs.Common.{◌≡◌, ℕ, suc, ◌+◌, ◌-◌, ◌^◌, ◌<◌, ◌≤◌, List, [], ◌∷◌, length, get_or, set, true, false, Option, None, sym, ap, ◌∙◌, subst, arith}
use Rattle.std.specs.Prelude.{bit_or}
use mathlib.Core.Option.{none}
use Rattle.atomic_table.specs.Table.{step, Allows}
use Rattle.atomic_table.specs.declared.shared.Seat.{Seat}
use Rattle.lease_core.specs.declared.word.Word.{Word}
use Rattle.lease_core.specs.Word.{word_in, number_of}
use Rattle.lease_words.specs.declared.item.Item.{Item}
use Rattle.lease_words.specs.declared.view.Shape.{Shape}
use Rattle.lease_words.specs.declared.view.EngineSession.{EngineSession}
use Rattle.lease_words.specs.declared.view.EngineKnows.{EngineKnows}
use Rattle.lease_words.specs.declared.view.LibraryKnows.{LibraryKnows}
use Rattle.lease_words.specs.declared.view.View.{View}
use Rattle.lease_words.specs.declared.rows.EngineRow.{EngineRow}
use Rattle.lease_core.specs.declared.word.Standing.TheVariants.{Active}
use Rattle.lease_words.specs.Layout.{session_at, lane_at, lease_word, published_word, taken_word, beat_word, lane_of, slot_of}
use Rattle.lease_words.specs.Leases.{is_running}
use Rattle.lease_words.specs.Views.{engine_session, with_engine_session, engine_view, last_library, pending, taken_of}
use Rattle.lease_words.specs.Sees.{after_look, after_revoke, after_grant, after_publish}
use Rattle.lease_words.specs.Rule.{Ruled, IsShape}
use Rattle.lease_words.specs.Tells.{Seated, LookOf, LookTells, HasLooked, RevokeOf, RevokeTells, HasRevoked, GrantOf, GrantTells, HasGranted, FetchOf, FetchTells, VacateTells, PublishOf, PublishTells, ListenTells, EngineNumbers, engine_numbers, numbers_after_look}
use Rattle.lease_words.specs.Tokens.{engine_row, IsEngine}
use Rattle.lease_words.proofs.Places.{session-lease_word, session-published_word, session-taken_word, lane-taken_word}
use Rattle.lease_words.proofs.Looks.{looks_at}
use Rattle.lease_words.proofs.Revokes.{revokes_at}
use Rattle.lease_words.proofs.Grants.{grants_at}
use Rattle.lease_words.proofs.Takes.{fetches_at, vacates_at}
use Rattle.lease_words.proofs.Publishes.{publishes_at, listens_at}
use Rattle.lease_words.proofs.Tokens.{engine_row_at, still_engine}

-- the engine's seat as the steps see it
pub engine_rests : (seat : Seat (Option Item) View) (rows : List EngineRow) (k : Shape) → IsEngine seat rows → seat.me.0.shape ≡ k → seat.me ≡ (engine_view k seat.me.0.knows seat.me.0.libraries, [])
engine_rests seat rows k is shape = is.rests ∙ (λ j. (engine_view (shape j) seat.me.0.knows seat.me.0.libraries, []))

module _ (k : Shape) (slots id s i : ℕ) (me : Seated) (e : EngineKnows) (ls : List LibraryKnows) (is : me ≡ (engine_view k e ls, [])) (here : s < k.sessions) where
  pub revoke_step : i ≡ lease_word s → is_running (engine_session e s).lines ≡ true → Allows (Ruled k) slots id me i (λ n. bit_or n 8589934592) (RevokeTells (step slots i 8589934592 0 none) me)
  revoke_step at runs = subst (λ (z : Seated × ℕ). Allows (Ruled k) slots id z.0 z.1 (λ n. bit_or n (2 ^ 33)) (RevokeTells (step slots z.1 (2 ^ 33) 0 none) z.0)) (λ j. (sym is j, sym at j)) (revokes_at k id e ls s here slots runs)

  pub grant_step : (library new : ℕ) → i ≡ lease_word s → 1 ≤ library → library ≤ k.libraries → is_running (engine_session e s).lines ≡ false → length (engine_session e s).lines < 16777215 → pending (engine_session e s) ≡ 0
      → new ≡ number_of (record { lease = length (engine_session e s).lines + 1; owner = library; standing = Active; count = 0 }) → Allows (Ruled k) slots id me i (λ _. new) (GrantTells (step slots i new 0 none) me)
  grant_step library new at one most ended room taken makes =
      subst (λ (z : Seated × ℕ). Allows (Ruled k) slots id z.0 z.1 (λ _. new) (GrantTells (step slots z.1 new 0 none) z.0)) (λ j. (sym is j, sym at j)) (grants_at k id e ls s here slots library new one most ended room taken makes)

  pub fetch_step : (library : ℕ) → i ≡ taken_word s library → e.taking ≡ 0 → library ≡ last_library (engine_session e s) → 0 < pending (engine_session e s) → Allows (Ruled k) slots id me i (λ n. n) (FetchTells (step slots i 0 0 none) me)
  fetch_step library at rests whose more =
      subst (λ (z : Seated × ℕ). Allows (Ruled k) slots id z.0 z.1 (λ n. n) (FetchTells (step slots z.1 0 0 none) z.0)) (λ j. (sym is j, sym at j)) (fetches_at k id e ls s here slots library rests whose more)

  pub publish_step : (new : ℕ) → i ≡ published_word s → (engine_session e s).published ≤ new → Allows (Ruled k) slots id me i (λ _. new) (λ _. PublishTells (step slots i new 0 none) me new)
  publish_step new at more = subst (λ (z : Seated × ℕ). Allows (Ruled k) slots id z.0 z.1 (λ _. new) (λ _. PublishTells (step slots z.1 new 0 none) z.0 new)) (λ j. (sym is j, sym at j)) (publishes_at k id e ls s here slots new more)

  pub look_step : i ≡ lease_word s → Allows (Ruled k) slots id me i (λ n. n) (LookTells (step slots i 0 0 none) me)
  look_step at = subst (λ (z : Seated × ℕ). Allows (Ruled k) slots id z.0 z.1 (λ n. n) (LookTells (step slots z.1 0 0 none) z.0)) (λ j. (sym is j, sym at j)) (looks_at k id e ls s here slots)

pub listen_step : (k : Shape) (slots id i library : ℕ) (me : Seated) (e : EngineKnows) (ls : List LibraryKnows) → me ≡ (engine_view k e ls, []) → i ≡ beat_word k.sessions library → 1 ≤ library → library ≤ k.libraries
    → Allows (Ruled k) slots id me i (λ n. n) (ListenTells (step slots i 0 0 none) me)
listen_step k slots id i library me e ls is at one most = subst (λ (z : Seated × ℕ). Allows (Ruled k) slots id z.0 z.1 (λ n. n) (ListenTells (step slots z.1 0 0 none) z.0)) (λ j. (sym is j, sym at j)) (listens_at k id e ls slots library one most)

pub vacate_step : (k : Shape) (slots id s library i slot r new : ℕ) (me : Seated) (e : EngineKnows) (ls : List LibraryKnows) → me ≡ (engine_view k e ls, (slot, None) ∷ []) → i ≡ taken_word s library → slot ≡ slot_of k.libraries s library r → s < k.sessions
    → 1 ≤ library → library ≤ k.libraries → e.taking ≡ suc (lane_of k.libraries s library) → r + 1 ≡ length (taken_of (engine_session e s) library) → new ≡ r + 1
    → Allows (Ruled k) slots id me i (λ _. new) (λ _. VacateTells (step slots i new 0 none) me new)
vacate_step k slots id s library i slot r new me e ls is at place here one most taking last makes =
    let same : me ≡ (engine_view k e ls, (slot_of k.libraries s library r, None) ∷ []) = is ∙ (λ j. (engine_view k e ls, (place j, None) ∷ [])) in
    subst (λ (z : Seated × ℕ). Allows (Ruled k) slots id z.0 z.1 (λ _. new) (λ _. VacateTells (step slots z.1 new 0 none) z.0 new)) (λ j. (sym same j, sym at j)) (vacates_at k id e ls s here slots library r new one most taking last makes)

pub look_told : (k : Shape) (slots s i r : ℕ) (me me' : Seated) (e : EngineKnows) (ls : List LibraryKnows) → me ≡ (engine_view k e ls, []) → i ≡ lease_word s → LookTells (step slots i 0 0 none) me r me'
    → (me' ≡ (engine_view k (with_engine_session e s (after_look (engine_session e s) (word_in r))) ls, [])) × HasLooked k s (engine_session e s) (word_in r) ls
look_told k slots s i r me me' e ls is at told =
    let same : Rattle.lease_words.specs.Layout.session_at i ≡ s = ap Rattle.lease_words.specs.Layout.session_at at ∙ session-lease_word s in
    subst (λ (z : Seated × ℕ). LookOf z.1 (step slots i 0 0 none) z.0 r me') (λ j. (is j, same j)) told

-- the row of a session that was looked at
pub row_looked : (es es' : EngineSession) (w : Word) (row row' : EngineRow) → engine_numbers es' ≡ numbers_after_look (engine_numbers es) w.count → row ≡ engine_row es
    → row'.lease ≡ row.lease → row'.library ≡ row.library → row'.count ≡ w.count → row'.pending ≡ row.pending + (w.count - row.count) → row' ≡ engine_row es'
row_looked es es' w row row' numbers is lease library count pending_is =
    (λ j. record { lease = lease j; library = library j; count = count j; pending = pending_is j })
    ∙ ((λ j. record { lease = (is j).lease; library = (is j).library; count = w.count; pending = (is j).pending + (w.count - (is j).count) })
    ∙ (λ j. record { lease = (sym numbers j).lease; library = (sym numbers j).library; count = (sym numbers j).count; pending = (sym numbers j).pending }))

-- what a call that looks owes its seat
pub record SeesRow (seat seat' : Seat (Option Item) View) (rows : List EngineRow) (s : ℕ) (w : Word) (row : EngineRow) : Type 0 where
  pub more : row.count ≤ w.count
  pub room : row.pending + (w.count - row.count) < 18446744073709551616
  pub again : (row' : EngineRow) → row'.lease ≡ row.lease → row'.library ≡ row.library → row'.count ≡ w.count → row'.pending ≡ row.pending + (w.count - row.count) → IsEngine seat' (set rows s row')

sees_row : (seat seat' : Seat (Option Item) View) (rows : List EngineRow) (k : Shape) (s depth : ℕ) (w : Word) (row : EngineRow) (es' : EngineSession) → IsEngine seat rows → seat.me.0.shape ≡ k → s < k.sessions → row ≡ get_or rows s row
    → seat'.me ≡ (engine_view k (with_engine_session seat.me.0.knows s es') seat.me.0.libraries, [])
    → (engine_numbers (engine_session seat.me.0.knows s)).count ≤ w.count → engine_numbers es' ≡ numbers_after_look (engine_numbers (engine_session seat.me.0.knows s)) w.count → pending es' ≤ depth → depth ≤ 16
    → SeesRow seat seat' rows s w row
sees_row seat seat' rows k s depth w row es' is shape here row_is me more numbers within small =
    let near : s < seat.me.0.shape.sessions = subst (λ (k : Shape). s < k.sessions) (sym shape) here in
    let old : row ≡ engine_row (engine_session seat.me.0.knows s) = engine_row_at seat rows s row is near row_is in
    let p : row.pending ≡ pending (engine_session seat.me.0.knows s) = ap (λ (r : EngineRow). r.pending) old in
    let c : row.count ≡ (engine_numbers (engine_session seat.me.0.knows s)).count = ap (λ (r : EngineRow). r.count) old in
    let library : last_library es' ≡ last_library (engine_session seat.me.0.knows s) = ap (λ (n : EngineNumbers). n.library) numbers in
    let after : pending es' ≡ row.pending + (w.count - row.count) = ap (λ (n : EngineNumbers). n.pending) numbers ∙ (λ j. sym p j + (w.count - sym c j)) in
    let known : last_library (engine_session seat.me.0.knows s) ≤ 16 = is.known s near in
    record {
      more = subst (λ n. n ≤ w.count) (sym c) more;
      room = omega arith;
      again = λ row' lease library' count pending'.
          still_engine seat seat' rows k seat.me.0.libraries s es' row' is shape me (row_looked (engine_session seat.me.0.knows s) es' w row row' numbers old lease library' count pending')
          (subst (λ n. n ≤ 16) (sym library) known);
    }

pub look_owes : (seat seat' : Seat (Option Item) View) (rows : List EngineRow) (k : Shape) (slots s i r : ℕ) (w : Word) (row : EngineRow) → IsEngine seat rows → seat.me.0.shape ≡ k → IsShape k → s < k.sessions → i ≡ lease_word s → w ≡ word_in r
    → row ≡ get_or rows s row → LookTells (step slots i 0 0 none) seat.me r seat'.me → SeesRow seat seat' rows s w row
look_owes seat seat' rows k slots s i r w row is shape sizes here at word row_is tells =
    let told = look_told k slots s i r seat.me seat'.me seat.me.0.knows seat.me.0.libraries (engine_rests seat rows k is shape) at tells in
    subst (λ (w : Word). SeesRow seat seat' rows s w row) (sym word)
    (sees_row seat seat' rows k s k.depth (word_in r) row (after_look (engine_session seat.me.0.knows s) (word_in r)) is shape here row_is told.0 told.1.more told.1.numbers told.1.within sizes.depth)

module _ (k : Shape) (slots s i r a : ℕ) (me me' : Seated) (e : EngineKnows) (ls : List LibraryKnows) (is : me ≡ (engine_view k e ls, [])) where
  pub revoke_told : i ≡ lease_word s → RevokeTells (step slots i a 0 none) me r me'
      → (me' ≡ (engine_view k (with_engine_session e s (after_revoke (engine_session e s) (word_in r))) ls, [])) × HasRevoked k s (engine_session e s) (word_in r) ls
  revoke_told at told = let same : session_at i ≡ s = ap session_at at ∙ session-lease_word s in subst (λ (z : Seated × ℕ). RevokeOf z.1 (step slots i a 0 none) z.0 r me') (λ j. (is j, same j)) told

  pub grant_told : i ≡ lease_word s → GrantTells (step slots i a 0 none) me r me'
      → (me' ≡ (engine_view k (with_engine_session e s (after_grant (engine_session e s) (word_in a).owner)) ls, [])) × HasGranted k (engine_session e s) (word_in a).owner
  grant_told at told = let same : session_at i ≡ s = ap session_at at ∙ session-lease_word s in subst (λ (z : Seated × ℕ). GrantOf z.1 (step slots i a 0 none) z.0 r me') (λ j. (is j, same j)) told

  pub publish_told : i ≡ published_word s → PublishTells (step slots i a 0 none) me r me' → me' ≡ (engine_view k (with_engine_session e s (after_publish (engine_session e s) a)) ls, [])
  publish_told at told = let same : session_at i ≡ s = ap session_at at ∙ session-published_word s in subst (λ (z : Seated × ℕ). PublishOf z.1 (step slots i a 0 none) z.0 r me') (λ j. (is j, same j)) told

  pub fetch_told : (library : ℕ) → library ≤ 16 → i ≡ taken_word s library → FetchTells (step slots i 0 0 none) me r me' → FetchOf s library (step slots i 0 0 none) (engine_view k e ls, []) r me'
  fetch_told library few at told =
      let same : session_at i ≡ s = ap session_at at ∙ session-taken_word s library few in
      let lane : lane_at i ≡ library = ap lane_at at ∙ lane-taken_word s library few in
      subst (λ (z : Seated × (ℕ × ℕ)). FetchOf z.1.0 z.1.1 (step slots i 0 0 none) z.0 r me') (λ j. (is j, (same j, lane j))) told

pub revoke_owes : (seat seat' : Seat (Option Item) View) (rows : List EngineRow) (k : Shape) (slots s i a r : ℕ) (w : Word) (row : EngineRow) → IsEngine seat rows → seat.me.0.shape ≡ k → IsShape k → s < k.sessions → i ≡ lease_word s → w ≡ word_in r
    → row ≡ get_or rows s row → RevokeTells (step slots i a 0 none) seat.me r seat'.me → SeesRow seat seat' rows s w row
revoke_owes seat seat' rows k slots s i a r w row is shape sizes here at word row_is tells =
    let told = revoke_told k slots s i r a seat.me seat'.me seat.me.0.knows seat.me.0.libraries (engine_rests seat rows k is shape) at tells in
    let same : pending (after_revoke (engine_session seat.me.0.knows s) (word_in r)) ≡ pending (after_look (engine_session seat.me.0.knows s) (word_in r)) = ap (λ (n : EngineNumbers). n.pending) (told.1.numbers ∙ sym told.1.look.numbers) in
    subst (λ (w : Word). SeesRow seat seat' rows s w row) (sym word)
    (sees_row seat seat' rows k s k.depth (word_in r) row (after_revoke (engine_session seat.me.0.knows s) (word_in r)) is shape here row_is told.0 told.1.look.more told.1.numbers (subst (λ n. n ≤ k.depth) (sym same) told.1.look.within) sizes.depth)
