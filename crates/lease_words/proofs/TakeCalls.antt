-- The engine's seat at a grant and at a take.
use Rattle.std.proofs.Common.{◌≡◌, ◌≢◌, ℕ, suc, ◌+◌, ◌-◌, ◌<◌, ◌≤◌, List, [], ◌∷◌, ◌++◌, length, get_or, set, false, Option, Some, None, refl, sym, ap, ◌∙◌, subst, arith}
use Rattle.std.proofs.lemmas.List.{get_or-set_same, get_or-set_other}
use Rattle.std.specs.Option.{IfSome}
use mathlib.Core.Option.{none}
use mathlib.Core.List.{IsPrefix}
use Rattle.atomic_table.specs.Table.{step, rest, Allows}
use Rattle.atomic_table.specs.declared.shared.Seat.{Seat}
use Rattle.lease_core.specs.declared.word.Standing.TheVariants.{Active}
use Rattle.lease_core.specs.declared.word.Word.{Word}
use Rattle.lease_core.specs.Word.{word_in, number_of}
use Rattle.lease_words.specs.declared.item.Item.{Item}
use Rattle.lease_words.specs.declared.view.Shape.{Shape}
use Rattle.lease_words.specs.declared.view.EngineSession.{EngineSession}
use Rattle.lease_words.specs.declared.view.EngineKnows.{EngineKnows}
use Rattle.lease_words.specs.declared.view.LibraryKnows.{LibraryKnows}
use Rattle.lease_words.specs.declared.view.View.{View}
use Rattle.lease_words.specs.declared.rows.EngineRow.{EngineRow}
use Rattle.lease_words.specs.Layout.{lease_word, taken_word, lane_of, slot_of}
use Rattle.lease_words.specs.Leases.{Each, is_running}
use Rattle.lease_words.specs.Views.{EngineView, engine_session, with_engine_session, no_engine_session, engine_view, last_library, pending, taken_of, library_session}
use Rattle.lease_words.specs.Sees.{after_grant, after_take, with_taking}
use Rattle.lease_words.specs.Rule.{Ruled, IsShape}
use Rattle.lease_words.specs.Facts.{OthersTaken}
use Rattle.lease_words.specs.Tells.{IsSettled, Seated, EngineNumbers, engine_numbers, GrantTells, FetchTells, HasTaken, VacateTells}
use Rattle.lease_words.specs.Tokens.{engine_row, IsEngine}
use Rattle.lease_words.proofs.Lists.{each_two}
use Rattle.lease_words.proofs.Tokens.{engine_row_at, still_engine}
use Rattle.lease_words.proofs.EngineCalls.{engine_rests, grant_step, grant_told, fetch_step, fetch_told, vacate_step}

abbrev first_value : List (ℕ × Option Item) → Option Item
first_value [] = None
first_value (x ∷ xs) = x.1

module _ (seat : Seat (Option Item) View) (rows : List EngineRow) (k : Shape) (s : ℕ) (row : EngineRow) (is : IsEngine seat rows) (shape : seat.me.0.shape ≡ k) (sizes : IsShape k) (here : s < k.sessions) (row_is : row ≡ get_or rows s row) where
  abbrev mine : EngineSession
  mine = engine_session seat.me.0.knows s

  near : s < seat.me.0.shape.sessions
  near = subst (λ (k : Shape). s < k.sessions) (sym shape) here

  pub kept : row ≡ engine_row mine
  kept = engine_row_at seat rows s row is near row_is

  -- the swap of a grant
  pub grant_swaps : (slots i library new : ℕ) (w : Word) → i ≡ lease_word s → 1 ≤ library → library ≤ k.libraries → is_running mine.lines ≡ false → length mine.lines < 16777215 → pending mine ≡ 0
      → new ≡ number_of w → w ≡ record { lease = row.lease + 1; owner = library; standing = Active; count = 0 } → Allows (Ruled k) slots seat.id seat.me i (λ _. new) (GrantTells (step slots i new 0 none) seat.me)
  grant_swaps slots i library new w at one most ended room taken number word =
      grant_step k slots seat.id s i seat.me seat.me.0.knows seat.me.0.libraries (engine_rests seat rows k is shape) here library new at one most ended room taken
      (number ∙ (ap number_of word ∙ ap (λ (n : ℕ). number_of (record { lease = n + 1; owner = library; standing = Active; count = 0 })) (ap (λ (r : EngineRow). r.lease) kept)))

  pub grant_owes : (seat' : Seat (Option Item) View) (slots i library new r : ℕ) (w : Word) → i ≡ lease_word s → library ≤ k.libraries → word_in new ≡ w → w.owner ≡ library → GrantTells (step slots i new 0 none) seat.me r seat'.me
      → IsEngine seat' (set rows s (record { lease = row.lease + 1; library = library; count = 0; pending = 0 }))
  grant_owes seat' slots i library new r w at most word owner tells =
      let told = grant_told k slots s i r new seat.me seat'.me seat.me.0.knows seat.me.0.libraries (engine_rests seat rows k is shape) at tells in
      let to : (word_in new).owner ≡ library = ap (λ (w : Word). w.owner) word ∙ owner in
      let es' : EngineSession = after_grant mine (word_in new).owner in
      let lease : row.lease ≡ length mine.lines = ap (λ (r : EngineRow). r.lease) kept in
      let numbers : engine_numbers es' ≡ record { lease = length mine.lines + 1; library = (word_in new).owner; count = 0; pending = 0 } = told.1.numbers in
      let small : library ≤ 16 = let a = sizes.libraries in omega arith in
      let last : last_library es' ≡ library = ap (λ (n : EngineNumbers). n.library) numbers ∙ to in
      still_engine seat seat' rows k seat.me.0.libraries s es' (record { lease = row.lease + 1; library = library; count = 0; pending = 0 }) is shape told.0
      ((λ j. record { lease = lease j + 1; library = sym to j; count = 0; pending = 0 }) ∙ (λ j. record { lease = (sym numbers j).lease; library = (sym numbers j).library; count = (sym numbers j).count; pending = (sym numbers j).pending }))
      (subst (λ n. n ≤ 16) (sym last) small)

  -- the load of a take
  whose : row.library ≡ last_library mine
  whose = ap (λ (r : EngineRow). r.library) kept

  pub few : row.library ≤ 16
  few = subst (λ n. n ≤ 16) (sym whose) (is.known s near)

  pub take_loads : (slots i : ℕ) → i ≡ taken_word s row.library → row.pending ≢ 0 → Allows (Ruled k) slots seat.id seat.me i (λ n. n) (FetchTells (step slots i 0 0 none) seat.me)
  take_loads slots i at more =
      let p : row.pending ≡ pending mine = ap (λ (r : EngineRow). r.pending) kept in
      fetch_step k slots seat.id s i seat.me seat.me.0.knows seat.me.0.libraries (engine_rests seat rows k is shape) here row.library at is.idle whose (omega arith)

  -- what the load tells
  pub record Fetched (seat' : Seat (Option Item) View) (r : ℕ) : Type 0 where
    pub item : Item
    pub me : seat'.me ≡ (engine_view k (with_taking (with_engine_session seat.me.0.knows s (after_take mine row.library (item ∷ []))) (suc (lane_of k.libraries s row.library))) seat.me.0.libraries, (slot_of k.libraries s row.library r, Some item) ∷ [])
    pub told : HasTaken k.libraries s mine row.library r item seat.me.0.libraries
    pub own : after_take mine row.library (item ∷ []) ≡ after_take mine (last_library mine) (item ∷ [])

  pub fetched : (seat' : Seat (Option Item) View) (slots i r : ℕ) → i ≡ taken_word s row.library → FetchTells (step slots i 0 0 none) seat.me r seat'.me → Fetched seat' r
  fetched seat' slots i r at tells =
      let told = fetch_told k slots s i r 0 seat.me seat'.me seat.me.0.knows seat.me.0.libraries (engine_rests seat rows k is shape) row.library few at tells in
      record { item = told.0; me = told.1; told = told.2; own = ap (λ (n : ℕ). after_take mine n (told.0 ∷ [])) whose }

  -- the store of a take, once the slot is empty
  pub take_stores : (seat' seat'' : Seat (Option Item) View) (slots i r slot new : ℕ) (f : Fetched seat' r) → i ≡ taken_word s row.library → slot ≡ slot_of k.libraries s row.library r → seat''.me ≡ (seat'.me.0, (slot, None) ∷ rest seat'.me.1) → new ≡ r + 1
      → Allows (Ruled k) slots seat''.id seat''.me i (λ _. new) (λ _. VacateTells (step slots i new 0 none) seat''.me new)
  take_stores seat' seat'' slots i r slot new f at place me makes =
      let e' : EngineKnows = with_taking (with_engine_session seat.me.0.knows s (after_take mine row.library (f.item ∷ []))) (suc (lane_of k.libraries s row.library)) in
      let same : seat''.me ≡ (engine_view k e' seat.me.0.libraries, (slot, None) ∷ []) = me ∙ (λ j. ((f.me j).0, (slot, None) ∷ rest (f.me j).1)) in
      let sized : s < length seat.me.0.knows.sessions = subst (λ n. s < n) (sym is.count) near in
      let now : engine_session e' s ≡ after_take mine row.library (f.item ∷ []) = get_or-set_same seat.me.0.knows.sessions s (after_take mine row.library (f.item ∷ [])) no_engine_session sized in
      let one : 1 ≤ row.library = f.told.from_one in
      vacate_step k slots seat''.id s row.library i slot r new seat''.me e' seat.me.0.libraries same at place here one f.told.to_last refl
      (sym f.told.longer ∙ ap (λ (es : EngineSession). length (taken_of es row.library)) (sym now)) makes

  pub take_owes : (seat' seat'' seat3 : Seat (Option Item) View) (slots i r slot new : ℕ) (f : Fetched seat' r) → seat''.me ≡ (seat'.me.0, (slot, None) ∷ rest seat'.me.1) → VacateTells (step slots i new 0 none) seat''.me new seat3.me → row.pending ≢ 0
      → (row' : EngineRow) → row' ≡ record { lease = row.lease; library = row.library; count = row.count; pending = row.pending - 1 } → IsEngine seat3 (set rows s row')
  take_owes seat' seat'' seat3 slots i r slot new f me tells more row' row'_is =
      let e' : EngineKnows = with_engine_session seat.me.0.knows s (after_take mine row.library (f.item ∷ [])) in
      let was : seat''.me ≡ (engine_view k (with_taking e' (suc (lane_of k.libraries s row.library))) seat.me.0.libraries, (slot, None) ∷ []) = me ∙ (λ j. ((f.me j).0, (slot, None) ∷ rest (f.me j).1)) in
      let idle : seat.me.0.knows.taking ≡ 0 = is.idle in
      let after : seat3.me ≡ (engine_view k e' seat.me.0.libraries, []) = tells ∙ ((λ j. (engine_view (was j).0.shape (with_taking (was j).0.knows 0) (was j).0.libraries, [])) ∙ (λ j. (engine_view k (with_taking e' (sym idle j)) seat.me.0.libraries, []))) in
      let numbers = f.told.numbers in
      let es' : EngineSession = after_take mine row.library (f.item ∷ []) in
      still_engine seat seat3 rows k seat.me.0.libraries s es' row' is shape after
      (row'_is ∙ ((λ j. record { lease = (kept j).lease; library = (kept j).library; count = (kept j).count; pending = (kept j).pending - 1 })
      ∙ (λ j. record { lease = (sym numbers j).lease; library = (sym numbers j).library; count = (sym numbers j).count; pending = (sym numbers j).pending })))
      (subst (λ n. n ≤ 16) (sym (ap (λ (n : EngineNumbers). n.library) numbers)) (is.known s near))

  -- the seat behind a take, as contracts see it
  abbrev pub view_of : Seat (Option Item) View → EngineView
  view_of x = record { table = record { shape = x.me.0.shape; table = x.table_id }; knows = x.me.0.knows; settled = x.me.0.libraries }

  pub take_seen : (seat' seat'' seat3 : Seat (Option Item) View) (slots i r slot new : ℕ) (f : Fetched seat' r) (v : EngineView) → view_of seat ≡ v → seat3.table_id ≡ seat.table_id → seat''.me ≡ (seat'.me.0, (slot, None) ∷ rest seat'.me.1)
      → VacateTells (step slots i new 0 none) seat''.me new seat3.me
      → view_of seat3 ≡ record { table = v.table; knows = with_engine_session v.knows s (after_take (engine_session v.knows s) (last_library (engine_session v.knows s)) (f.item ∷ [])); settled = v.settled }
  take_seen seat' seat'' seat3 slots i r slot new f v view table me tells =
      let e' : EngineKnows = with_engine_session seat.me.0.knows s (after_take mine row.library (f.item ∷ [])) in
      let was : seat''.me ≡ (engine_view k (with_taking e' (suc (lane_of k.libraries s row.library))) seat.me.0.libraries, (slot, None) ∷ []) = me ∙ (λ j. ((f.me j).0, (slot, None) ∷ rest (f.me j).1)) in
      let idle : seat.me.0.knows.taking ≡ 0 = is.idle in
      let after : seat3.me ≡ (engine_view k e' seat.me.0.libraries, []) = tells ∙ ((λ j. (engine_view (was j).0.shape (with_taking (was j).0.knows 0) (was j).0.libraries, [])) ∙ (λ j. (engine_view k (with_taking e' (sym idle j)) seat.me.0.libraries, []))) in
      subst (λ (v : EngineView). view_of seat3 ≡ record { table = v.table; knows = with_engine_session v.knows s (after_take (engine_session v.knows s) (last_library (engine_session v.knows s)) (f.item ∷ [])); settled = v.settled }) view
      ((λ j. record { table = record { shape = (after j).0.shape; table = table j }; knows = (after j).0.knows; settled = (after j).0.libraries })
      ∙ (λ j. record { table = record { shape = sym shape j; table = seat.table_id }; knows = with_engine_session seat.me.0.knows s (f.own j); settled = seat.me.0.libraries }))

  -- the session behind a take, what waits of it, and what was taken of the other libraries
  take_now : (seat' seat'' seat3 : Seat (Option Item) View) (slots i r slot new : ℕ) (f : Fetched seat' r) → seat''.me ≡ (seat'.me.0, (slot, None) ∷ rest seat'.me.1) → VacateTells (step slots i new 0 none) seat''.me new seat3.me
      → engine_session seat3.me.0.knows s ≡ after_take mine row.library (f.item ∷ [])
  take_now seat' seat'' seat3 slots i r slot new f me tells =
      let e' : EngineKnows = with_engine_session seat.me.0.knows s (after_take mine row.library (f.item ∷ [])) in
      let was : seat''.me ≡ (engine_view k (with_taking e' (suc (lane_of k.libraries s row.library))) seat.me.0.libraries, (slot, None) ∷ []) = me ∙ (λ j. ((f.me j).0, (slot, None) ∷ rest (f.me j).1)) in
      let sized : s < length seat.me.0.knows.sessions = subst (λ n. s < n) (sym is.count) near in
      ap (λ (m : Seated). engine_session m.0.knows s) tells ∙ (ap (λ (m : Seated). engine_session m.0.knows s) was ∙ get_or-set_same seat.me.0.knows.sessions s (after_take mine row.library (f.item ∷ [])) no_engine_session sized)

  pub take_waits : (seat' seat'' seat3 : Seat (Option Item) View) (slots i r slot new : ℕ) (f : Fetched seat' r) (v : EngineView) → view_of seat ≡ v → seat''.me ≡ (seat'.me.0, (slot, None) ∷ rest seat'.me.1)
      → VacateTells (step slots i new 0 none) seat''.me new seat3.me → row.pending ≢ 0 → pending (engine_session v.knows s) ≡ pending (engine_session seat3.me.0.knows s) + 1
  take_waits seat' seat'' seat3 slots i r slot new f v view me tells more =
      let p : row.pending ≡ pending mine = ap (λ (r : EngineRow). r.pending) kept in
      let after : pending (engine_session seat3.me.0.knows s) ≡ pending mine - 1 =
      ap pending (take_now seat' seat'' seat3 slots i r slot new f me tells) ∙ ap (λ (n : EngineNumbers). n.pending) f.told.numbers in
      subst (λ (v : EngineView). pending (engine_session v.knows s) ≡ pending (engine_session seat3.me.0.knows s) + 1) view (omega arith)

  pub take_others : (seat' seat'' seat3 : Seat (Option Item) View) (slots i r slot new : ℕ) (f : Fetched seat' r) (v : EngineView) → view_of seat ≡ v → seat''.me ≡ (seat'.me.0, (slot, None) ∷ rest seat'.me.1)
      → VacateTells (step slots i new 0 none) seat''.me new seat3.me
      → (library : ℕ) → 1 ≤ library → library ≢ last_library (engine_session v.knows s) → taken_of (engine_session seat3.me.0.knows s) library ≡ taken_of (engine_session v.knows s) library
  take_others seat' seat'' seat3 slots i r slot new f v view me tells =
      subst (λ (v : EngineView). (library : ℕ) → 1 ≤ library → library ≢ last_library (engine_session v.knows s) → taken_of (engine_session seat3.me.0.knows s) library ≡ taken_of (engine_session v.knows s) library) view
      (λ library one other.
      let from : 1 ≤ row.library = f.told.from_one in
      let own : row.library ≡ last_library mine = whose in
      ap (λ (es : EngineSession). taken_of es library) (take_now seat' seat'' seat3 slots i r slot new f me tells)
      ∙ get_or-set_other mine.taken (row.library - 1) (library - 1) (taken_of mine row.library ++ f.item ∷ []) [] (λ same. other (omega arith)))

  pub take_settled : (seat' : Seat (Option Item) View) (r : ℕ) (f : Fetched seat' r) (v : EngineView) → view_of seat ≡ v
      → Each (λ (l : LibraryKnows). IsPrefix (taken_of (after_take (engine_session v.knows s) (last_library (engine_session v.knows s)) (f.item ∷ [])) l.number) (library_session l s).items) v.settled
  take_settled seat' r f v view =
      subst (λ (v : EngineView). Each (λ (l : LibraryKnows). IsPrefix (taken_of (after_take (engine_session v.knows s) (last_library (engine_session v.knows s)) (f.item ∷ [])) l.number) (library_session l s).items) v.settled) view
      (subst (λ (es : EngineSession). Each (λ (l : LibraryKnows). IsPrefix (taken_of es l.number) (library_session l s).items) seat.me.0.libraries) f.own f.told.settled)

  pub take_rest : (seat' seat'' seat3 : Seat (Option Item) View) (slots i r slot new : ℕ) (f : Fetched seat' r) → seat''.me ≡ (seat'.me.0, (slot, None) ∷ rest seat'.me.1) → VacateTells (step slots i new 0 none) seat''.me new seat3.me
      → OthersTaken k.libraries (engine_session seat3.me.0.knows s)
  take_rest seat' seat'' seat3 slots i r slot new f me tells = subst (OthersTaken k.libraries) (sym (take_now seat' seat'' seat3 slots i r slot new f me tells)) f.told.others

  -- a library whose lane the lines told is told by them still
  pub take_told : (seat' seat'' seat3 : Seat (Option Item) View) (slots i r slot new : ℕ) (f : Fetched seat' r) (v : EngineView) → view_of seat ≡ v → seat3.table_id ≡ seat.table_id → seat''.me ≡ (seat'.me.0, (slot, None) ∷ rest seat'.me.1)
      → VacateTells (step slots i new 0 none) seat''.me new seat3.me
      → Each (IsSettled s (engine_session v.knows s)) v.settled → Each (IsSettled s (engine_session seat3.me.0.knows s)) (view_of seat3).settled
  take_told seat' seat'' seat3 slots i r slot new f v view table me tells told =
      let after : engine_session seat3.me.0.knows s ≡ after_take mine row.library (f.item ∷ []) = take_now seat' seat'' seat3 slots i r slot new f me tells in
      let same : (view_of seat3).settled ≡ seat.me.0.libraries = ap (λ (v : EngineView). v.settled) (take_seen seat' seat'' seat3 slots i r slot new f v view table me tells) ∙ sym (ap (λ (v : EngineView). v.settled) view) in
      let was : Each (IsSettled s mine) seat.me.0.libraries = subst (λ (v : EngineView). Each (IsSettled s (engine_session v.knows s)) v.settled) (sym view) told in
      subst (λ (z : EngineSession × List LibraryKnows). Each (IsSettled s z.0) z.1) (λ j. (sym after j, sym same j))
      (each_two (IsSettled s mine) (λ (l : LibraryKnows). IsPrefix (taken_of (after_take mine row.library (f.item ∷ [])) l.number) (library_session l s).items) (IsSettled s (after_take mine row.library (f.item ∷ []))) seat.me.0.libraries
      (λ l is begins. record { stands = is.stands; others = is.others; words = is.words; taken = begins; all = is.all }) was f.told.settled)

  -- the slot that is out, and what comes out of it
  pub take_slot : (seat' : Seat (Option Item) View) (r slot libraries : ℕ) (f : Fetched seat' r) → libraries ≡ k.libraries → slot ≡ slot_of libraries s row.library r → seat'.me.1 ≡ (slot, Some f.item) ∷ rest seat'.me.1
  take_slot seat' r slot libraries f many place =
      let at : slot ≡ slot_of k.libraries s row.library r = place ∙ ap (λ (n : ℕ). slot_of n s row.library r) many in
      ap (λ (m : Seated). m.1) f.me ∙ (λ j. (sym at j, Some f.item) ∷ sym (ap (λ (m : Seated). rest m.1) f.me) j)

  pub take_out : (seat' : Seat (Option Item) View) (r slot : ℕ) (x : Option Item) (f : Fetched seat' r) → seat'.me.1 ≡ (slot, x) ∷ rest seat'.me.1 → x ≡ Some f.item
  take_out seat' r slot x f out = ap first_value (sym out ∙ ap (λ (m : Seated). m.1) f.me)

pub if_some : {A : Type 0} (P : A → Type 0) (r : Option A) (x : A) → r ≡ Some x → P x → IfSome r P
if_some {A} P r x is holds = subst (λ (r : Option A). IfSome r P) (sym is) holds
