-- A library's seat through a send.
use Rattle.std.proofs.Common.{◌≡◌, ◌≢◌, ℕ, suc, ◌+◌, ◌-◌, ◌%◌, ◌^◌, ◌<◌, List, [], ◌∷◌, length, get_or, set, Bool, true, false, Option, None, refl, sym, ap, ◌∙◌, subst, arith, eq-eqb, ne_eqb}
use Rattle.std.specs.Prelude.{MatchBool, ◌==◌}
use Rattle.std.proofs.lemmas.Bool.{or_left, or_right, or_from}
use Rattle.std.proofs.lemmas.Bool.Decides.{when_true, when_false}
use Rattle.std.proofs.lemmas.List.{get_or-set_same, set-set}
use mathlib.Core.Option.{none}
use Rattle.atomic_table.specs.Table.{step, Allows}
use Rattle.atomic_table.specs.Seated.{TableId}
use Rattle.atomic_table.specs.declared.shared.Seat.{Seat}
use Rattle.lease_core.specs.declared.word.Standing.TheVariants.{Active}
use Rattle.lease_core.specs.declared.word.Word.{Word}
use Rattle.lease_core.specs.Word.{word_in, number_of}
use Rattle.lease_words.specs.declared.item.Item.{Item}
use Rattle.lease_words.specs.declared.view.Shape.{Shape}
use Rattle.lease_words.specs.declared.view.LibrarySession.{LibrarySession}
use Rattle.lease_words.specs.declared.view.LibraryKnows.{LibraryKnows}
use Rattle.lease_words.specs.declared.view.View.{View}
use Rattle.lease_words.specs.declared.rows.LibraryRow.{LibraryRow}
use Rattle.lease_words.specs.Layout.{session_at, taken_word, slot_of}
use Rattle.lease_words.specs.Leases.{held_lease, held_count}
use Rattle.lease_words.specs.Views.{TableRef, LibraryView, library_view, first_library, library_session, with_library_session, no_library_session}
use Rattle.lease_words.specs.Sees.{after_send, after_loss, with_sending, after_taken_load}
use Rattle.lease_words.specs.Rule.{Ruled, IsShape}
use Rattle.lease_words.specs.Tells.{Seated, HasFoundTaken, is_refused, ClaimOf, ClaimTells, HasLost, HasSent, LibraryNumbers, library_numbers}
use Rattle.lease_words.specs.Tokens.{library_row, CountsFit, IsTable, IsLibrary}
use Rattle.lease_words.specs.Answers.{active_word, HasLoaded, IsLoss, HasOffered, HasFailed}
use Rattle.lease_words.proofs.Lines.{word_parts}
use Rattle.lease_words.proofs.LibraryHolds.{held_number, next_number, counted_count, lost_count}
use Rattle.lease_words.proofs.LibraryCalls.{held_within, library_rests, library_row_at, still_library, same_library}
use Rattle.lease_words.proofs.Places.{session-taken_word}
use Rattle.lease_words.proofs.Sends.{claims_at}

-- the load of a send
pub claim_step : (seat : Seat (Option Item) View) (number beats : ℕ) (rows : List LibraryRow) (k : Shape) (slots id s i : ℕ) → IsLibrary seat number beats rows → seat.me.0.shape ≡ k → s < k.sessions → i ≡ taken_word s number
    → Allows (Ruled k) slots id seat.me i (λ n. n) (ClaimTells (step slots i 0 0 none) seat.me)
claim_step seat number beats rows k slots id s i is shape here at =
    let l : LibraryKnows = first_library seat.me.0.libraries in
    let same : seat.me ≡ (library_view k l, []) = library_rests seat number beats rows k is shape in
    let lane : i ≡ taken_word s l.number = at ∙ ap (taken_word s) is.number_is in
    subst (λ (z : Seated × ℕ). Allows (Ruled k) slots id z.0 z.1 (λ n. n) (ClaimTells (step slots z.1 0 0 none) z.0)) (λ j. (sym same j, sym lane j)) (claims_at k id l s here slots is.idle)

-- what a send knows of its seat once the taken count is loaded
pub record Loaded (seat seat' : Seat (Option Item) View) (number beats : ℕ) (rows : List LibraryRow) (k : Shape) (l : LibraryKnows) (depth sends lease s : ℕ) (row : LibraryRow) (r : ℕ) : Type 0 where
  pub is : IsLibrary seat number beats rows
  pub shape : seat.me.0.shape ≡ k
  pub knows : first_library seat.me.0.libraries ≡ l
  pub sizes : IsShape k
  pub depth_is : depth ≡ k.depth
  pub sends_are : sends ≡ k.sends
  pub here : s < k.sessions
  pub row_is : row ≡ library_row number (library_session l s)
  pub lease_some : 0 < lease
  pub lease_is : held_lease (library_session l s).leases ≡ lease
  pub saw : HasFoundTaken k (library_session l s) r
  pub told : MatchBool (is_refused k (length (library_session l s).items) r (held_count (library_session l s).leases))
      (seat'.me ≡ (library_view k (with_library_session l s (after_taken_load (library_session l s) r)), []))
      (seat'.me ≡ (library_view k (with_sending (with_library_session l s (after_taken_load (library_session l s) r)) (suc s)), (slot_of k.libraries s l.number (length (library_session l s).items), None) ∷ []))

pub loaded : (seat seat' : Seat (Option Item) View) (number beats : ℕ) (rows : List LibraryRow) (key : Shape) (table : TableId) (sessions libraries depth sends s slots i r lease : ℕ) (row : LibraryRow) (t : TableRef) (v : LibraryView)
    → IsTable key table sessions libraries depth sends → record { shape = key; table = table } ≡ t → IsLibrary seat number beats rows → record { table = record { shape = seat.me.0.shape; table = seat.table_id }; knows = first_library seat.me.0.libraries } ≡ v
    → v.table ≡ t → s < t.shape.sessions → 0 < lease → held_lease (library_session v.knows s).leases ≡ lease → row ≡ get_or rows s row → i ≡ taken_word s number → ClaimTells (step slots i 0 0 none) seat.me r seat'.me
    → Loaded seat seat' number beats rows t.shape v.knows depth sends lease s row r
loaded seat seat' number beats rows key table sessions libraries depth sends s slots i r lease row t v fits table_is is view_is tied here lease_some lease_is row_at at tells =
    let k : Shape = t.shape in
    let key_is : key ≡ k = ap (λ (t : TableRef). t.shape) table_is in
    let knows : first_library seat.me.0.libraries ≡ v.knows = ap (λ (v : LibraryView). v.knows) view_is in
    let shape : seat.me.0.shape ≡ k = ap (λ (v : LibraryView). v.table.shape) view_is ∙ ap (λ (t : TableRef). t.shape) tied in
    let rests : seat.me ≡ (library_view k v.knows, []) = library_rests seat number beats rows k is shape ∙ ap (λ (l : LibraryKnows). (library_view k l, [])) knows in
    let same : session_at i ≡ s = ap session_at at ∙ session-taken_word s number is.to_last in
    let told : ClaimOf s (step slots i 0 0 none) (library_view k v.knows, []) r seat'.me = subst (λ (z : Seated × ℕ). ClaimOf z.1 (step slots i 0 0 none) z.0 r seat'.me) (λ j. (rests j, same j)) tells in
    record {
      is = is;
      shape = shape;
      knows = knows;
      sizes = subst IsShape key_is fits.shape;
      depth_is = fits.depth_is ∙ ap (λ (k : Shape). k.depth) key_is;
      sends_are = fits.sends_are ∙ ap (λ (k : Shape). k.sends) key_is;
      here = here;
      row_is = library_row_at seat number beats rows k is shape s row here row_at ∙ ap (λ (l : LibraryKnows). library_row number (library_session l s)) knows;
      lease_some = lease_some;
      lease_is = lease_is;
      saw = told.0;
      told = told.1;
    }

-- the count in the number of a held lease
count_in : (n : ℕ) (w : Word) → n ≡ number_of w → w.standing ≡ Active → w.count < 2 ^ 32 → n % 4294967296 ≡ w.count
unfolding number_of
count_in n w is active few = subst (λ m. m % 4294967296 ≡ w.count) (sym is) (rw active (omega arith))

module _ (seat seat' : Seat (Option Item) View) (number beats : ℕ) (rows : List LibraryRow) (k : Shape) (l : LibraryKnows) (depth sends lease s : ℕ) (row : LibraryRow) (r : ℕ) (x : Loaded seat seat' number beats rows k l depth sends lease s row r) where
  abbrev ls : LibrarySession
  ls = library_session l s

  abbrev after : LibrarySession
  after = after_taken_load ls r

  abbrev refused : Bool
  refused = is_refused k (length ls.items) r (held_count ls.leases)

  held : 0 < held_lease ls.leases
  held = let a = x.lease_some in let b = x.lease_is in omega arith

  near : s < length l.sessions
  near = held_within l.sessions s held

  number_is : number ≡ l.number
  number_is = x.is.number_is ∙ ap (λ (l : LibraryKnows). l.number) x.knows

  committed_is : row.committed ≡ length ls.items
  committed_is = ap (λ (r : LibraryRow). r.committed) x.row_is

  word_is : row.word ≡ number_of (active_word (held_lease ls.leases) number (held_count ls.leases))
  word_is = ap (λ (r : LibraryRow). r.word) x.row_is ∙ held_number number ls.leases held

  pub count_is : row.word % 4294967296 ≡ held_count ls.leases
  count_is = let a = x.saw.spent in let b = x.sizes.sends in count_in row.word (active_word (held_lease ls.leases) number (held_count ls.leases)) word_is refl (omega arith)

  -- the two causes of a refusal before the exchange
  pub is_full : row.committed - r ≡ depth → length ls.items ≡ r + k.depth
  is_full e = let a = committed_is in let b = x.saw.behind in let d = x.depth_is in omega arith

  pub is_spent : row.word % 4294967296 ≡ sends → held_count ls.leases ≡ k.sends
  is_spent e = sym count_is ∙ (e ∙ x.sends_are)

  pub not_full : row.committed - r ≢ depth → length ls.items ≢ r + k.depth
  not_full other e = other (let a = committed_is in let d = x.depth_is in omega arith)

  pub not_spent : row.word % 4294967296 ≢ sends → held_count ls.leases ≢ k.sends
  not_spent other e = other (count_is ∙ (e ∙ sym x.sends_are))

  full_refused : row.committed - r ≡ depth → refused ≡ true
  full_refused e = or_left (length ls.items == r + k.depth) (held_count ls.leases == k.sends) (eq-eqb (length ls.items) (r + k.depth) (is_full e))

  spent_refused : row.word % 4294967296 ≡ sends → refused ≡ true
  spent_refused e = or_right (length ls.items == r + k.depth) (held_count ls.leases == k.sends) (eq-eqb (held_count ls.leases) k.sends (is_spent e))

  not_refused : row.committed - r ≢ depth → row.word % 4294967296 ≢ sends → refused ≡ false
  not_refused a b = or_from (length ls.items == r + k.depth) (held_count ls.leases == k.sends) (ne_eqb (length ls.items) (r + k.depth) (not_full a)) (ne_eqb (held_count ls.leases) k.sends (not_spent b))

  -- the seat stays a library's
  still : (seat'' : Seat (Option Item) View) (y : LibrarySession) (row' : LibraryRow) → seat''.me ≡ (library_view k (with_library_session l s y), []) → row' ≡ library_row number y → CountsFit y → IsLibrary seat'' number beats (set rows s row')
  still seat'' y row' me row_is fits = still_library seat number beats rows k x.is x.shape seat'' s y row' (me ∙ ap (λ (l : LibraryKnows). (library_view k (with_library_session l s y), [])) (sym x.knows)) row_is fits

  refused_library : refused ≡ true → IsLibrary seat' number beats rows
  refused_library e =
      same_library seat number beats rows k x.is x.shape seat' s after x.here (when_true _ _ e x.told ∙ ap (λ (l : LibraryKnows). (library_view k (with_library_session l s after), [])) (sym x.knows))
      (ap (λ (l : LibraryKnows). library_row number (library_session l s)) (sym x.knows)) (let a = x.saw.spent in let b = x.sizes.sends in omega arith)

  pub full_library : row.committed - r ≡ depth → IsLibrary seat' number beats rows
  full_library e = refused_library (full_refused e)

  pub spent_library : row.word % 4294967296 ≡ sends → IsLibrary seat' number beats rows
  spent_library e = refused_library (spent_refused e)

  -- the view after a call that changed one session
  session_after : (seat'' : Seat (Option Item) View) (y : LibrarySession) → seat''.me ≡ (library_view k (with_library_session l s y), []) → library_session (first_library seat''.me.0.libraries) s ≡ y
  session_after seat'' y me = ap (λ (m : Seated). library_session (first_library m.0.libraries) s) me ∙ get_or-set_same l.sessions s y no_library_session near

  view_after : (seat'' : Seat (Option Item) View) (y : LibrarySession) (t : TableRef) → seat''.me ≡ (library_view k (with_library_session l s y), []) → seat''.table_id ≡ seat.table_id → record { shape = seat.me.0.shape; table = seat.table_id } ≡ t
      → ◌≡◌ {A = LibraryView} (record { table = record { shape = seat''.me.0.shape; table = seat''.table_id }; knows = first_library seat''.me.0.libraries })
      (record { table = t; knows = with_library_session l s (library_session (first_library seat''.me.0.libraries) s) })
  view_after seat'' y t me id table =
      let first : first_library seat''.me.0.libraries ≡ with_library_session l s y = ap (λ (m : Seated). first_library m.0.libraries) me in
      let shape : seat''.me.0.shape ≡ seat.me.0.shape = ap (λ (m : Seated). m.0.shape) me ∙ sym x.shape in
      let same : ◌≡◌ {A = TableRef} (record { shape = seat''.me.0.shape; table = seat''.table_id }) t = (λ j. record { shape = shape j; table = id j }) ∙ table in
      let knows : first_library seat''.me.0.libraries ≡ with_library_session l s (library_session (first_library seat''.me.0.libraries) s) = first ∙ ap (with_library_session l s) (sym (session_after seat'' y me)) in
      λ j. record { table = same j; knows = knows j }

  loaded_after : (n : ℕ) → n ≡ r → HasLoaded k.depth ls n
  loaded_after n is = subst (HasLoaded k.depth ls) (sym is) (record { later = x.saw.later; behind = x.saw.behind; within = x.saw.within })

  module _ (some_room : row.committed - r ≢ depth) (some_left : row.word % 4294967296 ≢ sends) where
    abbrev out : LibraryKnows
    out = with_sending (with_library_session l s after) (suc s)

    out_is : first_library seat'.me.0.libraries ≡ out
    out_is = ap (λ (m : Seated). first_library m.0.libraries) (when_false _ _ (not_refused some_room some_left) x.told)

    session_is : library_session (first_library seat'.me.0.libraries) s ≡ after
    session_is = ap (λ (m : LibraryKnows). library_session m s) out_is ∙ get_or-set_same l.sessions s after no_library_session near

    idle : 0 ≡ l.sending
    idle = sym (ap (λ (l : LibraryKnows). l.sending) (sym x.knows) ∙ x.is.idle)

    -- the seat with the slot back
    back : (seat'' : Seat (Option Item) View) (f : LibrarySession → LibrarySession)
        → seat''.me ≡ (library_view k (with_sending (with_library_session (first_library seat'.me.0.libraries) s (f (library_session (first_library seat'.me.0.libraries) s))) 0), [])
        → seat''.me ≡ (library_view k (with_library_session l s (f after)), [])
    back seat'' f me =
        me ∙ ((λ j. (library_view k (with_sending (with_library_session (out_is j) s (f (session_is j))) 0), []))
        ∙ (λ j. (library_view k (record l { sessions = set-set l.sessions s after (f after) j; sending = idle j }), [])))

    module _ (seat'' : Seat (Option Item) View) (item : Item) (offered : HasOffered k s number row.word item seat'.me seat''.me) where
      abbrev sent_after : LibrarySession
      sent_after = after_send after (item ∷ []) (word_in (row.word + 1))

      sent_me : seat''.me ≡ (library_view k (with_library_session l s sent_after), [])
      sent_me = back seat'' (λ y. after_send y (item ∷ []) (word_in (row.word + 1))) offered.0

      sent_word : word_in (row.word + 1) ≡ active_word lease l.number (held_count ls.leases + 1)
      sent_word =
          let w : Word = active_word (held_lease ls.leases) number (held_count ls.leases + 1) in
          let makes : row.word + 1 ≡ number_of w = ap (λ (n : ℕ). n + 1) word_is ∙ next_number (held_lease ls.leases) number (held_count ls.leases) in
          let low : number < 64 = let a = x.is.to_last in omega arith in
          let few : held_count ls.leases + 1 < 2 ^ 32 = let a = x.saw.spent in let b = x.sizes.sends in let c = not_spent some_left in omega arith in
          ap word_in makes ∙ (word_parts w low few ∙ (λ j. active_word (x.lease_is j) (number_is j) (held_count ls.leases + 1)))

      pub sent_library : IsLibrary seat'' number beats (set rows s (record { word = row.word + 1; committed = row.committed + 1 }))
      sent_library =
          let numbers : library_numbers number sent_after ≡ record { word = row.word + 1; committed = length ls.items + 1 } =
          (subst (λ (y : LibrarySession). HasSent number y (item ∷ []) (row.word + 1)) session_is offered.1).numbers in
          still seat'' sent_after (record { word = row.word + 1; committed = row.committed + 1 }) sent_me
          (λ j. record { word = (ap (λ (n : LibraryNumbers). n.word) (sym numbers)) j; committed = (ap (λ (n : ℕ). n + 1) committed_is ∙ ap (λ (n : LibraryNumbers). n.committed) (sym numbers)) j })
          (let a = x.saw.spent in let b = x.sizes.sends in let c = not_spent some_left in let d = counted_count ls.leases held in omega arith)

      pub sent_others : (t : TableRef) → seat''.table_id ≡ seat.table_id → record { shape = seat.me.0.shape; table = seat.table_id } ≡ t
          → ◌≡◌ {A = LibraryView} (record { table = record { shape = seat''.me.0.shape; table = seat''.table_id }; knows = first_library seat''.me.0.libraries })
          (record { table = t; knows = with_library_session l s (library_session (first_library seat''.me.0.libraries) s) })
      sent_others t = view_after seat'' sent_after t sent_me

      pub sent_committed : library_session (first_library seat''.me.0.libraries) s ≡ after_send (after_taken_load ls (library_session (first_library seat''.me.0.libraries) s).taken) (item ∷ []) (active_word lease l.number (held_count ls.leases + 1))
      sent_committed =
          let now : library_session (first_library seat''.me.0.libraries) s ≡ sent_after = session_after seat'' sent_after sent_me in
          now ∙ (λ j. after_send (after_taken_load ls (sym (ap (λ (y : LibrarySession). y.taken) now) j)) (item ∷ []) (sent_word j))

      sent_taken : (library_session (first_library seat''.me.0.libraries) s).taken ≡ r
      sent_taken = ap (λ (y : LibrarySession). y.taken) (session_after seat'' sent_after sent_me)

      pub sent_loaded : HasLoaded k.depth ls (library_session (first_library seat''.me.0.libraries) s).taken
      sent_loaded = loaded_after (library_session (first_library seat''.me.0.libraries) s).taken sent_taken

      pub sent_room : length ls.items ≢ (library_session (first_library seat''.me.0.libraries) s).taken + k.depth
      sent_room = subst (λ (n : ℕ). length ls.items ≢ n + k.depth) (sym sent_taken) (not_full some_room)

    module _ (seat'' : Seat (Option Item) View) (found : ℕ) (failed : HasFailed k s number found seat'.me seat''.me) where
      abbrev lost_after : LibrarySession
      lost_after = after_loss after (word_in found)

      lost_me : seat''.me ≡ (library_view k (with_library_session l s lost_after), [])
      lost_me = back seat'' (λ y. after_loss y (word_in found)) failed.0

      has_lost : HasLost number after found
      has_lost = subst (λ (y : LibrarySession). HasLost number y found) session_is failed.1

      pub lost_library : (row' : LibraryRow) → row' ≡ get_or rows s row' → IsLibrary seat'' number beats (set rows s (record { word = 0; committed = row'.committed }))
      lost_library row' row_at =
          let numbers : library_numbers number lost_after ≡ record { word = 0; committed = length ls.items } = has_lost.numbers in
          let same : row' ≡ library_row number ls = library_row_at seat number beats rows k x.is x.shape s row' x.here row_at ∙ ap (λ (l : LibraryKnows). library_row number (library_session l s)) x.knows in
          still seat'' lost_after (record { word = 0; committed = row'.committed }) lost_me
          (λ j. record { word = (ap (λ (n : LibraryNumbers). n.word) (sym numbers)) j; committed = (ap (λ (r : LibraryRow). r.committed) same ∙ ap (λ (n : LibraryNumbers). n.committed) (sym numbers)) j })
          (let none = lost_count ls.leases in omega arith)

      pub lost_others : (t : TableRef) → seat''.table_id ≡ seat.table_id → record { shape = seat.me.0.shape; table = seat.table_id } ≡ t
          → ◌≡◌ {A = LibraryView} (record { table = record { shape = seat''.me.0.shape; table = seat''.table_id }; knows = first_library seat''.me.0.libraries })
          (record { table = t; knows = with_library_session l s (library_session (first_library seat''.me.0.libraries) s) })
      lost_others t = view_after seat'' lost_after t lost_me

      pub lost_loaded : HasLoaded k.depth ls (library_session (first_library seat''.me.0.libraries) s).taken
      lost_loaded = loaded_after (library_session (first_library seat''.me.0.libraries) s).taken (ap (λ (y : LibrarySession). y.taken) (session_after seat'' lost_after lost_me))

      pub lost_refused : (seen : Word) → seen ≡ word_in found
          → IsLoss ls seen × (held_count ls.leases ≢ k.sends) × (length ls.items ≢ (library_session (first_library seat''.me.0.libraries) s).taken + k.depth)
          × (library_session (first_library seat''.me.0.libraries) s ≡ after_loss (after_taken_load ls (library_session (first_library seat''.me.0.libraries) s).taken) seen)
      lost_refused seen seen_is =
          let now : library_session (first_library seat''.me.0.libraries) s ≡ lost_after = session_after seat'' lost_after lost_me in
          let taken : (library_session (first_library seat''.me.0.libraries) s).taken ≡ r = ap (λ (y : LibrarySession). y.taken) now in
          let loss : IsLoss ls (word_in found) = record { ends = has_lost.ends; later = has_lost.later } in (
            subst (IsLoss ls) (sym seen_is) loss,
            not_spent some_left,
            subst (λ (n : ℕ). length ls.items ≢ n + k.depth) (sym taken) (not_full some_room),
            now ∙ (λ j. after_loss (after_taken_load ls (sym taken j)) (sym seen_is j)),
          )
