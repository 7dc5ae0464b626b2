-- What is so of the items that were queued stays so.
use Rattle.std.proofs.Common.{◌≡◌, ℕ, zero, suc, ◌+◌, ◌≤◌, ◌<◌, Bool, true, false, if◌then◌else◌, nat_le, List, [], ◌∷◌, ◌++◌, length, refl, sym, ap, subst, ◌∙◌, arith, append_assoc, length-append, length-drop, All}
use Rattle.std.proofs.lemmas.Bool.{leb-true, leb-false}
use Rattle.std.proofs.lemmas.List.Elements.{All-nil, All-cons, All-push, All-append, All-weaker}
use Rattle.message_log.specs.declared.entry.OutEntry.{OutEntry}
use Rattle.resend_plan.specs.declared.item.Names2.{Names2}
use Rattle.resend_plan.specs.declared.item.WireItem.{WireItem}
use Rattle.resend_plan.specs.Wire.{NamesEntry, body_of}
use Rattle.connection_core.specs.Outgoing.{Outgoing, no_outgoing, waiting_text, item_text, with_items, with_text, with_first_text, after_making, after_makings, with_texts, first_alone, ends_behind, after_writing}
use Rattle.connection_core.specs.Items.{AreItemsOf, text_of, ends_from}
use Rattle.connection_core.proofs.Texts.{All-front, All-back, some_text, text-push, length-text, length-text-push, ends-push, ends_later, text_stays, ends_stay}

-- one of two, both of which have the property
either : (P : Outgoing → Type 0) (b : Bool) (x y : Outgoing) → P x → P y → P (if b then x else y)
either P true x y p q = p
either P false x y p q = q

-- an end within what is written goes, and those behind it stay
ends-first_within : (written end : ℕ) (ends left : List ℕ) → nat_le end written ≡ true → ends_behind written ends ≡ left → ends_behind written (end ∷ ends) ≡ left
ends-first_within written end ends left e h = ap (λ (b : Bool). if b then ends_behind written ends else end ∷ ends) e ∙ h

ends-first_behind : (written end : ℕ) (ends : List ℕ) → nat_le end written ≡ false → ends_behind written (end ∷ ends) ≡ end ∷ ends
ends-first_behind written end ends e = ap (λ (b : Bool). if b then ends_behind written ends else end ∷ ends) e

module _ (names : Names2) (log : List (List OutEntry)) where
  pub items_first : AreItemsOf names log [] no_outgoing
  items_first =
      record { past = []; made = []; in_order = refl; text = refl; past_whole = omega arith; ends = refl; ends_wait = All-nil (λ (end : ℕ). 0 < end); within = omega arith; named = All-nil (NamesEntry log) }

  pub items_queue : (items more : List WireItem) (out : Outgoing) → AreItemsOf names log items out → All (NamesEntry log) more → AreItemsOf names log (items ++ more) (with_items more out)
  items_queue items more out h named =
      record {
        past = h.past;
        made = h.made;
        in_order = ap (λ (l : List WireItem). l ++ more) h.in_order
            ∙ (append_assoc h.past (h.made ++ out.unmade) more ∙ ap (λ (l : List WireItem). h.past ++ l) (append_assoc h.made out.unmade more));
        text = h.text;
        past_whole = h.past_whole;
        ends = h.ends;
        ends_wait = h.ends_wait;
        within = h.within;
        named = All-append (NamesEntry log) items more h.named named;
      }

  items_make_first : (items unmade : List WireItem) (out : Outgoing) → out.unmade ≡ unmade → AreItemsOf names log items out → AreItemsOf names log items (with_first_text names log unmade out)
  items_make_first items [] out e h = h
  items_make_first items (item ∷ rest) out e h =
      let text = item_text names log item in
      let some = some_text names log item in
      let start = length (text_of names log h.past) in
      let last : length out.text + length text ≡ start + length (text_of names log h.made) + length text = omega (arith, ap length h.text, length-text names log h.past h.made) in
      let waits : out.written < length out.text + length text = omega (arith, h.within) in
      record {
        past = h.past;
        made = h.made ++ item ∷ [];
        in_order = h.in_order ∙ (ap (λ (l : List WireItem). h.past ++ (h.made ++ l)) e ∙ ap (λ (l : List WireItem). h.past ++ l) (sym (append_assoc h.made (item ∷ []) rest)));
        text = ap (λ (t : List ℕ). t ++ text) h.text ∙ (sym (text-push names log (h.past ++ h.made) item) ∙ ap (text_of names log) (append_assoc h.past h.made (item ∷ [])));
        past_whole = h.past_whole;
        ends = ap (λ (ends : List ℕ). ends ++ (length out.text + length text) ∷ []) h.ends
            ∙ (ap (λ (n : ℕ). ends_from names log start h.made ++ n ∷ []) last ∙ sym (ends-push names log start h.made item));
        ends_wait = All-push (λ (end : ℕ). out.written < end) out.ends (length out.text + length text) h.ends_wait waits;
        within = omega (arith, h.within, length-append out.text text);
        named = h.named;
      }

  pub items_make : (items : List WireItem) (out : Outgoing) → AreItemsOf names log items out → AreItemsOf names log items (after_making names log out)
  items_make items out h = items_make_first items out.unmade out refl h

  pub items_makings : (items : List WireItem) (out : Outgoing) (count : ℕ) → AreItemsOf names log items out → AreItemsOf names log items (after_makings names log count out)
  items_makings items out zero h = h
  items_makings items out (suc count) h = items_make items (after_makings names log count out) (items_makings items out count h)

  pub items_with_texts : (items unmade : List WireItem) (out : Outgoing) (limit : ℕ) → out.unmade ≡ unmade → AreItemsOf names log items out → AreItemsOf names log items (with_texts names log limit unmade out)
  items_with_texts items [] out limit e h = h
  items_with_texts items (item ∷ rest) out limit e h =
      let next = with_text (item_text names log item) rest out in
      either (AreItemsOf names log items) (nat_le limit (length (waiting_text out))) out (with_texts names log limit rest next) h
      (items_with_texts items rest next limit refl (items_make_first items (item ∷ rest) out e h))

  pub items_first_alone : (items : List WireItem) (out : Outgoing) (text : List ℕ) → AreItemsOf names log items out → AreItemsOf names log items (first_alone names log text out)
  items_first_alone items out [] h = items_make items out h
  items_first_alone items out (b ∷ text) h = h

  -- items whose text is written whole move to those that are past
  record Moved (past made : List WireItem) (written : ℕ) : Type 0 where
    pub all_past : List WireItem
    pub left : List WireItem
    pub same : past ++ made ≡ all_past ++ left
    pub whole : length (text_of names log all_past) ≤ written
    pub ends : ends_behind written (ends_from names log (length (text_of names log past)) made) ≡ ends_from names log (length (text_of names log all_past)) left
    pub wait : All (λ end. written < end) (ends_from names log (length (text_of names log all_past)) left)

  -- an item that ends within what is written is past
  moved_on : (item : WireItem) (made past : List WireItem) (written end : ℕ) → end ≡ length (text_of names log past) + length (item_text names log item) → nat_le end written ≡ true
      → Moved (past ++ item ∷ []) made written → Moved past (item ∷ made) written
  moved_on item made past written end is e m =
      let place : end ≡ length (text_of names log (past ++ item ∷ [])) = omega (arith, length-text-push names log past item) in
      let ends = subst (λ (n : ℕ). ends_behind written (ends_from names log n made) ≡ ends_from names log (length (text_of names log m.all_past)) m.left) (sym place) m.ends in
      let moved_ends = ends-first_within written end (ends_from names log end made) (ends_from names log (length (text_of names log m.all_past)) m.left) e ends in
      record {
        all_past = m.all_past;
        left = m.left;
        same = sym (append_assoc past (item ∷ []) made) ∙ m.same;
        whole = m.whole;
        ends = subst (λ (n : ℕ). ends_behind written (n ∷ ends_from names log n made) ≡ ends_from names log (length (text_of names log m.all_past)) m.left) is moved_ends;
        wait = m.wait;
      }

  -- the first that ends behind what is written stays with those that follow
  moved_by : (item : WireItem) (made past : List WireItem) (written end : ℕ) (b : Bool) → end ≡ length (text_of names log past) + length (item_text names log item) → nat_le end written ≡ b
      → length (text_of names log past) ≤ written → (length (text_of names log (past ++ item ∷ [])) ≤ written → Moved (past ++ item ∷ []) made written) → Moved past (item ∷ made) written
  moved_by item made past written end true is e h later =
      let within : length (text_of names log (past ++ item ∷ [])) ≤ written = omega (arith, length-text-push names log past item, leb-true end written e) in
      moved_on item made past written end is e (later within)
  moved_by item made past written end false is e h later =
      let waits : written < end = leb-false end written e in
      let behind : written ≤ end = omega arith in
      let stay = ends-first_behind written end (ends_from names log end made) e in
      let wait = All-cons (λ (n : ℕ). written < n) end (ends_from names log end made) waits (ends_later names log end written made behind) in
      record {
        all_past = past;
        left = item ∷ made;
        same = refl;
        whole = h;
        ends = subst (λ (n : ℕ). ends_behind written (n ∷ ends_from names log n made) ≡ n ∷ ends_from names log n made) is stay;
        wait = subst (λ (n : ℕ). All (λ k. written < k) (n ∷ ends_from names log n made)) is wait;
      }

  moved : (made past : List WireItem) (written : ℕ) → length (text_of names log past) ≤ written → Moved past made written
  moved [] past written h = record { all_past = past; left = []; same = refl; whole = h; ends = refl; wait = All-nil (λ (end : ℕ). written < end) }
  moved (item ∷ made) past written h =
      let end = length (text_of names log past) + length (item_text names log item) in
      moved_by item made past written end (nat_le end written) refl refl h (λ within. moved made (past ++ item ∷ []) written within)

  pub items_write : (items : List WireItem) (out : Outgoing) (n : ℕ) → AreItemsOf names log items out → n ≤ length (waiting_text out) → AreItemsOf names log items (after_writing n out)
  items_write items out n h most =
      let written = out.written + n in
      let enough : length (text_of names log h.past) ≤ written = omega (arith, h.past_whole) in
      let m = moved h.made h.past written enough in
      let ends = ap (ends_behind written) h.ends ∙ m.ends in
      record {
        past = m.all_past;
        made = m.left;
        in_order = h.in_order ∙ (sym (append_assoc h.past h.made out.unmade) ∙ (ap (λ (l : List WireItem). l ++ out.unmade) m.same ∙ append_assoc m.all_past m.left out.unmade));
        text = h.text ∙ ap (text_of names log) m.same;
        past_whole = m.whole;
        ends = ends;
        ends_wait = subst (All (λ (end : ℕ). written < end)) (sym ends) m.wait;
        within = omega (arith, h.within, most, length-drop out.written out.text);
        named = h.named;
      }

-- the items are those of the log as it grows
pub items_grow : (names : Names2) (earlier later : List (List OutEntry)) (items : List WireItem) (out : Outgoing)
    → ((item : WireItem) → NamesEntry earlier item → body_of names later item ≡ body_of names earlier item)
    → ((item : WireItem) → NamesEntry earlier item → NamesEntry later item) → AreItemsOf names earlier items out → AreItemsOf names later items out
items_grow names earlier later items out stays still h =
    let named_parts = subst (All (NamesEntry earlier)) h.in_order h.named in
    let named_made = subst (All (NamesEntry earlier)) (sym (append_assoc h.past h.made out.unmade)) named_parts in
    let named_both = All-front (NamesEntry earlier) (h.past ++ h.made) out.unmade named_made in
    let named_past = All-front (NamesEntry earlier) h.past h.made named_both in
    let named_left = All-back (NamesEntry earlier) h.past h.made named_both in
    let past = text_stays names earlier later stays h.past named_past in
    record {
      past = h.past;
      made = h.made;
      in_order = h.in_order;
      text = h.text ∙ sym (text_stays names earlier later stays (h.past ++ h.made) named_both);
      past_whole = subst (λ (t : List ℕ). length t ≤ out.written) (sym past) h.past_whole;
      ends = h.ends ∙ (ap (λ (t : List ℕ). ends_from names earlier (length t) h.made) (sym past) ∙ sym (ends_stay names earlier later stays (length (text_of names later h.past)) h.made named_left));
      ends_wait = h.ends_wait;
      within = h.within;
      named = All-weaker (NamesEntry earlier) (NamesEntry later) still items h.named;
    }
