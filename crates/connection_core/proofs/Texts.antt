-- The texts of items, one after the other, and where they end.
use Rattle.std.proofs.Common.{◌≡◌, ℕ, suc, ◌+◌, ◌-◌, ◌≤◌, ◌<◌, Bool, if◌then◌else◌, List, [], ◌∷◌, ◌++◌, length, refl, sym, ap, ◌∙◌, arith, append_assoc, append-nil, length-append, All}
use Rattle.std.proofs.lemmas.Bool.{le-leb, lt-leb}
use Rattle.std.proofs.lemmas.List.Elements.{All-nil, All-cons, All-head, All-tail}
use Rattle.message_log.specs.declared.entry.OutEntry.{OutEntry}
use Rattle.resend_plan.specs.declared.item.Names2.{Names2}
use Rattle.resend_plan.specs.declared.item.WireItem.{WireItem}
use Rattle.resend_plan.specs.Wire.{NamesEntry, body_of}
use Rattle.fix_frame.specs.Frame.{frame_of}
use Rattle.connection_core.specs.Outgoing.{item_text}
use Rattle.connection_core.specs.Items.{text_of, ends_from, whole_items}

-- what holds of each of two lists that were joined holds of each of the first, and of the second
pub All-front : {X : Type 0} (P : X → Type 0) (xs ys : List X) → All P (xs ++ ys) → All P xs
All-front P [] ys h = All-nil P
All-front P (x ∷ xs) ys h = All-cons P x xs (All-head P x (xs ++ ys) h) (All-front P xs ys (All-tail P x (xs ++ ys) h))

pub All-back : {X : Type 0} (P : X → Type 0) (xs ys : List X) → All P (xs ++ ys) → All P ys
All-back P [] ys h = h
All-back P (x ∷ xs) ys h = All-back P xs ys (All-tail P x (xs ++ ys) h)

-- a frame has some bytes
pub some_frame : (body : List ℕ) → 0 < length (frame_of body)
some_frame body = omega arith

module _ (names : Names2) (log : List (List OutEntry)) where
  pub some_text : (item : WireItem) → 0 < length (item_text names log item)
  some_text item = some_frame (body_of names log item)

  pub text-append : (a b : List WireItem) → text_of names log (a ++ b) ≡ text_of names log a ++ text_of names log b
  text-append [] b = refl
  text-append (item ∷ a) b =
      let text = item_text names log item in
      ap (λ (t : List ℕ). text ++ t) (text-append a b) ∙ sym (append_assoc text (text_of names log a) (text_of names log b))

  pub text-push : (a : List WireItem) (item : WireItem) → text_of names log (a ++ item ∷ []) ≡ text_of names log a ++ item_text names log item
  text-push a item = text-append a (item ∷ []) ∙ ap (λ (t : List ℕ). text_of names log a ++ t) (append-nil (item_text names log item))

  pub length-text : (a b : List WireItem) → length (text_of names log (a ++ b)) ≡ length (text_of names log a) + length (text_of names log b)
  length-text a b = ap length (text-append a b) ∙ length-append (text_of names log a) (text_of names log b)

  pub length-text-push : (a : List WireItem) (item : WireItem) → length (text_of names log (a ++ item ∷ [])) ≡ length (text_of names log a) + length (item_text names log item)
  length-text-push a item = ap length (text-push a item) ∙ length-append (text_of names log a) (item_text names log item)

  pub ends-push : (start : ℕ) (a : List WireItem) (item : WireItem)
      → ends_from names log start (a ++ item ∷ []) ≡ ends_from names log start a ++ (start + length (text_of names log a) + length (item_text names log item)) ∷ []
  ends-push start [] item = ap (λ (n : ℕ). n ∷ []) {x = start + length (item_text names log item)} {y = start + 0 + length (item_text names log item)} (omega arith)
  ends-push start (first ∷ a) item =
      let end = start + length (item_text names log first) in
      let last : end + length (text_of names log a) + length (item_text names log item) ≡ start + length (text_of names log (first ∷ a)) + length (item_text names log item) =
      omega (arith, length-append (item_text names log first) (text_of names log a)) in
      ap (λ (ends : List ℕ). end ∷ ends) (ends-push end a item ∙ ap (λ (n : ℕ). ends_from names log end a ++ n ∷ []) last)

  pub length-ends : (start : ℕ) (items : List WireItem) → length (ends_from names log start items) ≡ length items
  length-ends start [] = refl
  length-ends start (item ∷ items) = ap suc (length-ends (start + length (item_text names log item)) items)

  -- the items behind a place end behind it
  pub ends_later : (start written : ℕ) (items : List WireItem) → written ≤ start → All (λ end. written < end) (ends_from names log start items)
  ends_later start written [] h = All-nil (λ (end : ℕ). written < end)
  ends_later start written (item ∷ items) h =
      let some = some_text item in
      let end = start + length (item_text names log item) in
      let later : written < end = omega arith in
      All-cons (λ (e : ℕ). written < e) end (ends_from names log end items) later (ends_later end written items (omega arith))

  -- items whose text is among the bytes lie whole in them
  pub whole-past : (past rest : List WireItem) (bytes : ℕ) → length (text_of names log past) ≤ bytes
      → whole_items names log bytes (past ++ rest) ≡ length past + whole_items names log (bytes - length (text_of names log past)) rest
  whole-past [] rest bytes h =
      let same : bytes ≡ bytes - 0 = omega arith in
      let none : whole_items names log (bytes - 0) rest ≡ 0 + whole_items names log (bytes - 0) rest = omega arith in
      ap (λ (n : ℕ). whole_items names log n rest) same ∙ none
  whole-past (item ∷ past) rest bytes h =
      let size = length (item_text names log item) in
      let long = length-append (item_text names log item) (text_of names log past) in
      let fits : size ≤ bytes = omega arith in
      let behind : length (text_of names log past) ≤ bytes - size = omega arith in
      let left : bytes - size - length (text_of names log past) ≡ bytes - length (text_of names log (item ∷ past)) = omega arith in
      let test = ap (λ (b : Bool). if b then 1 + whole_items names log (bytes - size) (past ++ rest) else 0) (le-leb size bytes fits) in
      let later = ap (λ (n : ℕ). 1 + n) (whole-past past rest (bytes - size) behind) in
      let moved = ap (λ (n : ℕ). 1 + (length past + whole_items names log n rest)) left in
      let counted : 1 + (length past + whole_items names log (bytes - length (text_of names log (item ∷ past))) rest) ≡ suc (length past) + whole_items names log (bytes - length (text_of names log (item ∷ past))) rest = omega arith in
      test ∙ (later ∙ (moved ∙ counted))

  -- none lies whole in fewer bytes than the first has
  pub whole-none : (item : WireItem) (items : List WireItem) (bytes : ℕ) → bytes < length (item_text names log item) → whole_items names log bytes (item ∷ items) ≡ 0
  whole-none item items bytes short =
      let size = length (item_text names log item) in
      ap (λ (b : Bool). if b then 1 + whole_items names log (bytes - size) items else 0) (lt-leb size bytes short)

-- texts as the log grows
module _ (names : Names2) (earlier later : List (List OutEntry)) (stays : (item : WireItem) → NamesEntry earlier item → body_of names later item ≡ body_of names earlier item) where
  pub text_stays : (items : List WireItem) → All (NamesEntry earlier) items → text_of names later items ≡ text_of names earlier items
  text_stays [] all = refl
  text_stays (item ∷ items) all =
      let same = ap frame_of (stays item (All-head (NamesEntry earlier) item items all)) in
      ap (λ (t : List ℕ). t ++ text_of names later items) same
      ∙ ap (λ (t : List ℕ). item_text names earlier item ++ t) (text_stays items (All-tail (NamesEntry earlier) item items all))

  pub ends_stay : (start : ℕ) (items : List WireItem) → All (NamesEntry earlier) items → ends_from names later start items ≡ ends_from names earlier start items
  ends_stay start [] all = refl
  ends_stay start (item ∷ items) all =
      let same = ap frame_of (stays item (All-head (NamesEntry earlier) item items all)) in
      ap (λ (t : List ℕ). (start + length t) ∷ ends_from names later (start + length t) items) same
      ∙ ap (λ (ends : List ℕ). (start + length (item_text names earlier item)) ∷ ends) (ends_stay (start + length (item_text names earlier item)) items (All-tail (NamesEntry earlier) item items all))
