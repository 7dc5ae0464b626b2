-- The texts that are made one after the other, and the ends that lie within what is written.
use Rattle.std.proofs.Common.{◌≡◌, ℕ, suc, ◌+◌, ◌≤◌, ◌<◌, Bool, if◌then◌else◌, List, [], ◌∷◌, ◌++◌, length, get_or, take, drop, refl, sym, ap, subst, ◌∙◌, arith, append_assoc, All}
use Rattle.std.proofs.lemmas.Bool.{le-leb, lt-leb}
use Rattle.std.proofs.lemmas.List.{take_more}
use Rattle.std.proofs.lemmas.List.Elements.{All-drop}
use Rattle.message_log.specs.declared.entry.OutEntry.{OutEntry}
use Rattle.resend_plan.specs.declared.item.Names2.{Names2}
use Rattle.resend_plan.specs.declared.item.WireItem.{WireItem}
use Rattle.resend_plan.specs.Wire.{NamesEntry}
use Rattle.connection_core.specs.Items.{AreItemsOf}
use Rattle.connection_core.proofs.Queue.{items_makings}
use Rattle.connection_core.specs.Outgoing.{Outgoing, HasMore, waiting_text, item_text, with_items, with_text, with_first_text, after_making, with_texts, ends_behind}

-- the ends in order: the first lies within, or none does
pub ends-first_within : (written : ℕ) (ends : List ℕ) (d : ℕ) → 0 < length ends → get_or ends 0 d ≤ written → ends_behind written ends ≡ ends_behind written (drop 1 ends)
ends-first_within written [] d some h = absurd (omega arith)
ends-first_within written (end ∷ ends) d some h = ap (λ (b : Bool). if b then ends_behind written ends else end ∷ ends) (le-leb end written h)

pub ends-first_behind : (written : ℕ) (ends : List ℕ) (d : ℕ) → 0 < length ends → written < get_or ends 0 d → ends_behind written ends ≡ ends
ends-first_behind written [] d some h = absurd (omega arith)
ends-first_behind written (end ∷ ends) d some h = ap (λ (b : Bool). if b then ends_behind written ends else end ∷ ends) (lt-leb end written h)

pub ends-none : (written : ℕ) (ends : List ℕ) → length ends ≡ 0 → ends_behind written ends ≡ ends
ends-none written [] none = refl
ends-none written (end ∷ ends) none = absurd (omega arith)

-- one item more
pub with_one_more : (out : Outgoing) (items : List WireItem) (i : ℕ) (d : WireItem) → i < length items → with_items (get_or items i d ∷ []) (with_items (take i items) out) ≡ with_items (take (i + 1) items) out
with_one_more out items i d within =
    ap (λ (l : List WireItem). record out { unmade = l }) (append_assoc out.unmade (take i items) (get_or items i d ∷ []) ∙ ap (λ (l : List WireItem). out.unmade ++ l) (sym (take_more items i d within)))

module _ (names : Names2) (log : List (List OutEntry)) (limit : ℕ) (out : Outgoing) where
  -- a text that is made goes on to the same
  texts-step_by : (unmade : List WireItem) → length (waiting_text out) < limit → 0 < length unmade
      → with_texts names log limit (with_first_text names log unmade out).unmade (with_first_text names log unmade out) ≡ with_texts names log limit unmade out
  texts-step_by [] few some = absurd (omega arith)
  texts-step_by (item ∷ rest) few some =
      let next = with_text (item_text names log item) rest out in
      sym (ap (λ (b : Bool). if b then out else with_texts names log limit rest next) (lt-leb limit (length (waiting_text out)) few))

  pub texts-step : length (waiting_text out) < limit → 0 < length out.unmade
      → with_texts names log limit (after_making names log out).unmade (after_making names log out) ≡ with_texts names log limit out.unmade out
  texts-step few some = texts-step_by out.unmade few some

  -- it ends where enough waits, or each item has text
  texts-enough_by : (unmade : List WireItem) → limit ≤ length (waiting_text out) → with_texts names log limit unmade out ≡ out
  texts-enough_by [] enough = refl
  texts-enough_by (item ∷ rest) enough =
      let next = with_text (item_text names log item) rest out in
      ap (λ (b : Bool). if b then out else with_texts names log limit rest next) (le-leb limit (length (waiting_text out)) enough)

  pub texts-enough : limit ≤ length (waiting_text out) → with_texts names log limit out.unmade out ≡ out
  texts-enough enough = texts-enough_by out.unmade enough

  texts-none_by : (unmade : List WireItem) → length unmade ≡ 0 → with_texts names log limit unmade out ≡ out
  texts-none_by [] none = refl
  texts-none_by (item ∷ rest) none = absurd (omega arith)

  pub texts-none : length out.unmade ≡ 0 → with_texts names log limit out.unmade out ≡ out
  texts-none none = texts-none_by out.unmade none

-- items that have no text, but the first
pub behind_first : (names : Names2) (log : List (List OutEntry)) (out : Outgoing) (unmade : List WireItem) → 0 < length unmade → (with_first_text names log unmade out).unmade ≡ drop 1 unmade
behind_first names log out [] some = absurd (omega arith)
behind_first names log out (item ∷ rest) some = refl

pub none_of : (l : List WireItem) → length l ≡ 0 → l ≡ []
none_of [] e = refl
none_of (item ∷ l) e = absurd (omega arith)

pub has_none_more : (names : Names2) (log : List (List OutEntry)) (out : Outgoing) → HasMore names log out out
has_none_more names log out = record { count = 0; more = refl }

pub has_one_more : (names : Names2) (log : List (List OutEntry)) (old mid new : Outgoing) → HasMore names log old mid → new ≡ after_making names log mid → HasMore names log old new
has_one_more names log old mid new h e = record { count = suc h.count; more = e ∙ ap (after_making names log) h.more }

-- the items are those of what has more texts
pub items_more : (names : Names2) (log : List (List OutEntry)) (old new : Outgoing) → HasMore names log old new → (items : List WireItem) → AreItemsOf names log items old → AreItemsOf names log items new
items_more names log old new more items h = subst (AreItemsOf names log items) (sym more.more) (items_makings names log items old more.count h)

-- those without text behind the first name entries where all of them did
pub named_behind : (names : Names2) (log : List (List OutEntry)) (out : Outgoing) → 0 < length out.unmade → All (NamesEntry log) out.unmade → All (NamesEntry log) (after_making names log out).unmade
named_behind names log out some all = subst (All (NamesEntry log)) (sym (behind_first names log out out.unmade some)) (All-drop (NamesEntry log) 1 out.unmade all)
