-- How what is to be written on a connection stands to the items that were queued on it so far.
use Rattle.std.specs.Prelude.{◌≡◌, ℕ, ◌+◌, ◌-◌, ◌<◌, ◌≤◌, nat_le, if◌then◌else◌, List, [], ◌∷◌, ◌++◌, length, All}
use Rattle.message_log.specs.declared.entry.OutEntry.{OutEntry}
use Rattle.resend_plan.specs.declared.item.Names2.{Names2}
use Rattle.resend_plan.specs.declared.item.WireItem.{WireItem}
use Rattle.resend_plan.specs.Wire.{NamesEntry}
use Rattle.connection_core.specs.Outgoing.{Outgoing, item_text}

-- the outbound text of items: their frames, one after the other
abbrev pub text_of : Names2 → List (List OutEntry) → List WireItem → List ℕ
text_of names log [] = []
text_of names log (item ∷ items) = item_text names log item ++ text_of names log items

-- where items end whose text begins at a place
abbrev pub ends_from : Names2 → List (List OutEntry) → ℕ → List WireItem → List ℕ
ends_from names log start [] = []
ends_from names log start (item ∷ items) =
    let end = start + length (item_text names log item) in
    end ∷ ends_from names log end items

-- how many of the items lie whole within the first so many bytes of their text
abbrev pub whole_items : Names2 → List (List OutEntry) → ℕ → List WireItem → ℕ
whole_items names log bytes [] = 0
whole_items names log bytes (item ∷ items) =
    let size = length (item_text names log item) in
    if nat_le size bytes then 1 + whole_items names log (bytes - size) items else 0

-- These are the items that were queued so far, in order: some are written whole, some have text and wait, and the others have none.
pub record AreItemsOf (names : Names2) (log : List (List OutEntry)) (items : List WireItem) (out : Outgoing) : Type 0 where
  pub past : List WireItem
  pub made : List WireItem
  pub in_order : items ≡ past ++ (made ++ out.unmade)
  pub text : out.text ≡ text_of names log (past ++ made)
  pub past_whole : length (text_of names log past) ≤ out.written
  pub ends : out.ends ≡ ends_from names log (length (text_of names log past)) made
  pub ends_wait : All (λ end. out.written < end) out.ends
  pub within : out.written ≤ length out.text
  pub named : All (NamesEntry log) items
