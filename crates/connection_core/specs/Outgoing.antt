-- What is to be written on a connection, and how far that is written.
use Rattle.std.specs.Prelude.{◌≡◌, ℕ, zero, suc, ◌+◌, nat_le, if◌then◌else◌, List, [], ◌∷◌, ◌++◌, length, take, drop}
use Rattle.fix_frame.specs.Frame.{frame_of}
use Rattle.message_log.specs.declared.entry.OutEntry.{OutEntry}
use Rattle.resend_plan.specs.declared.item.Names2.{Names2}
use Rattle.resend_plan.specs.declared.item.WireItem.{WireItem}
use Rattle.resend_plan.specs.Wire.{body_of}

-- The text of items, one after the other, and how many of its bytes are written. An item that isn't written whole waits: where its text ends if that is made, and else itself.
pub record Outgoing : Type 0 where
  pub text : List ℕ
  pub written : ℕ
  -- where the items end in the text that have text and wait
  pub ends : List ℕ
  -- the items of which no text is made yet
  pub unmade : List WireItem

-- the same, and for how many more items there is room
pub record Outlet : Type 0 where
  pub outgoing : Outgoing
  pub spare : ℕ

-- nothing is to be written
abbrev pub no_outgoing : Outgoing
no_outgoing = record { text = []; written = 0; ends = []; unmade = [] }

-- the bytes that are written
abbrev pub written_text : Outgoing → List ℕ
written_text out = take out.written out.text

-- the bytes whose text is made and that aren't written
abbrev pub waiting_text : Outgoing → List ℕ
waiting_text out = drop out.written out.text

-- how many items aren't written whole
abbrev pub waiting_count : Outgoing → ℕ
waiting_count out = length out.ends + length out.unmade

-- the frame of an item
abbrev pub item_text : Names2 → List (List OutEntry) → WireItem → List ℕ
item_text names log item = frame_of (body_of names log item)

-- with further items behind those that wait
abbrev pub with_items : List WireItem → Outgoing → Outgoing
with_items items out = record out { unmade = out.unmade ++ items }

-- with the text of an item, and these without text behind it
abbrev pub with_text : List ℕ → List WireItem → Outgoing → Outgoing
with_text made items out =
    record { text = out.text ++ made; written = out.written; ends = out.ends ++ (length out.text + length made) ∷ []; unmade = items }

-- with the text of the first of these items, which have none
abbrev pub with_first_text : Names2 → List (List OutEntry) → List WireItem → Outgoing → Outgoing
with_first_text names log [] out = out
with_first_text names log (item ∷ items) out = with_text (item_text names log item) items out

-- once the text of the first item that has none is made
abbrev pub after_making : Names2 → List (List OutEntry) → Outgoing → Outgoing
after_making names log out = with_first_text names log out.unmade out

-- once that is done so many times
abbrev pub after_makings : Names2 → List (List OutEntry) → ℕ → Outgoing → Outgoing
after_makings names log zero out = out
after_makings names log (suc count) out = after_making names log (after_makings names log count out)

-- some items more have text
pub record HasMore (names : Names2) (log : List (List OutEntry)) (old new : Outgoing) : Type 0 where
  pub count : ℕ
  pub more : new ≡ after_makings names log count old

-- with the texts of these items, which have none, until so many bytes wait
abbrev pub with_texts : Names2 → List (List OutEntry) → ℕ → List WireItem → Outgoing → Outgoing
with_texts names log limit [] out = out
with_texts names log limit (item ∷ items) out =
    if nat_le limit (length (waiting_text out)) then out
    else with_texts names log limit items (with_text (item_text names log item) items out)

-- once texts are made until so many bytes wait, or each item has one
abbrev pub after_preparing : Names2 → List (List OutEntry) → ℕ → Outgoing → Outgoing
after_preparing names log limit out = with_texts names log limit out.unmade out

-- with the text of the connection's first item, where none has text so far
abbrev pub first_alone : Names2 → List (List OutEntry) → List ℕ → Outgoing → Outgoing
first_alone names log [] out = after_making names log out
first_alone names log (b ∷ bytes) out = out

-- the same where no item but the connection's first is to have text
abbrev pub after_preparing_first : Names2 → List (List OutEntry) → Outgoing → Outgoing
after_preparing_first names log out = first_alone names log out.text out

-- the ends that lie behind so many bytes, of ends in order
abbrev pub ends_behind : ℕ → List ℕ → List ℕ
ends_behind written [] = []
ends_behind written (end ∷ ends) = if nat_le end written then ends_behind written ends else end ∷ ends

-- once n bytes more are written
abbrev pub after_writing : ℕ → Outgoing → Outgoing
after_writing n out = record out { written = out.written + n; ends = ends_behind (out.written + n) out.ends }
