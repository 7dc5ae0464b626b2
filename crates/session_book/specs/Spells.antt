-- What a journal tells of the connections to which a session was bound, one after another.
use Rattle.std.specs.Prelude.{ℕ, Bool, true, false, not, is_some, if◌then◌else◌, List, [], ◌∷◌, ◌++◌, filter, flat_map}
use Rattle.lease_core.specs.State.{State as Totals, series_of, state_after, state_of, with_last}
use Rattle.lease_core.specs.declared.entry.Entry.{Entry}
use Rattle.lease_core.specs.declared.entry.Entry.TheVariants.{Admin, Arrive, Bind, Leave, Plan, Reset}
use Rattle.message_log.specs.declared.entry.OutEntry.{OutEntry}
use Rattle.resend_plan.specs.Wire.{entry_of}
use Rattle.resend_plan.specs.declared.item.WireItem.{WireItem}
use Rattle.session_core.specs.Admin.{is_tick_text}
use Rattle.session_book.specs.Items.{items_of_entry}

-- an entry, and what those before it come to
pub record Placed : Type 0 where
  pub before : Totals
  pub entry : Entry

abbrev pub placed : Totals → Entry → Placed
placed s e = record { before = s; entry = e }

-- entries in their places, behind those that came to this state
abbrev pub placed_from : Totals → List Entry → List Placed
placed_from s [] = []
placed_from s (e ∷ es) = placed s e ∷ placed_from (state_after s e) es

-- a connection, and the entries that were made while the session was bound to it
pub record Spell : Type 0 where
  pub connection : ℕ
  pub entries : List Placed

abbrev pub new_spell : ℕ → Spell
new_spell c = record { connection = c; entries = [] }

abbrev pub spell_with : List Placed → Spell → Spell
spell_with more spell = record spell { entries = spell.entries ++ more }

-- A Bind begins the spell of its connection. What is made up to the Leave belongs to that.
abbrev pub spells_after : List Spell → Totals → Entry → List Spell
spells_after spells s (Bind c) = spells ++ new_spell c ∷ []
spells_after spells s (Leave c) = spells
spells_after spells s e = if is_some s.bound then with_last (spell_with (placed s e ∷ [])) spells else spells

abbrev pub spells_from : List Spell → Totals → List Entry → List Spell
spells_from spells s [] = spells
spells_from spells s (e ∷ es) = spells_from (spells_after spells s e) (state_after s e) es

-- the spells of a journal behind the entries before
abbrev pub spells_behind : List Entry → List Entry → List Spell
spells_behind before entries = spells_from [] (state_of before) entries

-- the body that the outbound log has at a number of a series; none where there is no such number
abbrev pub logged_body : List (List OutEntry) → ℕ → ℕ → List ℕ
logged_body log series number = (entry_of log series number).body

-- what isn't done by leases is an act of the session machine, but for what the clock alone sends
abbrev pub is_act_of : List (List OutEntry) → Totals → Entry → Bool
is_act_of log s (Arrive pos) = true
is_act_of log s (Admin number) = not (is_tick_text (logged_body log (series_of s) number))
is_act_of log s (Plan begin last at) = true
is_act_of log s (Reset series) = true
is_act_of log s _ = false

abbrev pub is_act : List (List OutEntry) → Placed → Bool
is_act log p = is_act_of log p.before p.entry

-- the entries that tell of acts
abbrev pub act_entries : List (List OutEntry) → Spell → List Placed
act_entries log spell = filter (is_act log) spell.entries

-- the items of a spell: one for each message that is numbered, and those of each plan over the log up to there
abbrev pub items_at : List (List OutEntry) → Placed → List WireItem
items_at log p = items_of_entry log p.before p.entry

abbrev pub spell_items : List (List OutEntry) → Spell → List WireItem
spell_items log spell = flat_map (items_at log) spell.entries
