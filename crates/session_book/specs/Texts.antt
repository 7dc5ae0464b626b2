-- What is written on a connection is the outbound text that the journal tells of it.
use Rattle.std.specs.Prelude.{◌≡◌, ◌≢◌, ℕ, ◌≤◌, List, [], ◌∷◌, ◌++◌, length, Some}
use Rattle.std.specs.List.{All}
use Rattle.connection_core.specs.Items.{AreItemsOf, text_of}
use Rattle.connection_core.specs.Outgoing.{Outgoing}
use Rattle.lease_core.specs.State.{sent_in_series, series_of, state_of}
use Rattle.lease_core.specs.declared.entry.Entry.{Entry}
use Rattle.message_log.specs.Series.{series_at}
use Rattle.message_log.specs.declared.entry.OutEntry.{OutEntry}
use Rattle.resend_plan.specs.declared.item.Names2.{Names2}
use Rattle.session_book.specs.Book.{Book}
use Rattle.session_book.specs.Spells.{Placed, Spell, spell_items, spells_behind}

-- the log has what was sent before the entry
abbrev pub WasSent : List (List OutEntry) → Placed → Type 0
WasSent log p = sent_in_series p.before ≤ length (series_at log (series_of p.before))

-- the outbound text of a connection: the frames of the items of its spell, one after the other
abbrev pub outbound_text : Names2 → List (List OutEntry) → Spell → List ℕ
outbound_text names log spell = text_of names log (spell_items log spell)

-- One of the spells behind the entries before is that of connection c, and its items are those that were queued on the connection so far. While the
-- session is bound to c this is the last spell, and while it is bound to another one it isn't.
pub record IsTextOf (names : Names2) (before : List Entry) (c : ℕ) (book : Book) (out : Outgoing) : Type 0 where
  pub added : List Entry
  pub entries_are : book.entries ≡ before ++ added
  pub past : List Spell
  pub spell : Spell
  pub later : List Spell
  pub spells : spells_behind before added ≡ past ++ (spell ∷ later)
  pub connection : spell.connection ≡ c
  pub sent : All (WasSent book.outbound) spell.entries
  pub items : AreItemsOf names book.outbound (spell_items book.outbound spell) out
  pub stands : (state_of book.entries).bound ≡ Some c → later ≡ []
  pub other : (d : ℕ) → (state_of book.entries).bound ≡ Some d → d ≢ c → 1 ≤ length later
