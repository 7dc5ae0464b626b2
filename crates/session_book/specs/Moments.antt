-- When the items of a connection were made, and that a Heartbeat comes where nothing was sent for HeartBtInt (FIX 4.4, volume 2, "Heartbeat").
use Rattle.std.specs.Prelude.{◌≡◌, ℕ, ◌+◌, ◌*◌, ◌≤◌, Bool, true, false, nat_eq, codes, IsSome, List, [], ◌∷◌, ◌++◌, flat_map}
use Rattle.std.specs.Cmp.Lexicographic.{pointwise}
use Rattle.std.specs.List.{All}
use Rattle.lease_core.specs.State.{State as Totals, series_of, state_of}
use Rattle.lease_core.specs.declared.entry.Entry.{Entry}
use Rattle.lease_core.specs.declared.entry.Entry.TheVariants.{Admin}
use Rattle.message_log.specs.declared.entry.OutEntry.{OutEntry}
use Rattle.resend_plan.specs.Wire.{NamesEntry, entry_of}
use Rattle.resend_plan.specs.declared.item.WireItem.{WireItem}
use Rattle.resend_plan.specs.declared.item.WireItem.TheVariants.{Again, GapFill, New}
use Rattle.fix_fields.specs.Field.{tagged_text}
use Rattle.session_core.specs.Ask.{after_ask}
use Rattle.session_core.specs.Runs.{after_connection, behind_all}
use Rattle.session_core.specs.State.{State, heart_in}
use Rattle.session_book.specs.Book.{Book}
use Rattle.session_book.specs.Runs.{Handled, IsRunOver}
use Rattle.session_book.specs.Spells.{Placed, Spell, items_at, logged_body, spell_items, spells_behind}
use Rattle.session_book.specs.Texts.{WasSent}

-- when an item was made
abbrev pub item_moment : List (List OutEntry) → WireItem → ℕ
item_moment log (New series number) = (entry_of log series number).at
item_moment log (Again series number at) = at
item_moment log (GapFill series number to at) = at

-- the Admin entry of a Heartbeat that answers no TestRequest
abbrev pub is_beat_by : List (List OutEntry) → Totals → Entry → Bool
is_beat_by log s (Admin number) = pointwise nat_eq (logged_body log (series_of s) number) (tagged_text (codes "35") (codes "0"))
is_beat_by log s _ = false

abbrev pub is_beat : List (List OutEntry) → Placed → Bool
is_beat log p = is_beat_by log p.before p.entry

-- each of the items was made so long before this moment, or earlier
abbrev pub AreEarlier : List (List OutEntry) → ℕ → ℕ → List WireItem → Type 0
AreEarlier log wait at items = All (λ item. item_moment log item + wait ≤ at) items

-- Each such Heartbeat among the entries was made where nothing had been made for so long, neither of the earlier items nor of the entries before it.
abbrev pub BeatsBehind : List (List OutEntry) → ℕ → List WireItem → List Placed → Type 0
BeatsBehind log wait earlier [] = Unit {0}
BeatsBehind log wait earlier (p ∷ ps) =
    (is_beat log p ≡ true → All (λ item. AreEarlier log wait (item_moment log item) earlier) (items_at log p)) × BeatsBehind log wait (earlier ++ items_at log p) ps

-- The entries of one spell: each item names an entry of the log, and each Heartbeat comes where nothing was sent for so long.
pub record IsTimed (log : List (List OutEntry)) (wait : ℕ) (entries : List Placed) : Type 0 where
  pub sent : All (WasSent log) entries
  pub named : All (NamesEntry log) (flat_map (items_at log) entries)
  pub beats : BeatsBehind log wait [] entries

-- the milliseconds of the HeartBtInt on which the Logon of a connection agreed, of the session's own while that of a dialled one isn't answered, and 0
-- where the session is off behind what was handled
abbrev pub wait_of : State → Handled → ℕ
wait_of machine h = 1000 * heart_in (behind_all (after_ask machine 0) h.bodies).phase

-- so it is for each connection, with its own HeartBtInt
abbrev pub TimedRuns : List (List OutEntry) → State → List Handled → List Spell → Type 0
TimedRuns log machine [] [] = Unit {0}
TimedRuns log machine (h ∷ hs) (spell ∷ spells) = IsTimed log (wait_of machine h) spell.entries × TimedRuns log (after_connection machine h.bodies) hs spells
TimedRuns log machine [] (spell ∷ spells) = ⊥
TimedRuns log machine (h ∷ hs) [] = ⊥

-- A run up to a moment: no Heartbeat comes before its time, and the items of the connection to which the session is bound were made up to the moment of
-- the last sending.
pub record IsTimedRun (before : List Entry) (start : State) (handled : List Handled) (at : ℕ) (book : Book) : Type 0 where
  pub run : IsRunOver before start handled book
  pub timed : TimedRuns book.outbound start handled (spells_behind before run.added)
  pub last : IsSome (state_of book.entries).bound → (front : List Spell) (spell : Spell) → spells_behind before run.added ≡ front ++ spell ∷ []
      → AreEarlier book.outbound 0 book.machine.sent (spell_items book.outbound spell)
  pub up_to : book.machine.sent ≤ at
