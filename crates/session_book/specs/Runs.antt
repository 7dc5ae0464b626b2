-- A session's run over its connections: what was handled of each, and what the journal tells of that.
use Rattle.std.specs.Prelude.{◌≡◌, ℕ, Bool, true, false, IsSome, List, [], ◌∷◌, ◌++◌, map, Option, None, Some}
use Rattle.std.specs.List.{All}
use Rattle.lease_core.specs.State.{state_of, with_last}
use Rattle.lease_core.specs.declared.entry.Entry.{Entry}
use Rattle.lease_core.specs.declared.entry.Entry.TheVariants.{Admin, Arrive, Plan, Reset}
use Rattle.message_log.specs.declared.entry.OutEntry.{OutEntry}
use Rattle.session_core.specs.Ask.{after_ask}
use Rattle.session_core.specs.Runs.{SameButMoments, after_connection, after_connections, behind_all, connection_acts}
use Rattle.session_core.specs.State.{State}
use Rattle.session_core.specs.declared.acts.Act.{Act}
use Rattle.session_book.specs.Book.{Book}
use Rattle.session_book.specs.Spells.{Placed, Spell, act_entries, placed_from, spells_behind}
use Rattle.session_book.specs.Told.{TellsAct}

-- a connection to which the session was bound, and the messages that it handled of it, in order
pub record Handled : Type 0 where
  pub connection : ℕ
  pub bodies : List (List ℕ)

abbrev pub handled_of : ℕ → List (List ℕ) → Handled
handled_of c bodies = record { connection = c; bodies = bodies }

-- one message more was handled of the last connection
abbrev pub with_body : List ℕ → List Handled → List Handled
with_body body handled = with_last (λ h. record h { bodies = h.bodies ++ body ∷ [] }) handled

abbrev pub bodies_of : List Handled → List (List (List ℕ))
bodies_of handled = map (λ h. h.bodies) handled

-- one entry for each act, in order
abbrev pub TellEach : List (List ℕ) → List (List OutEntry) → List Act → List Placed → Type 0
TellEach inbound log [] [] = Unit {0}
TellEach inbound log (act ∷ acts) (p ∷ ps) = TellsAct inbound log p.before act p.entry × TellEach inbound log acts ps
TellEach inbound log [] (p ∷ ps) = ⊥
TellEach inbound log (act ∷ acts) [] = ⊥

-- The entries of each connection's spell tell the acts of what was handled of it: those of the session machine as it stood when the connection before
-- had ended.
abbrev pub TellRuns : List (List ℕ) → List (List OutEntry) → State → List Handled → List Spell → Type 0
TellRuns inbound log machine [] [] = Unit {0}
TellRuns inbound log machine (h ∷ hs) (spell ∷ spells) =
    (spell.connection ≡ h.connection) × TellEach inbound log (connection_acts machine h.bodies) (act_entries log spell) × TellRuns inbound log (after_connection machine h.bodies) hs spells
TellRuns inbound log machine [] (spell ∷ spells) = ⊥
TellRuns inbound log machine (h ∷ hs) [] = ⊥

-- the session is bound to the last of the connections, and its machine stands behind what was handled of that
pub record IsWithin (start : State) (handled : List Handled) (c : ℕ) (machine : State) : Type 0 where
  pub past : List Handled
  pub bodies : List (List ℕ)
  pub are : handled ≡ past ++ handled_of c bodies ∷ []
  pub same : SameButMoments machine (behind_all (after_ask (after_connections start (bodies_of past)) 0) bodies)

-- where the session machine stands, but for moments
abbrev pub StandsBehind : Option ℕ → State → List Handled → State → Type 0
StandsBehind None start handled machine = SameButMoments machine (after_connections start (bodies_of handled))
StandsBehind (Some c) start handled machine = IsWithin start handled c machine

-- what the session machine asks for, and not a lease
abbrev pub is_of_machine : Entry → Bool
is_of_machine (Arrive pos) = true
is_of_machine (Admin number) = true
is_of_machine (Plan begin last at) = true
is_of_machine (Reset series) = true
is_of_machine _ = false

-- it is made while the session is bound
abbrev pub IsInside : Placed → Type 0
IsInside p = is_of_machine p.entry ≡ true → IsSome p.before.bound

-- These are the connections to which the session was bound behind the entries before, in order, with what was handled of each: the journal tells of
-- their acts and of no others, and what the session machine asks for lies in one of their spells.
pub record IsRunOver (before : List Entry) (start : State) (handled : List Handled) (book : Book) : Type 0 where
  pub added : List Entry
  pub entries_are : book.entries ≡ before ++ added
  pub told : TellRuns book.inbound book.outbound start handled (spells_behind before added)
  pub inside : All IsInside (placed_from (state_of before) added)
  pub machine : StandsBehind (state_of book.entries).bound start handled book.machine

-- The same where memory was wanting: of the last connection a beginning of the acts is told, and of those before it all.
pub record IsRunBegun (before : List Entry) (start : State) (handled : List Handled) (book : Book) : Type 0 where
  pub added : List Entry
  pub entries_are : book.entries ≡ before ++ added
  pub past : List Handled
  pub last : Handled
  pub handled_are : handled ≡ past ++ last ∷ []
  pub front : List Spell
  pub spell : Spell
  pub spells : spells_behind before added ≡ front ++ spell ∷ []
  pub told : TellRuns book.inbound book.outbound start past front
  pub connection : spell.connection ≡ last.connection
  pub done : List Act
  pub left : List Act
  pub acts_are : connection_acts (after_connections start (bodies_of past)) last.bodies ≡ done ++ left
  pub begun : TellEach book.inbound book.outbound done (act_entries book.outbound spell)
