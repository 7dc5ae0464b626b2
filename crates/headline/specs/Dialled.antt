-- Dialled connections: each begins with its session's own Logon, in acts and in text, and where that wasn't answered it took a beginning of that Logon's text.
use Rattle.std.specs.Prelude.{◌≡◌, ◌≢◌, ◌⊎◌, ℕ, false, true, List, [], ◌∷◌, None, Some}
use Rattle.std.specs.List.{Contains}
use Rattle.connection_core.specs.declared.records.ConnRecord.{ConnRecord}
use Rattle.fix_frame.specs.Frame.{frame_of}
use Rattle.lease_core.specs.State.{State as Totals, series_of}
use Rattle.lease_core.specs.declared.entry.Entry.TheVariants.{Admin}
use Rattle.message_log.specs.declared.entry.OutEntry.{OutEntry}
use Rattle.resend_plan.specs.Wire.{behind_type, message, times, type_field}
use Rattle.headline.specs.runs.Sides.{Begins}
use Rattle.session_book.specs.Runs.{Handled}
use Rattle.session_book.specs.Spells.{Placed, Spell, placed}
use Rattle.session_book.specs.Told.{IsLogged}
use Rattle.session_core.specs.Admin.{logon_text}
use Rattle.session_core.specs.Runs.{after_connections, connection_acts}
use Rattle.session_core.specs.State.{State}
use Rattle.session_core.specs.declared.acts.Act.TheVariants.{Send}
use Rattle.session_core.specs.declared.acts.Admin.TheVariants.{Logon}
use Rattle.session_core.specs.declared.names.Names.{Names}
use Rattle.engine_laws.specs.texts.Answered.{answers_logon}

-- The spell of a connection begins with a Logon with this HeartBtInt: its first entry, which stands directly behind the Bind, is the Admin of a number, and there
-- the outbound log has that Logon.
pub record BeginsByLogon (log : List (List OutEntry)) (heart : ℕ) (spell : Spell) : Type 0 where
  pub before : Totals
  pub number : ℕ
  pub later : List Placed
  pub entries : spell.entries ≡ placed before (Admin number) ∷ later
  pub logged : IsLogged log (series_of before) number (Logon heart false)

-- the frame of a Logon of a session with these names, with this HeartBtInt, that got this number at this moment
abbrev pub logon_frame : Names → ℕ → ℕ → ℕ → List ℕ
logon_frame names heart number at =
    let body = logon_text heart false in
    frame_of (message (record { us = names.us; them = names.them }) (type_field body) number (times at None) (behind_type body))

-- A session with this machine at first dialled the connection, of which it handled this. It is one that dials, with this HeartBtInt, and whatever connections it
-- had before, its acts on this one begin with the Logon. The journal tells a spell of the connection, and that begins with this Logon: nothing that a library or
-- the clock sent comes before. So the first item of the spell is the Logon's, and its frame is that of the Logon, with the number and the moment that the journal
-- and the outbound log of the session have. The first message that was handled tells whether the Logon was answered. Where it wasn't, what was written begins
-- that frame, and is that frame once the connection has ended; and where it was, an ended connection took the whole text; unless the writing was cut off.
pub record LogsOn (machine : State) (spells : List Spell) (log : List (List OutEntry)) (text first : Spell → List ℕ) (h : Handled) (c : ConnRecord) (IsCut : Type 0) : Type 0 where
  pub heart : ℕ
  pub dials : machine.dials ≡ Some heart
  pub logon : (past : List (List (List ℕ))) → Begins (Send (Logon heart false) ∷ []) (connection_acts (after_connections machine past) h.bodies)
  pub spell : Spell
  pub told : Contains spells spell
  pub connection : spell.connection ≡ h.connection
  pub logon_first : BeginsByLogon log heart spell
  pub first_is_logon : first spell ≡ logon_frame machine.names heart logon_first.number logon_first.logged.entry.at
  pub begins : answers_logon machine.names heart h.bodies ≡ false → Begins c.written (first spell)
  pub alone : answers_logon machine.names heart h.bodies ≡ false → c.cause ≢ None → (c.written ≡ first spell) ⊎ IsCut
  pub whole : answers_logon machine.names heart h.bodies ≡ true → c.cause ≢ None → (c.written ≡ text spell) ⊎ IsCut
