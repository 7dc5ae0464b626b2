-- Dialled connections that took more than their Logon, or whose text begins with another item, are refuted.
use Rattle.std.proofs.Common.{◌≡◌, ℕ, ◌<◌, Bool, true, false, List, [], ◌∷◌, ◌++◌, get_or, length, None, sym, ap, subst, ◌∙◌, arith}
use Rattle.std.proofs.lemmas.List.{get_or-map, length-append, length-map}
use Rattle.std.proofs.lemmas.Option.{same_Some, slice_get_within}
use Rattle.std.specs.List.{Contains, slice_get}
use Rattle.connection_core.specs.declared.records.ConnRecord.{ConnRecord}
use Rattle.engine_config.specs.declared.config.Config.{Config}
use Rattle.engine_end.specs.Records.{SessionLeft}
use Rattle.fix_frame.specs.Cut.{CutPiece, cut}
use Rattle.fix_frame.specs.declared.layout.TheConstants.{LONGEST_FRAME}
use Rattle.gate_io.specs.Wire.{Link}
use Rattle.headline.proofs.Refuted.{no_pieces, only_one}
use Rattle.headline.specs.Dialled.{LogsOn}
use Rattle.headline.specs.Headline.{AreHandedOut, Headline, IsCutOff, first_in, number_at, text_in}
use Rattle.headline.specs.Wrong.{BeatsBeforeItsLogon, HasOneDialled, IsRefuted, SendsBeforeItsLogon, TakesMoreThanItsLogon}
use Rattle.lease_core.specs.State.{series_of}
use Rattle.lease_core.specs.declared.entry.Entry.{Entry}
use Rattle.lease_core.specs.declared.entry.Entry.TheVariants.{Admin}
use Rattle.message_log.specs.declared.entry.OutEntry.{OutEntry}
use Rattle.headline.specs.runs.Accounted.{first_machines}
use Rattle.run_report.specs.declared.records.RunRecord.{RunRecord}
use Rattle.session_book.specs.Runs.{Handled, handled_of}
use Rattle.session_book.specs.Spells.{Placed, Spell, placed, spells_behind}
use Rattle.session_book.specs.Told.{IsLogged}
use Rattle.session_core.specs.Admin.{heartbeat_text, logon_text}
use Rattle.session_core.specs.declared.acts.Admin.TheVariants.{Heartbeat, Logon}
use Rattle.switchboard.specs.Brought.{good_bodies}
use Rattle.engine_laws.specs.texts.Answered.{answers_logon}

-- what begins with more than all is none
begins_past : (first more rest : List ℕ) (byte : ℕ) → (first ++ byte ∷ more) ++ rest ≡ first → ⊥
begins_past first more rest byte is =
    let long = length-append (first ++ byte ∷ more) rest in
    let front = length-append first (byte ∷ more) in
    let same = ap length is in
    omega arith

handled_nothing : (c : ConnRecord) (pieces : List CutPiece) → c.taken ≡ [] → AreHandedOut c pieces → pieces ≡ []
handled_nothing c pieces none out = no_pieces pieces out.begin.rest (out.begin.is ∙ ap (λ (bytes : List ℕ). (cut LONGEST_FRAME bytes).pieces) none)

-- what the headline says of the one connection that a session dialled
record SaysOfDialled (config : Config) (links : ℕ → Link) (session : SessionLeft) (spell : Spell) (c : ConnRecord) : Type 0 where
  h : Handled
  logs : LogsOn (first_machines config 0) (spells_behind [] session.entries) session.outbound (text_in session) (first_in session) h c (IsCutOff (links h.connection) c)
  spell_is : logs.spell ≡ spell
  none : c.taken ≡ [] → h.bodies ≡ []

dialled_says : (config : Config) (links : ℕ → Link) (left : RunRecord) (session : SessionLeft) (spell : Spell) (one : HasOneDialled left session spell) → Headline config links left → SaysOfDialled config links session spell one.c
dialled_says config links left session spell one h =
    let acts = h.acts 0 session one.has in
    let d = handled_of 0 [] in
    let listed = acts.all 0 one.c one.at one.names in
    let numbers = length-map acts.handled (λ (x : Handled). x.connection) in
    let i = listed.0 in
    let within : i < length acts.handled = (let small = listed.1 in omega arith) in
    let handled = get_or acts.handled i d in
    let number : handled.connection ≡ number_at left 0 = sym (get_or-map (λ (x : Handled). x.connection) acts.handled i d (number_at left 0) within) ∙ listed.2 in
    let of = acts.each i d within in
    let place : of.connection.place ≡ 0 =
    h.numbered.apart of.connection.place 0 (slice_get_within left.engine.connections of.connection.place of.connection.c of.connection.at) (slice_get_within left.engine.connections 0 one.c one.at) (of.connection.number_is ∙ number) in
    let same : of.connection.c ≡ one.c = same_Some of.connection.c one.c (sym of.connection.at ∙ ap (slice_get left.engine.connections) place ∙ one.at) in
    let logs = h.logons 0 session one.has i d within
    (record { place = 0; c = one.c; at = one.at; number_is = sym number; names = one.names }) (let none_accepted = one.accepted in omega arith) in
    record {
      h = handled;
      logs = logs;
      spell_is = only_one spell logs.spell (subst (λ (all : List Spell). Contains all logs.spell) one.spells logs.told);
      none = λ none. of.good ∙ ap good_bodies (handled_nothing of.connection.c of.pieces (ap (λ (c : ConnRecord). c.taken) same ∙ none) of.handed_out);
    }

pub more_than_logon : IsRefuted TakesMoreThanItsLogon
more_than_logon config links left wrong h =
    let says = dialled_says config links left wrong.session wrong.spell wrong.dialled h in
    let logs = says.logs in
    let begun = logs.begins (ap (answers_logon (first_machines config 0).names logs.heart) (says.none wrong.nothing_came)) in
    begins_past (first_in wrong.session wrong.spell) wrong.more begun.rest wrong.byte
    (ap (λ (bytes : List ℕ). bytes ++ begun.rest) (sym wrong.took) ∙ begun.is ∙ ap (λ (x : Spell). first_in wrong.session x) says.spell_is)

-- the first entry is that of a session message, and has this number and these entries before it
abbrev is_admin : Entry → Bool
is_admin (Admin number) = true
is_admin _ = false

abbrev begins_by_admin : List Placed → Bool
begins_by_admin [] = false
begins_by_admin (p ∷ ps) = is_admin p.entry

abbrev number_of : Entry → ℕ
number_of (Admin number) = number
number_of _ = 0

abbrev first_series : List Placed → ℕ
first_series [] = 0
first_series (p ∷ ps) = series_of p.before

abbrev first_number : List Placed → ℕ
first_number [] = 0
first_number (p ∷ ps) = number_of p.entry

pub sends_before : IsRefuted SendsBeforeItsLogon
sends_before config links left wrong h =
    let says = dialled_says config links left wrong.session wrong.spell wrong.dialled h in
    let first = says.logs.logon_first in
    let clash : false ≡ true = ap begins_by_admin (sym wrong.first ∙ (sym (ap (λ (x : Spell). x.entries) says.spell_is) ∙ first.entries)) in
    absurd (cc)

-- a Logon is no Heartbeat
other_text : (heart : ℕ) → heartbeat_text None ≡ logon_text heart false → ⊥
unfolding logon_text heartbeat_text
other_text heart same =
    let kind : ◌≡◌ {A = ℕ} 48 65 = ap (λ (bytes : List ℕ). get_or bytes 3 0) same in
    omega (arith, kind)

one_kind : (log : List (List OutEntry)) (series number heart : ℕ) → IsLogged log series number (Heartbeat None) → IsLogged log series number (Logon heart false) → ⊥
one_kind log series number heart one two = other_text heart (sym one.body ∙ ap (λ (e : OutEntry). e.body) (same_Some one.entry two.entry (sym one.found ∙ two.found)) ∙ two.body)

pub beats_before : IsRefuted BeatsBeforeItsLogon
beats_before config links left wrong h =
    let says = dialled_says config links left wrong.session wrong.spell wrong.dialled h in
    let first = says.logs.logon_first in
    let entries : placed first.before (Admin first.number) ∷ first.later ≡ placed wrong.before (Admin wrong.number) ∷ wrong.later =
    sym first.entries ∙ ap (λ (x : Spell). x.entries) says.spell_is ∙ wrong.first in
    let logged = subst (λ n. IsLogged wrong.session.outbound n first.number (Logon says.logs.heart false)) (ap first_series entries) first.logged in
    let there = subst (λ n. IsLogged wrong.session.outbound (series_of wrong.before) n (Logon says.logs.heart false)) (ap first_number entries) logged in
    one_kind wrong.session.outbound (series_of wrong.before) wrong.number says.logs.heart wrong.beat there
