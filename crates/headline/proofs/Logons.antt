-- The sessions of a record log on by the connections that they dialled.
use Rattle.std.proofs.Common.{◌≡◌, inl, inr, ℕ, ◌<◌, ◌≤◌, Bool, true, false, List, [], ◌∷◌, ◌++◌, get_or, length, take, unwrap_or, Option, None, Some, refl, sym, ap, subst, ◌∙◌, arith}
use Rattle.std.proofs.lemmas.List.{append-nil, append_cancel_right, length-take-le}
use Rattle.std.proofs.lemmas.List.Elements.{All-contains}
use Rattle.std.proofs.lemmas.Option.{same_Some}
use Rattle.std.specs.List.{All, Contains, flat_map}
use Rattle.std.specs.Prelude.{if◌then◌else◌}
use Rattle.connection_core.specs.Connection.{ConnectionState, IsGiven}
use Rattle.connection_core.specs.Items.{text_of}
use Rattle.connection_core.specs.Outgoing.{item_text}
use Rattle.connection_core.specs.Record.{record_of}
use Rattle.connection_core.specs.declared.records.ConnRecord.{ConnRecord}
use Rattle.engine_config.specs.declared.config.Config.{Config}
use Rattle.engine_end.specs.Records.{IsLeftBy, SessionLeft, left_of}
use Rattle.engine_laws.specs.Account.{IsAccountedFor}
use Rattle.fix_frame.specs.Cut.{Cut, CutPiece}
use Rattle.fix_frame.specs.Frame.{frame_of}
use Rattle.gate_io.specs.Wire.{Link}
use Rattle.headline.proofs.Acts.{bodies_are, handled_at, session_tells}
use Rattle.headline.proofs.Found.{connection_found, session_found}
use Rattle.headline.proofs.Lists.{middle_is, middle_within}
use Rattle.headline.specs.Dialled.{BeginsByLogon, LogsOn, logon_frame}
use Rattle.headline.specs.Ends.{AllEndedWhole}
use Rattle.headline.specs.Headline.{HasSession, IsCutOff, LogsOnByIt, TellsItsActs, first_in, text_in, written_names}
use Rattle.headline.specs.LogonsFirst.{LogonsComeFirst}
use Rattle.headline.specs.Numbering.{AreInOrder}
use Rattle.lease_core.specs.State.{series_of}
use Rattle.lease_core.specs.declared.entry.Entry.{Entry}
use Rattle.lease_core.specs.declared.record.Record.{Record}
use Rattle.library_desk.specs.declared.desk.Stray.{Stray}
use Rattle.message_log.specs.declared.entry.OutEntry.{OutEntry}
use Rattle.resend_plan.specs.Wire.{behind_type, body_of, message, no_entry, times, type_field}
use Rattle.resend_plan.specs.declared.item.WireItem.TheVariants.{New}
use Rattle.headline.specs.runs.Accounted.{AllTookAsAnswered, first_machines, no_entries}
use Rattle.headline.specs.runs.Sides.{Begins}
use Rattle.headline.specs.Needed.{WholeLaws}
use Rattle.run_report.specs.declared.records.RunRecord.{RunRecord}
use Rattle.session_book.specs.Runs.{Handled}
use Rattle.session_book.specs.Spells.{Placed, Spell, items_at, spell_items, spells_behind}
use Rattle.session_book.specs.Told.{IsLogged}
use Rattle.session_core.specs.Ask.{after_ask, after_logon, logon_effects}
use Rattle.session_core.specs.Receive.{Outcome, after_outcome, outcome}
use Rattle.session_core.specs.Runs.{acts_on, after_connection, after_connections, behind, behind_all, connection_acts}
use Rattle.session_core.specs.State.{State}
use Rattle.session_core.specs.declared.acts.Act.TheVariants.{Send}
use Rattle.session_core.specs.declared.acts.Admin.TheVariants.{Logon}
use Rattle.session_core.specs.declared.names.Names.{Names}
use Rattle.switchboard.specs.Board.{Board, book_at, connection_at, session_at}
use Rattle.switchboard.specs.Brought.{good_bodies}
use Rattle.switchboard.specs.Ready.{IsReady}
use Rattle.engine_laws.specs.texts.Answered.{DialledAreSo, answers_logon}
use Rattle.engine_laws.specs.texts.Taken.{IsCutShort}

-- a session that dials goes on dialling
either_dials : (b : Bool) (x y : State) (dials : Option ℕ) → x.dials ≡ dials → y.dials ≡ dials → (if b then x else y).dials ≡ dials
either_dials true x y dials first second = first
either_dials false x y dials first second = second

outcome_dials : (state : State) (o : Outcome) (moment : ℕ) → (after_outcome state o moment).dials ≡ state.dials
outcome_dials state o moment = either_dials o.heard _ state state.dials refl refl

bodies_dial : (state : State) (bodies : List (List ℕ)) → (behind_all state bodies).dials ≡ state.dials
bodies_dial state [] = refl
bodies_dial state (body ∷ bodies) = bodies_dial (behind state body) bodies ∙ outcome_dials state (outcome state body) 0

logon_dials : (state : State) (moment : ℕ) (o : Option ℕ) → (after_logon state moment o).dials ≡ state.dials
logon_dials state moment None = refl
logon_dials state moment (Some heart) = refl

connections_dial : (state : State) (past : List (List (List ℕ))) → (after_connections state past).dials ≡ state.dials
connections_dial state [] = refl
connections_dial state (bodies ∷ past) = connections_dial (after_connection state bodies) past ∙ bodies_dial (after_ask state 0) bodies ∙ logon_dials state 0 state.dials

acts_begin : (machine : State) (heart : ℕ) (bodies : List (List ℕ)) → machine.dials ≡ Some heart → (past : List (List (List ℕ))) → Begins (Send (Logon heart false) ∷ []) (connection_acts (after_connections machine past) bodies)
acts_begin machine heart bodies dials past =
    let state = after_connections machine past in
    let rest = acts_on (after_ask state 0) bodies in
    record { rest = rest; is = ap (λ (o : Option ℕ). (logon_effects o).acts ++ rest) (sym (connections_dial machine past ∙ dials)) }

-- the pieces that were handed out of a connection are told by what came of it and what is held
given_once : (c : ConnectionState) (pieces others : List CutPiece) → IsGiven c pieces → IsGiven c others → pieces ≡ others
given_once c pieces others one two = append_cancel_right pieces others _ (ap (λ (x : Cut). x.pieces) (sym one.so_far.so_far ∙ two.so_far.so_far))

-- the first item of a spell that begins with a Logon is that Logon's, and its frame is that of the Logon
first_items : (log : List (List OutEntry)) (heart : ℕ) (spell : Spell) (is : BeginsByLogon log heart spell) → take 1 (spell_items log spell) ≡ New (series_of is.before) is.number ∷ []
first_items log heart spell is = ap (λ (ps : List Placed). take 1 (flat_map (items_at log) ps)) is.entries

logon_body : (us_and_them : Names) (log : List (List OutEntry)) (heart series number : ℕ) (is : IsLogged log series number (Logon heart false))
    → item_text (written_names us_and_them) log (New series number) ≡ logon_frame us_and_them heart number is.entry.at
unfolding body_of
logon_body us_and_them log heart series number is =
    let names = written_names us_and_them in
    ap (λ (o : Option OutEntry). let e = unwrap_or o no_entry in frame_of (message names (type_field e.body) number (times e.at None) (behind_type e.body))) is.found
    ∙ ap (λ (body : List ℕ). frame_of (message names (type_field body) number (times is.entry.at None) (behind_type body))) is.body

first_frame : (us_and_them : Names) (log : List (List OutEntry)) (heart : ℕ) (spell : Spell) (is : BeginsByLogon log heart spell)
    → text_of (written_names us_and_them) log (take 1 (spell_items log spell)) ≡ logon_frame us_and_them heart is.number is.logged.entry.at
first_frame us_and_them log heart spell is =
    let names = written_names us_and_them in
    ap (text_of names log) (first_items log heart spell is) ∙ append-nil (item_text names log (New (series_of is.before) is.number)) ∙ logon_body us_and_them log heart (series_of is.before) is.number is.logged

-- the machines of sessions are named and dial as they are configured
pub record AreMachinesOf (config : Config) (board : Board) : Type 0 where
  pub names : (s : ℕ) → s < length board.sessions → (book_at board s).machine.names ≡ (first_machines config s).names
  pub dials : (s : ℕ) → s < length board.sessions → (book_at board s).machine.dials ≡ (first_machines config s).dials

module _ (config : Config) (board : Board) (strays : List Stray) (accepted dialled : ℕ) (added : List Record) (left : RunRecord) (is_left : IsLeftBy board strays accepted added left.engine) (order : AreInOrder accepted dialled board.connections)
    (laws : WholeLaws) (at : ℕ) (account : IsAccountedFor no_entries (first_machines config) at board) (ended : AllEndedWhole board)
    (ready : IsReady no_entries board) (links : ℕ → Link) (so : DialledAreSo board) (answers : AllTookAsAnswered no_entries board links) (machines : AreMachinesOf config board) (firsts : LogonsComeFirst board) where
  abbrev handled_by : ℕ → List Handled
  handled_by s = handled_at config board strays accepted dialled added left is_left order laws at account ended s

  -- the writing was cut short where the wire counted so, or as much is written
  off : (k number : ℕ) → (connection_at board k).number ≡ number → (connection_at board k).out.outgoing.written ≤ length (connection_at board k).out.outgoing.text
      → IsCutShort (links (connection_at board k).number) (connection_at board k) → IsCutOff (links number) (record_of (connection_at board k))
  off k number same out_within short = elim (subst (λ n. IsCutShort (links n) (connection_at board k)) same short) [
    | inl faults ↦ inl faults
    | inr rest ↦ elim rest [
      | inl blocks ↦ inr (inl blocks)
      | inr much ↦ inr (inr (let count = length-take-le (connection_at board k).out.outgoing.written (connection_at board k).out.outgoing.text out_within in let most = much.0 in omega arith))
    ]
  ]

  logs_on : (s : ℕ) → s < length board.sessions → (i : ℕ) (d : Handled) → i < length (handled_by s) → LogsOnByIt config links left s (left_of (session_at board s)) (get_or (handled_by s) i d)
  logs_on s small i d within = λ has behind.
      let h = get_or (handled_by s) i d in
      let one = connection_found board strays accepted dialled added left is_left order has.place has.c has.at in
      let k = one.k in
      let c = connection_at board k in
      let names : c.session ≡ Some s = sym (ap (λ (x : ConnRecord). x.session) one.is) ∙ has.names in
      let number : c.number ≡ h.connection = one.number ∙ has.number_is in
      let of = so k one.within (one.dialled_one behind) in
      let same : of.session ≡ s = same_Some of.session s (sym of.names ∙ names) in
      let machine = first_machines config s in
      let own : (book_at board s).machine.dials ≡ Some of.heart = ap (λ n. (book_at board n).machine.dials) (sym same) ∙ of.dials in
      let dials : machine.dials ≡ Some of.heart = sym (machines.dials s small) ∙ own in
      let bodies : h.bodies ≡ good_bodies (account.brought k).pieces =
      bodies_are (handled_by s) _ c.number _ (account.connections s).once (laws.named no_entries (first_machines config) at board account k s one.within names) i d within (sym number) in
      let pieces : (account.brought k).pieces ≡ of.pieces ++ [] = given_once c (account.brought k).pieces (of.pieces ++ []) (account.given.given k one.within) of.given in
      let handled : good_bodies of.pieces ≡ h.bodies = sym (bodies ∙ ap good_bodies (pieces ∙ append-nil of.pieces)) in
      let answered : c.answered ≡ answers_logon machine.names of.heart h.bodies =
      of.answered ∙ ap (λ n. answers_logon (book_at board n).machine.names of.heart (good_bodies of.pieces)) same ∙ ap (λ (n : Names). answers_logon n of.heart (good_bodies of.pieces)) (machines.names s small)
      ∙ ap (answers_logon machine.names of.heart) handled in
      let told = ready.texts s k one.within names in
      let took = answers s k one.within told in
      let session = left_of (session_at board s) in
      let there : Contains (spells_behind [] told.added) told.spell =
      subst (λ (all : List Spell). Contains all told.spell) (sym told.spells) (length told.past, middle_within told.past told.later told.spell, middle_is told.past told.later told.spell told.spell) in
      let listed = subst (λ (es : List Entry). Contains (spells_behind [] es) told.spell) (sym told.entries_are) there in
      let first : BeginsByLogon session.outbound of.heart told.spell =
      All-contains (BeginsByLogon session.outbound of.heart) (spells_behind [] session.entries) told.spell ((firsts s small).logons of.heart own) listed in
      let frame : first_in session told.spell ≡ logon_frame machine.names of.heart first.number first.logged.entry.at =
      first_frame session.names session.outbound of.heart told.spell first
      ∙ ap (λ (n : Names). logon_frame n of.heart first.number first.logged.entry.at) (machines.names s small) in
      subst (λ (x : ConnRecord). LogsOn machine (spells_behind [] session.entries) session.outbound (text_in session) (first_in session) h x (IsCutOff (links h.connection) x)) (sym one.is) (record {
        heart = of.heart;
        dials = dials;
        logon = acts_begin machine of.heart h.bodies dials;
        spell = told.spell;
        told = listed;
        connection = told.connection ∙ number;
        logon_first = first;
        first_is_logon = frame;
        begins = λ unanswered. (let begun = took.begins (answered ∙ unanswered) in record { rest = begun.0; is = sym begun.1 });
        alone = λ unanswered over. elim (took.first (answered ∙ unanswered) over) [
          | inl is ↦ inl is
          | inr short ↦ inr (off k h.connection number told.items.within short)
        ];
        whole = λ is_so over. elim (took.whole (answered ∙ is_so) over) [
          | inl is ↦ inl is
          | inr short ↦ inr (off k h.connection number told.items.within short)
        ];
      })

  pub acts_and_logons : (s : ℕ) (session : SessionLeft) → HasSession left s session → (acts : TellsItsActs config left s session) × All (LogsOnByIt config links left s session) acts.handled
  acts_and_logons s session has =
      let one = session_found board strays accepted added left is_left s session has in
      subst (λ (x : SessionLeft). (acts : TellsItsActs config left s x) × All (LogsOnByIt config links left s x) acts.handled) (sym one.is)
      (session_tells config board strays accepted dialled added left is_left order laws at account ended s one.within, logs_on s one.within)
