-- Whatever happens in a run, the journal of a session that dials tells each of its connections from the Logon on.
use Rattle.std.proofs.Common.{◌≡◌, inl, inr, ℕ, ◌<◌, false, List, [], ◌∷◌, ◌++◌, get_or, length, set, is_some, Option, None, Some, sym, ap, subst, ◌∙◌}
use Rattle.std.proofs.lemmas.Bool.{cases_eq as same_or_other}
use Rattle.std.proofs.lemmas.List.{get_or-set_other, length-set}
use Rattle.std.proofs.lemmas.List.Elements.{All-nil, All-weaker}
use Rattle.std.proofs.lemmas.Option.{none-some}
use Rattle.std.specs.List.{All}
use Rattle.std.specs.Prelude.{IsSome}
use Rattle.connection_core.specs.Connection.{ConnectionState}
use Rattle.connection_core.specs.Outgoing.{no_outgoing}
use Rattle.engine_config.specs.declared.config.Config.{Config}
use Rattle.engine_laws.specs.walks.Walks as walk
use Rattle.engine_laws.specs.walks.Walks.{TurnStep}
use Rattle.engine_loop.specs.Engines.{until_of}
use Rattle.engine_loop.specs.Turns.{AcceptsNext, AtWire, DialsSession, MakesTurn}
use Rattle.engine_loop.specs.declared.engine.Engine.{Engine}
use Rattle.engine_loop.specs.declared.records.Turn.{Turn}
use Rattle.gate_io.specs.declared.dials.Dialled.{Dialled}
use Rattle.gate_io.specs.declared.dials.Dialled.TheVariants as dial
use Rattle.gate_io.specs.declared.wires.Accepted.{Accepted}
use Rattle.gate_io.specs.declared.wires.Accepted.TheVariants as accept
use Rattle.headline.proofs.FirstEntries.{LogonsFirst, dial_begins, end_kept, lapse_kept, message_kept, request_kept, shown_kept, tick_kept, timeout_kept}
use Rattle.headline.proofs.Carrying.{each_step}
use Rattle.headline.proofs.Walk.{IsKept, gathered, gathered_in_turn, quiet_step}
use Rattle.headline.proofs.Walking.{each_in_turn, walked}
use Rattle.headline.specs.Dialled.{BeginsByLogon}
use Rattle.headline.specs.LogonsFirst.{LogonsComeFirst, LogsOnFirst}
use Rattle.headline.specs.Needed.{WalkLaws}
use Rattle.lease_core.specs.Laws.{EntriesDecide, EntriesDecideOver}
use Rattle.lease_core.specs.State.{State as Totals, series_of, state_of}
use Rattle.lease_core.specs.declared.entry.Entry.{Entry}
use Rattle.lease_core.specs.declared.entry.Entry.TheVariants.{Admin, Bind}
use Rattle.lease_core.specs.declared.event.Event.TheVariants.{Binds}
use Rattle.lease_desk.specs.Desk.{Gathers, InTurn}
use Rattle.lease_desk.specs.declared.desk.LeaseDesk.{LeaseDesk}
use Rattle.library_desk.specs.Happening.{RunsFor}
use Rattle.library_desk.specs.Serving.{Serves}
use Rattle.library_desk.specs.declared.desk.LibraryDesk.{LibraryDesk}
use Rattle.library_desk.specs.declared.serving.LibTurn.{LibTurn}
use Rattle.library_desk.specs.declared.shared.Shared.{Shared}
use Rattle.message_log.specs.Growth.{GoesOn}
use Rattle.message_log.specs.Series.{entry_at}
use Rattle.message_log.specs.declared.entry.OutEntry.{OutEntry}
use Rattle.engine_loop.specs.Starts.{StartsEngineOf}
use Rattle.script_run.specs.Runs.{CallsBetween, Carries, CarriesAt, CarriesOut, Meets}
use Rattle.script_run.specs.declared.run.Run.{Run}
use Rattle.script_text.specs.declared.steps.LibStep.{LibStep}
use Rattle.script_text.specs.declared.steps.Step.{Step}
use Rattle.serve_run.specs.Drives.{Drive, DrivesFor, DrivesOn, DrivesOnce}
use Rattle.session_book.specs.Acts.{after_dial, after_end, after_lapse, after_message, after_request, after_ticking}
use Rattle.session_book.specs.Book.{Book, Desk, with_event, with_outbox}
use Rattle.session_book.specs.Kept.{IsBook, Kept}
use Rattle.session_book.specs.Spells.{Spell, spells_behind}
use Rattle.session_book.specs.Told.{CarriesOut as CarriesOutActs, IsLogged, TellActs}
use Rattle.session_book.specs.Words.{after_timeout, after_word}
use Rattle.session_core.specs.Ask.{ask, logon_effects}
use Rattle.session_core.specs.declared.acts.Act.TheVariants.{Send}
use Rattle.session_core.specs.declared.acts.Admin.{Admin as Message}
use Rattle.session_core.specs.declared.acts.Admin.TheVariants.{Logon}
use Rattle.session_core.specs.declared.causes.Cause.{Cause}
use Rattle.switchboard.specs.Board.{Board, book_at, connection_at, desk_at, no_session, session_at}
use Rattle.switchboard.specs.Going.{GoesOnTo, is_coming}
use Rattle.switchboard.specs.Happenings.{BindsTo, BookChanges, ConnectionChanges, EndsBound, Happening, Happens, SessionGoesOn, StaysLawful, accepts, answers, binds, binds_and_ends, dials, ends_bound, ends_unbound, gives, lapses, prepares, receives, requests, reserves, shows, takes, ticks, times_out, writes}
use Rattle.wire_desk.specs.Dials.{DialsAs}
use Rattle.wire_desk.specs.Steps.{AcceptsAs}
use Rattle.wire_desk.specs.declared.dialling.Dialler.{Dialler}

-- what the laws say of logs, journals and happenings
pub record FirstLaws : Type 0 where
  pub walks : WalkLaws
  pub entry : (earlier later : List (List OutEntry)) (series number : ℕ) → GoesOn earlier later → IsSome (entry_at earlier series number) → entry_at later series number ≡ entry_at earlier series number
  pub decide : EntriesDecide
  pub over : EntriesDecideOver
  pub dial : (c at : ℕ) (desk : Desk) → IsBook desk.book → CarriesOutActs (ask desk.book.machine).acts (with_outbox (with_event (Binds c) desk.book) desk.outgoing) (after_dial at c desk)
  pub goes : (happening : Happening) (old new : Board) → Happens happening old new → GoesOnTo old new
  pub serving : (library at until : ℕ) (old new : LibraryDesk) (turn : LibTurn) → Serves library at until old new turn → RunsFor at old.desk.board new.desk.board

-- the entry of an act alone
record IsOneLogon (log : List (List OutEntry)) (series heart : ℕ) (added : List Entry) : Type 0 where
  number : ℕ
  is : added ≡ Admin number ∷ []
  logged : IsLogged log series number (Logon heart false)

one_logon : (inbound : List (List ℕ)) (log : List (List OutEntry)) (s : Totals) (heart : ℕ) (added : List Entry) → TellActs inbound log s (Send (Logon heart false) ∷ []) added → IsOneLogon log (series_of s) heart added
one_logon inbound log s heart [] told = absurd told
one_logon inbound log s heart (e ∷ []) told = record { number = told.0.0; is = ap (λ (x : Entry). x ∷ []) told.0.1.0; logged = told.0.1.1 }
one_logon inbound log s heart (e ∷ (next ∷ later)) told = absurd told.1

-- happenings keep it
abbrev GoesOnFirst : Board → Board → Type 0
GoesOnFirst old new = LogonsComeFirst old → LogonsComeFirst new

module _ (g : FirstLaws) where
  -- a Logon stays in a log that goes on
  logged_later : (earlier later : List (List OutEntry)) (series number : ℕ) (message : Message) → GoesOn earlier later → IsLogged earlier series number message → IsLogged later series number message
  logged_later earlier later series number message goes is = record {
    entry = is.entry;
    found = g.entry earlier later series number goes (ap (λ (o : Option OutEntry). is_some o) is.found) ∙ is.found;
    body = is.body;
    session = is.session;
  }

  begins_later : (earlier later : List (List OutEntry)) (heart : ℕ) → GoesOn earlier later → (spell : Spell) → BeginsByLogon earlier heart spell → BeginsByLogon later heart spell
  begins_later earlier later heart goes spell is = record {
    before = is.before;
    number = is.number;
    later = is.later;
    entries = is.entries;
    logged = logged_later earlier later (series_of is.before) is.number (Logon heart false) goes is.logged;
  }

  -- a session goes on, and no connection of it begins but by a Logon
  book_goes : (old new : Book) → StaysLawful old new → GoesOn old.outbound new.outbound
      → ((heart : ℕ) → old.machine.dials ≡ Some heart → LogonsFirst new.outbound heart old.entries → LogonsFirst new.outbound heart new.entries)
      → LogsOnFirst old → LogsOnFirst new
  book_goes old new stays goes keeps was = record {
    lawful = stays.lawful;
    logons = λ heart asks.
        let dialled : old.machine.dials ≡ Some heart = sym stays.same.dials ∙ asks in
        keeps heart dialled (All-weaker (BeginsByLogon old.outbound heart) (BeginsByLogon new.outbound heart) (begins_later old.outbound new.outbound heart goes) (spells_behind [] old.entries) (was.logons heart dialled));
  }

  same_sessions : (old new : Board) → new.sessions ≡ old.sessions → GoesOnFirst old new
  same_sessions old new same was s within =
      subst LogsOnFirst (sym (ap (λ (sessions : List Kept). (get_or sessions s no_session).book) same)) (was s (subst (λ n. s < n) (ap length same) within))

  one_session : (s : ℕ) (old new : Board) → new.sessions ≡ set old.sessions s (session_at new s) → (LogsOnFirst (book_at old s) → LogsOnFirst (book_at new s)) → GoesOnFirst old new
  one_session s old new changes becomes was j within =
      let small : j < length old.sessions = subst (λ n. j < n) (ap length changes ∙ length-set old.sessions s (session_at new s)) within in
      elim (same_or_other j s) [
        | inl same ↦ subst (λ n. LogsOnFirst (book_at new n)) (sym same) (becomes (subst (λ n. LogsOnFirst (book_at old n)) same (was j small)))
        | inr other ↦ (
            let there : book_at new j ≡ book_at old j =
            ap (λ (sessions : List Kept). (get_or sessions j no_session).book) changes ∙ ap (λ (x : Kept). x.book) (get_or-set_other old.sessions s j (session_at new s) no_session other) in
            subst LogsOnFirst (sym there) (was j small))
      ]

  changing : (k : ℕ) (c : ConnectionState) (old new : Board) → ConnectionChanges k c old new → GoesOnFirst old new
  changing k c old new changes = same_sessions old new (ap (λ (b : Board). b.sessions) changes.others)

  -- a session becomes what an event makes of it
  becoming : (s : ℕ) (made : Book) (old new : Board) → GoesOnTo old new → new.sessions ≡ set old.sessions s (session_at new s) → StaysLawful (book_at old s) (book_at new s) → book_at new s ≡ made
      → ((log : List (List OutEntry)) (heart : ℕ) → (book_at old s).machine.dials ≡ Some heart → LogonsFirst log heart (book_at old s).entries → LogonsFirst log heart made.entries) → GoesOnFirst old new
  becoming s made old new goes changes lawful is keeps =
      one_session s old new changes (book_goes (book_at old s) (book_at new s) lawful (goes.books s).outbound
      (λ heart asks all. subst (LogonsFirst (book_at new s).outbound heart) (sym (ap (λ (b : Book). b.entries) is)) (keeps (book_at new s).outbound heart asks all)))

  going : (s : ℕ) (made : Desk) (old new : Board) → GoesOnTo old new → SessionGoesOn s old new → desk_at new s ≡ made
      → ((log : List (List OutEntry)) (heart : ℕ) → LogonsFirst log heart (book_at old s).entries → LogonsFirst log heart made.book.entries) → GoesOnFirst old new
  going s made old new goes on is keeps =
      becoming s made.book old new goes on.others.sessions on.lawful (ap (λ (d : Desk). d.book) is) (λ log heart asks. keeps log heart)

  alone : (s : ℕ) (made : Book) (old new : Board) → GoesOnTo old new → BookChanges s made old new
      → ((log : List (List OutEntry)) (heart : ℕ) → LogonsFirst log heart (book_at old s).entries → LogonsFirst log heart made.entries) → GoesOnFirst old new
  alone s made old new goes changes keeps = becoming s made old new goes (ap (λ (b : Board). b.sessions) changes.others) changes.lawful changes.becomes (λ log heart asks. keeps log heart)

  -- one that accepts doesn't dial
  binding : (s k : ℕ) (body : List ℕ) (at : ℕ) (old new : Board) → BindsTo s k body at old new → GoesOnFirst old new
  binding s k body at old new is =
      one_session s old new is.plugged.sessions (λ was. record {
        lawful = is.lawful.lawful;
        logons = λ heart asks. absurd (none-some heart (sym is.accepts ∙ (sym is.lawful.same.dials ∙ asks)));
      })

  leaving : (s k : ℕ) (cause : Cause) (old new : Board) → GoesOnTo old new → EndsBound s k cause old new → GoesOnFirst old new
  leaving s k cause old new goes is =
      becoming s (after_end (connection_at old k).number (book_at old s)) old new goes is.unplugged.sessions is.lawful is.book (λ log heart asks. end_kept log heart (connection_at old k).number (book_at old s))

  -- one that dials asks by its Logon
  dial_kept : (c at heart : ℕ) (desk : Desk) → IsBook desk.book → desk.book.machine.dials ≡ Some heart → LogonsFirst (after_dial at c desk).book.outbound heart desk.book.entries
      → LogonsFirst (after_dial at c desk).book.outbound heart (after_dial at c desk).book.entries
  dial_kept c at heart desk is_book asks all =
      let made = (after_dial at c desk).book in
      let told = g.dial c at desk is_book in
      let bound = desk.book.entries ++ Bind c ∷ [] in
      let acts : TellActs made.inbound made.outbound (state_of bound) (Send (Logon heart false) ∷ []) told.added =
      subst (λ (o : Option ℕ). TellActs made.inbound made.outbound (state_of bound) (logon_effects o).acts told.added) asks told.told in
      let one = one_logon made.inbound made.outbound (state_of bound) heart told.added acts in
      let entries : made.entries ≡ bound ++ Admin one.number ∷ [] = told.entries_are ∙ ap (λ (es : List Entry). bound ++ es) one.is in
      subst (LogonsFirst made.outbound heart) (sym entries) (dial_begins made.outbound heart g.decide g.over desk.book.entries c one.number one.logged all)

  dial_begun : (s number at : ℕ) (old new : Board) → Happens (dials s number at) old new → GoesOnFirst old new
  dial_begun s number at old new is =
      let desk = with_outbox (book_at old s) no_outgoing in
      let made : book_at new s ≡ (after_dial at number desk).book = ap (λ (d : Desk). d.book) is.desk in
      let goes = g.goes (dials s number at) old new is in
      one_session s old new is.sessions (λ was. book_goes (book_at old s) (book_at new s) is.lawful (goes.books s).outbound
      (λ heart asks all. subst (λ (b : Book). LogonsFirst b.outbound heart b.entries) (sym made)
      (dial_kept number at heart desk was.lawful.is_book asks (subst (λ (b : Book). LogonsFirst b.outbound heart (book_at old s).entries) made all))) was)

  happened : (happening : Happening) (old new : Board) → is_coming happening ≡ false → Happens happening old new → GoesOnFirst old new
  happened (accepts number at) old new quiet is = absurd (cc)
  happened (dials s number at) old new quiet is = absurd (cc)
  happened (takes k bytes) old new quiet is = changing k _ old new is.changes
  happened (gives k) old new quiet is = changing k _ old new is.changes
  happened (binds s k body at) old new quiet is = binding s k body at old new is.binding
  happened (binds_and_ends s k body at cause) old new quiet is = λ was.
      leaving s k cause is.between new (g.goes (ends_bound s k cause) is.between new is.leaves) is.leaves (binding s k body at old is.between is.binding was)
  happened (receives s k body at) old new quiet is =
      going s (after_message at body (desk_at old s)) old new (g.goes (receives s k body at) old new is) is.goes_on is.desk (λ log heart. message_kept log heart at body (desk_at old s))
  happened (answers k) old new quiet is = changing k _ old new is
  happened (ticks s at) old new quiet is = going s (after_ticking at (desk_at old s)) old new (g.goes (ticks s at) old new is) is.goes_on is.desk (λ log heart. tick_kept log heart at (desk_at old s))
  happened (shows s w bodies at until) old new quiet is =
      going s (after_word at until w bodies (desk_at old s)) old new (g.goes (shows s w bodies at until) old new is) is.goes_on is.desk (λ log heart. shown_kept log heart at until w bodies (desk_at old s))
  happened (times_out s w bodies at until) old new quiet is =
      going s (after_timeout at until w bodies (desk_at old s)) old new (g.goes (times_out s w bodies at until) old new is) is.goes_on is.desk (λ log heart. timeout_kept log heart at until w bodies (desk_at old s))
  happened (requests s library nr from) old new quiet is =
      alone s (after_request library nr from (book_at old s)) old new (g.goes (requests s library nr from) old new is) is (λ log heart. request_kept log heart library nr from (book_at old s))
  happened (lapses s) old new quiet is = alone s (after_lapse (book_at old s)) old new (g.goes (lapses s) old new is) is (λ log heart. lapse_kept log heart (book_at old s))
  happened (ends_unbound k cause) old new quiet is = changing k _ old new is.changes
  happened (ends_bound s k cause) old new quiet is = leaving s k cause old new (g.goes (ends_bound s k cause) old new is) is
  happened (prepares s k) old new quiet is = changing k _ old new is.changes
  happened (writes k n) old new quiet is = changing k _ old new is.changes
  happened (reserves s) old new quiet is = going s (desk_at old s) old new (g.goes (reserves s) old new is) is.goes_on is.desk (λ log heart all. all)

  logons_kept : IsKept GoesOnFirst
  logons_kept = record {
    itself = λ board was. was;
    further = λ first second third one two was. two (one was);
    happens = happened;
  }

  -- the steps of a turn
  abbrev GoesOnAt : AtWire → AtWire → Type 0
  GoesOnAt old new = GoesOnFirst old.engine.sessions.desk.board new.engine.sessions.desk.board

  accepted_as : (answer : Accepted) (at : ℕ) (old new : LeaseDesk) → AcceptsAs answer at old new → GoesOnFirst old.board new.board
  accepted_as (accept.New c) at old new is = same_sessions old.board new.board (ap (λ (b : Board). b.sessions) is.0.connection)
  accepted_as accept.Nothing at old new same = same_sessions old.board new.board (ap (λ (desk : LeaseDesk). desk.board.sessions) same)
  accepted_as accept.Failed at old new same = same_sessions old.board new.board (ap (λ (desk : LeaseDesk). desk.board.sessions) same)

  next_accepted : (answer : Accepted) (old new : AtWire) → AcceptsNext answer old new → GoesOnAt old new
  next_accepted answer old new is = elim is [
    | inl asks ↦ accepted_as answer old.engine.moment old.engine.sessions.desk new.engine.sessions.desk asks.accepts
    | inr none ↦ same_sessions old.engine.sessions.desk.board new.engine.sessions.desk.board (ap (λ (a : AtWire). a.engine.sessions.desk.board.sessions) none.1.1)
  ]

  dialled_as : (answer : Option Dialled) (s at until : ℕ) (old new : LeaseDesk) (d_old d_new : Dialler) → DialsAs answer s at until old new d_old d_new → GoesOnFirst old.board new.board
  dialled_as None s at until old new d_old d_new is = same_sessions old.board new.board (ap (λ (desk : LeaseDesk). desk.board.sessions) is.1.0)
  dialled_as (Some dial.Failed) s at until old new d_old d_new is = same_sessions old.board new.board (ap (λ (desk : LeaseDesk). desk.board.sessions) is.1.0)
  dialled_as (Some (dial.New number)) s at until old new d_old d_new is = λ was.
      let to = is.1.0 in
      dial_begun s number at to.gathered.board new.board to.dials (gathered GoesOnFirst logons_kept s at until old to.gathered to.gathers was)

  session_dialled : (s : ℕ) (old new : AtWire) → DialsSession s old new → GoesOnAt old new
  session_dialled s old new is =
      dialled_as is.answer s old.engine.moment (until_of old.engine) old.engine.sessions.desk new.engine.sessions.desk old.engine.dialler new.engine.dialler is.dials

  step : (old new : AtWire) → TurnStep old new → GoesOnAt old new
  step _ _ (walk.accepted answer old new is) = next_accepted answer old new is
  step _ _ (walk.dialled s old new is) = session_dialled s old new is
  step _ _ (walk.quiet old new is) = (quiet_step GoesOnFirst logons_kept g.walks g.serving old new is).board

  turn_made : (reading : ℕ) (old new : AtWire) (turn : Turn) → MakesTurn reading old new turn → GoesOnAt old new
  turn_made reading old new turn is = walked TurnStep GoesOnAt (λ a i. i) (λ a b c one two i. two (one i)) step _ new (g.walks.turn reading old new turn is)

  -- the steps of a script
  abbrev GoesOnIn : Run → Run → Type 0
  GoesOnIn old new = GoesOnFirst old.engine.sessions.desk.board new.engine.sessions.desk.board

  same_board : (old new : Run) → new.engine.sessions.desk.board ≡ old.engine.sessions.desk.board → GoesOnIn old new
  same_board old new same = same_sessions old.engine.sessions.desk.board new.engine.sessions.desk.board (ap (λ (b : Board). b.sessions) same)

  met : (place : ℕ) (old new : Run) → Meets place old new → GoesOnIn old new
  met place old new is = same_board old new (ap (λ (e : Engine). e.sessions.desk.board) is.caller.changes.engine)

  called_between : (what : LibStep) (place : ℕ) (old new : Run) → CallsBetween what place old new → GoesOnIn old new
  called_between what place old new is was =
      met place is.called new is.meets_again (same_board is.met is.called (ap (λ (run : Run). run.engine.sessions.desk.board) is.calls.rest) (met place old is.met is.meets was))

  carried : (what : Step) (old new : Run) → Carries what old new → GoesOnIn old new
  carried = each_step GoesOnIn (λ old new is. same_board old new (ap (λ (e : Engine). e.sessions.desk.board) is.engine)) (λ old new is. turn_made old.clock.moment _ _ is.turn is.turns) called_between

  pub carried_out_first : (steps : List Step) (count : ℕ) (old new : Run) → CarriesOut steps count old new → GoesOnIn old new
  carried_out_first steps count old new is = each_in_turn (CarriesAt steps) GoesOnIn (λ run i. i) (λ a b c one two i. two (one i)) (λ i a b at. carried at.what a b at.carries) count old new is

  -- the turns of a run that is served
  once : (old new : Drive) → DrivesOnce old new → GoesOnAt old.at new.at
  once old new is was =
      let one = is.makes in
      subst (λ (e : Engine). LogonsComeFirst e.sessions.desk.board) (sym one.engine) (turn_made is.reading old.at one.made is.turn one.makes was)

  pub drove_first : (connections libraries count : ℕ) (old new : Drive) → DrivesFor connections libraries count old new → GoesOnAt old.at new.at
  drove_first connections libraries count old new is =
      each_in_turn (λ i. DrivesOn connections libraries) (λ a b. GoesOnAt a.at b.at) (λ d so. so) (λ a b c one two so. two (one so)) (λ i a b on. once a b on.drives) count old new is

  -- as each session is gathered at the end
  pub gathered_first : (count at until : ℕ) (old new : LeaseDesk) → InTurn (λ s. Gathers s at until) count old new → GoesOnFirst old.board new.board
  gathered_first count at until old new gathers = gathered_in_turn GoesOnFirst logons_kept count at until old new gathers

-- as an engine begins
pub first_logons : (config : Config) (moment : ℕ) (shared : Shared) (engine : Engine) → StartsEngineOf config moment shared engine → LogonsComeFirst engine.sessions.desk.board
first_logons config moment shared engine starts s within =
    let sessions = starts.sessions in
    let book = book_at engine.sessions.desk.board s in
    let none : book.entries ≡ [] = ap (λ (b : Book). b.entries) (sessions.books s (subst (λ n. s < n) sessions.count within)) in
    record {
      lawful = sessions.first.books s within;
      logons = λ heart asks. subst (λ (es : List Entry). All (BeginsByLogon book.outbound heart) (spells_behind [] es)) (sym none) (All-nil (BeginsByLogon book.outbound heart));
    }
