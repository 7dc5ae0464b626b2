-- What a session does in a turn, what follows from the wire's answers to reads, and what is done for libraries: connections that have ended stay as they are, and firsts come alone.
use Rattle.std.proofs.Common.{◌≡◌, ℕ, Bool, true, false, List, [], ◌∷◌, ◌++◌, length, Option, None, Some, Result, Ok, Err, refl, sym, ap, subst, ◌∙◌}
use Rattle.std.proofs.lemmas.List.{length-set}
use Rattle.std.proofs.lemmas.List.Elements.{All-cons, All-weaker}
use Rattle.std.specs.List.{All}
use Rattle.std.specs.Prelude.{◌<◌, if◌then◌else◌, slice_index_or}
use Rattle.std.specs.Result.{result_ok}
use Rattle.engine_end.specs.Finishing.{GathersAll}
use Rattle.engine_laws.proofs.Endings.{ending_is, lapsing_is, one_is}
use Rattle.engine_laws.proofs.Walking.{each_in_turn, read as reads, walked}
use Rattle.engine_laws.specs.walks.Walks as walk
use Rattle.engine_laws.specs.walks.Walks.{ReadMove, ReadSoFar}
use Rattle.fix_fields.specs.Reading.{fields_of}
use Rattle.gate_io.specs.declared.wires.WireGot.{WireGot}
use Rattle.lease_core.specs.State.{state_of}
use Rattle.lease_core.specs.declared.entry.Entry.{Entry}
use Rattle.lease_desk.specs.Desk.{Gathers, bodies_of}
use Rattle.lease_desk.specs.declared.desk.LeaseDesk.{LeaseDesk}
use Rattle.library_desk.specs.Happening.{IsOfLibraries, RunsFor}
use Rattle.session_book.specs.Records.{Pending}
use Rattle.session_core.specs.declared.causes.Cause.{Cause}
use Rattle.session_desk.specs.Steps.{GreetsAs, Hears, Ticks, binding, ending, greeting, is_answer, lapsing, parting}
use Rattle.session_desk.specs.declared.routes.Routes.{Routes}
use Rattle.switchboard.specs.Board.{Board, book_at, connection_at, place_at}
use Rattle.switchboard.specs.Happenings.{Happening, Happens, Reaches, answers, binds, binds_and_ends, ends_bound, ends_unbound, gives, receives, requests, reserves, shows, takes, ticks, times_out}
use Rattle.switchboard.specs.Ready.{IsReady}
use Rattle.engine_laws.proofs.text_lemmas.Standing.{IsPlain, Keeps, Laws, keeps_further, keeps_itself, keeps_one, keeps_plain, ran, stands_at}
use Rattle.wire_desk.specs.Steps.{Reads, Sessions}

module _ (before : ℕ → List Entry) (g : Laws before) where
  -- the happening is plain, and so are all
  abbrev Plain : Happening → Type 0
  Plain happening = IsPlain before g happening

  -- the board is kept so
  abbrev pub Kept : Board → Board → Type 0
  Kept old new = Keeps before g old new

  pub itself : (board : Board) → Kept board board
  itself board = keeps_itself before g board

  pub further : (first second third : Board) → Kept first second → Kept second third → Kept first third
  further first second third one two = keeps_further before g first second third one two

  pub unchanged : (old new : Board) → new ≡ old → Kept old new
  unchanged old new same = subst (λ board. Kept old board) (sym same) (itself old)

  run : (happenings : List Happening) (old new : Board) → All Plain happenings → Reaches happenings old new → Kept old new
  run happenings old new all reached = ran before g happenings old new all reached

  plain : (happening : Happening) (old new : Board) → Plain happening → Happens happening old new → Kept old new
  plain happening old new is happens = keeps_plain before g happening old new is happens

  pub gathered : (s at until : ℕ) (old new : LeaseDesk) → Gathers s at until old new → Kept old.board new.board
  gathered s at until old new is =
      let shown = shows s is.word (bodies_of is.items) at until in
      run (reserves s ∷ shown ∷ []) old.board new.board (All-cons Plain (reserves s) (shown ∷ []) tt (one_is Plain shown tt)) is.reaches

  pub all_gathered : (at until : ℕ) (old new : LeaseDesk) → GathersAll at until old new → Kept old.board new.board
  all_gathered at until old new steps =
      each_in_turn (λ s. Gathers s at until) (λ (a b : LeaseDesk). Kept a.board b.board) (λ desk. itself desk.board) (λ a b c. further a.board b.board c.board) (λ s a b. gathered s at until a b) (length old.board.sessions) old new steps

  -- an answer comes on a connection that stands
  answered : (is : Bool) (k : ℕ) (rest : List Happening) (old new : Board) → (IsReady before old → (connection_at old k).cause ≡ None) → All Plain rest → Reaches ((if is then answers k ∷ [] else []) ++ rest) old new → Kept old new
  answered true k rest old new stands all reached =
      further old reached.0 new (keeps_one before g (answers k) old reached.0 refl stands reached.1.0) (run rest reached.0 new all reached.1.1)
  answered false k rest old new stands all reached = run rest old new all reached

  heard : (s k : ℕ) (body : List ℕ) (at until : ℕ) (old new : LeaseDesk) (unkept_old unkept_new : List Pending) (end : Option Cause) → Hears s k body at until old new unkept_old unkept_new end → Kept old.board new.board
  heard s k body at until old new unkept_old unkept_new end is =
      let board = is.gathered.board in
      let behind = is.follows.0 in
      let receives_it : Happens (receives s k body at) board behind = is.follows.1.0 in
      let placed : place_at behind s ≡ Some k = ap (λ places. slice_index_or places s None) receives_it.goes_on.others.places ∙ receives_it.placed in
      let small : s < length behind.sessions = subst (λ n. s < n) (sym (ap length receives_it.goes_on.others.sessions ∙ length-set board.sessions s _)) receives_it.goes_on.within in
      further old.board board new.board (gathered s at until old is.gathered is.gathers)
      (further board behind new.board (plain (receives s k body at) board behind tt receives_it)
      (answered (is_answer end) k (ending s (Some k) end) behind new.board (λ ready. stands_at before s k behind ready small placed) (ending_is Plain s (Some k) end (λ k cause. tt)) is.follows.1.1))

  bound_by : (s k : ℕ) (body : List ℕ) (at : ℕ) (end : Option Cause) (old new : Board) → Happens (binding s k body at end) old new → Kept old new
  bound_by s k body at None old new is = plain (binds s k body at) old new tt is
  bound_by s k body at (Some cause) old new is = plain (binds_and_ends s k body at cause) old new tt is

  greeted : (found : Result ℕ Cause) (k : ℕ) (body : List ℕ) (at until : ℕ) (old new : LeaseDesk) (unkept_old unkept_new : List Pending) (end : Option Cause)
      → GreetsAs found k body at until old new unkept_old unkept_new end → Kept old.board new.board
  greeted (Ok s) k body at until old new unkept_old unkept_new end is =
      further old.board is.gathered.board new.board (gathered s at until old is.gathered is.gathers) (bound_by s k body at end is.gathered.board new.board is.binds)
  greeted (Err cause) k body at until old new unkept_old unkept_new end is = plain (ends_unbound k cause) old.board new.board tt is.ends

  pub ticked : (s at until : ℕ) (old new : LeaseDesk) (end : Option Cause) → Ticks s at until old new end → Kept old.board new.board
  ticked s at until old new end is =
      let board = is.gathered.board in
      let reserved = (state_of (book_at board s).entries).reserved in
      let last = ending s (place_at is.lapsed s) end in
      further old.board board new.board (gathered s at until old is.gathered is.gathers)
      (further board is.lapsed new.board (run (lapsing s reserved at) board is.lapsed (lapsing_is Plain s reserved at tt) is.lapses)
      (run (ticks s at ∷ last) is.lapsed new.board (All-cons Plain (ticks s at) last tt (ending_is Plain s (place_at is.lapsed s) end (λ k cause. tt))) is.follows))

  pub parted : (session : Option ℕ) (k : ℕ) (cause : Cause) (old new : Board) → Happens (parting session k cause) old new → Kept old new
  parted None k cause old new is = plain (ends_unbound k cause) old new tt is
  parted (Some s) k cause old new is = plain (ends_bound s k cause) old new tt is

  -- a move as a connection is read
  read_moved : (routes : Routes) (k at until : ℕ) (old new : ReadSoFar) → ReadMove routes k at until old new → Kept old.desk.board new.desk.board
  read_moved routes k at until _ _ (walk.bytes_come bytes old new is) = plain (takes k bytes) old.board new.board tt is.0
  read_moved routes k at until _ _ (walk.garbled_out size old new next is) = plain (gives k) old.board new.board tt is.0
  read_moved routes k at until _ _ (walk.body_out body old new next is) = plain (gives k) old.board new.board tt is.0
  read_moved routes k at until _ _ (walk.heard s body end old new named is) = heard s k body at until old.desk new.desk old.unkept new.unkept end is
  read_moved routes k at until _ _ (walk.greeted body end old new unnamed is) =
      greeted (greeting old.desk.board routes (result_ok (fields_of body))) k body at until old.desk new.desk old.unkept new.unkept end is
  read_moved routes k at until _ _ (walk.none_out old new none is) = plain (gives k) old.board new.board tt is.0
  read_moved routes k at until _ _ (walk.had_ended desk ended) = itself desk.board
  read_moved routes k at until _ _ (walk.parted cause old new ends is) = parted (connection_at old.board k).session k cause old.board new.board is.0

  pub read : (answer : WireGot) (routes : Routes) (k : ℕ) (buffer : List ℕ) (at until : ℕ) (old new : Sessions) → Reads answer routes k buffer at until old new → Kept old.desk.board new.desk.board
  read answer routes k buffer at until old new is =
      walked (ReadMove routes k at until) (λ a b. Kept a.desk.board b.desk.board) (λ a. itself a.desk.board) (λ a b c. further a.desk.board b.desk.board c.desk.board) (read_moved routes k at until) _ _
      (reads routes k at until answer buffer old new is)

  -- what is done for libraries
  of_libraries_plain : (at : ℕ) (happening : Happening) → IsOfLibraries at happening → Plain happening
  of_libraries_plain at (times_out s w bodies moment until) is = tt
  of_libraries_plain at (requests s library nr from) is = tt
  of_libraries_plain at (reserves s) is = tt
  of_libraries_plain at other is = absurd is

  pub ran_for : (at : ℕ) (old new : Board) → RunsFor at old new → Kept old new
  ran_for at old new runs = run runs.happenings old new (All-weaker (IsOfLibraries at) Plain (of_libraries_plain at) runs.happenings runs.all) runs.reaches
