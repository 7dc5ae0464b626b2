-- What a gathering keeps, and all that happens besides but for what the leases do, each step of a turn keeps in which no library is served.
use Rattle.std.proofs.Common.{◌≡◌, ℕ, false, List, [], ◌∷◌, ◌++◌, length, Option, None, Some, Result, Ok, Err, refl, sym, subst}
use Rattle.std.proofs.lemmas.List.Elements.{All-append, All-cons, All-nil}
use Rattle.std.specs.List.{All}
use Rattle.std.specs.Result.{result_ok}
use Rattle.engine_end.specs.Finishing.{GathersAll}
use Rattle.engine_laws.proofs.Endings.{answering_is, ending_is, lapsing_is, one_is, parting_is}
use Rattle.engine_laws.proofs.Walking.{each_in_turn, read as reads, walked, written_in_turn as all_written}
use Rattle.engine_laws.specs.walks.Walks as walk
use Rattle.engine_laws.specs.walks.Walks.{HappensAlone, ReadMove, ReadSoFar, WriteMove}
use Rattle.fix_fields.specs.Reading.{fields_of}
use Rattle.gate_io.specs.declared.dials.Dialled.{Dialled}
use Rattle.gate_io.specs.declared.dials.Dialled.TheVariants as dial
use Rattle.gate_io.specs.declared.wires.Accepted.{Accepted}
use Rattle.gate_io.specs.declared.wires.Accepted.TheVariants as accept
use Rattle.gate_io.specs.declared.wires.WireGot.{WireGot}
use Rattle.lease_core.specs.State.{state_of}
use Rattle.lease_desk.specs.Desk.{Gathers, is_of_leases}
use Rattle.lease_desk.specs.declared.desk.LeaseDesk.{LeaseDesk}
use Rattle.lease_words.specs.Sees.{after_publish}
use Rattle.lease_words.specs.Views.{engine_at, with_engine_at}
use Rattle.session_book.specs.Records.{Pending}
use Rattle.session_core.specs.declared.causes.Cause.{Cause}
use Rattle.session_desk.specs.Steps.{DialsTo, GreetsAs, Hears, Ticks, answering, binding, ending, greeting, lapsing, parting}
use Rattle.session_desk.specs.declared.routes.Routes.{Routes}
use Rattle.switchboard.specs.Board.{Board, book_at, connection_at, place_at}
use Rattle.switchboard.specs.Happenings.{Happening, Happens, Reaches, accepts, binds, binds_and_ends, dials, ends_unbound, gives, prepares, receives, takes, ticks, writes}
use Rattle.wire_desk.specs.Dials.{DialsAs}
use Rattle.wire_desk.specs.Steps.{AcceptsAs, Reads, Sessions, WritesInTurn, WrittenSoFar}
use Rattle.wire_desk.specs.declared.dialling.Dialler.{Dialler}

abbrev IsAside : Happening → Type 0
IsAside happening = is_of_leases happening ≡ false

abbrev AreAside : List Happening → Type 0
AreAside happenings = All IsAside happenings

-- what the leases don't do, one after another
record Runs (old new : Board) : Type 0 where
  happenings : List Happening
  all : AreAside happenings
  reaches : Reaches happenings old new

stays : (old new : Board) → new ≡ old → Runs old new
stays old new same = record { happenings = []; all = All-nil IsAside; reaches = same }

alone : (happening : Happening) (old new : Board) → IsAside happening → Happens happening old new → Runs old new
alone happening old new aside is = record { happenings = happening ∷ []; all = one_is IsAside happening aside; reaches = (new, (is, refl)) }

-- A relation of desks, one after another, that gatherings keep, and what the leases don't do, and that a count is published.
pub record IsKept (R : LeaseDesk → LeaseDesk → Type 0) : Type 0 where
  pub itself : (desk : LeaseDesk) → R desk desk
  pub further : (first second third : LeaseDesk) → R first second → R second third → R first third
  pub gathers : (s at until : ℕ) (old new : LeaseDesk) → Gathers s at until old new → R old new
  pub aside : (happenings : List Happening) (old new : LeaseDesk) → All (λ happening. is_of_leases happening ≡ false) happenings → Reaches happenings old.board new.board → new.seat ≡ old.seat → R old new
  pub publishes : (s count : ℕ) (old new : LeaseDesk) → new.board ≡ old.board → new.seat ≡ with_engine_at old.seat s (after_publish (engine_at old.seat s) count) → R old new
  pub joins : (first second : List Happening) (old between new : Board) → Reaches first old between → Reaches second between new → Reaches (first ++ second) old new

module _ (R : LeaseDesk → LeaseDesk → Type 0) (g : IsKept R) where
  ran : (old new : LeaseDesk) → Runs old.board new.board → new.seat ≡ old.seat → R old new
  ran old new runs seat = g.aside runs.happenings old new runs.all runs.reaches seat

  in_turn : (first second third : Board) → Runs first second → Runs second third → Runs first third
  in_turn first second third one two = record {
    happenings = one.happenings ++ two.happenings;
    all = All-append IsAside one.happenings two.happenings one.all two.all;
    reaches = g.joins one.happenings two.happenings first second third one.reaches two.reaches;
  }

  unchanged : (old new : LeaseDesk) → new ≡ old → R old new
  unchanged old new same = subst (R old) (sym same) (g.itself old)

  -- one thing happens aside
  happened : (happening : Happening) (old new : LeaseDesk) → IsAside happening → HappensAlone happening old new → R old new
  happened happening old new aside is = ran old new (alone happening old.board new.board aside is.0) is.1

  heard : (s k : ℕ) (body : List ℕ) (at until : ℕ) (old new : LeaseDesk) (unkept_old unkept_new : List Pending) (end : Option Cause) → Hears s k body at until old new unkept_old unkept_new end → R old new
  heard s k body at until old new unkept_old unkept_new end is =
      let rest = All-append IsAside (answering k end) (ending s (Some k) end) (answering_is IsAside k end refl) (ending_is IsAside s (Some k) end (λ k cause. refl)) in
      g.further old is.gathered new (g.gathers s at until old is.gathered is.gathers)
      (g.aside (receives s k body at ∷ (answering k end ++ ending s (Some k) end)) is.gathered new (All-cons IsAside (receives s k body at) (answering k end ++ ending s (Some k) end) refl rest) is.follows is.seat)

  bound_by : (s k : ℕ) (body : List ℕ) (at : ℕ) (end : Option Cause) (old new : Board) → Happens (binding s k body at end) old new → Runs old new
  bound_by s k body at None old new is = alone (binds s k body at) old new refl is
  bound_by s k body at (Some cause) old new is = alone (binds_and_ends s k body at cause) old new refl is

  greeted : (found : Result ℕ Cause) (k : ℕ) (body : List ℕ) (at until : ℕ) (old new : LeaseDesk) (unkept_old unkept_new : List Pending) (end : Option Cause)
      → GreetsAs found k body at until old new unkept_old unkept_new end → R old new
  greeted (Ok s) k body at until old new unkept_old unkept_new end is =
      g.further old is.gathered new (g.gathers s at until old is.gathered is.gathers) (ran is.gathered new (bound_by s k body at end is.gathered.board new.board is.binds) is.seat)
  greeted (Err cause) k body at until old new unkept_old unkept_new end is = ran old new (alone (ends_unbound k cause) old.board new.board refl is.ends) is.seat

  pub ticked : (s at until : ℕ) (old new : LeaseDesk) (end : Option Cause) → Ticks s at until old new end → R old new
  ticked s at until old new end is =
      let reserved = (state_of (book_at is.gathered.board s).entries).reserved in
      let last = ending s (place_at is.lapsed s) end in
      let lapsed : Runs is.gathered.board is.lapsed = record { happenings = lapsing s reserved at; all = lapsing_is IsAside s reserved at refl; reaches = is.lapses } in
      let behind : Runs is.lapsed new.board = record { happenings = ticks s at ∷ last; all = All-cons IsAside (ticks s at) last refl (ending_is IsAside s (place_at is.lapsed s) end (λ k cause. refl)); reaches = is.follows } in
      g.further old is.gathered new (g.gathers s at until old is.gathered is.gathers) (ran is.gathered new (in_turn is.gathered.board is.lapsed new.board lapsed behind) is.seat)

  pub accepted_as : (answer : Accepted) (at : ℕ) (old new : LeaseDesk) → AcceptsAs answer at old new → R old new
  accepted_as (accept.New c) at old new is = ran old new (alone (accepts c at) old.board new.board refl is.0) is.1
  accepted_as accept.Nothing at old new is = unchanged old new is
  accepted_as accept.Failed at old new is = unchanged old new is

  dialled_to : (s number at until : ℕ) (old new : LeaseDesk) → DialsTo s number at until old new → R old new
  dialled_to s number at until old new is =
      g.further old is.gathered new (g.gathers s at until old is.gathered is.gathers) (ran is.gathered new (alone (dials s number at) is.gathered.board new.board refl is.dials) is.seat)

  pub dialled_as : (answer : Option Dialled) (s at until : ℕ) (old new : LeaseDesk) (d_old d_new : Dialler) → DialsAs answer s at until old new d_old d_new → R old new
  dialled_as None s at until old new d_old d_new is = unchanged old new is.1.0
  dialled_as (Some dial.Failed) s at until old new d_old d_new is = unchanged old new is.1.0
  dialled_as (Some (dial.New number)) s at until old new d_old d_new is = dialled_to s number at until old new is.1.0

  -- a move as a connection is read, and as connections are written to
  read_moved : (routes : Routes) (k at until : ℕ) (old new : ReadSoFar) → ReadMove routes k at until old new → R old.desk new.desk
  read_moved routes k at until _ _ (walk.bytes_come bytes old new is) = happened (takes k bytes) old new refl is
  read_moved routes k at until _ _ (walk.garbled_out size old new next is) = happened (gives k) old new refl is
  read_moved routes k at until _ _ (walk.body_out body old new next is) = happened (gives k) old new refl is
  read_moved routes k at until _ _ (walk.heard s body end old new named is) = heard s k body at until old.desk new.desk old.unkept new.unkept end is
  read_moved routes k at until _ _ (walk.greeted body end old new unnamed is) =
      greeted (greeting old.desk.board routes (result_ok (fields_of body))) k body at until old.desk new.desk old.unkept new.unkept end is
  read_moved routes k at until _ _ (walk.none_out old new none is) = happened (gives k) old new refl is
  read_moved routes k at until _ _ (walk.had_ended desk ended) = g.itself desk
  read_moved routes k at until _ _ (walk.parted cause old new ends is) = happened (parting (connection_at old.board k).session k cause) old new (parting_is IsAside (connection_at old.board k).session k cause refl (λ s. refl)) is

  write_moved : (old new : LeaseDesk) → WriteMove old new → R old new
  write_moved _ _ (walk.made s k old new is) = happened (prepares s k) old new refl is
  write_moved _ _ (walk.wrote k n old new is) = happened (writes k n) old new refl is
  write_moved _ _ (walk.left k stop cause old new ends is) = happened (parting (connection_at old.board k).session k cause) old new (parting_is IsAside (connection_at old.board k).session k cause refl (λ s. refl)) is
  write_moved _ _ (walk.stayed old new board seat) = ran old new (stays old.board new.board board) seat

  pub read : (answer : WireGot) (routes : Routes) (k : ℕ) (buffer : List ℕ) (at until : ℕ) (old new : Sessions) → Reads answer routes k buffer at until old new → R old.desk new.desk
  read answer routes k buffer at until old new is =
      walked (ReadMove routes k at until) (λ a b. R a.desk b.desk) (λ a. g.itself a.desk) (λ a b c. g.further a.desk b.desk c.desk) (read_moved routes k at until) _ _ (reads routes k at until answer buffer old new is)

  pub written_in_turn : (places : List ℕ) (count : ℕ) (old new : WrittenSoFar) → WritesInTurn places count old new → R old.sessions.desk new.sessions.desk
  written_in_turn places count old new is = walked WriteMove R g.itself g.further write_moved _ _ (all_written places count old new is)

  -- each session is gathered, one after another
  pub gathered_in_turn : (at until : ℕ) (old new : LeaseDesk) → GathersAll at until old new → R old new
  gathered_in_turn at until old new gathers = each_in_turn (λ s. Gathers s at until) R g.itself g.further (λ s. g.gathers s at until) (length old.board.sessions) old new gathers
