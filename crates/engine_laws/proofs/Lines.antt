-- What is asked of the wire, and what follows from its answer, is accounted for.
use Rattle.std.proofs.Common.{◌≡◌, ℕ, List, Option, None, Some, ap}
use Rattle.engine_laws.specs.Account.{Progress, all_done, cutting, done, handling, only}
use Rattle.engine_laws.specs.walks.Walks as walk
use Rattle.engine_laws.specs.walks.Walks.{ReadMove, ReadSoFar, Walk, WriteMove}
use Rattle.engine_laws.proofs.Accounting.{Keeping, StepLaws}
use Rattle.engine_laws.proofs.Sessions.{alone, dialled_to, greeted, heard, itself, parted}
use Rattle.engine_laws.proofs.Walking.{all_handled as all_walk, next_handled as next_walk, read as read_walk, read_as as read_as_walk, some_handled as some_walk, walked, written as written_walk, written_in_turn as writes_walk}
use Rattle.fix_fields.specs.Reading.{fields_of}
use Rattle.gate_io.specs.Wire.{Link}
use Rattle.gate_io.specs.declared.dials.Dialled.{Dialled}
use Rattle.gate_io.specs.declared.dials.Dialled.TheVariants as dial
use Rattle.gate_io.specs.declared.wires.Accepted.{Accepted}
use Rattle.gate_io.specs.declared.wires.Accepted.TheVariants as accept
use Rattle.gate_io.specs.declared.wires.WireGot.{WireGot}
use Rattle.lease_desk.specs.Desk.{InTurn}
use Rattle.lease_desk.specs.declared.desk.LeaseDesk.{LeaseDesk}
use Rattle.session_core.specs.declared.causes.Cause.{Cause}
use Rattle.session_desk.specs.Steps.{greeting}
use Rattle.session_desk.specs.declared.routes.Routes.{Routes}
use Rattle.std.specs.Result.{result_ok}
use Rattle.switchboard.specs.Board.{Board, connection_at}
use Rattle.switchboard.specs.Brought.{good_bodies}
use Rattle.switchboard.specs.Happenings.{prepares, writes}
use Rattle.wire_desk.specs.Dials.{DialsAs}
use Rattle.wire_desk.specs.Steps.{AcceptsAs, HandlesAll, HandlesBody, HandlesNext, PartsIfNeeded, Reads, ReadsAs, Sessions, Writes, WritesInTurn, WrittenSoFar}
use Rattle.wire_desk.specs.declared.dialling.Dialler.{Dialler}
use Rattle.wire_desk.specs.declared.written.Written.{Written}

-- how far all connections are handled, where this one is so far
abbrev so_far : ℕ → Progress → ℕ → Progress
so_far k done = all_done
so_far k cutting = only k cutting
so_far k (handling body) = only k (handling body)

module _ {Keeps : Keeping} (g : StepLaws Keeps) where
  same_desk : (at : ℕ) (old new : LeaseDesk) → new ≡ old → Keeps all_done all_done at old.board new.board
  same_desk at old new same = itself g all_done at old.board new.board (ap (λ (d : LeaseDesk). d.board) same)

  pub accepted_as : (answer : Accepted) (at : ℕ) (old new : LeaseDesk) → AcceptsAs answer at old new → Keeps all_done all_done at old.board new.board
  accepted_as (accept.New c) at old new is = g.accepts c at old.board new.board is.0
  accepted_as accept.Nothing at old new is = same_desk at old new is
  accepted_as accept.Failed at old new is = same_desk at old new is

  pub dialled_as : (answer : Option Dialled) (s at until : ℕ) (old new : LeaseDesk) (d_old d_new : Dialler) → DialsAs answer s at until old new d_old d_new → Keeps all_done all_done at old.board new.board
  dialled_as None s at until old new d_old d_new is = same_desk at old new is.1.0
  dialled_as (Some dial.Failed) s at until old new d_old d_new is = same_desk at old new is.1.0
  dialled_as (Some (dial.New number)) s at until old new d_old d_new is = dialled_to g s number at until old new is.1.0

  -- the message in hand is handled
  pub body_handled : (session : Option ℕ) (routes : Routes) (k : ℕ) (body : List ℕ) (at until : ℕ) (old new : Sessions) → HandlesBody session routes k body at until old new
      → Keeps (only k (handling body)) (only k cutting) at old.desk.board new.desk.board
  body_handled (Some s) routes k body at until old new is = heard g s k body at until old.desk new.desk old.unkept new.unkept is.0 is.1
  body_handled None routes k body at until old new is =
      greeted g (greeting old.desk.board routes (result_ok (fields_of body))) k body at until old.desk new.desk old.unkept new.unkept is.0 is.1

  abbrev KeepsSoFar : ℕ → ℕ → ReadSoFar → ReadSoFar → Type 0
  KeepsSoFar k at old new = Keeps (so_far k old.progress) (so_far k new.progress) at old.desk.board new.desk.board

  -- a move as a connection is read
  read_moved : (routes : Routes) (k at until : ℕ) (old new : ReadSoFar) → ReadMove routes k at until old new → KeepsSoFar k at old new
  read_moved routes k at until _ _ (walk.bytes_come bytes old new is) = g.takes k bytes at old.board new.board is.0
  read_moved routes k at until _ _ (walk.garbled_out size old new next is) = g.gives_none k at old.board new.board is.0 (ap good_bodies next)
  read_moved routes k at until _ _ (walk.body_out body old new next is) = g.gives_one k at body old.board new.board is.0 (ap good_bodies next)
  read_moved routes k at until _ _ (walk.heard s body end old new named is) = heard g s k body at until old.desk new.desk old.unkept new.unkept end is
  read_moved routes k at until _ _ (walk.greeted body end old new unnamed is) =
      greeted g (greeting old.desk.board routes (result_ok (fields_of body))) k body at until old.desk new.desk old.unkept new.unkept end is
  read_moved routes k at until _ _ (walk.none_out old new none is) = g.gives_last k at old.board new.board is.0 none
  read_moved routes k at until _ _ (walk.had_ended desk ended) = g.stops k at desk.board ended
  read_moved routes k at until _ _ (walk.parted cause old new ends is) = parted g (connection_at old.board k).session k cause at old.board new.board is.0

  reads_walked : (routes : Routes) (k at until : ℕ) (old new : ReadSoFar) → Walk (ReadMove routes k at until) old new → KeepsSoFar k at old new
  reads_walked routes k at until =
      walked (ReadMove routes k at until) (KeepsSoFar k at) (λ a. g.itself (so_far k a.progress) at a.desk.board)
      (λ a b c. g.further (so_far k a.progress) (so_far k b.progress) (so_far k c.progress) at a.desk.board b.desk.board c.desk.board) (read_moved routes k at until)

  -- the next piece is handed out and handled, so many are, and all
  pub next_handled : (routes : Routes) (k at until : ℕ) (old new : Sessions) → HandlesNext routes k at until old new → Keeps (only k cutting) (only k cutting) at old.desk.board new.desk.board
  next_handled routes k at until old new is = reads_walked routes k at until _ _ (next_walk routes k at until old new is)

  pub some_handled : (routes : Routes) (k at until count : ℕ) (old new : Sessions) → InTurn (λ i. HandlesNext routes k at until) count old new → Keeps (only k cutting) (only k cutting) at old.desk.board new.desk.board
  some_handled routes k at until count old new is = reads_walked routes k at until _ _ (some_walk routes k at until count old new is)

  pub all_handled : (routes : Routes) (k at until : ℕ) (old new : Sessions) → HandlesAll routes k at until old new → Keeps (only k cutting) all_done at old.desk.board new.desk.board
  all_handled routes k at until old new is = reads_walked routes k at until _ _ (all_walk routes k at until old new is)

  pub read_as : (answer : WireGot) (routes : Routes) (k : ℕ) (buffer : List ℕ) (at until : ℕ) (old new : Sessions) → ReadsAs answer routes k buffer at until old new → Keeps all_done all_done at old.desk.board new.desk.board
  read_as answer routes k buffer at until old new is = reads_walked routes k at until _ _ (read_as_walk routes k at until answer buffer old new is)

  pub read : (answer : WireGot) (routes : Routes) (k : ℕ) (buffer : List ℕ) (at until : ℕ) (old new : Sessions) → Reads answer routes k buffer at until old new → Keeps all_done all_done at old.desk.board new.desk.board
  read answer routes k buffer at until old new is = reads_walked routes k at until _ _ (read_walk routes k at until answer buffer old new is)

  pub parted_if_needed : (cause : Option Cause) (k at : ℕ) (old new : Board) → PartsIfNeeded cause k old new → Keeps all_done all_done at old new
  parted_if_needed None k at old new same = itself g all_done at old new same
  parted_if_needed (Some cause) k at old new parts = parted g (connection_at old k).session k cause at old new parts

  write_moved : (at : ℕ) (old new : LeaseDesk) → WriteMove old new → Keeps all_done all_done at old.board new.board
  write_moved at _ _ (walk.made s k old new is) = alone g at (prepares s k) old.board new.board tt is.0
  write_moved at _ _ (walk.wrote k n old new is) = alone g at (writes k n) old.board new.board tt is.0
  write_moved at _ _ (walk.left k stop cause old new ends is) = parted g (connection_at old.board k).session k cause at old.board new.board is.0
  write_moved at _ _ (walk.stayed old new board seat) = itself g all_done at old.board new.board board

  writes_walked : (at : ℕ) (old new : LeaseDesk) → Walk WriteMove old new → Keeps all_done all_done at old.board new.board
  writes_walked at =
      walked WriteMove (λ a b. Keeps all_done all_done at a.board b.board) (λ a. g.itself all_done at a.board) (λ a b c. g.further all_done all_done all_done at a.board b.board c.board) (write_moved at)

  pub written : (wrote : Written) (k : ℕ) (link_old link_new : Link) (at : ℕ) (old new : Sessions) → Writes wrote k link_old link_new old new → Keeps all_done all_done at old.desk.board new.desk.board
  written wrote k link_old link_new at old new is = writes_walked at _ _ (written_walk wrote k link_old link_new old new is)

  pub written_in_turn : (places : List ℕ) (count at : ℕ) (old new : WrittenSoFar) → WritesInTurn places count old new → Keeps all_done all_done at old.sessions.desk.board new.sessions.desk.board
  written_in_turn places count at old new is = writes_walked at _ _ (writes_walk places count old new is)
