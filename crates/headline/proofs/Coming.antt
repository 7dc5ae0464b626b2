-- A connection that comes has the next number of its kind, and so the connections of a run stay numbered in order.
use Rattle.std.proofs.Common.{◌≡◌, inl, inr, ℕ, zero, suc, ◌+◌, ◌-◌, Bool, true, false, List, [], ◌∷◌, ◌++◌, length, Option, None, Some, refl, sym, ap, subst, ◌∙◌, arith}
use Rattle.std.proofs.lemmas.List.{append-nil, map-append}
use Rattle.std.proofs.lemmas.List.Elements.{All-nil, All-push, filter-append}
use Rattle.std.specs.Prelude.{IfNone, IfSome, if◌then◌else◌, not, slice_set}
use Rattle.connection_core.specs.Connection.{ConnectionState, fresh, fresh_dial}
use Rattle.connection_core.specs.Outgoing.{Outlet}
use Rattle.engine_config.specs.declared.config.Config.{Config}
use Rattle.engine_end.specs.Records.{accepted_of, dialled_of}
use Rattle.engine_laws.specs.walks.Walks as walk
use Rattle.engine_laws.specs.walks.Walks.{TurnStep, Walk}
use Rattle.engine_loop.specs.Engines.{until_of}
use Rattle.engine_loop.specs.Turns.{AcceptsNext, AtWire, DialsSession, MakesTurn, TakesTurn, accepted_after}
use Rattle.engine_loop.specs.declared.engine.Engine.{Engine}
use Rattle.engine_loop.specs.declared.records.Taken.{Taken}
use Rattle.engine_loop.specs.declared.records.Turn.{Turn}
use Rattle.gate_io.specs.MemWire.{ChangesLink, LinkState, WireState, is_of_dial}
use Rattle.gate_io.specs.Wire.{Accepts, Dials as TheWireDials, Door, Link}
use Rattle.gate_io.specs.declared.dials.Dialled.{Dialled}
use Rattle.gate_io.specs.declared.dials.Dialled.TheVariants as dial
use Rattle.gate_io.specs.declared.wires.Accepted.{Accepted}
use Rattle.gate_io.specs.declared.wires.Accepted.TheVariants as accept
use Rattle.gate_io.specs.declared.wires.TheConstants.{FIRST_DIALLED}
use Rattle.headline.proofs.Carrying.{StaysAside, each_step}
use Rattle.headline.proofs.Steady.{Steady, steady_kept, steady_order}
use Rattle.headline.proofs.Walk.{EngineKeeps, gathered, gathered_in_turn, quiet_door, quiet_step}
use Rattle.headline.proofs.Walking.{each_in_turn, walked}
use Rattle.headline.specs.Numbering.{AreInOrder, CountsAsAnswered, IsInOrder, numbers_of}
use Rattle.headline.specs.Needed.{WalkLaws}
use Rattle.lease_desk.specs.Desk.{Gathers, InTurn}
use Rattle.lease_desk.specs.declared.desk.LeaseDesk.{LeaseDesk}
use Rattle.library_api.specs.Reads.{numbers_from}
use Rattle.library_desk.specs.Happening.{RunsFor}
use Rattle.library_desk.specs.Serving.{Serves}
use Rattle.library_desk.specs.declared.desk.LibraryDesk.{LibraryDesk}
use Rattle.library_desk.specs.declared.serving.LibTurn.{LibTurn}
use Rattle.library_desk.specs.declared.shared.Shared.{Shared}
use Rattle.script_run.specs.Comes.{ComesAs}
use Rattle.script_run.specs.Means.{StartsRun}
use Rattle.script_run.specs.Runs.{CallsBetween, Carries, CarriesAt, CarriesOut, Meets, TurnsOver, with_room}
use Rattle.script_run.specs.declared.run.Run.{Run}
use Rattle.script_text.specs.declared.steps.LibStep.{LibStep}
use Rattle.script_text.specs.declared.steps.Step.{Step}
use Rattle.script_text.specs.declared.steps.Step.TheVariants as step
use Rattle.switchboard.specs.Board.{Board, connection_at}
use Rattle.wire_desk.specs.Dials.{DialsAs}
use Rattle.wire_desk.specs.Steps.{AcceptsAs}
use Rattle.wire_desk.specs.declared.dialling.Dialler.{Dialler}

-- one number more
pub numbers_more : (first count : ℕ) → numbers_from first (suc count) ≡ numbers_from first count ++ (first + count) ∷ []
numbers_more first zero = (let e : first ≡ first + 0 = omega arith in ap (λ n. n ∷ []) e)
numbers_more first (suc count) =
    let e : first + 1 + count ≡ first + suc count = omega arith in
    ap (λ ns. first ∷ ns) (numbers_more (first + 1) count ∙ ap (λ n. numbers_from (first + 1) count ++ n ∷ []) e)

-- one connection more, accepted or dialled
one_accepted : (accepted dialled number at : ℕ) (out : Outlet) (connections : List ConnectionState) → number ≡ accepted → AreInOrder accepted dialled connections
    → AreInOrder (accepted + 1) dialled (connections ++ fresh number at out ∷ [])
one_accepted accepted dialled number at out connections is are =
    let c = fresh number at out in
    let next : number ≡ 0 + accepted = omega arith in
    let count : suc accepted ≡ accepted + 1 = omega arith in
    record {
      accepted_are =
          ap numbers_of (filter-append (λ (x : ConnectionState). not x.dialled) connections (c ∷ [])) ∙ map-append (λ (x : ConnectionState). x.number) (accepted_of connections) (c ∷ [])
          ∙ ap (λ ns. ns ++ number ∷ []) are.accepted_are ∙ ap (λ n. numbers_from 0 accepted ++ n ∷ []) next ∙ sym (numbers_more 0 accepted) ∙ ap (numbers_from 0) count;
      dialled_are = ap numbers_of (filter-append (λ (x : ConnectionState). x.dialled) connections (c ∷ []) ∙ append-nil (dialled_of connections)) ∙ are.dialled_are;
      answered = All-push CountsAsAnswered connections c are.answered (λ here. refl);
    }

one_dialled : (accepted dialled number at s : ℕ) (out : Outlet) (connections : List ConnectionState) → number ≡ FIRST_DIALLED + dialled → AreInOrder accepted dialled connections
    → AreInOrder accepted (dialled + 1) (connections ++ fresh_dial number at s out ∷ [])
one_dialled accepted dialled number at s out connections is are =
    let c = fresh_dial number at s out in
    let count : suc dialled ≡ dialled + 1 = omega arith in
    record {
      accepted_are = ap numbers_of (filter-append (λ (x : ConnectionState). not x.dialled) connections (c ∷ []) ∙ append-nil (accepted_of connections)) ∙ are.accepted_are;
      dialled_are =
          ap numbers_of (filter-append (λ (x : ConnectionState). x.dialled) connections (c ∷ [])) ∙ map-append (λ (x : ConnectionState). x.number) (dialled_of connections) (c ∷ [])
          ∙ ap (λ ns. ns ++ number ∷ []) are.dialled_are ∙ ap (λ n. numbers_from FIRST_DIALLED dialled ++ n ∷ []) is ∙ sym (numbers_more FIRST_DIALLED dialled) ∙ ap (numbers_from FIRST_DIALLED) count;
      answered = All-push CountsAsAnswered connections c are.answered (λ here. absurd (cc));
    }

-- an engine over its wire: as many were accepted as the wire gave
pub record AreAt (accepted : ℕ) (door : Door) (board : Board) : Type 0 where
  pub counted : accepted ≡ door.accepted
  pub connections : AreInOrder door.accepted door.dialled board.connections

abbrev pub AtWireInOrder : AtWire → Type 0
AtWireInOrder at = AreAt at.engine.accepted at.door at.engine.sessions.desk.board

same_order : (old new : Door) (board : Board) → new.accepted ≡ old.accepted → new.dialled ≡ old.dialled → AreInOrder old.accepted old.dialled board.connections → AreInOrder new.accepted new.dialled board.connections
same_order old new board accepted dialled are =
    subst (λ n. AreInOrder n new.dialled board.connections) (sym accepted) (subst (λ n. AreInOrder old.accepted n board.connections) (sym dialled) are)

-- the wire is asked for one
asked : (answer : Accepted) (at : ℕ) (count_old count_new : ℕ) (door_old door_new : Door) (links : ℕ → Link) (old new : LeaseDesk) → Accepts door_old door_new links answer → AcceptsAs answer at old new
    → count_new ≡ accepted_after answer count_old → AreAt count_old door_old old.board → AreAt count_new door_new new.board
asked (accept.New c) at count_old count_new door_old door_new links old new answers comes counted was =
    let accepted : door_new.accepted ≡ door_old.accepted + 1 = ap (λ (d : Door). d.accepted) answers.1 in
    let dialled : door_new.dialled ≡ door_old.dialled = ap (λ (d : Door). d.dialled) answers.1 in
    let board : new.board.connections ≡ old.board.connections ++ fresh c at (connection_at new.board (length old.board.connections)).out ∷ [] = ap (λ (b : Board). b.connections) comes.0.connection in
    record {
      counted = counted ∙ ap (λ n. n + 1) was.counted ∙ sym accepted;
      connections = subst (λ n. AreInOrder n door_new.dialled new.board.connections) (sym accepted) (subst (λ n. AreInOrder (door_old.accepted + 1) n new.board.connections) (sym dialled)
          (subst (AreInOrder (door_old.accepted + 1) door_old.dialled) (sym board) (one_accepted door_old.accepted door_old.dialled c at (connection_at new.board (length old.board.connections)).out old.board.connections answers.0 was.connections)));
    }
asked accept.Nothing at count_old count_new door_old door_new links old new answers same counted was =
    let accepted : door_new.accepted ≡ door_old.accepted = ap (λ (d : Door). d.accepted) answers.0 in
    record {
      counted = counted ∙ was.counted ∙ sym accepted;
      connections = same_order door_old door_new new.board accepted (ap (λ (d : Door). d.dialled) answers.0)
          (subst (λ (desk : LeaseDesk). AreInOrder door_old.accepted door_old.dialled desk.board.connections) (sym same) was.connections);
    }
asked accept.Failed at count_old count_new door_old door_new links old new answers same counted was =
    let accepted : door_new.accepted ≡ door_old.accepted = ap (λ (d : Door). d.accepted) answers.0 in
    record {
      counted = counted ∙ was.counted ∙ sym accepted;
      connections = same_order door_old door_new new.board accepted (ap (λ (d : Door). d.dialled) answers.0)
          (subst (λ (desk : LeaseDesk). AreInOrder door_old.accepted door_old.dialled desk.board.connections) (sym same) was.connections);
    }

pub next_accepted : (answer : Accepted) (old new : AtWire) → AcceptsNext answer old new → AtWireInOrder old → AtWireInOrder new
next_accepted answer old new is was = elim is [
  | inl asks ↦ asked answer old.engine.moment old.engine.accepted new.engine.accepted old.door new.door new.links old.engine.sessions.desk new.engine.sessions.desk asks.answers asks.accepts asks.counted was
  | inr none ↦ subst AtWireInOrder (sym none.1.1) was
]

-- a session dials
dialled_as : (answer : Option Dialled) (s at until : ℕ) (count : ℕ) (door_old door_new : Door) (links_old links_new : ℕ → Link) (old new : LeaseDesk) (d_old d_new : Dialler)
    → IfSome answer (λ dialled. TheWireDials door_old door_new links_new dialled) → IfNone answer ((door_new ≡ door_old) × (links_new ≡ links_old)) → DialsAs answer s at until old new d_old d_new
    → AreAt count door_old old.board → AreAt count door_new new.board
dialled_as None s at until count door_old door_new links_old links_new old new d_old d_new answers unasked dials was =
    subst (λ (d : Door). AreAt count d new.board) (sym unasked.0) (subst (λ (desk : LeaseDesk). AreAt count door_old desk.board) (sym dials.1.0) was)
dialled_as (Some dial.Failed) s at until count door_old door_new links_old links_new old new d_old d_new answers unasked dials was =
    let accepted : door_new.accepted ≡ door_old.accepted = ap (λ (d : Door). d.accepted) answers.0 in
    record {
      counted = was.counted ∙ sym accepted;
      connections = same_order door_old door_new new.board accepted (ap (λ (d : Door). d.dialled) answers.0)
          (subst (λ (desk : LeaseDesk). AreInOrder door_old.accepted door_old.dialled desk.board.connections) (sym dials.1.0) was.connections);
    }
dialled_as (Some (dial.New number)) s at until count door_old door_new links_old links_new old new d_old d_new answers unasked dials was =
    let accepted : door_new.accepted ≡ door_old.accepted = ap (λ (d : Door). d.accepted) answers.1 in
    let dialled : door_new.dialled ≡ door_old.dialled + 1 = ap (λ (d : Door). d.dialled) answers.1 in
    let to = dials.1.0 in
    let before = steady_order door_old.accepted door_old.dialled old.board to.gathered.board (gathered Steady steady_kept s at until old to.gathered to.gathers) was.connections in
    record {
      counted = was.counted ∙ sym accepted;
      connections = subst (λ n. AreInOrder n door_new.dialled new.board.connections) (sym accepted) (subst (λ n. AreInOrder door_old.accepted n new.board.connections) (sym dialled)
          (subst (AreInOrder door_old.accepted (door_old.dialled + 1)) (sym to.dials.connection) (one_dialled door_old.accepted door_old.dialled number at s (connection_at new.board (length to.gathered.board.connections)).out to.gathered.board.connections answers.0 before)));
    }

session_dialled : (s : ℕ) (old new : AtWire) → DialsSession s old new → AtWireInOrder old → AtWireInOrder new
session_dialled s old new is was =
    subst (λ n. AreAt n new.door new.engine.sessions.desk.board) (sym (ap (λ (e : Engine). e.accepted) is.rest))
    (dialled_as is.answer s old.engine.moment (until_of old.engine) old.engine.accepted old.door new.door old.links new.links old.engine.sessions.desk new.engine.sessions.desk old.engine.dialler new.engine.dialler
    is.answers is.unasked is.dials was)

pub all_dialled : (count : ℕ) (old new : AtWire) → InTurn DialsSession count old new → AtWireInOrder old → AtWireInOrder new
all_dialled count old new dials = each_in_turn DialsSession (λ a b. AtWireInOrder a → AtWireInOrder b) (λ a i. i) (λ a b c one two i. two (one i)) session_dialled count old new dials

-- the other steps
kept_at : (door : Door) (old new : Engine) → EngineKeeps Steady steady_kept old new → AreAt old.accepted door old.sessions.desk.board → AreAt new.accepted door new.sessions.desk.board
kept_at door old new keeps was = record {
  counted = keeps.accepted ∙ was.counted;
  connections = steady_order door.accepted door.dialled old.sessions.desk.board new.sessions.desk.board keeps.board was.connections;
}

module _ (walks : WalkLaws) (serves : (library at until : ℕ) (old new : LibraryDesk) (turn : LibTurn) → Serves library at until old new turn → RunsFor at old.desk.board new.desk.board) where
  -- each step of a turn keeps the order
  turn_step : (old new : AtWire) → TurnStep old new → AtWireInOrder old → AtWireInOrder new
  turn_step _ _ (walk.accepted answer old new is) was = next_accepted answer old new is was
  turn_step _ _ (walk.dialled s old new is) was = session_dialled s old new is was
  turn_step _ _ (walk.quiet old new is) was =
      subst (λ (d : Door). AreAt new.engine.accepted d new.engine.sessions.desk.board) (sym (quiet_door old new is)) (kept_at old.door old.engine new.engine (quiet_step Steady steady_kept walks serves old new is) was)

  turn_steps : (old new : AtWire) → Walk TurnStep old new → AtWireInOrder old → AtWireInOrder new
  turn_steps = walked TurnStep (λ a b. AtWireInOrder a → AtWireInOrder b) (λ a i. i) (λ a b c one two i. two (one i)) turn_step

  -- the first half of a turn, and a whole one
  pub half_taken : (reading : ℕ) (old new : AtWire) (taken : Taken) → TakesTurn reading old new taken → AtWireInOrder old → AtWireInOrder new
  half_taken reading old new taken is was = turn_steps _ new (walks.takes reading old new taken is) (record { counted = was.counted; connections = was.connections })

  pub turn_made : (reading : ℕ) (old new : AtWire) (turn : Turn) → MakesTurn reading old new turn → AtWireInOrder old → AtWireInOrder new
  turn_made reading old new turn is was = turn_steps _ new (walks.turn reading old new turn is) (record { counted = was.counted; connections = was.connections })

  abbrev Stays : Run → Run → Type 0
  Stays old new = IsInOrder old → IsInOrder new

  -- the engine's connections stay, and the wire's counts of those that it gave
  untouched : (old new : Run) → new.engine.accepted ≡ old.engine.accepted → new.engine.sessions.desk.board ≡ old.engine.sessions.desk.board → new.wire.accepted ≡ old.wire.accepted → new.wire.dialled ≡ old.wire.dialled → Stays old new
  untouched old new accepted board wire_accepted wire_dialled was = record {
    counted = accepted ∙ was.counted ∙ sym wire_accepted;
    connections = subst (λ (b : Board). AreInOrder new.wire.accepted new.wire.dialled b.connections) (sym board) (subst (λ n. AreInOrder n new.wire.dialled old.engine.sessions.desk.board.connections) (sym wire_accepted)
        (subst (λ n. AreInOrder old.wire.accepted n old.engine.sessions.desk.board.connections) (sym wire_dialled) was.connections));
  }

  turned : (old new : Run) → TurnsOver old new → Stays old new
  turned old new is was =
      let ended = turn_made old.clock.moment _ _ is.turn is.turns (record { counted = was.counted; connections = was.connections }) in
      record { counted = ended.counted; connections = ended.connections }

  met : (place : ℕ) (old new : Run) → Meets place old new → Stays old new
  met place old new is was =
      let engine = is.caller.changes.engine in
      untouched old new (ap (λ (e : Engine). e.accepted) engine) (ap (λ (e : Engine). e.sessions.desk.board) engine)
      (ap (λ (run : Run). run.wire.accepted) is.rest) (ap (λ (run : Run). run.wire.dialled) is.rest) was

  called_between : (what : LibStep) (place : ℕ) (old new : Run) → CallsBetween what place old new → Stays old new
  called_between what place old new is was =
      let called = is.calls.rest in
      met place is.called new is.meets_again
      (untouched is.met is.called (ap (λ (run : Run). run.engine.accepted) called) (ap (λ (run : Run). run.engine.sessions.desk.board) called) (ap (λ (run : Run). run.wire.accepted) called) (ap (λ (run : Run). run.wire.dialled) called)
      (met place old is.met is.meets was))

  -- something comes at the wire
  either : (b : Bool) (one two : WireState) (accepted dialled : ℕ) → (one.accepted ≡ accepted) × (one.dialled ≡ dialled) → (two.accepted ≡ accepted) × (two.dialled ≡ dialled)
      → ((if b then one else two).accepted ≡ accepted) × ((if b then one else two).dialled ≡ dialled)
  either true one two accepted dialled first second = first
  either false one two accepted dialled first second = second

  one_link : (old new : WireState) (c : ℕ) (link : LinkState) → ChangesLink old c link new → (new.accepted ≡ old.accepted) × (new.dialled ≡ old.dialled)
  one_link old new c link changes =
      let same = either (is_of_dial c) (record old { taken = slice_set old.taken (c - FIRST_DIALLED) link }) (record old { links = slice_set old.links c link }) old.accepted old.dialled (refl, refl) (refl, refl) in
      (ap (λ (w : WireState). w.accepted) changes.whole ∙ same.0, ap (λ (w : WireState). w.dialled) changes.whole ∙ same.1)

  at_wire_comes : (what : Step) (old new : WireState) → ComesAs what old new → (new.accepted ≡ old.accepted) × (new.dialled ≡ old.dialled)
  at_wire_comes step.Connect old new same = (ap (λ (w : WireState). w.accepted) same, ap (λ (w : WireState). w.dialled) same)
  at_wire_comes step.Take old new same = (ap (λ (w : WireState). w.accepted) same, ap (λ (w : WireState). w.dialled) same)
  at_wire_comes (step.Bytes c bytes) old new changes = one_link old new c _ changes
  at_wire_comes (step.Frame c body) old new changes = one_link old new c _ changes
  at_wire_comes (step.Finish c) old new changes = one_link old new c _ changes
  at_wire_comes (step.FailRead c) old new changes = one_link old new c _ changes
  at_wire_comes (step.FailWrite c after) old new changes = one_link old new c _ changes
  at_wire_comes (step.Block c after) old new changes = one_link old new c _ changes
  at_wire_comes (step.Unblock c) old new changes = one_link old new c _ changes
  at_wire_comes (step.At moment) old new same = (ap (λ (w : WireState). w.accepted) same, ap (λ (w : WireState). w.dialled) same)
  at_wire_comes step.Turn old new same = (ap (λ (w : WireState). w.accepted) same, ap (λ (w : WireState). w.dialled) same)
  at_wire_comes (step.Lib library what) old new same = (ap (λ (w : WireState). w.accepted) same, ap (λ (w : WireState). w.dialled) same)

  -- the wire stays, or something comes there
  same_counts : (old new : Run) → StaysAside old new → (new.wire.accepted ≡ old.wire.accepted) × (new.wire.dialled ≡ old.wire.dialled)
  same_counts old new is = elim is.wire [
    | inl same ↦ (ap (λ (w : WireState). w.accepted) same, ap (λ (w : WireState). w.dialled) same)
    | inr comes ↦ at_wire_comes comes.0 old.wire new.wire comes.1
  ]

  aside : (old new : Run) → StaysAside old new → Stays old new
  aside old new is =
      let wire = same_counts old new is in
      untouched old new (ap (λ (e : Engine). e.accepted) is.engine) (ap (λ (e : Engine). e.sessions.desk.board) is.engine) wire.0 wire.1

  pub carried : (what : Step) (old new : Run) → Carries what old new → Stays old new
  carried = each_step Stays aside (λ old new is was. turned (with_room old) new is (untouched old (with_room old) refl refl refl refl was)) called_between

  pub carried_out : (steps : List Step) (count : ℕ) (old new : Run) → CarriesOut steps count old new → Stays old new
  carried_out steps count old new is = each_in_turn (CarriesAt steps) Stays (λ run i. i) (λ a b c one two i. two (one i)) (λ i a b at. carried at.what a b at.carries) count old new is

-- as a run begins
pub first_numbered : (config : Config) (moment : ℕ) (shared : Shared) (run : Run) → StartsRun config moment shared run → IsInOrder run
first_numbered config moment shared run starts =
    let engine = starts.engine in
    let wire = starts.wire in
    record {
      counted = engine.figures.accepted ∙ sym (ap (λ (w : WireState). w.accepted) wire);
      connections = subst (λ (w : WireState). AreInOrder w.accepted w.dialled run.engine.sessions.desk.board.connections) (sym wire)
          (subst (AreInOrder 0 0) (sym engine.sessions.first.connections) (record { accepted_are = refl; dialled_are = refl; answered = All-nil CountsAsAnswered }));
    }

-- as it ends each session is gathered once more
pub gathered_numbered : (count at until : ℕ) (old new : LeaseDesk) → InTurn (λ s. Gathers s at until) count old new → (accepted dialled : ℕ) → AreInOrder accepted dialled old.board.connections → AreInOrder accepted dialled new.board.connections
gathered_numbered count at until old new gathers accepted dialled are = steady_order accepted dialled old.board new.board (gathered_in_turn Steady steady_kept count at until old new gathers) are
