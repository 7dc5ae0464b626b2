-- No more connections are accepted and dialled than a run is configured with.
use Rattle.std.proofs.Common.{◌≡◌, inl, inr, ℕ, ◌+◌, ◌<◌, ◌≤◌, Option, None, Some, refl, sym, ap, subst, ◌∙◌, arith}
use Rattle.std.specs.Prelude.{IfNone, IfSome}
use Rattle.engine_config.specs.declared.config.Config.{Config}
use Rattle.engine_laws.specs.walks.Walks as walk
use Rattle.engine_laws.specs.walks.Walks.{TurnStep}
use Rattle.engine_loop.specs.Engines.{until_of}
use Rattle.engine_loop.specs.Turns.{AcceptsNext, AtWire, DialsSession, MakesTurn, accepted_after, at_wire}
use Rattle.engine_loop.specs.declared.engine.Engine.{Engine}
use Rattle.engine_loop.specs.declared.records.Turn.{Turn}
use Rattle.gate_io.specs.Wire.{Accepts, Dials as TheWireDials, Door, Link}
use Rattle.gate_io.specs.declared.dials.Dialled.{Dialled}
use Rattle.gate_io.specs.declared.dials.Dialled.TheVariants as dial
use Rattle.gate_io.specs.declared.wires.Accepted.{Accepted}
use Rattle.gate_io.specs.declared.wires.Accepted.TheVariants as accept
use Rattle.headline.proofs.Steady.{Steady, steady_kept}
use Rattle.headline.proofs.Walk.{EngineKeeps, quiet_door, quiet_step, waits_by}
use Rattle.headline.proofs.Walking.{each_in_turn, walked}
use Rattle.headline.specs.Needed.{WalkLaws}
use Rattle.lease_desk.specs.declared.desk.LeaseDesk.{LeaseDesk}
use Rattle.library_desk.specs.Happening.{RunsFor}
use Rattle.library_desk.specs.Serving.{Serves}
use Rattle.library_desk.specs.declared.desk.LibraryDesk.{LibraryDesk}
use Rattle.library_desk.specs.declared.serving.LibTurn.{LibTurn}
use Rattle.library_desk.specs.declared.shared.Shared.{Shared}
use Rattle.engine_loop.specs.Starts.{StartsEngineOf}
use Rattle.serve_run.specs.Drives.{Drive, DrivesFor, DrivesOn, DrivesOnce}
use Rattle.wire_desk.specs.Dials.{DialsAs, plan_at}
use Rattle.wire_desk.specs.declared.dialling.Dialler.{Dialler}

module _ (connections dials : ℕ) where
  -- as many connections may be accepted and dialled as are configured, no more were, and the wire tells of as many dials
  pub record AreFew (accepted limit : ℕ) (d : Dialler) (door : Door) : Type 0 where
    pub limit_is : limit ≡ connections
    pub accepted_few : accepted ≤ connections
    pub most : d.most ≡ dials
    pub made : d.made ≡ door.dialled
    pub few : d.made ≤ dials

  abbrev pub AreFewAt : AtWire → Type 0
  AreFewAt at = AreFew at.engine.accepted at.engine.connections at.engine.dialler at.door

  same_few : (limit accepted_old accepted_new : ℕ) (d_old d_new : Dialler) (old new : Door) → accepted_new ≡ accepted_old → d_new.made ≡ d_old.made → d_new.most ≡ d_old.most → new.dialled ≡ old.dialled
      → AreFew accepted_old limit d_old old → AreFew accepted_new limit d_new new
  same_few limit accepted_old accepted_new d_old d_new old new accepted made most dialled was = record {
    limit_is = was.limit_is;
    accepted_few = subst (λ n. n ≤ connections) (sym accepted) was.accepted_few;
    most = most ∙ was.most;
    made = made ∙ was.made ∙ sym dialled;
    few = subst (λ n. n ≤ dials) (sym made) was.few;
  }

  -- the wire is asked for one, where fewer were accepted
  asked : (answer : Accepted) (count_old count_new limit : ℕ) (d : Dialler) (old new : Door) (links : ℕ → Link) → Accepts old new links answer → count_old < limit → count_new ≡ accepted_after answer count_old
      → AreFew count_old limit d old → AreFew count_new limit d new
  asked (accept.New c) count_old count_new limit d old new links answers due counted was =
      let limit_is = was.limit_is in
      record {
        limit_is = limit_is;
        accepted_few = omega arith;
        most = was.most;
        made = was.made ∙ sym (ap (λ (door : Door). door.dialled) answers.1);
        few = was.few;
      }
  asked accept.Nothing count_old count_new limit d old new links answers due counted was =
      same_few limit count_old count_new d d old new counted refl refl (ap (λ (door : Door). door.dialled) answers.0) was
  asked accept.Failed count_old count_new limit d old new links answers due counted was =
      same_few limit count_old count_new d d old new counted refl refl (ap (λ (door : Door). door.dialled) answers.0) was

  next_accepted : (answer : Accepted) (old new : AtWire) → AcceptsNext answer old new → AreFewAt old → AreFewAt new
  next_accepted answer old new is was = elim is [
    | inl asks ↦
        (let limit = ap (λ (e : Engine). e.connections) asks.rest in
        let d = ap (λ (e : Engine). e.dialler) asks.rest in
        subst (λ n. AreFew new.engine.accepted n new.engine.dialler new.door) (sym limit) (subst (λ (x : Dialler). AreFew new.engine.accepted old.engine.connections x new.door) (sym d)
        (asked answer old.engine.accepted new.engine.accepted old.engine.connections old.engine.dialler old.door new.door new.links asks.answers asks.due asks.counted was)))
    | inr none ↦ subst AreFewAt (sym none.1.1) was
  ]

  -- a session dials, where fewer dials were made
  dialled_as : (answer : Option Dialled) (s at until : ℕ) (count limit : ℕ) (door_old door_new : Door) (links_old links_new : ℕ → Link) (old new : LeaseDesk) (d_old d_new : Dialler)
      → IfSome answer (λ dialled. TheWireDials door_old door_new links_new dialled) → IfNone answer ((door_new ≡ door_old) × (links_new ≡ links_old)) → DialsAs answer s at until old new d_old d_new
      → AreFew count limit d_old door_old → AreFew count limit d_new door_new
  dialled_as None s at until count limit door_old door_new links_old links_new old new d_old d_new answers unasked is was =
      subst (λ (x : Dialler). AreFew count limit x door_new) (sym is.1.1) (subst (λ (x : Door). AreFew count limit d_old x) (sym unasked.0) was)
  dialled_as (Some dial.Failed) s at until count limit door_old door_new links_old links_new old new d_old d_new answers unasked is was =
      let waits = waits_by (plan_at d_old s) s at d_old d_new is.1.1 in
      same_few limit count count d_old d_new door_old door_new refl waits.made waits.most (ap (λ (door : Door). door.dialled) answers.0) was
  dialled_as (Some (dial.New number)) s at until count limit door_old door_new links_old links_new old new d_old d_new answers unasked is was =
      let left = is.0.left in
      let most_is = was.most in
      let made : d_new.made ≡ d_old.made + 1 = ap (λ (d : Dialler). d.made) is.1.1 in
      let most : d_new.most ≡ d_old.most = ap (λ (d : Dialler). d.most) is.1.1 in
      let door : door_new.dialled ≡ door_old.dialled + 1 = ap (λ (d : Door). d.dialled) answers.1 in
      record {
        limit_is = was.limit_is;
        accepted_few = was.accepted_few;
        most = most ∙ was.most;
        made = made ∙ ap (λ n. n + 1) was.made ∙ sym door;
        few = omega arith;
      }

  session_dialled : (s : ℕ) (old new : AtWire) → DialsSession s old new → AreFewAt old → AreFewAt new
  session_dialled s old new is was =
      let accepted = ap (λ (e : Engine). e.accepted) is.rest in
      let limit = ap (λ (e : Engine). e.connections) is.rest in
      subst (λ n. AreFew n new.engine.connections new.engine.dialler new.door) (sym accepted) (subst (λ n. AreFew old.engine.accepted n new.engine.dialler new.door) (sym limit)
      (dialled_as is.answer s old.engine.moment (until_of old.engine) old.engine.accepted old.engine.connections old.door new.door old.links new.links old.engine.sessions.desk new.engine.sessions.desk
      old.engine.dialler new.engine.dialler is.answers is.unasked is.dials was))

  -- the other steps
  kept_few : (door : Door) (old new : Engine) → EngineKeeps Steady steady_kept old new → AreFew old.accepted old.connections old.dialler door → AreFew new.accepted new.connections new.dialler door
  kept_few door old new keeps was =
      subst (λ n. AreFew new.accepted n new.dialler door) (sym keeps.connections)
      (same_few old.connections old.accepted new.accepted old.dialler new.dialler door door keeps.accepted keeps.dials.made keeps.dials.most refl was)

  module _ (walks : WalkLaws) (serves : (library at until : ℕ) (old new : LibraryDesk) (turn : LibTurn) → Serves library at until old new turn → RunsFor at old.desk.board new.desk.board) where
    step : (old new : AtWire) → TurnStep old new → AreFewAt old → AreFewAt new
    step _ _ (walk.accepted answer old new is) was = next_accepted answer old new is was
    step _ _ (walk.dialled s old new is) was = session_dialled s old new is was
    step _ _ (walk.quiet old new is) was =
        subst (AreFew new.engine.accepted new.engine.connections new.engine.dialler) (sym (quiet_door old new is)) (kept_few old.door old.engine new.engine (quiet_step Steady steady_kept walks serves old new is) was)

    turn_few : (reading : ℕ) (old new : AtWire) (turn : Turn) → MakesTurn reading old new turn → AreFewAt old → AreFewAt new
    turn_few reading old new turn is was =
        walked TurnStep (λ a b. AreFewAt a → AreFewAt b) (λ a i. i) (λ a b c one two i. two (one i)) step _ new (walks.turn reading old new turn is)
        (record { limit_is = was.limit_is; accepted_few = was.accepted_few; most = was.most; made = was.made; few = was.few })

    once_few : (old new : Drive) → DrivesOnce old new → AreFewAt old.at → AreFewAt new.at
    once_few old new is was =
        let one = is.makes in
        let made = turn_few is.reading old.at one.made is.turn one.makes was in
        subst (λ (e : Engine). AreFew e.accepted e.connections e.dialler new.at.door) (sym one.engine)
        (subst (AreFew one.made.engine.accepted one.made.engine.connections one.made.engine.dialler) (sym one.door) made)

    pub drove_few : (count_of libraries count : ℕ) (old new : Drive) → DrivesFor count_of libraries count old new → AreFewAt old.at → AreFewAt new.at
    drove_few count_of libraries count old new is was =
        each_in_turn (λ i. DrivesOn count_of libraries) (λ a b. AreFewAt a.at → AreFewAt b.at) (λ d so. so) (λ a b c one two so. two (one so)) (λ i a b on. once_few a b on.drives) count old new is was

-- as an engine begins at a wire at which nothing came
pub first_few : (config : Config) (moment : ℕ) (shared : Shared) (engine : Engine) (door : Door) (links : ℕ → Link) → StartsEngineOf config moment shared engine → door.dialled ≡ 0
    → AreFewAt config.connections config.dials (at_wire engine door links)
first_few config moment shared engine door links starts dialled =
    let accepted = starts.figures.accepted in
    let made = starts.dials.made in
    record {
      limit_is = starts.figures.connections;
      accepted_few = omega arith;
      most = starts.dials.most;
      made = made ∙ sym dialled;
      few = omega arith;
    }
