-- The engine of a run that is served stays accounted for, turn by turn.
use Rattle.std.proofs.Common.{◌≡◌, ℕ, List, sym, subst, arith}
use Rattle.engine_loop.specs.Engines.{IsAtWork, IsOnline}
use Rattle.engine_loop.specs.Turns.{AtWire, MakesTurn}
use Rattle.engine_loop.specs.declared.engine.Engine.{Engine}
use Rattle.engine_loop.specs.declared.records.Turn.{Turn}
use Rattle.gate_io.specs.Wire.{Link, LinkGoesOn}
use Rattle.lease_core.specs.declared.entry.Entry.{Entry}
use Rattle.library_desk.specs.declared.desk.LibraryDesk.{LibraryDesk}
use Rattle.library_desk.specs.declared.shared.Shared.{Shared}
use Rattle.headline.proofs.Walking.{each_in_turn}
use Rattle.headline.specs.runs.Accounted.{IsAccountedAt}
use Rattle.headline.specs.runs.Sides.{DeskGoesOn}
use Rattle.headline.specs.serving.Driven.{IsAccountedDrive}
use Rattle.serve_run.specs.Drives.{Drive, DrivesFor, DrivesOn, DrivesOnce}
use Rattle.session_core.specs.State.{State}
use Rattle.switchboard.specs.Board.{Board}
use Rattle.switchboard.specs.Ready.{IsReady}
use Rattle.engine_laws.specs.texts.Taken.{TookTheirTexts}

-- what the laws of turns and texts say
pub record DriveLaws (before : ℕ → List Entry) (start : ℕ → State) : Type 0 where
  pub turn : (reading : ℕ) (old new : AtWire) (turn : Turn) → MakesTurn reading old new turn → IsAccountedAt before start old.engine.moment old.engine.sessions → IsAccountedAt before start new.engine.moment new.engine.sessions
  pub text_turn : (shared : Shared) (reading : ℕ) (old new : AtWire) (turn : Turn) → MakesTurn reading old new turn → IsAtWork shared old.engine → IsOnline old.engine old.door old.links
      → IsReady before old.engine.sessions.desk.board → TookTheirTexts old.engine.sessions.desk.board old.links → TookTheirTexts new.engine.sessions.desk.board new.links
  pub text_known : (board : Board) (old new : ℕ → Link) → ((c : ℕ) → LinkGoesOn (old c) (new c)) → TookTheirTexts board old → TookTheirTexts board new

-- counts that stay don't fall
link_stays : (old new : Link) → new ≡ old → LinkGoesOn old new
link_stays old new same = subst (LinkGoesOn old) (sym same) (record { read_faults = omega arith; read_blocks = omega arith; ends = omega arith; write_faults = omega arith; write_blocks = omega arith })

module _ (before : ℕ → List Entry) (start : ℕ → State) (laws : DriveLaws before start) where
  pub drove_once : (old new : Drive) → DrivesOnce old new → IsAccountedDrive before start old → IsAccountedDrive before start new
  drove_once old new is was =
      let one = is.makes in
      let engine = laws.turn is.reading old.at one.made is.turn one.makes was.engine in
      let texts = laws.text_turn is.shared is.reading old.at one.made is.turn one.makes is.work is.online was.engine.ready was.texts in
      record {
        engine = subst (λ (e : Engine). IsAccountedAt before start e.moment e.sessions) (sym one.engine) engine;
        texts = subst (λ (e : Engine). TookTheirTexts e.sessions.desk.board new.at.links) (sym one.engine)
            (laws.text_known one.made.engine.sessions.desk.board one.made.links new.at.links (λ c. link_stays (one.made.links c) (new.at.links c) (one.links c)) texts);
      }

  pub drove_for : (connections libraries count : ℕ) (old new : Drive) → DrivesFor connections libraries count old new → IsAccountedDrive before start old → IsAccountedDrive before start new
  drove_for connections libraries count old new is was =
      each_in_turn (λ i. DrivesOn connections libraries) (λ a b. IsAccountedDrive before start a → IsAccountedDrive before start b) (λ d so. so) (λ a b c one two so. two (one so)) (λ i a b on. drove_once a b on.drives) count old new is was

-- nothing is lost
pub record GoingLaws : Type 0 where
  pub turn : (reading : ℕ) (old new : AtWire) (turn : Turn) → MakesTurn reading old new turn → DeskGoesOn old.engine.sessions new.engine.sessions
  pub itself : (d : LibraryDesk) → DeskGoesOn d d
  pub further : (first second third : LibraryDesk) → DeskGoesOn first second → DeskGoesOn second third → DeskGoesOn first third

module _ (laws : GoingLaws) where
  once_on : (old new : Drive) → DrivesOnce old new → DeskGoesOn old.at.engine.sessions new.at.engine.sessions
  once_on old new is = subst (λ (e : Engine). DeskGoesOn old.at.engine.sessions e.sessions) (sym is.makes.engine) (laws.turn is.reading old.at is.makes.made is.turn is.makes.makes)

  pub drove_on : (connections libraries count : ℕ) (old new : Drive) → DrivesFor connections libraries count old new → DeskGoesOn old.at.engine.sessions new.at.engine.sessions
  drove_on connections libraries count old new is =
      each_in_turn (λ i. DrivesOn connections libraries) (λ a b. DeskGoesOn a.at.engine.sessions b.at.engine.sessions) (λ d. laws.itself d.at.engine.sessions)
      (λ a b c one two. laws.further a.at.engine.sessions b.at.engine.sessions c.at.engine.sessions one two) (λ i a b on. once_on a b on.drives) count old new is
