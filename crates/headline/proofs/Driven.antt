-- Over the turns of a run that is served connections stay numbered in order, and end with each whole piece handed out.
use Rattle.std.proofs.Common.{◌≡◌, ℕ, List, refl, sym, ap, subst, ◌∙◌}
use Rattle.std.proofs.lemmas.List.Elements.{All-nil}
use Rattle.std.specs.List.{All}
use Rattle.engine_config.specs.declared.config.Config.{Config}
use Rattle.engine_loop.specs.Turns.{at_wire}
use Rattle.engine_loop.specs.declared.engine.Engine.{Engine}
use Rattle.gate_io.specs.Wire.{Door, Link}
use Rattle.headline.proofs.Coming.{AtWireInOrder, turn_made}
use Rattle.headline.proofs.Walking.{each_in_turn}
use Rattle.headline.proofs.Whole.{turn_whole}
use Rattle.headline.specs.Ends.{AllEndedWhole, EndedWhole}
use Rattle.headline.specs.Numbering.{AreInOrder, CountsAsAnswered}
use Rattle.lease_core.specs.declared.entry.Entry.{Entry}
use Rattle.library_desk.specs.Happening.{RunsFor}
use Rattle.library_desk.specs.Serving.{Serves}
use Rattle.library_desk.specs.declared.desk.LibraryDesk.{LibraryDesk}
use Rattle.library_desk.specs.declared.serving.LibTurn.{LibTurn}
use Rattle.library_desk.specs.declared.shared.Shared.{Shared}
use Rattle.engine_loop.specs.Starts.{StartsEngineOf}
use Rattle.headline.specs.serving.Driven.{IsAccountedDrive}
use Rattle.headline.specs.Needed.{AccountLaws, WalkLaws}
use Rattle.serve_run.specs.Drives.{Drive, DrivesFor, DrivesOn, DrivesOnce}
use Rattle.session_core.specs.State.{State}

-- as an engine begins at a wire at which nothing came
pub first_in_order : (config : Config) (moment : ℕ) (shared : Shared) (engine : Engine) (door : Door) (links : ℕ → Link) → StartsEngineOf config moment shared engine → door.accepted ≡ 0 → door.dialled ≡ 0 → AtWireInOrder (at_wire engine door links)
first_in_order config moment shared engine door links starts accepted dialled = record {
  counted = starts.figures.accepted ∙ sym accepted;
  connections = subst (λ n. AreInOrder n door.dialled engine.sessions.desk.board.connections) (sym accepted) (subst (λ n. AreInOrder 0 n engine.sessions.desk.board.connections) (sym dialled)
      (subst (AreInOrder 0 0) (sym starts.sessions.first.connections) (record { accepted_are = refl; dialled_are = refl; answered = All-nil CountsAsAnswered })));
}

pub first_ended : (config : Config) (moment : ℕ) (shared : Shared) (engine : Engine) → StartsEngineOf config moment shared engine → AllEndedWhole engine.sessions.desk.board
first_ended config moment shared engine starts = subst (All EndedWhole) (sym starts.sessions.first.connections) (All-nil EndedWhole)

module _ (walks : WalkLaws) (serves : (library at until : ℕ) (old new : LibraryDesk) (turn : LibTurn) → Serves library at until old new turn → RunsFor at old.desk.board new.desk.board) where
  once_in_order : (old new : Drive) → DrivesOnce old new → AtWireInOrder old.at → AtWireInOrder new.at
  once_in_order old new is was =
      let one = is.makes in
      let made = turn_made walks serves is.reading old.at one.made is.turn one.makes was in
      let same : at_wire one.made.engine one.made.door new.at.links ≡ new.at =
      ap (λ (e : Engine). at_wire e one.made.door new.at.links) (sym one.engine) ∙ ap (λ (d : Door). at_wire new.at.engine d new.at.links) (sym one.door) in
      subst AtWireInOrder same (record { counted = made.counted; connections = made.connections })

  pub drove_in_order : (connections libraries count : ℕ) (old new : Drive) → DrivesFor connections libraries count old new → AtWireInOrder old.at → AtWireInOrder new.at
  drove_in_order connections libraries count old new is was =
      each_in_turn (λ i. DrivesOn connections libraries) (λ a b. AtWireInOrder a.at → AtWireInOrder b.at) (λ d so. so) (λ a b c one two so. two (one so)) (λ i a b on. once_in_order a b on.drives) count old new is was

module _ (before : ℕ → List Entry) (start : ℕ → State) (g : AccountLaws) (stays : (old new : Drive) → DrivesOnce old new → IsAccountedDrive before start old → IsAccountedDrive before start new) where
  abbrev WholeAt : Drive → Type 0
  WholeAt drive = AllEndedWhole drive.at.engine.sessions.desk.board

  once_whole : (old new : Drive) → DrivesOnce old new → IsAccountedDrive before start old → WholeAt old → WholeAt new
  once_whole old new is accounted was =
      let one = is.makes in
      subst (λ (e : Engine). AllEndedWhole e.sessions.desk.board) (sym one.engine) (turn_whole before start g is.reading old.at one.made is.turn one.makes accounted.engine.ready accounted.engine.account was)

  abbrev KeepsWhole : Drive → Drive → Type 0
  KeepsWhole old new = IsAccountedDrive before start old → WholeAt old → IsAccountedDrive before start new × WholeAt new

  pub drove_whole : (connections libraries count : ℕ) (old new : Drive) → DrivesFor connections libraries count old new → IsAccountedDrive before start old → WholeAt old → WholeAt new
  drove_whole connections libraries count old new is accounted was =
      (each_in_turn (λ i. DrivesOn connections libraries) KeepsWhole (λ d so whole. (so, whole)) (λ a b c one two so whole. (let between = one so whole in two between.0 between.1))
      (λ i a b on so whole. (stays a b on.drives so, once_whole a b on.drives so whole)) count old new is accounted was).1
