-- What a wire that pauses tells.
use Rattle.std.proofs.Common.{◌≡◌, ℕ, ap}
use Rattle.gate_io.specs.Wire.{Door, Link}
use Rattle.wire_desk.specs.Lines.{KnowsAsBefore}

-- a wire that tells the same is known as before
pub knows_same : (before after : Door) (old new : ℕ → Link) → after ≡ before → ((k : ℕ) → new k ≡ old k) → KnowsAsBefore before after old new
knows_same before after old new door links = record {
  accepted = ap (λ (d : Door). d.accepted) door;
  dialled = ap (λ (d : Door). d.dialled) door;
  closed = λ k. ap (λ (l : Link). l.closed) (links k);
  written = λ k. ap (λ (l : Link). l.written) (links k);
}
