use Rattle.std.proofs.Common.{ap, arith, rules, ◌∙◌, ◌<◌, ℕ, false, true, replicate, length}
use Rattle.std.proofs.lemmas.List.{length-replicate, length-set}
use Rattle.lease_core.specs.State.{owner_of, state_of}
use Rattle.lease_desk.specs.Desk.{owner_at}
use Rattle.switchboard.specs.Kept.{Kept}
use Rattle.library_desk.proofs.Owned.{marked_first, marked_more, one_more}
use Rattle.library_desk.proofs.owners.Owners.of.Goals as goal

pub loop-s-init : goal.loop-s-init
loop-s-init c = record {
  long = length-replicate {A = ℕ} 64 0;
  wide = length-set (replicate 256 false) 0 true ∙ length-replicate 256 false;
  marked = marked_first 64 256 (omega arith);
  told = λ j below. absurd (omega (arith, below));
}

pub loop-s-preserved : goal.loop-s-preserved
loop-s-preserved c =
    let was = c.loop-s.invariant in
    let sessions = c.sessions-s-end.ensures.sessions in
    let few = c.requires.few in
    let more = c.loop-s-test.true in
    let within = was.long in
    let owner = c.owner-owner.result.0 in
    let inside : c.loop-s.s < length c.loop-s.owners = omega (arith, sessions, few, more, within) in
    let known : owner < length c.loop-s.marks = rw was.wide (search rules) in
    record {
      long = length-set c.loop-s.owners c.loop-s.s owner ∙ was.long;
      wide = length-set c.loop-s.marks owner true ∙ was.wide;
      marked = marked_more c.loop-s.owners c.loop-s.marks c.loop-s.s owner inside known was.marked;
      told = one_more (owner_at c.args.board.now) c.loop-s.owners c.loop-s.s owner inside
          (c.owner-owner.ensures.owner ∙ ap (λ (k : Kept). owner_of (state_of k.book.entries)) c.session.ensures) was.told;
    }
