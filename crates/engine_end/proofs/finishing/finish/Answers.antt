use Rattle.std.proofs.Common.{inl, sym, subst}
use Rattle.engine_end.specs.Room.{HasRoomFor}
use Rattle.lease_desk.specs.Desk.{AllAgree}
use Rattle.lease_desk.specs.declared.desk.LeaseDesk.{LeaseDesk}
use Rattle.engine_end.proofs.finishing.finish.Goals as goal

pub returns-in-Err-clause-finishes_short : goal.returns-in-Err-clause-finishes_short
returns-in-Err-clause-finishes_short c = record {
  gathered = c.settle_all.new.desk;
  gathers = inl c.settle_all.ensures;
  agree = subst (λ (d : LeaseDesk). AllAgree d.board d.seat) (sym c.settle_all.ensures)
      (λ s small. let was = c.requires.steady.in_step.agree s small in record { lines = was.lines; taken = was.taken; published = was.published });
  leaves = c.fill_as_it_holds.ensures.left (subst (λ (d : LeaseDesk). HasRoomFor d.board c.args.spare) (sym c.settle_all.ensures) c.requires.room);
}
