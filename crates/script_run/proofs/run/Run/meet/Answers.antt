use Rattle.std.proofs.Common.{◌≡◌, refl}
use Rattle.std.proofs.lemmas.Option.{slice_get_read}
use Rattle.gate_io.specs.MemWire.{door_of, link_at}
use Rattle.script_run.proofs.Seated.{one_set}
use Rattle.script_run.proofs.run.Run.meet.Goals as goal

pub returns-clause-meets : goal.returns-clause-meets
returns-clause-meets c =
    let found = slice_get_read c.args.self.now.callers.items _ c.args.place c.index_mut.result.now refl c.requires.place c.index_mut.ensures.value in
    record {
      caller = record { before = c.index_mut.result.now; after = c.meet.new.caller; found = found; changes = c.meet.ensures.meets; callers = refl };
      rest = refl;
    }

pub returns-clause-running : goal.returns-clause-running
returns-clause-running c = record {
  engine = c.meet.ensures.engine (door_of c.args.self.now.wire) (link_at c.args.self.now.wire) c.requires.running.engine;
  callers = one_set c.args.shared.now c.args.self.now.callers.items c.args.place c.meet.new.caller c.requires.running.callers c.meet.ensures.caller;
}
