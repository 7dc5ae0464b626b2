use Rattle.std.proofs.Common.{◌≡◌, ◌<◌, length, add-one, arith, refl, ◌∙◌}
use Rattle.std.proofs.lemmas.List.{length-set}
use Rattle.std.proofs.lemmas.Option.{slice_get_read}
use Rattle.serve_run.specs.Meetings.{meeting_of}
use Rattle.serve_run.specs.Workers.{IsWorker}
use Rattle.std.proofs.lemmas.List.Elements.{All-set}
use Rattle.serve_run.proofs.meeting.meet_all.Goals as goal

pub meet-requires-clause-engine : goal.meet-requires-clause-engine
meet-requires-clause-engine c = (c.requires.engine.0, c.requires.engine.1, c.loop-place.invariant.engine _ _ c.requires.engine.2)

pub loop-place-preserved : goal.loop-place-preserved
loop-place-preserved c =
    let was = c.loop-place.invariant in
    let within : c.loop-place.place < length c.loop-place.workers.items = (let test = c.loop-place-test.true in let end = c.len-place-end.ensures in let count = was.count in omega arith) in
    let found = slice_get_read c.loop-place.workers.items _ c.loop-place.place c.index_mut.result.now refl within c.index_mut.ensures.value in
    record {
      meet = rw add-one (meeting_of c.loop-place.engine c.loop-place.workers.items, was.meet, record { before = c.index_mut.result.now; after = c.meet.new.worker; found = found; meets = c.meet.ensures.meets; workers = refl });
      engine = λ door links is. c.meet.ensures.engine door links (was.engine door links is);
      stands = c.meet.ensures.stands;
      workers = All-set (IsWorker c.args.shared.now) c.loop-place.workers.items c.loop-place.place c.meet.new.worker c.meet.ensures.worker was.workers;
      count = length-set c.loop-place.workers.items c.loop-place.place c.meet.new.worker ∙ was.count;
    }
