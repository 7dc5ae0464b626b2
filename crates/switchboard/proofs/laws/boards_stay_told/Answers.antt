use Rattle.switchboard.proofs.RunLaws.{RunLaws}
use Rattle.switchboard.proofs.Telling.{first_told, happening_told, run_told}
use Rattle.switchboard.proofs.laws.boards_stay_told.Goals as goal

laws : goal.After-sends_are_told → RunLaws
laws c =
    let beats = c.beats_come_in_time.ensures in
    let told = c.sends_are_told.ensures in
    record {
      first = beats.first;
      none_sent = told.first;
      later = beats.later;
      message = λ k at body desk is state bound on. record {
        run = λ before start handled moment later run. beats.message before start handled moment k at body desk is state bound on later run;
        sends = λ before sends library are. told.message library before (sends library) at body desk is are;
      };
      tick = λ at desk is. record {
        run = λ before start handled moment later run. beats.tick before start handled moment at desk is later run;
        sends = λ before sends library are. told.tick library before (sends library) at desk is are;
      };
      word = λ at until w bodies desk is count. record {
        run = λ before start handled moment later run. beats.word before start handled moment at until w bodies desk is count later run;
        sends = λ before sends library are. told.word library before (sends library) at until w bodies desk is count are;
      };
      timeout = λ at until w bodies desk is count. record {
        run = λ before start handled moment later run. beats.timeout before start handled moment at until w bodies desk is count later run;
        sends = λ before sends library are. told.timeout library before (sends library) at until w bodies desk is count are;
      };
      request = λ at library nr from desk is. record {
        run = λ before start handled moment later run. beats.later before start handled moment at _ later (beats.request before start handled moment library nr from desk is run);
        sends = λ before sends by are. told.request by before (sends by) library nr from desk.book are;
      };
      lapse = λ at desk is. record {
        run = λ before start handled moment later run. beats.later before start handled moment at _ later (beats.lapse before start handled moment desk is run);
        sends = λ before sends library are. told.lapse library before (sends library) desk.book are;
      };
      binding = λ k at body desk is state free accepts. record {
        run = λ before start handled moment later run. beats.bind before start handled moment k at body desk is state free accepts later run;
        sends = λ before sends library are. told.bind library before (sends library) k at body desk is are;
      };
      dial = λ k at desk is free. record {
        run = λ before start handled moment later run. beats.dial before start handled moment k at desk is free later run;
        sends = λ before sends library are. told.dial library before (sends library) k at desk is are;
      };
      leave = λ k at book bound. record {
        run = λ before start handled moment later run. beats.later before start handled moment at _ later (beats.leave before start handled moment k book bound run);
        sends = λ before sends library are. told.leave library before (sends library) k book are;
      };
    }

pub returns-clause-first : goal.returns-clause-first
returns-clause-first c = first_told (laws c)

pub returns-clause-happening : goal.returns-clause-happening
returns-clause-happening c = λ before start happening history moment old new. happening_told (laws c) before start happening history moment old new

pub returns-clause-run : goal.returns-clause-run
returns-clause-run c = λ before start happenings history moment old new reached.
    run_told (laws c) before start (c.boards_stay_ready.ensures.happening before) happenings history moment old new reached
