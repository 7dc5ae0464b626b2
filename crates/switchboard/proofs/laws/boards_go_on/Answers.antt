use Rattle.switchboard.proofs.Going.{GoingLaws, goes_further, goes_nowhere, happened, ran}
use Rattle.switchboard.proofs.Quiet.{counted, held_before, held_over}
use Rattle.switchboard.proofs.Written.{written_before}
use Rattle.switchboard.specs.Going.{is_quiet, is_writing}
use Rattle.switchboard.specs.Happenings.{Happening, accepts, answers, binds, binds_and_ends, dials, ends_bound, ends_unbound, gives, lapses, prepares, receives, requests, reserves, shows, takes, ticks, times_out, writes}
use Rattle.std.proofs.Common.{◌≡◌, true, false, refl}
use Rattle.switchboard.proofs.laws.boards_go_on.Goals as goal

laws : goal.After-sessions_go_on → GoingLaws
laws c =
    let on = c.sessions_go_on.ensures in
    record {
      message = on.message;
      bind = on.bind;
      dial = on.dial;
      tick = on.tick;
      leave = on.leave;
      word = on.word;
      timeout = on.timeout;
      request = on.request;
      lapse = on.lapse;
      itself = on.itself;
      further = on.further;
    }

pub returns-clause-happening : goal.returns-clause-happening
returns-clause-happening c = happened (laws c)

pub returns-clause-run : goal.returns-clause-run
returns-clause-run c = ran (laws c)

pub returns-clause-itself : goal.returns-clause-itself
returns-clause-itself c = goes_nowhere (laws c)

pub returns-clause-further : goal.returns-clause-further
returns-clause-further c = goes_further (laws c)

pub returns-clause-written : goal.returns-clause-written
returns-clause-written c = λ before happening old new apart is ready k within. (written_before before happening old new apart is ready).each k within

-- what is quiet writes nothing
writes_nothing : (happening : Happening) → is_quiet happening ≡ true → is_writing happening ≡ false
writes_nothing (writes k n) quiet = absurd (cc)
writes_nothing (accepts number at) quiet = refl
writes_nothing (dials s number at) quiet = refl
writes_nothing (takes k bytes) quiet = refl
writes_nothing (gives k) quiet = refl
writes_nothing (binds s k body at) quiet = refl
writes_nothing (binds_and_ends s k body at cause) quiet = refl
writes_nothing (receives s k body at) quiet = refl
writes_nothing (answers k) quiet = refl
writes_nothing (ticks s at) quiet = refl
writes_nothing (shows s w bodies at until) quiet = refl
writes_nothing (times_out s w bodies at until) quiet = refl
writes_nothing (requests s library nr from) quiet = refl
writes_nothing (lapses s) quiet = refl
writes_nothing (ends_unbound k cause) quiet = refl
writes_nothing (ends_bound s k cause) quiet = refl
writes_nothing (prepares s k) quiet = refl
writes_nothing (reserves s) quiet = refl

pub returns-clause-quiet : goal.returns-clause-quiet
returns-clause-quiet c = λ before happening old new quiet is ready k within.
    let held = (held_before happening old new quiet is).each k within in
    record {
      taken = held.taken;
      held = held.held;
      garbled = held.garbled;
      written = (written_before before happening old new (writes_nothing happening quiet) is ready).each k within;
    }

pub returns-clause-ended : goal.returns-clause-ended
returns-clause-ended c = held_over (laws c)

pub returns-clause-count : goal.returns-clause-count
returns-clause-count c = counted
