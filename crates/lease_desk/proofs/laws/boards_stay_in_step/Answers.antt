use Rattle.lease_desk.proofs.Happened.{Laws, happened, keeps_on, keeps_step}
use Rattle.lease_desk.proofs.laws.boards_stay_in_step.Goals as goal

pub returns-clause-step : goal.returns-clause-step
returns-clause-step c =
    let laws : Laws = record {
      message = c.leases_stay.ensures.message;
      bind = c.leases_stay.ensures.bind;
      dial = c.leases_stay.ensures.dial;
      tick = c.leases_stay.ensures.tick;
      leave = c.leases_stay.ensures.leave;
      lapse = c.leases_stay.ensures.lapse;
      message_on = c.sessions_go_on.ensures.message;
      bind_on = c.sessions_go_on.ensures.bind;
      dial_on = c.sessions_go_on.ensures.dial;
      tick_on = c.sessions_go_on.ensures.tick;
      leave_on = c.sessions_go_on.ensures.leave;
      lapse_on = c.sessions_go_on.ensures.lapse;
      lines = c.lines_go_on.ensures.one;
    } in
    λ before happening old new seat apart is ready was. keeps_step old new seat (happened laws happening old new apart is) (c.boards_stay_ready.ensures.happening before happening old new is ready).sound was

pub returns-clause-goes_on : goal.returns-clause-goes_on
returns-clause-goes_on c =
    let laws : Laws = record {
      message = c.leases_stay.ensures.message;
      bind = c.leases_stay.ensures.bind;
      dial = c.leases_stay.ensures.dial;
      tick = c.leases_stay.ensures.tick;
      leave = c.leases_stay.ensures.leave;
      lapse = c.leases_stay.ensures.lapse;
      message_on = c.sessions_go_on.ensures.message;
      bind_on = c.sessions_go_on.ensures.bind;
      dial_on = c.sessions_go_on.ensures.dial;
      tick_on = c.sessions_go_on.ensures.tick;
      leave_on = c.sessions_go_on.ensures.leave;
      lapse_on = c.sessions_go_on.ensures.lapse;
      lines = c.lines_go_on.ensures.one;
    } in
    λ happening old new apart is s. keeps_on c.lines_tell_the_owner.ensures.owner old new (happened laws happening old new apart is) s

pub returns-clause-sessions : goal.returns-clause-sessions
returns-clause-sessions c =
    let laws : Laws = record {
      message = c.leases_stay.ensures.message;
      bind = c.leases_stay.ensures.bind;
      dial = c.leases_stay.ensures.dial;
      tick = c.leases_stay.ensures.tick;
      leave = c.leases_stay.ensures.leave;
      lapse = c.leases_stay.ensures.lapse;
      message_on = c.sessions_go_on.ensures.message;
      bind_on = c.sessions_go_on.ensures.bind;
      dial_on = c.sessions_go_on.ensures.dial;
      tick_on = c.sessions_go_on.ensures.tick;
      leave_on = c.sessions_go_on.ensures.leave;
      lapse_on = c.sessions_go_on.ensures.lapse;
      lines = c.lines_go_on.ensures.one;
    } in
    λ happening old new apart is. (happened laws happening old new apart is).count
