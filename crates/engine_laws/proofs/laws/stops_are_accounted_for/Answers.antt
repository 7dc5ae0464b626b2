use Rattle.std.proofs.Common.{inl, ◌∙◌, arith}
use Rattle.engine_laws.specs.Account.{KeepsAccount}
use Rattle.engine_laws.specs.Stopped.{StopsAccountedFor}
use Rattle.engine_laws.proofs.Accounting.{AccountLaws, Keeping, account_laws}
use Rattle.engine_laws.proofs.Stopped.{BegunLaws, binds_stopped, dials_stopped, nothing_told, receives_stopped, ticks_stopped}
use Rattle.engine_laws.proofs.Stopping.{Leaving, StopLaws, calling_stopped, dialling_stopped, greeting_stopped, hearing_stopped, reading_stopped, serving_stopped, taking_back_stopped, ticking_stopped, turn_stopped, writing_stopped}
use Rattle.engine_laws.proofs.laws.stops_are_accounted_for.Goals as goal
use Rattle.switchboard.specs.Board.{Board}
use Rattle.switchboard.specs.Going.{GoesOnTo}
use Rattle.switchboard.specs.Happenings.{accepts, binds, binds_and_ends, dials, ends_unbound, gives, receives, takes, ticks}
use Rattle.switchboard.specs.Stops.{HaveSameSessions}

steps : goal.After-runs_are_begun → AccountLaws
steps c = account_laws c.happenings_are_accounted_for.ensures

begun : goal.After-runs_are_begun → BegunLaws
begun c = (let are = c.runs_are_begun.ensures in record { bind = are.bind; dial = are.dial; message = are.message; tick = are.tick })

-- what is accounted for, and stops
laws : goal.After-runs_are_begun → StopLaws KeepsAccount StopsAccountedFor
laws c = record {
  steps = steps c;
  serves = c.serving_happens.ensures.serves;
  further = λ one two at first second third keeps stops before start moment within ready accounted.
      stops before start at (omega arith) (keeps.ready before ready) (keeps.account before start moment within ready accounted);
  nothing = nothing_told;
  receives = receives_stopped (begun c);
  binds = binds_stopped (begun c);
  dials = dials_stopped (begun c);
  ticks = ticks_stopped (begun c);
}

-- sessions go on, and stay
abbrev GoOn : Keeping
GoOn old_progress new_progress at old new = GoesOnTo old new

abbrev Stay : Leaving
Stay progress at old new = HaveSameSessions old new

stay_further : (first second third : Board) → GoesOnTo first second → HaveSameSessions second third → HaveSameSessions first third
stay_further first second third goes stay = record {
  count = stay.count ∙ goes.sessions;
  same = λ s. (let one = goes.same s in let two = stay.same s in record { names = two.names ∙ one.names; dials = two.dials ∙ one.dials });
  leases = λ s. stay.leases s ∙ (goes.books s).leases;
}

session_laws : goal.After-runs_are_begun → StopLaws GoOn Stay
session_laws c =
    let goes = c.boards_go_on.ensures in
    let stay = c.stops_are_told.ensures.sessions in
    record {
      steps = record {
        itself = λ progress at board. goes.itself board;
        further = λ one two three at first second third. goes.further first second third;
        aside = λ progress at happenings old new all. goes.run happenings old new;
        accepts = λ number at. goes.happening (accepts number at);
        dials = λ s number at. goes.happening (dials s number at);
        takes = λ k bytes at. goes.happening (takes k bytes);
        gives_none = λ k at old new is none. goes.happening (gives k) old new is;
        gives_one = λ k at body old new is one. goes.happening (gives k) old new is;
        gives_last = λ k at old new is last. goes.happening (gives k) old new is;
        stops = λ k at board ended. goes.itself board;
        receives = λ s k body at. goes.happening (receives s k body at);
        binds = λ s k body at. goes.happening (binds s k body at);
        binds_and_ends = λ s k body at cause. goes.happening (binds_and_ends s k body at cause);
        refuses = λ k body at cause. goes.happening (ends_unbound k cause);
      };
      serves = c.serving_happens.ensures.serves;
      further = λ one two at. stay_further;
      nothing = λ progress at old new nothing. stay (ticks 0 at) old new (inl nothing);
      receives = λ s k body at. stay (receives s k body at);
      binds = λ s k body at. stay (binds s k body at);
      dials = λ progress s number at. stay (dials s number at);
      ticks = λ progress s at. stay (ticks s at);
    }

pub returns-clause-whole : goal.returns-clause-whole
returns-clause-whole c = λ before start at board ready accounted. nothing_told _ at board board (c.stops_are_told.ensures.itself board) before start at (omega arith) ready accounted

pub returns-clause-further : goal.returns-clause-further
returns-clause-further c = (laws c).further

pub returns-clause-untold : goal.returns-clause-untold
returns-clause-untold c = nothing_told

pub returns-clause-receives : goal.returns-clause-receives
returns-clause-receives c = receives_stopped (begun c)

pub returns-clause-binds : goal.returns-clause-binds
returns-clause-binds c = binds_stopped (begun c)

pub returns-clause-dials : goal.returns-clause-dials
returns-clause-dials c = dials_stopped (begun c)

pub returns-clause-ticks : goal.returns-clause-ticks
returns-clause-ticks c = ticks_stopped (begun c)

pub returns-clause-hearing : goal.returns-clause-hearing
returns-clause-hearing c = hearing_stopped (laws c)

pub returns-clause-greeting : goal.returns-clause-greeting
returns-clause-greeting c = greeting_stopped (laws c)

pub returns-clause-ticking : goal.returns-clause-ticking
returns-clause-ticking c = ticking_stopped (laws c)

pub returns-clause-dialling : goal.returns-clause-dialling
returns-clause-dialling c = dialling_stopped (laws c)

pub returns-clause-reading : goal.returns-clause-reading
returns-clause-reading c = reading_stopped (laws c)

pub returns-clause-calling : goal.returns-clause-calling
returns-clause-calling c = calling_stopped (laws c)

pub returns-clause-writing : goal.returns-clause-writing
returns-clause-writing c = writing_stopped (laws c)

pub returns-clause-taking_back : goal.returns-clause-taking_back
returns-clause-taking_back c = taking_back_stopped (laws c)

pub returns-clause-serving : goal.returns-clause-serving
returns-clause-serving c = serving_stopped (laws c)

-- the moment of the turn is no earlier
pub returns-clause-turn : goal.returns-clause-turn
returns-clause-turn c = λ before start reading old new stops ready accounted. turn_stopped (laws c) reading old new stops before start old.engine.moment (omega arith) ready accounted

pub returns-clause-sessions : goal.returns-clause-sessions
returns-clause-sessions c = turn_stopped (session_laws c)
