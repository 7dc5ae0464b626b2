-- the least session with a pair up to the moment is the first in the list whose deadline has come
use Rattle.std.proofs.Common.{None, sym}
use Rattle.library_clock.specs.Times.{is_due}
use Rattle.library_clock.proofs.Places.{position-at, position-none}
use Rattle.library_clock.proofs.Mirrored.{none_due, first_due}
use Rattle.library_clock.proofs.deadlines.Deadlines.due.Goals as goal

pub returns-in_err-s-clause-least : goal.returns-in_err-s-clause-least
returns-in_err-s-clause-least c =
    rw (c.from_residual.ensures, ← c.self.view_is) (sym (position-none (is_due c.args.moment) c.self.inside.at.items None (λ k l. none_due c.self.inside.at.items c.self.inside.by_moment c.self.invariant c.args.moment c.in_err-s.ensures.none k)))

pub returns-clause-least : goal.returns-clause-least
returns-clause-least c =
    let due = c.in_ok-s.ensures.due in
    let first = first_due c.self.inside.at.items c.self.inside.by_moment c.self.invariant c.args.moment c.in_ok-s.s due.0 due.1 due.2 c.in_ok-s.ensures.least in
    rw (← c.self.view_is) (sym (position-at (is_due c.args.moment) c.self.inside.at.items c.in_ok-s.s None first.0 first.1 first.2))

pub returns-in_err-s-clause-none_due : goal.returns-in_err-s-clause-none_due
returns-in_err-s-clause-none_due c =
    rw (c.from_residual.ensures, ← c.self.view_is) (none_due c.self.inside.at.items c.self.inside.by_moment c.self.invariant c.args.moment c.in_err-s.ensures.none)

pub returns-clause-before : goal.returns-clause-before
returns-clause-before c =
    let due = c.in_ok-s.ensures.due in
    let first = first_due c.self.inside.at.items c.self.inside.by_moment c.self.invariant c.args.moment c.in_ok-s.s due.0 due.1 due.2 c.in_ok-s.ensures.least in
    rw (← c.self.view_is) first.2
