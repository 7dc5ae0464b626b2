use Rattle.engine_loop.specs.Starts.{StartsRoutes}
use Rattle.engine_loop.proofs.starting.routes.Given as goal

-- the routes to the sessions so far
abbrev pub invariant-loop-s : goal.invariant-loop-s
invariant-loop-s l = StartsRoutes l.config l.s l.routes
