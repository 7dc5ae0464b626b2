use Rattle.std.proofs.Common.{◌≡◌, refl, sym, ap, subst, ◌∙◌, true, false}
use Rattle.engine_loop.specs.Due.{IsQuietFor}
use Rattle.engine_loop.specs.Turns.{at_wire}
use Rattle.engine_loop.proofs.Waited.{knows_same}
use Rattle.engine_loop.proofs.engine.Engine.turn_and_pause.Goals as goal
use Rattle.engine_loop.proofs.engine.Engine.turn_and_pause.Goals.{then-is_idle, else-is_idle}

pub returns-clause-makes : goal.returns-clause-makes
returns-clause-makes g c = elim c.if-is_idle.branch [
  | then-is_idle w ↦ record {
    made = at_wire c.turn.new.self (g.W.Wire.door c.turn.new.wire) (g.W.Wire.link c.turn.new.wire);
    makes = c.in_ok-turn.ensures.turns;
    engine = refl;
    door = ap g.W.Wire.door w.wire-is ∙ w.pause.ensures.door_stays;
    links = λ k. ap (λ wire. g.W.Wire.link wire k) w.wire-is ∙ w.pause.ensures.links_stay k;
  }
  | else-is_idle w ↦ record {
    made = at_wire c.turn.new.self (g.W.Wire.door c.turn.new.wire) (g.W.Wire.link c.turn.new.wire);
    makes = c.in_ok-turn.ensures.turns;
    engine = refl;
    door = ap g.W.Wire.door w.wire-is;
    links = λ k. ap (λ wire. g.W.Wire.link wire k) w.wire-is;
  }
]

pub returns-clause-pauses : goal.returns-clause-pauses
returns-clause-pauses g c = elim c.if-is_idle.branch [
  | then-is_idle w ↦ λ _.
      let for_so_long : IsQuietFor c.turn.new.self w.quiet_for.result = record {
        most = w.quiet_for.ensures.most;
        quiet = w.quiet_for.ensures.quiet;
        due = w.quiet_for.ensures.due;
      } in
      (c.turn.new.wire, w.quiet_for.result, c.in_ok-turn.ensures.turns, for_so_long, subst (λ wire. g.W.Wire.pause_gives c.turn.new.wire w.quiet_for.result wire) (sym w.wire-is) w.pause.ensures.exact)
  | else-is_idle w ↦ λ yes. absurd (let untrue : true ≡ false = sym (c.is_idle.ensures ∙ yes) ∙ w.if-is_idle.false in cc)
]

pub returns-clause-engine : goal.returns-clause-engine
returns-clause-engine g c = elim c.if-is_idle.branch [
  | then-is_idle w ↦ c.engines_stay.ensures.known _ _ _ _ _ _ (knows_same _ _ _ _ (ap g.W.Wire.door w.wire-is ∙ w.pause.ensures.door_stays) (λ k. ap (λ wire. g.W.Wire.link wire k) w.wire-is ∙ w.pause.ensures.links_stay k)) c.in_ok-turn.ensures.engine
  | else-is_idle w ↦ c.engines_stay.ensures.known _ _ _ _ _ _ (knows_same _ _ _ _ (ap g.W.Wire.door w.wire-is) (λ k. ap (λ wire. g.W.Wire.link wire k) w.wire-is)) c.in_ok-turn.ensures.engine
]
