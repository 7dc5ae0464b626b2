-- each item goes on to the next number that is left
use Rattle.std.proofs.Common.{◌≡◌, ◌≤◌, ◌+◌, ◌++◌, ◌∷◌, length, refl, sym, ◌∙◌, ap, subst, arith}
use Rattle.std.proofs.lemmas.Option.{MatchOption-at_some}
use Rattle.message_log.specs.Series.{series_at}
use Rattle.resend_plan.specs.declared.item.WireItem.TheVariants.{Again, GapFill}
use Rattle.resend_plan.proofs.Walk.{rest_of, again, filled, asked_within, joined}
use Rattle.resend_plan.proofs.planning.plan_in.Goals as goal

pub loop-number-preserved-in-Some : goal.loop-number-preserved-in-Some
loop-number-preserved-in-Some g c =
    let entries = series_at c.args.log.now.series c.args.series in
    let series = c.args.series in
    let at = c.args.at in
    let last = c.end_of_range-last.result in
    let n = c.loop-number.number in
    let known = c.loop-number.invariant in
    let count = MatchOption-at_some (Unit {0}) (λ m. m ≡ length entries) c.unwrap-count.result c.unwrap-count.ensures c.len_of.ensures.length in
    let inside : last ≤ length entries = omega (arith, asked_within c.unwrap-count.result c.args.last, c.end_of_range-last.ensures, count) in
    let step = filled series at entries last n known.some c.loop-number-test.true inside c.in-Some.end c.in-Some.ensures.end in
    let to = subst (λ m. rest_of series at entries last n ≡ GapFill series n (m + 1) at ∷ rest_of series at entries last (m + 1)) (sym c.min-to.ensures) step in
    record {
      some = omega arith;
      planned = joined c.loop-number.items.items c.push.new.self.items (rest_of series at entries last (c.min-to.result + 1)) (rest_of series at entries last c.args.begin) (GapFill series n (c.min-to.result + 1) at) c.in_ok-push-in-Some.ensures.items (ap (λ l. c.loop-number.items.items ++ l) (sym to) ∙ known.planned);
    }

pub loop-number-preserved : goal.loop-number-preserved
loop-number-preserved g c =
    let entries = series_at c.args.log.now.series c.args.series in
    let series = c.args.series in
    let at = c.args.at in
    let last = c.end_of_range-last.result in
    let n = c.loop-number.number in
    let known = c.loop-number.invariant in
    let count = MatchOption-at_some (Unit {0}) (λ m. m ≡ length entries) c.unwrap-count.result c.unwrap-count.ensures c.len_of.ensures.length in
    let inside : last ≤ length entries = omega (arith, asked_within c.unwrap-count.result c.args.last, c.end_of_range-last.ensures, count) in
    let step = again series at entries last n known.some c.loop-number-test.true inside (c.in-None.ensures.none.0 refl) in
    record {
      some = omega arith;
      planned = joined c.loop-number.items.items c.push-in-None.new.self.items (rest_of series at entries last (n + 1)) (rest_of series at entries last c.args.begin) (Again series n at) c.in_ok-push-in-None.ensures.items (ap (λ l. c.loop-number.items.items ++ l) (sym step) ∙ known.planned);
    }
