-- the chain gives the least of the sessions of the pairs up to the moment
use Rattle.std.proofs.Common.{ℕ, sym, ◌∙◌, rules}
use Rattle.std.proofs.lemmas.Iterator.{YieldsList-from_map}
use Rattle.std.proofs.lemmas.Iterator.Adapters.{option_map_id}
use Rattle.std.proofs.lemmas.Iterator.Consumers.{YieldsList-at, YieldsList-from_rest, min_from_yields_List}
use Rattle.library_clock.proofs.Pairs.{least_told}
use Rattle.library_clock.proofs.deadlines.least_due.Goals as goal

pub returns : goal.returns
returns c =
    let least = min_from_yields_List c.map.result c.min.result c.min.ensures.ran (YieldsList-from_map _ (λ (p : ℕ × ℕ). p.1) (YieldsList-at c.map.ensures.source (YieldsList-from_rest _ (c.range.ensures.between tt))) c.map.ensures.closure (λ x r q k. search rules)) in
    let told = least_told c.args.by_moment.now.keys c.args.moment c.min.result (sym (option_map_id c.min.result) ∙ least) c.requires in
    record { none = told.none; due = told.due; least = told.least }
