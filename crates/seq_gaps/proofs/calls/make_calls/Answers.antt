-- nothing is left, so the answers and the line are those of all the calls
use Rattle.std.proofs.Common.{◌≡◌, List, [], ◌++◌, ap, sym, ◌∙◌, arith}
use Rattle.std.proofs.lemmas.List.{nil_from_length, append-nil}
use Rattle.seq_gaps.specs.declared.calls.Call.{Call}
use Rattle.seq_gaps.specs.Calls.{line_after_all, answers_to}
use Rattle.seq_gaps.proofs.Order.{law_from}
use Rattle.seq_gaps.proofs.calls.make_calls.Goals as goal

pub returns-clause-in_order : goal.returns-clause-in_order
returns-clause-in_order g c =
    let left : c.loop-call.rest.items ≡ [] = nil_from_length _ (omega (arith, c.in_default.ensures.cases, c.loop-call.rest.ok.0)) in
    let answered = sym (append-nil c.loop-call.answers.items) ∙ ap (λ (calls : List (Call g.row.T.Denot)). c.loop-call.answers.items ++ answers_to c.loop-call.line calls) (sym left) ∙ c.loop-call.invariant.told in
    let behind = ap (λ (calls : List (Call g.row.T.Denot)). line_after_all c.loop-call.line calls) (sym left) ∙ c.loop-call.invariant.behind in
    λ k run. law_from c.args.line.now c.args.calls.items c.loop-call.answers.items c.loop-call.line k answered behind run
