-- what holds of each plan holds of the items
use Rattle.resend_plan.proofs.Results.{of_list}
use Rattle.resend_plan.proofs.Answering.{plan_names, plan_answers, plan_numbers, plan_none}
use Rattle.std.proofs.Common.{◌≡◌, ◌↔◌, [], length, All, flat_map}
use Rattle.message_log.specs.Series.{series_at}
use Rattle.resend_plan.specs.Plan.{AsksNothing, IsAnswer, asked_numbers, numbers_of, plan_of}
use Rattle.resend_plan.specs.Wire.{NamesEntry}
use Rattle.resend_plan.proofs.planning.plan.Goals as goal

pub returns-clause-named : goal.returns-clause-named
returns-clause-named c =
    let log = c.args.log.now.series in
    of_list (plan_of (series_at log c.args.series) c.args.series c.args.begin c.args.last c.args.at) (All (NamesEntry log)) c.plan_in.result c.plan_in.ensures (plan_names log c.args.series c.args.at c.args.begin c.args.last)

pub returns-clause-answers : goal.returns-clause-answers
returns-clause-answers c =
    let log = c.args.log.now.series in
    of_list (plan_of (series_at log c.args.series) c.args.series c.args.begin c.args.last c.args.at) (All (IsAnswer log c.args.series c.args.at)) c.plan_in.result c.plan_in.ensures (plan_answers log c.args.series c.args.at c.args.begin c.args.last)

pub returns-clause-numbers : goal.returns-clause-numbers
returns-clause-numbers c =
    let entries = series_at c.args.log.now.series c.args.series in
    of_list (plan_of entries c.args.series c.args.begin c.args.last c.args.at) (λ items. flat_map numbers_of items ≡ asked_numbers (length entries) c.args.begin c.args.last) c.plan_in.result c.plan_in.ensures (plan_numbers entries c.args.series c.args.begin c.args.last c.args.at)

pub returns-clause-none : goal.returns-clause-none
returns-clause-none c =
    let entries = series_at c.args.log.now.series c.args.series in
    of_list (plan_of entries c.args.series c.args.begin c.args.last c.args.at) (λ items. (items ≡ []) ↔ AsksNothing (length entries) c.args.begin c.args.last) c.plan_in.result c.plan_in.ensures (plan_none entries c.args.series c.args.begin c.args.last c.args.at)
