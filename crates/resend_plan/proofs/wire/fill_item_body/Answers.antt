-- the entry that the item names is the one that was looked up
use Rattle.std.proofs.Common.{sym, ap, ◌∙◌}
use Rattle.std.specs.Option.{option_copied}
use Rattle.resend_plan.proofs.Bodies.{new_body, again_body, fill_body}
use Rattle.resend_plan.proofs.wire.fill_item_body.Goals as goal

pub returns-in-New-clause-text : goal.returns-in-New-clause-text
returns-in-New-clause-text c =
    let entry = sym c.entry.ensures.entry ∙ ap (λ o. option_copied o) c.unwrap-entry.ensures in
    rw (c.in-New.is, new_body c.args.names.now c.args.log.now.series c.in-New.series c.in-New.number c.unwrap-entry.result.now entry) c.fill_entry_body.ensures

pub returns-in-Again-clause-text : goal.returns-in-Again-clause-text
returns-in-Again-clause-text c =
    let entry = sym c.entry-in-Again.ensures.entry ∙ ap (λ o. option_copied o) c.unwrap-entry-in-Again.ensures in
    rw (c.in-Again.is, again_body c.args.names.now c.args.log.now.series c.in-Again.series c.in-Again.number c.in-Again.at c.unwrap-entry-in-Again.result.now entry) c.fill_entry_body-in-Again.ensures

pub returns-in-GapFill-clause-text : goal.returns-in-GapFill-clause-text
returns-in-GapFill-clause-text c =
    rw (c.in-GapFill.is, fill_body c.args.names.now c.args.log.now.series c.in-GapFill.series c.in-GapFill.number c.in-GapFill.to c.in-GapFill.at) c.fill_reset_body.ensures
