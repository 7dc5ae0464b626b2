-- what holds of each item's text holds of the body
use Rattle.std.proofs.Common.{◌≤◌, List, ℕ, length, sym, subst}
use Rattle.fix_frame.specs.Frame.{IsBody, frame_of}
use Rattle.resend_plan.specs.Fit.{longest_text}
use Rattle.resend_plan.proofs.Texts.{is_body-text, length-text, frame_fits, has_frame_body}
use Rattle.resend_plan.proofs.wire.wire_body.Goals as goal

pub returns-clause-is_body : goal.returns-clause-is_body
returns-clause-is_body c =
    let names = c.args.names.now in
    let log = c.args.log.now.series in
    let item = c.args.item.now in
    λ has. subst IsBody (sym c.in_ok-fill_item_body.ensures.text) (is_body-text names log item has)

pub returns-clause-length : goal.returns-clause-length
returns-clause-length c =
    let names = c.args.names.now in
    let log = c.args.log.now.series in
    let item = c.args.item.now in
    subst (λ (body : List ℕ). length body ≤ longest_text names log item) (sym c.in_ok-fill_item_body.ensures.text) (length-text names log item c.in_ok-fill_item_body.ensures.in_range)

pub returns-clause-frame : goal.returns-clause-frame
returns-clause-frame c =
    let names = c.args.names.now in
    let log = c.args.log.now.series in
    let item = c.args.item.now in
    λ short fit. subst (λ (body : List ℕ). IsBody body × (length (frame_of body) ≤ 65_536)) (sym c.in_ok-fill_item_body.ensures.text) (
      is_body-text names log item (has_frame_body log item fit c.requires),
      frame_fits names log item short fit c.requires c.in_ok-fill_item_body.ensures.in_range,
    )
