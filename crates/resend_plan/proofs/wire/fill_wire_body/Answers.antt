-- what holds of each item's text holds of the body
use Rattle.std.proofs.Common.{◌≤◌, length}
use Rattle.fix_frame.specs.Frame.{IsBody, frame_of}
use Rattle.resend_plan.specs.Wire.{body_of}
use Rattle.resend_plan.proofs.Results.{of_filled}
use Rattle.resend_plan.proofs.Texts.{is_body-text, frame_fits, has_frame_body}
use Rattle.resend_plan.proofs.wire.fill_wire_body.Goals as goal

pub returns-clause-frame : goal.returns-clause-frame
returns-clause-frame c =
    let names = c.args.names.now in
    let log = c.args.log.now.series in
    let item = c.args.item.now in
    λ short fit. of_filled (body_of names log item) c.fill_item_body.new.body.items (λ body. IsBody body × (length (frame_of body) ≤ 65_536)) c.fill_item_body.result c.fill_item_body.ensures.text (
      is_body-text names log item (has_frame_body log item fit c.requires),
      frame_fits names log item short fit c.requires c.fill_item_body.ensures.in_range,
    )
