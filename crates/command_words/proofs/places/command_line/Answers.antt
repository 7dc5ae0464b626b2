use Rattle.std.proofs.Common.{ap, ap₂, true, ◌≡◌, ◌∙◌}
use Rattle.std.proofs.lemmas.Result.{IfOk-weaker}
use Rattle.clap.specs.Words.{app_of, with_rule}
use Rattle.clap.specs.Simple.{app_of_fields, on_top}
use Rattle.command_words.specs.Places.{bare_line}
use Rattle.command_words.proofs.places.command_line.Goals as goal

pub returns : goal.returns
returns c =
    let bare : app_of c.disable_help_flag.result ≡ bare_line =
    ap app_of_fields c.disable_help_flag.ensures
    ∙ ap (on_top (λ top. record top { disable_help_flag = true }))
    (ap app_of_fields c.no_binary_name.ensures ∙ ap (on_top (λ top. record top { no_binary_name = true })) c.new.ensures.app) in
    let one = c.in_ok-arg.ensures.shape c.new-2.ensures.optional.1 ∙ ap₂ with_rule bare c.new-2.ensures.rule in
    let two = c.in_ok-arg-2.ensures.shape c.new-3.ensures.optional.1 ∙ ap₂ with_rule one c.new-3.ensures.rule in
    let three = c.in_ok-arg-3.ensures.shape c.new-4.ensures.optional.1 ∙ ap₂ with_rule two c.new-4.ensures.rule in
    IfOk-weaker c.arg-4.result _ _ (λ line adds. adds.shape c.new-5.ensures.optional.1 ∙ ap₂ with_rule three c.new-5.ensures.rule) c.arg-4.ensures
