use Rattle.std.proofs.Common.{◌≡◌, ap, sym, ◌∙◌}
use Rattle.command_words.specs.declared.words.Chosen.TheVariants.{Serve}
use Rattle.gateway_run.proofs.Served.{address_in, served_at, turns_in}
use Rattle.gateway_run.proofs.serving.serve.Goals as goal

pub returns-in-Ok-Serve-clause-served : goal.returns-in-Ok-Serve-clause-served
returns-in-Ok-Serve-clause-served g c = λ path address turns gives.
    let is = sym c.in-Ok-Serve.field-0-is ∙ c.words_give_one.ensures _ c.in-Ok-Serve.field-0 (Serve path address turns) c.in-Ok-Serve.ensures.chosen gives in
    let listened : c.as_str.result.now ≡ address = c.as_str.ensures.value ∙ c.into_inner-address.ensures ∙ ap address_in is in
    served_at _ _ _ _ _ _ _ _ _ _ _ c.serve_at.result.0 c.serve_at.result.1 _ _ _ _ listened (ap turns_in is) c.serve_at.ensures.served
