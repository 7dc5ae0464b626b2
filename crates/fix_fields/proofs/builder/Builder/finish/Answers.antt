use Rattle.std.proofs.Common.{ap, ◌∙◌}
use Rattle.fix_fields.specs.Builder.{Draft}
use Rattle.fix_fields.specs.Reading.{fields_of}
use Rattle.fix_fields.proofs.Drafts.{read_again}
use Rattle.fix_fields.proofs.builder.Builder.finish.Goals as goal

pub returns-clause-read : goal.returns-clause-read
returns-clause-read c = λ fields holds lengths. ap (λ (d : Draft). fields_of d.text) c.self.view_is ∙ read_again c.args.self fields holds lengths
