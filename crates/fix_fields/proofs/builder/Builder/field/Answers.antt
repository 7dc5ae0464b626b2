use Rattle.std.proofs.Common.{sym, ap, ◌∙◌, subst, List, ◌∷◌, [], ◌++◌, ℕ}
use Rattle.fix_fields.specs.Field.{Field, field_text}
use Rattle.fix_fields.specs.Builder.{Draft, Holds}
use Rattle.fix_fields.proofs.Drafts.{holds_more}
use Rattle.fix_fields.proofs.builder.Builder.field.Goals as goal

abbrev draft : List ℕ → ℕ → Draft
draft text last = record { text = text; last = last }

pub returns-clause-fields : goal.returns-clause-fields
returns-clause-fields c = λ fields holds.
    let field : Field = record { tag = c.args.tag; value = c.args.value.now } in
    let text = c.in_ok-put_field.ensures.ok ∙ ap (λ (d : Draft). d.text ++ field_text field) c.self.view_is in
    let more = holds_more c.args.self.now field fields c.requires.tag_from c.requires.tag_to c.requires.filled c.requires.plain holds in
    let same = ap (λ (t : List ℕ). draft t c.args.tag) (sym text) in
    subst (λ (d : Draft). Holds d (fields ++ field ∷ [])) same more
