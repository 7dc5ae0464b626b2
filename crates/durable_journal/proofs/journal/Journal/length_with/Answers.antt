use Rattle.std.proofs.Common.{◌≡◌, ◌∙◌, ◌+◌, ◌++◌, ◌∷◌, [], List, ℕ, length, ap, sym, subst, arith, rules}
use Rattle.durable_journal.specs.Journal.{JournalState, file_end}
use Rattle.durable_journal.proofs.Rests.{end_is}
use Rattle.durable_journal.proofs.journal.Journal.length_with.Goals as goal

pub returns : goal.returns
returns g c =
    let i = c.self.inside in
    let e = c.args.event.now in
    let len : c.len.result ≡ length i.text.items = search rules in
    let body : length c.as_slice-body.result.now ≡ length e.body = ap (λ (l : List ℕ). length l) c.as_slice-body.ensures in
    let sum : i.gate + 1 + c.len.result + 1 + 59 + length c.as_slice-body.result.now ≡ i.gate + 1 + length i.text.items + 1 + 59 + length e.body = omega (arith, len, body) in
    subst (λ (v : JournalState g.row.D.Denot). i.gate + 1 + c.len.result + 1 + 59 + length c.as_slice-body.result.now ≡ file_end v.gate (v.batch ++ e ∷ [])) c.self.view_is
    (sum ∙ sym (end_is i.gate i.waiting.items e i.text.items c.self.invariant.1))
