use Rattle.std.proofs.Common.{◌≡◌, ◌∙◌, ap, List, ℕ, rules}
use Rattle.durable_journal.specs.Admins.{kind_rest}
use Rattle.durable_journal.proofs.Sessions.{reject_names_by}
use Rattle.durable_journal.proofs.admins.reject_like.Goals as goal

pub returns-clause-only : goal.returns-clause-only
returns-clause-only c = λ seq tag kind reason small_seq small_tag plain small is.
    let numbers = c.in-Some.ensures seq tag (kind_rest kind reason) small_seq small_tag is in
    let kinds : kind_rest c.in-Some-reject_kind.kind.now c.in-Some-reject_kind.reason ≡ kind_rest kind reason = c.in-Some-reject_kind.ensures.only kind reason plain small numbers.2 in
    let bytes : c.of.result ≡ c.in-Some-reject_kind.kind.now = search rules in
    reject_names_by seq tag kind reason c.in-Some.seq c.in-Some.tag c.of.result c.in-Some-reject_kind.reason numbers.0 numbers.1 (ap (λ (k : List ℕ). kind_rest k c.in-Some-reject_kind.reason) bytes ∙ kinds)
