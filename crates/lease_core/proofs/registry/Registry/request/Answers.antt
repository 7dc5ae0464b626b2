-- the answer's cause, and its entry
use Rattle.std.proofs.Common.{ap, sym, ◌∙◌}
use Rattle.lease_core.specs.State.{state_of}
use Rattle.lease_core.specs.Steps.{reply_to}
use Rattle.lease_core.specs.Kept.{Kept}
use Rattle.lease_core.specs.Lines.{lines_of, lines_after, lines_after_reply}
use Rattle.lease_core.proofs.LinesAfter.{lines-push, lines-request}
use Rattle.lease_core.proofs.Pushed.{state_of-push}
use Rattle.lease_core.proofs.SentMore.{none_by_request}
use Rattle.lease_core.proofs.Settled.{next_request, settled_by, settled_request}
use Rattle.lease_core.proofs.Causes.{when_granted, when_owned, when_reserved, when_spent, when_missing}
use Rattle.lease_core.proofs.registry.Registry.request.Goals as goal

pub push-requires-clause-next : goal.push-requires-clause-next
push-requires-clause-next c =
    let there = c.reply-reply.ensures ∙ ap (λ (k : Kept). reply_to k.leases (state_of k.entries) c.args.library c.args.from) (sym c.self.view_is) in
    rw (c.entry_with.ensures, there) (next_request _ _ c.args.library c.args.nr c.args.from c.requires.library c.self.invariant)

pub invariant_of-self : goal.invariant_of-self
invariant_of-self c = rw (c.push.ensures.entries, c.entry_with.ensures) (settled_by _ _ (settled_request c.args.library c.args.nr c.args.from c.reply-reply.result))

pub returns-clause-granted : goal.returns-clause-granted
returns-clause-granted c = rw c.reply-reply.ensures (when_granted c.args.self.now.leases (state_of c.args.self.now.entries) c.args.library c.args.from)

pub returns-clause-other_owner : goal.returns-clause-other_owner
returns-clause-other_owner c = rw c.reply-reply.ensures (when_owned c.args.self.now.leases (state_of c.args.self.now.entries) c.args.library c.args.from)

pub returns-clause-reserved : goal.returns-clause-reserved
returns-clause-reserved c = rw c.reply-reply.ensures (when_reserved c.args.self.now.leases (state_of c.args.self.now.entries) c.args.library c.args.from)

pub returns-clause-leases_spent : goal.returns-clause-leases_spent
returns-clause-leases_spent c = rw c.reply-reply.ensures (when_spent c.args.self.now.leases (state_of c.args.self.now.entries) c.args.library c.args.from)

pub returns-clause-missing : goal.returns-clause-missing
returns-clause-missing c = rw c.reply-reply.ensures (when_missing c.args.self.now.leases (state_of c.args.self.now.entries) c.args.library c.args.from)

pub returns-clause-lines : goal.returns-clause-lines
returns-clause-lines c =
    ap lines_of c.push.ensures.entries
    ∙ lines-push c.self.inside.journal.entries c.entry_with.result
    ∙ ap (lines_after (lines_of c.self.inside.journal.entries)) c.entry_with.ensures
    ∙ lines-request (lines_of c.self.inside.journal.entries) c.args.library c.args.nr c.args.from c.reply-reply.result
    ∙ ap (λ (k : Kept). lines_after_reply (lines_of k.entries) c.args.library c.reply-reply.result) c.self.view_is

pub returns-clause-state : goal.returns-clause-state
returns-clause-state c = rw (c.push.ensures.entries, c.entry_with.ensures, c.reply-reply.ensures, ← c.self.view_is) (state_of-push c.self.inside.journal.entries _)

pub returns-clause-logs : goal.returns-clause-logs
returns-clause-logs c = rw (c.push.ensures.entries, c.entry_with.ensures, ← c.self.view_is, state_of-push) (none_by_request (state_of c.self.inside.journal.entries) c.args.library c.args.nr c.args.from c.reply-reply.result)
