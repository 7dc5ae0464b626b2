-- the word is news exactly where a library has the session
use Rattle.std.proofs.Common.{◌≡◌, ◌-◌, ◌+◌, ◌<◌, ◌≤◌, false, cond, ◌&&◌, length, ap, sym, ◌∙◌, subst, arith}
use Rattle.lease_core.specs.declared.totals.Totals.{Totals}
use Rattle.lease_core.specs.State.{state_of, SentMore, last_lease, owner_in, owner_of}
use Rattle.lease_core.specs.Runs.{owes_hold}
use Rattle.lease_core.specs.Lines.{lines_of, missing_sends, is_released, entries_after_hold, entries_after_standing, entries_after_sends, news_count}
use Rattle.lease_core.specs.Steps.{IsActive}
use Rattle.lease_core.specs.Kept.{Kept, IsCurrent}
use Rattle.lease_core.proofs.GivenBack.{nothing_new, extended_by, still_active, raises_owned, raises_free}
use Rattle.lease_core.proofs.LinesAfter.{current_of, missing-lines}
use Rattle.lease_core.proofs.SentMore.{none_sent, shows_more}
use Rattle.lease_core.proofs.WordsShown.{lines-shown}
use Rattle.lease_core.proofs.registry.Registry.show.Goals as goal

pub returns-then-owner-eq0-clause-entries : goal.returns-then-owner-eq0-clause-entries
returns-then-owner-eq0-clause-entries c =
    let none : owner_of (state_of c.self.inside.journal.entries) ≡ 0 = ap (λ (t : Totals). owner_in t.lease.ending t.lease.library) (sym c.totals.ensures.totals) ∙ sym c.owner.ensures ∙ c.if-owner-eq0.true in
    let none_there = ap (λ (k : Kept). owner_of (state_of k.entries)) (sym c.self.view_is) ∙ none in
    let settled = subst (λ (k : Kept). owes_hold (state_of k.entries).latest ≡ false) c.self.view_is c.self.invariant in
    sym (nothing_new c.args.self.now.entries c.args.w c.args.until (current_of c.args.self.now.entries c.args.w c.requires.showable) none_there settled)

pub returns-clause-entries : goal.returns-clause-entries
returns-clause-entries c =
    let some : IsActive (state_of c.args.self.now.entries) = subst (λ (k : Kept). 0 < owner_of (state_of k.entries)) c.self.view_is (subst (λ (t : Totals). 0 < owner_in t.lease.ending t.lease.library) c.totals.ensures.totals (omega (arith, c.owner.ensures, c.if-owner-eq0.false))) in
    c.record.ensures.entries ∙ ap (λ (k : Kept). entries_after_hold c.args.until (entries_after_standing c.args.w.standing c.args.w.owner (entries_after_sends (news_count k.entries c.args.w) k.entries))) c.self.view_is ∙ ap (entries_after_hold c.args.until) (sym (extended_by c.args.self.now.entries c.args.w (current_of c.args.self.now.entries c.args.w c.requires.showable) some))

pub returns-clause-active : goal.returns-clause-active
returns-clause-active c = λ active kept.
    let settled = subst (λ (k : Kept). owes_hold (state_of k.entries).latest ≡ false) c.self.view_is c.self.invariant in
    let new = c.record.ensures.entries ∙ ap (λ (k : Kept). entries_after_hold c.args.until (entries_after_standing c.args.w.standing c.args.w.owner (entries_after_sends (news_count k.entries c.args.w) k.entries))) c.self.view_is ∙ ap (entries_after_hold c.args.until) (sym (extended_by c.args.self.now.entries c.args.w (current_of c.args.self.now.entries c.args.w c.requires.showable) active)) in
    subst (λ es. IsActive (state_of es)) (sym new) (still_active c.args.self.now.entries c.args.w c.args.until (current_of c.args.self.now.entries c.args.w c.requires.showable) active settled (sym c.record.ensures.ended ∙ kept))

pub returns-then-owner-eq0-clause-lines : goal.returns-then-owner-eq0-clause-lines
returns-then-owner-eq0-clause-lines c = ap lines_of (returns-then-owner-eq0-clause-entries c) ∙ lines-shown c.args.self.now.entries c.args.w c.args.until

pub returns-clause-lines : goal.returns-clause-lines
returns-clause-lines c = ap lines_of (returns-clause-entries c) ∙ lines-shown c.args.self.now.entries c.args.w c.args.until

pub returns-then-owner-eq0-clause-sends : goal.returns-then-owner-eq0-clause-sends
returns-then-owner-eq0-clause-sends c =
    let none : owner_of (state_of c.self.inside.journal.entries) ≡ 0 = ap (λ (t : Totals). owner_in t.lease.ending t.lease.library) (sym c.totals.ensures.totals) ∙ sym c.owner.ensures ∙ c.if-owner-eq0.true in
    let none_there = ap (λ (k : Kept). owner_of (state_of k.entries)) (sym c.self.view_is) ∙ none in
    let free = raises_free c.args.self.now.entries c.args.w (current_of c.args.self.now.entries c.args.w c.requires.showable) none_there in
    sym (ap (λ b. cond b (missing_sends (lines_of c.args.self.now.entries) c.args.w) 0) free)

pub returns-then-owner-eq0-clause-ended : goal.returns-then-owner-eq0-clause-ended
returns-then-owner-eq0-clause-ended c =
    let none : owner_of (state_of c.self.inside.journal.entries) ≡ 0 = ap (λ (t : Totals). owner_in t.lease.ending t.lease.library) (sym c.totals.ensures.totals) ∙ sym c.owner.ensures ∙ c.if-owner-eq0.true in
    let none_there = ap (λ (k : Kept). owner_of (state_of k.entries)) (sym c.self.view_is) ∙ none in
    let free = raises_free c.args.self.now.entries c.args.w (current_of c.args.self.now.entries c.args.w c.requires.showable) none_there in
    sym (ap (λ b. b && is_released c.args.w.standing) free)

pub overflow_sub-result : goal.overflow_sub-result
overflow_sub-result c =
    let current = current_of c.args.self.now.entries c.args.w c.requires.showable in
    subst (λ (t : Totals). t.lease.sends ≤ c.args.w.count) (sym c.totals.ensures.totals) (subst (λ (k : Kept). (last_lease (state_of k.entries).leases).sends ≤ c.args.w.count) (sym c.self.view_is) current.count)

pub record-requires-clause-room : goal.record-requires-clause-room
record-requires-clause-room c =
    let room = subst (λ n. n + 2 ≤ c.args.self.now.spare) (missing-lines c.args.self.now.entries c.args.w) c.requires.room in
    subst (λ (k : Kept). news_count k.entries c.args.w + 2 ≤ k.spare) (sym c.self.view_is) room

pub record-requires-clause-current : goal.record-requires-clause-current
record-requires-clause-current c = subst (λ (k : Kept). IsCurrent (state_of k.entries) c.args.w) (sym c.self.view_is) (current_of c.args.self.now.entries c.args.w c.requires.showable)

pub returns-clause-sends : goal.returns-clause-sends
returns-clause-sends c =
    let entries = c.args.self.now.entries in
    let active : IsActive (state_of entries) = subst (λ (k : Kept). 0 < owner_of (state_of k.entries)) c.self.view_is (subst (λ (t : Totals). 0 < owner_in t.lease.ending t.lease.library) c.totals.ensures.totals (omega (arith, c.owner.ensures, c.if-owner-eq0.false))) in
    let owned = raises_owned entries c.args.w (current_of entries c.args.w c.requires.showable) active in
    ap (λ (t : Totals). c.args.w.count - t.lease.sends) c.totals.ensures.totals
    ∙ ap (λ (k : Kept). news_count k.entries c.args.w) c.self.view_is
    ∙ sym (missing-lines entries c.args.w)
    ∙ sym (ap (λ b. cond b (missing_sends (lines_of entries) c.args.w) 0) owned)

pub returns-clause-ended : goal.returns-clause-ended
returns-clause-ended c =
    let entries = c.args.self.now.entries in
    let active : IsActive (state_of entries) = subst (λ (k : Kept). 0 < owner_of (state_of k.entries)) c.self.view_is (subst (λ (t : Totals). 0 < owner_in t.lease.ending t.lease.library) c.totals.ensures.totals (omega (arith, c.owner.ensures, c.if-owner-eq0.false))) in
    let owned = raises_owned entries c.args.w (current_of entries c.args.w c.requires.showable) active in
    c.record.ensures.ended ∙ sym (ap (λ b. b && is_released c.args.w.standing) owned)

pub returns-clause-logs : goal.returns-clause-logs
returns-clause-logs c =
    let entries = c.args.self.now.entries in
    let some : 0 < length (state_of c.self.inside.journal.entries).series = subst (λ (t : Totals). 0 < t.series) c.totals.ensures.totals c.totals.ensures.series in
    let some_there = subst (λ (k : Kept). 0 < length (state_of k.entries).series) c.self.view_is some in
    let count = ap (λ (t : Totals). c.args.w.count - t.lease.sends) c.totals.ensures.totals ∙ ap (λ (k : Kept). news_count k.entries c.args.w) c.self.view_is in
    let new = c.record.ensures.entries ∙ ap (λ (k : Kept). entries_after_hold c.args.until (entries_after_standing c.args.w.standing c.args.w.owner (entries_after_sends (news_count k.entries c.args.w) k.entries))) c.self.view_is in
    subst (λ n. SentMore n (state_of entries) (state_of c.record.new.self.entries)) (sym count)
    (subst (λ es. SentMore (news_count entries c.args.w) (state_of entries) (state_of es)) (sym new) (shows_more (news_count entries c.args.w) c.args.w.owner c.args.until c.args.w.standing entries some_there))

pub returns-then-owner-eq0-clause-logs : goal.returns-then-owner-eq0-clause-logs
returns-then-owner-eq0-clause-logs c = none_sent (state_of c.args.self.now.entries)
