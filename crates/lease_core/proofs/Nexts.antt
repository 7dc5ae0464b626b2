-- What a lawful entry does to all that is kept beside the entries.
use Rattle.std.proofs.Common.{◌≡◌, ℕ, add-zero, ◌+◌, ◌<◌, [], ◌∷◌, ◌++◌, length, sum, Option, Some, None, refl, sym, ap, ◌∙◌, subst}
use Rattle.std.proofs.lemmas.List.{length_push}
use Rattle.std.proofs.lemmas.List.Sums.{sum_by_push}
use Rattle.lease_core.specs.declared.entry.Entry.{Entry}
use Rattle.lease_core.specs.declared.entry.Why.{Why}
use Rattle.lease_core.specs.declared.lease.Ending.{Ending}
use Rattle.lease_core.specs.declared.lease.Ending.TheVariants.{Running, GivenBack, TakenBack}
use Rattle.lease_core.specs.declared.lease.Lease.{Lease}
use Rattle.lease_core.specs.State.{State, state_after, with_last, last_or, lease_with_send, lease_with_ending, one_more, engine_from, no_lease, last_lease}
use Rattle.lease_core.specs.declared.event.Event.{Event}
use Rattle.lease_core.specs.declared.event.Event.TheVariants.{AdminSent, Resets, Requests, Sends, Releases, TimesOut}
use Rattle.lease_core.specs.Steps.{step, request_entry, why_refused, CanHappen}
use Rattle.lease_core.specs.Runs.{IsNext}
use Rattle.lease_core.specs.Totals.{totals_of, totals_after, Counts}
use Rattle.lease_core.proofs.Lasts.{last_or_push, length-with_last, last_or-with_last, sum-one_more}
use Rattle.lease_core.proofs.Lawful.{Lawful, some_lease}

-- a send is the next one of the last holding
counts : (limit : ℕ) (s : State) (event : Event) → CanHappen s event → Lawful limit s → Counts (step limit s event) (last_or (engine_from 0) s.holdings)
counts limit s (Requests library nr from) can l =
    elim (why_refused limit s library from) as (λ why. Counts (request_entry s library nr from why) (last_or (engine_from 0) s.holdings)) [ None ↦ tt | Some why ↦ tt ]
counts limit s Sends can l = ap (λ n. n + 1) (sym (l.held.sends can))
counts limit s _ can l = tt

pub counts_next : (limit : ℕ) (s : State) (e : Entry) → Lawful limit s → IsNext limit s e → Counts e (last_or (engine_from 0) s.holdings)
counts_next limit s e l next = subst (λ x. Counts x (last_or (engine_from 0) s.holdings)) (sym next.is_step.entry) (counts limit s next.is_step.event next.is_step.can_happen l)

totals_answered : (limit : ℕ) (s : State) (library nr from : ℕ) (why : Option Why) → totals_of (state_after s (request_entry s library nr from why)) ≡ totals_after (totals_of s) (request_entry s library nr from why)
totals_answered limit s library nr from (Some why) = refl
totals_answered limit s library nr from None =
    let lease : Lease = record { library = library; from = from; start = s.inbound; sends = 0; ending = Running } in
    let size = length_push s.leases lease in
    let last = last_or_push no_lease s.leases lease in
    rw (size, last) refl

totals_ended : (s : State) (ending : Ending) → 0 < length s.leases → (last_lease (with_last (lease_with_ending ending) s.leases) ≡ lease_with_ending ending (last_lease s.leases)) × (length (with_last (lease_with_ending ending) s.leases) ≡ length s.leases)
totals_ended s ending some = (last_or-with_last (lease_with_ending ending) no_lease s.leases some, length-with_last (lease_with_ending ending) s.leases)

totals_are : (limit : ℕ) (s : State) (event : Event) → CanHappen s event → Lawful limit s → totals_of (state_after s (step limit s event)) ≡ totals_after (totals_of s) (step limit s event)
totals_are limit s AdminSent can l =
    let size = length-with_last one_more s.series in
    let last = last_or-with_last one_more 0 s.series l.numbered in
    let all = sum-one_more s.series l.numbered in
    rw (size, last, all) refl
totals_are limit s Resets can l =
    let size = length_push s.series 0 in
    let last = last_or_push 0 s.series 0 in
    let all : sum (s.series ++ 0 ∷ []) ≡ sum s.series = sum_by_push (λ x. x) s.series 0 ∙ add-zero (sum s.series) in
    rw (size, last, all) refl
totals_are limit s (Requests library nr from) can l = totals_answered limit s library nr from (why_refused limit s library from)
totals_are limit s Sends can l =
    let some = some_lease s.leases can in
    let many = length-with_last lease_with_send s.leases in
    let lease = last_or-with_last lease_with_send no_lease s.leases some in
    let size = length-with_last one_more s.series in
    let last = last_or-with_last one_more 0 s.series l.numbered in
    let all = sum-one_more s.series l.numbered in
    rw (many, lease, size, last, all) refl
totals_are limit s (Releases heir) can l =
    let both = totals_ended s (GivenBack heir) (some_lease s.leases can.0) in
    rw (both.0, both.1) refl
totals_are limit s TimesOut can l =
    let both = totals_ended s TakenBack (some_lease s.leases can) in
    rw (both.0, both.1) refl
totals_are limit s _ can l = refl

pub totals_next : (limit : ℕ) (s : State) (e : Entry) → Lawful limit s → IsNext limit s e → totals_of (state_after s e) ≡ totals_after (totals_of s) e
totals_next limit s e l next = subst (λ x. totals_of (state_after s x) ≡ totals_after (totals_of s) x) (sym next.is_step.entry) (totals_are limit s next.is_step.event next.is_step.can_happen l)
