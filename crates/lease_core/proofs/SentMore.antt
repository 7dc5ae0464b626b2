-- What sends, a release, a hold and a timeout do to the logs.
use Rattle.std.proofs.Common.{◌≡◌, ℕ, zero, suc, add-zero, ◌+◌, ◌<◌, true, false, cond, List, [], ◌∷◌, ◌++◌, length, sum, refl, sym, ◌∙◌, subst, arith}
use Rattle.std.proofs.lemmas.List.{length_push}
use Rattle.std.proofs.lemmas.List.Sums.{sum_by_push}
use Rattle.lease_core.specs.declared.entry.Entry.{Entry}
use Rattle.lease_core.specs.declared.entry.Entry.TheVariants.{Admin, Reset}
use Rattle.lease_core.specs.declared.messages.Reply.{Reply}
use Rattle.lease_core.specs.declared.messages.Reply.TheVariants.{Granted, Refused}
use Rattle.lease_core.specs.declared.word.Standing.{Standing}
use Rattle.lease_core.specs.declared.word.Standing.TheVariants.{Active, Released, Revoked}
use Rattle.lease_core.specs.State.{State, state_of, state_after, one_more, last_lease, series_of, sent_in_series, sent_in_all, SentMore}
use Rattle.lease_core.specs.Steps.{entry_with, send_entry, release_entry, hold_entry, timeout_entry}
use Rattle.lease_core.specs.Runs.{owes_hold}
use Rattle.lease_core.specs.Lines.{heir_named, entries_after_sends, entries_after_standing, entries_after_hold, entries_after_timeout}
use Rattle.lease_core.proofs.Lasts.{last_or_push, length-with_last, last_or-with_last, sum-one_more}
use Rattle.lease_core.proofs.Pushed.{state_of-push}

pub none_sent : (s : State) → SentMore 0 s s
none_sent s = record { inbound = refl; series = refl; number = omega arith; all = omega arith; bound = refl }

-- the sends, and that there is a series still
record Sends (n : ℕ) (s t : State) : Type 0 where
  pub more : SentMore n s t
  pub numbered : 0 < length t.series

one_sends : (n : ℕ) (s t : State) → Sends n s t → Sends (suc n) s (state_after t (send_entry t))
one_sends n s t so =
    let m = so.more in
    let size = length-with_last one_more t.series in
    let last = last_or-with_last one_more 0 t.series so.numbered in
    let all = sum-one_more t.series so.numbered in record {
      more = record {
        inbound = m.inbound;
        series = size ∙ m.series;
        number = omega (arith, last, m.number);
        all = omega (arith, all, m.all);
        bound = m.bound;
      };
      numbered = omega (arith, size, so.numbered);
    }

sends_more : (n : ℕ) (entries : List Entry) → 0 < length (state_of entries).series → Sends n (state_of entries) (state_of (entries_after_sends n entries))
sends_more zero entries some = record { more = none_sent (state_of entries); numbered = some }
sends_more (suc n) entries some =
    let before = entries_after_sends n entries in
    subst (Sends (suc n) (state_of entries)) (sym (state_of-push before (send_entry (state_of before)))) (one_sends n (state_of entries) (state_of before) (sends_more n entries some))

-- what follows the sends changes no log
more_released : (n owner : ℕ) (standing : Standing) (s : State) (entries : List Entry) → SentMore n s (state_of entries) → SentMore n s (state_of (entries_after_standing standing owner entries))
more_released n owner Active s entries m = m
more_released n owner Revoked s entries m = m
more_released n owner Released s entries m =
    let t = state_of entries in
    subst (SentMore n s) (sym (state_of-push entries (release_entry t (heir_named owner (last_lease t.leases).library)))) (record { inbound = m.inbound; series = m.series; number = m.number; all = m.all; bound = m.bound })

more_held : (n until : ℕ) (s : State) (entries : List Entry) → SentMore n s (state_of entries) → SentMore n s (state_of (entries_after_hold until entries))
more_held n until s entries m =
    let t = state_of entries in
    elim (owes_hold t.latest) as (λ b. SentMore n s (state_of (cond b (entries ++ hold_entry t until ∷ []) entries))) [
      | true ↦ subst (SentMore n s) (sym (state_of-push entries (hold_entry t until))) (record { inbound = m.inbound; series = m.series; number = m.number; all = m.all; bound = m.bound })
      | false ↦ m
    ]

pub shows_more : (n owner until : ℕ) (standing : Standing) (entries : List Entry) → 0 < length (state_of entries).series → SentMore n (state_of entries) (state_of (entries_after_hold until (entries_after_standing standing owner (entries_after_sends n entries))))
shows_more n owner until standing entries some =
    let sent = entries_after_sends n entries in
    more_held n until (state_of entries) (entries_after_standing standing owner sent) (more_released n owner standing (state_of entries) sent (sends_more n entries some).more)

pub more_timed_out : (n : ℕ) (s : State) (entries : List Entry) → SentMore n s (state_of entries) → SentMore n s (state_of (entries_after_timeout Active entries))
more_timed_out n s entries m = subst (SentMore n s) (sym (state_of-push entries (timeout_entry (state_of entries)))) (record { inbound = m.inbound; series = m.series; number = m.number; all = m.all; bound = m.bound })

-- a session message takes one number, and an answer to a request none
pub one_admin : (s : State) (number : ℕ) → 0 < length s.series → SentMore 1 s (state_after s (Admin number))
one_admin s number some =
    let last = last_or-with_last one_more 0 s.series some in
    let all = sum-one_more s.series some in
    record { inbound = refl; series = length-with_last one_more s.series; number = omega (arith, last); all = omega (arith, all); bound = refl }

pub none_by_request : (s : State) (library nr from : ℕ) (reply : Reply) → SentMore 0 s (state_after s (entry_with library nr from reply))
none_by_request s library nr from (Granted lease start) = record { inbound = refl; series = refl; number = omega arith; all = omega arith; bound = refl }
none_by_request s library nr from (Refused why) = record { inbound = refl; series = refl; number = omega arith; all = omega arith; bound = refl }

-- a reset begins a series of length 0
pub series_reset : (s : State) (n : ℕ) → series_of (state_after s (Reset n)) ≡ series_of s + 1
series_reset s n = length_push s.series 0

pub number_reset : (s : State) (n : ℕ) → sent_in_series (state_after s (Reset n)) ≡ 0
number_reset s n = last_or_push 0 s.series 0

pub all_reset : (s : State) (n : ℕ) → sent_in_all (state_after s (Reset n)) ≡ sent_in_all s
all_reset s n = sum_by_push (λ x. x) s.series 0 ∙ add-zero (sum s.series)
