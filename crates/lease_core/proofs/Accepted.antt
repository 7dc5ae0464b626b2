-- The test whether an entry may stand next says just that.
use Rattle.std.proofs.Common.{◌≡◌, ◌≢◌, ℕ, ◌+◌, not, eqb, Bool, true, false, Option, Some, None, is_none, refl, sym, ap, ◌∙◌, subst}
use Rattle.std.proofs.lemmas.Bool.{eqb-true, eq-eqb, and_parts, and_from, ltb-true, lt-ltb, leb-true, le-leb, false≢true, false_from_ne_true}
use Rattle.lease_core.specs.declared.entry.Entry.{Entry}
use Rattle.lease_core.specs.declared.entry.Entry.TheVariants.{Arrive, Admin, Bind, Plan, Leave, Reset, Granted, Refused, Send, Release, Timeout, Hold, Lapse}
use Rattle.lease_core.specs.declared.entry.Why.{Why}
use Rattle.lease_core.specs.declared.entry.Why.TheVariants.{UnknownSession, OtherOwner, Reserved, LeasesSpent, MissingMessages}
use Rattle.lease_core.specs.declared.event.Event.{Event}
use Rattle.lease_core.specs.declared.event.Event.TheVariants.{Arrives, AdminSent, Binds, Plans, Leaves, Resets, Requests, Sends, Releases, TimesOut, Holds, Lapses}
use Rattle.lease_core.specs.declared.messages.Reply.{Reply}
use Rattle.lease_core.specs.declared.messages.Reply.TheVariants.{Granted as ToGranted, Refused as ToRefused}
use Rattle.lease_core.specs.State.{State, last_lease, owner_of, lease_of, series_of, sent_in_series}
use Rattle.lease_core.specs.Steps.{step, request_entry, entry_with, reply_to, CanHappen, IsActive, IsLibrary, IsOpenTo, CanTake}
use Rattle.lease_core.specs.Runs.{IsStep, IsNext, FitsConnection, owes_hold, is_hold}
use Rattle.lease_core.specs.Totals.{totals_of}
use Rattle.lease_core.specs.Accepts.{is_library, is_open, is_reserved_as, has_lease_for, refuses, is_by_owner, is_step, is_bound_to, fits_connection, fits_hold, accepts}
use Rattle.lease_core.proofs.Causes.{Outcome, owned, kept_for, spent, missing, granted, outcome, when_granted, when_owned, when_reserved, when_spent, when_missing}

-- small tests
differs : (n m : ℕ) → not (eqb n m) ≡ true → n ≢ m
differs n m h same = false≢true (sym (ap not (eq-eqb n m same)) ∙ h)

from_differs : (n m : ℕ) → n ≢ m → not (eqb n m) ≡ true
from_differs n m other = ap not (false_from_ne_true (eqb n m) (λ same. other (eqb-true n m same)))

library_from : (library : ℕ) → is_library library ≡ true → IsLibrary library
library_from library h = let both = and_parts _ _ h in record { from_one = leb-true 1 library both.0; to_last = leb-true library _ both.1 }

is_library_by : (library : ℕ) → IsLibrary library → is_library library ≡ true
is_library_by library is = and_from _ _ (le-leb 1 library is.from_one) (le-leb library _ is.to_last)

open_from : (r : Option (ℕ × ℕ)) (library : ℕ) → is_open r library ≡ true → IsOpenTo r library
open_from None library h = tt
open_from (Some r) library h = eqb-true r.0 library h

is_open_by : (r : Option (ℕ × ℕ)) (library : ℕ) → IsOpenTo r library → is_open r library ≡ true
is_open_by None library is = refl
is_open_by (Some r) library is = eq-eqb r.0 library is

reserved_from : (r : Option (ℕ × ℕ)) (heir until : ℕ) → is_reserved_as r heir until ≡ true → r ≡ Some (heir, until)
reserved_from None heir until h = absurd (false≢true h)
reserved_from (Some r) heir until h =
    let both = and_parts _ _ h in
    let first = eqb-true r.0 heir both.0 in
    let second = eqb-true r.1 until both.1 in
    λ i. Some (first i, second i)

is_reserved_by : (r : Option (ℕ × ℕ)) (heir until : ℕ) → r ≡ Some (heir, until) → is_reserved_as r heir until ≡ true
is_reserved_by r heir until is = subst (λ o. is_reserved_as o heir until ≡ true) (sym is) (and_from _ _ (eq-eqb heir heir refl) (eq-eqb until until refl))

bound_from : (bound : Option ℕ) (c : ℕ) → is_bound_to bound c ≡ true → bound ≡ Some c
bound_from None c h = absurd (false≢true h)
bound_from (Some b) c h = ap (λ n. Some n) (eqb-true b c h)

none_from : (bound : Option ℕ) → is_none bound ≡ true → bound ≡ None
none_from None h = refl
none_from (Some b) h = absurd (false≢true h)

is_none_by : (bound : Option ℕ) → bound ≡ None → is_none bound ≡ true
is_none_by bound is = ap is_none is

holds_from : (owes hold : Bool) → fits_hold owes hold ≡ true → owes ≡ hold
holds_from true hold h = sym h
holds_from false true h = absurd (false≢true h)
holds_from false false h = refl

fits_hold_by : (owes hold : Bool) → owes ≡ hold → fits_hold owes hold ≡ true
fits_hold_by true hold is = sym is
fits_hold_by false hold is = ap not (sym is)

-- where the entry may stand
connection_from : (s : State) (e : Entry) → fits_connection (totals_of s) e ≡ true → FitsConnection s e
connection_from s (Bind c) h = none_from s.bound h
connection_from s (Plan begin last at) h = h
connection_from s (Leave c) h = bound_from s.bound c h
connection_from s (Reset series) h = h
connection_from s _ h = tt

fits_connection_by : (s : State) (e : Entry) → FitsConnection s e → fits_connection (totals_of s) e ≡ true
fits_connection_by s (Bind c) fits = is_none_by s.bound fits
fits_connection_by s (Plan begin last at) fits = fits
fits_connection_by s (Leave c) fits = subst (λ b. is_bound_to b c ≡ true) (sym fits) (eq-eqb c c refl)
fits_connection_by s (Reset series) fits = fits
fits_connection_by s _ fits = refl

module _ (limit : ℕ) (s : State) where
  take_from : (library : ℕ) → has_lease_for limit (totals_of s) library ≡ true → CanTake s library × (lease_of s ≢ limit)
  take_from library h =
      let parts = and_parts _ _ h in
      let both = and_parts _ _ parts.0 in
      (record { nobody_owns = eqb-true (owner_of s) 0 both.0; is_open = open_from s.reserved library both.1 }, differs (lease_of s) limit parts.1)

  has_lease_by : (library : ℕ) → CanTake s library → lease_of s ≢ limit → has_lease_for limit (totals_of s) library ≡ true
  has_lease_by library can left = and_from _ _ (and_from _ _ (eq-eqb (owner_of s) 0 can.nobody_owns) (is_open_by s.reserved library can.is_open)) (from_differs (lease_of s) limit left)

  request_step : (library nr from : ℕ) (reply : Reply) → IsLibrary library → reply_to limit s library from ≡ reply → IsStep limit s (entry_with library nr from reply)
  request_step library nr from reply is replies = record { event = Requests library nr from; can_happen = is; entry = ap (entry_with library nr from) (sym replies) }

  refused_from : (library nr : ℕ) (why : Why) → IsLibrary library → refuses limit (totals_of s) library why ≡ true → IsStep limit s (Refused library nr why)
  refused_from library nr (UnknownSession n) is h = absurd (false≢true h)
  refused_from library nr (OtherOwner owner lease) is h =
      let parts = and_parts _ _ h in
      let both = and_parts _ _ parts.0 in
      let whose = eqb-true owner (owner_of s) both.1 in
      let which = eqb-true lease (lease_of s) parts.1 in
      request_step library nr 0 (ToRefused (OtherOwner owner lease)) is ((when_owned limit s library 0).1 (ltb-true 0 (owner_of s) both.0) ∙ ap (λ n. ToRefused (OtherOwner n (lease_of s))) (sym whose) ∙ ap (λ n. ToRefused (OtherOwner owner n)) (sym which))
  refused_from library nr (Reserved heir until) is h =
      let parts = and_parts _ _ h in
      let both = and_parts _ _ parts.0 in
      request_step library nr 0 (ToRefused (Reserved heir until)) is ((when_reserved limit s library 0 heir until).1 (eqb-true (owner_of s) 0 both.0, reserved_from s.reserved heir until both.1, differs heir library parts.1))
  refused_from library nr (LeasesSpent lease) is h =
      let parts = and_parts _ _ h in
      let spent = and_parts _ _ parts.0 in
      let both = and_parts _ _ spent.0 in
      let which = eqb-true lease (lease_of s) parts.1 in
      request_step library nr 0 (ToRefused (LeasesSpent lease)) is ((when_spent limit s library 0).1 (record { nobody_owns = eqb-true (owner_of s) 0 both.0; is_open = open_from s.reserved library both.1 }, eqb-true (lease_of s) limit spent.1) ∙ ap (λ n. ToRefused (LeasesSpent n)) (sym which))
  refused_from library nr (MissingMessages asked logged) is h =
      let parts = and_parts _ _ h in
      let both = and_parts _ _ parts.0 in
      let free = take_from library both.0 in
      let length_is = eqb-true logged s.inbound parts.1 in
      request_step library nr asked (ToRefused (MissingMessages asked logged)) is ((when_missing limit s library asked).1 (free.0, free.1, ltb-true s.inbound asked both.1) ∙ ap (λ n. ToRefused (MissingMessages asked n)) (sym length_is))

  -- who sends or gives back has the session, by its last lease
  pub record ByOwner (lease library : ℕ) : Type 0 where
    pub active : IsActive s
    pub lease_is : lease ≡ lease_of s
    pub library_is : library ≡ (last_lease s.leases).library

  owner_from : (lease library : ℕ) → is_by_owner (totals_of s) lease library ≡ true → ByOwner lease library
  owner_from lease library h =
      let parts = and_parts _ _ h in
      let both = and_parts _ _ parts.0 in
      record { active = ltb-true 0 (owner_of s) both.0; lease_is = eqb-true lease (lease_of s) both.1; library_is = eqb-true library (last_lease s.leases).library parts.1 }

  is_by_owner_now : IsActive s → is_by_owner (totals_of s) (lease_of s) (last_lease s.leases).library ≡ true
  is_by_owner_now active = and_from _ _ (and_from _ _ (lt-ltb 0 (owner_of s) active) (eq-eqb (lease_of s) (lease_of s) refl)) (eq-eqb (last_lease s.leases).library (last_lease s.leases).library refl)

  step_from : (e : Entry) → is_step limit (totals_of s) e ≡ true → IsStep limit s e
  step_from (Arrive pos) h = record { event = Arrives; can_happen = tt; entry = ap (λ n. Arrive n) (eqb-true pos s.inbound h) }
  step_from (Admin number) h = record { event = AdminSent; can_happen = tt; entry = ap (λ n. Admin n) (eqb-true number (sent_in_series s + 1) h) }
  step_from (Bind c) h = record { event = Binds c; can_happen = tt; entry = refl }
  step_from (Plan begin last at) h = record { event = Plans begin last at; can_happen = tt; entry = refl }
  step_from (Leave c) h = record { event = Leaves c; can_happen = tt; entry = refl }
  step_from (Reset series) h = record { event = Resets; can_happen = tt; entry = ap (λ n. Reset n) (eqb-true series (series_of s + 1) h) }
  step_from (Granted library nr lease from start) h =
      let at_start = and_parts _ _ h in
      let next = and_parts _ _ at_start.0 in
      let within = and_parts _ _ next.0 in
      let both = and_parts _ _ within.0 in
      let free = take_from library both.1 in
      let which = eqb-true lease (lease_of s + 1) next.1 in
      let position = eqb-true start s.inbound at_start.1 in
      request_step library nr from (ToGranted lease start) (library_from library both.0) ((when_granted limit s library from).1 (free.0, free.1, leb-true from s.inbound within.1) ∙ ap (λ n. ToGranted n s.inbound) (sym which) ∙ ap (λ n. ToGranted lease n) (sym position))
  step_from (Refused library nr why) h = let both = and_parts _ _ h in refused_from library nr why (library_from library both.0) both.1
  step_from (Send lease library ordinal number) h =
      let parts = and_parts _ _ h in
      let both = and_parts _ _ parts.0 in
      let by = owner_from lease library both.0 in
      let which = eqb-true ordinal ((last_lease s.leases).sends + 1) both.1 in
      let what = eqb-true number (sent_in_series s + 1) parts.1 in
      record { event = Sends; can_happen = by.active; entry = let a = by.lease_is in let b = by.library_is in cc }
  step_from (Release lease library count heir) h =
      let other = and_parts _ _ h in
      let few = and_parts _ _ other.0 in
      let both = and_parts _ _ few.0 in
      let by = owner_from lease library both.0 in
      let counted = eqb-true count (last_lease s.leases).sends both.1 in
      record {
        event = Releases heir;
        can_happen = (by.active, record { to_last = leb-true heir _ few.1; other = λ same. differs heir library other.1 (same ∙ sym by.library_is) });
        entry = let a = by.lease_is in let b = by.library_is in cc;
      }
  step_from (Timeout lease library count) h =
      let both = and_parts _ _ h in
      let by = owner_from lease library both.0 in
      let counted = eqb-true count (last_lease s.leases).sends both.1 in
      record { event = TimesOut; can_happen = by.active; entry = let a = by.lease_is in let b = by.library_is in cc }
  step_from (Hold lease until) h = record { event = Holds until; can_happen = tt; entry = ap (λ n. Hold n until) (eqb-true lease (lease_of s) h) }
  step_from (Lapse lease) h = let both = and_parts _ _ h in record { event = Lapses; can_happen = both.0; entry = ap (λ n. Lapse n) (eqb-true lease (lease_of s) both.1) }

  -- and each step passes the test
  request_passes : (library nr from : ℕ) → IsLibrary library → Outcome limit s library from → is_step limit (totals_of s) (entry_with library nr from (reply_to limit s library from)) ≡ true
  request_passes library nr from is (owned active why) = subst (λ w. is_step limit (totals_of s) (request_entry s library nr from w) ≡ true) (sym why)
      (and_from _ _ (is_library_by library is) (and_from _ _ (and_from _ _ (lt-ltb 0 (owner_of s) active) (eq-eqb (owner_of s) (owner_of s) refl)) (eq-eqb (lease_of s) (lease_of s) refl)))
  request_passes library nr from is (kept_for heir until free reserved other why) = subst (λ w. is_step limit (totals_of s) (request_entry s library nr from w) ≡ true) (sym why)
      (and_from _ _ (is_library_by library is) (and_from _ _ (and_from _ _ (eq-eqb (owner_of s) 0 free) (is_reserved_by s.reserved heir until reserved)) (from_differs heir library other)))
  request_passes library nr from is (spent can same why) = subst (λ w. is_step limit (totals_of s) (request_entry s library nr from w) ≡ true) (sym why)
      (and_from _ _ (is_library_by library is) (and_from _ _ (and_from _ _ (and_from _ _ (eq-eqb (owner_of s) 0 can.nobody_owns) (is_open_by s.reserved library can.is_open)) (eq-eqb (lease_of s) limit same)) (eq-eqb (lease_of s) (lease_of s) refl)))
  request_passes library nr from is (missing can left past why) = subst (λ w. is_step limit (totals_of s) (request_entry s library nr from w) ≡ true) (sym why)
      (and_from _ _ (is_library_by library is) (and_from _ _ (and_from _ _ (has_lease_by library can left) (lt-ltb s.inbound from past)) (eq-eqb s.inbound s.inbound refl)))
  request_passes library nr from is (granted can left there why) = subst (λ w. is_step limit (totals_of s) (request_entry s library nr from w) ≡ true) (sym why)
      (and_from _ _ (and_from _ _ (and_from _ _ (and_from _ _ (is_library_by library is) (has_lease_by library can left)) (le-leb from s.inbound there)) (eq-eqb (lease_of s + 1) (lease_of s + 1) refl)) (eq-eqb s.inbound s.inbound refl))

  step_passes : (event : Event) → CanHappen s event → is_step limit (totals_of s) (step limit s event) ≡ true
  step_passes Arrives can = eq-eqb s.inbound s.inbound refl
  step_passes AdminSent can = eq-eqb (sent_in_series s + 1) (sent_in_series s + 1) refl
  step_passes (Binds c) can = refl
  step_passes (Plans begin last at) can = refl
  step_passes (Leaves c) can = refl
  step_passes Resets can = eq-eqb (series_of s + 1) (series_of s + 1) refl
  step_passes (Requests library nr from) can = request_passes library nr from can (outcome limit s library from)
  step_passes Sends can = and_from _ _ (and_from _ _ (is_by_owner_now can) (eq-eqb ((last_lease s.leases).sends + 1) ((last_lease s.leases).sends + 1) refl)) (eq-eqb (sent_in_series s + 1) (sent_in_series s + 1) refl)
  step_passes (Releases heir) can = and_from _ _ (and_from _ _ (and_from _ _ (is_by_owner_now can.0) (eq-eqb (last_lease s.leases).sends (last_lease s.leases).sends refl)) (le-leb heir _ can.1.to_last)) (from_differs heir (last_lease s.leases).library can.1.other)
  step_passes TimesOut can = and_from _ _ (is_by_owner_now can) (eq-eqb (last_lease s.leases).sends (last_lease s.leases).sends refl)
  step_passes (Holds until) can = eq-eqb (lease_of s) (lease_of s) refl
  step_passes Lapses can = and_from _ _ can (eq-eqb (lease_of s) (lease_of s) refl)

  -- the whole test
  pub next_from : (e : Entry) → accepts limit (totals_of s) e ≡ true → IsNext limit s e
  next_from e h =
      let parts = and_parts _ _ h in
      let both = and_parts _ _ parts.0 in
      record { is_step = step_from e parts.1; connection = connection_from s e both.1; hold = holds_from (owes_hold s.latest) (is_hold e) both.0 }

  pub accepts_next : (e : Entry) → IsNext limit s e → accepts limit (totals_of s) e ≡ true
  accepts_next e next =
      and_from _ _ (and_from _ _ (fits_hold_by (owes_hold s.latest) (is_hold e) next.hold) (fits_connection_by s e next.connection))
      (subst (λ x. is_step limit (totals_of s) x ≡ true) (sym next.is_step.entry) (step_passes next.is_step.event next.is_step.can_happen))
