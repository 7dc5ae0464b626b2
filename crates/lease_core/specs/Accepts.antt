-- Whether an entry may stand next, as the code tells it from what it keeps beside the entries.
use Rattle.std.specs.Prelude.{ℕ, ◌+◌, ◌==◌, ◌&&◌, not, nat_lt, nat_le, is_some, is_none, Bool, true, false, Option, Some, None}
use Rattle.lease_core.specs.declared.entry.Entry.{Entry}
use Rattle.lease_core.specs.declared.entry.Entry.TheVariants.{Arrive, Admin, Bind, Plan, Leave, Reset, Granted, Refused, Send, Release, Timeout, Hold, Lapse}
use Rattle.lease_core.specs.declared.entry.Why.{Why}
use Rattle.lease_core.specs.declared.entry.Why.TheVariants.{UnknownSession, OtherOwner, Reserved, LeasesSpent, MissingMessages}
use Rattle.lease_core.specs.declared.limits.TheConstants.{MOST_LIBRARIES}
use Rattle.lease_core.specs.declared.totals.Totals.{Totals}
use Rattle.lease_core.specs.State.{owner_in}
use Rattle.lease_core.specs.Runs.{owes_hold, is_hold, is_bind}

-- the library that has the session, or 0
abbrev pub total_owner : Totals → ℕ
total_owner t = owner_in t.lease.ending t.lease.library

abbrev pub is_library : ℕ → Bool
is_library library = nat_le 1 library && nat_le library MOST_LIBRARIES

-- nobody stands before the library
abbrev pub is_open : Option (ℕ × ℕ) → ℕ → Bool
is_open None library = true
is_open (Some r) library = r.0 == library

abbrev pub is_reserved_as : Option (ℕ × ℕ) → ℕ → ℕ → Bool
is_reserved_as None heir until = false
is_reserved_as (Some r) heir until = (r.0 == heir) && (r.1 == until)

-- the library can take the session by one lease more
abbrev pub has_lease_for : ℕ → Totals → ℕ → Bool
has_lease_for limit t library = (total_owner t == 0) && is_open t.reserved library && not (t.leases == limit)

-- the cause applies, and none before it
abbrev pub refuses : ℕ → Totals → ℕ → Why → Bool
refuses limit t library (UnknownSession s) = false
refuses limit t library (OtherOwner owner lease) = nat_lt 0 (total_owner t) && (owner == total_owner t) && (lease == t.leases)
refuses limit t library (Reserved heir until) = (total_owner t == 0) && is_reserved_as t.reserved heir until && not (heir == library)
refuses limit t library (LeasesSpent lease) = (total_owner t == 0) && is_open t.reserved library && (t.leases == limit) && (lease == t.leases)
refuses limit t library (MissingMessages asked logged) = has_lease_for limit t library && nat_lt t.inbound asked && (logged == t.inbound)

-- the last lease runs, and is this library's
abbrev pub is_by_owner : Totals → ℕ → ℕ → Bool
is_by_owner t lease library = nat_lt 0 (total_owner t) && (lease == t.leases) && (library == t.lease.library)

-- the entry has its numbers from an event that can happen
abbrev pub is_step : ℕ → Totals → Entry → Bool
is_step limit t (Arrive pos) = pos == t.inbound
is_step limit t (Admin number) = number == t.sent_in_series + 1
is_step limit t (Bind c) = true
is_step limit t (Plan begin last at) = true
is_step limit t (Leave c) = true
is_step limit t (Reset series) = series == t.series + 1
is_step limit t (Granted library nr lease from start) = is_library library && has_lease_for limit t library && nat_le from t.inbound && (lease == t.leases + 1) && (start == t.inbound)
is_step limit t (Refused library nr why) = is_library library && refuses limit t library why
is_step limit t (Send lease library ordinal number) = is_by_owner t lease library && (ordinal == t.lease.sends + 1) && (number == t.sent_in_series + 1)
is_step limit t (Release lease library count heir) = is_by_owner t lease library && (count == t.lease.sends) && nat_le heir MOST_LIBRARIES && not (heir == library)
is_step limit t (Timeout lease library count) = is_by_owner t lease library && (count == t.lease.sends)
is_step limit t (Hold lease until) = lease == t.leases
is_step limit t (Lapse lease) = is_some t.reserved && (lease == t.leases)

abbrev pub is_bound_to : Option ℕ → ℕ → Bool
is_bound_to None c = false
is_bound_to (Some bound) c = bound == c

abbrev pub fits_connection : Totals → Entry → Bool
fits_connection t (Bind c) = is_none t.bound
fits_connection t (Plan begin last at) = is_some t.bound
fits_connection t (Leave c) = is_bound_to t.bound c
fits_connection t (Reset series) = is_bind t.latest
fits_connection t _ = true

-- a hold stands just where it is owed
abbrev pub fits_hold : Bool → Bool → Bool
fits_hold true hold = hold
fits_hold false hold = not hold

abbrev pub accepts : ℕ → Totals → Entry → Bool
accepts limit t e = fits_hold (owes_hold t.latest) (is_hold e) && fits_connection t e && is_step limit t e
