-- What the registry keeps beside the entries: all that the next entry depends on.
use Rattle.std.specs.Prelude.{◌≡◌, ◌+◌, Some, None}
use Rattle.lease_core.specs.declared.entry.Entry.{Entry}
use Rattle.lease_core.specs.declared.entry.Entry.TheVariants.{Arrive, Admin, Reset, Granted, Send, Release, Timeout, Hold, Lapse}
use Rattle.lease_core.specs.declared.entry.Holding.{Holding}
use Rattle.lease_core.specs.declared.lease.Ending.TheVariants.{Running, GivenBack, TakenBack}
use Rattle.lease_core.specs.declared.totals.Totals.{Totals}
use Rattle.lease_core.specs.State.{State, last_lease, lease_of, series_of, sent_in_series, sent_in_all, heir_in, bound_after}

abbrev pub totals_of : State → Totals
totals_of s = record {
  leases = lease_of s;
  lease = last_lease s.leases;
  inbound = s.inbound;
  series = series_of s;
  sent_in_series = sent_in_series s;
  sent = sent_in_all s;
  reserved = s.reserved;
  bound = s.bound;
  latest = s.latest;
}

-- the entry has its numbers right, so they can be taken from it
abbrev pub numbers_after : Totals → Entry → Totals
numbers_after t (Arrive pos) = record t { inbound = t.inbound + 1 }
numbers_after t (Admin number) = record t { sent_in_series = number; sent = t.sent + 1 }
numbers_after t (Reset series) = record t { series = series; sent_in_series = 0 }
numbers_after t (Granted library nr lease from start) = record t { leases = lease; lease = record { library = library; from = from; start = start; sends = 0; ending = Running }; reserved = None }
numbers_after t (Send lease library ordinal number) = record t { lease = record (t.lease) { sends = ordinal }; sent_in_series = number; sent = t.sent + 1 }
numbers_after t (Release lease library count heir) = record t { lease = record (t.lease) { ending = GivenBack heir } }
numbers_after t (Timeout lease library count) = record t { lease = record (t.lease) { ending = TakenBack } }
numbers_after t (Hold lease until) = record t { reserved = Some (heir_in t.lease.ending, until) }
numbers_after t (Lapse lease) = record t { reserved = None }
numbers_after t _ = t

abbrev pub totals_after : Totals → Entry → Totals
totals_after t e = record (numbers_after t e) { bound = bound_after t.bound e; latest = Some e }

-- a send is the last holding's next one
abbrev pub Counts : Entry → Holding → Type 0
Counts (Send lease library ordinal number) h = ordinal ≡ h.sends + 1
Counts _ h = Unit {0}
