-- What can happen to a session, and the one entry that follows from it and from the entries before it.
use Rattle.std.specs.Prelude.{◌≡◌, ◌≢◌, ℕ, ◌+◌, ◌<◌, ◌≤◌, ◌==◌, nat_lt, IsSome, if◌then◌else◌, List, [], ◌∷◌, ◌++◌, Option, Some, None}
use Rattle.std.specs.Option.{option_or}
use Rattle.lease_core.specs.declared.entry.Entry.{Entry}
use Rattle.lease_core.specs.declared.event.Event.{Event}
use Rattle.lease_core.specs.declared.event.Event.TheVariants.{Arrives, AdminSent, Binds, Plans, Leaves, Resets, Requests, Sends, Releases, TimesOut, Holds, Lapses}
use Rattle.lease_core.specs.declared.entry.Entry.TheVariants.{Arrive, Admin, Bind, Plan, Leave, Reset, Granted, Refused, Send, Release, Timeout, Hold, Lapse}
use Rattle.lease_core.specs.declared.entry.Why.{Why}
use Rattle.lease_core.specs.declared.entry.Why.TheVariants.{OtherOwner, Reserved, LeasesSpent, MissingMessages}
use Rattle.lease_core.specs.declared.limits.TheConstants.{MOST_LIBRARIES}
use Rattle.lease_core.specs.declared.messages.Reply.{Reply}
use Rattle.lease_core.specs.declared.messages.Reply.TheVariants.{Granted as ToGranted, Refused as ToRefused}
use Rattle.lease_core.specs.State.{State, state_of, last_lease, owner_of, lease_of, series_of, sent_in_series}

-- a library has the session
abbrev pub why_owned : State → Option Why
why_owned s = if nat_lt 0 (owner_of s) then Some (OtherOwner (owner_of s) (lease_of s)) else None

-- the session is reserved for another library
abbrev pub why_reserved : Option (ℕ × ℕ) → ℕ → Option Why
why_reserved None library = None
why_reserved (Some r) library = if r.0 == library then None else Some (Reserved r.0 r.1)

-- the last lease is the limit
abbrev pub why_spent : ℕ → State → Option Why
why_spent limit s = if lease_of s == limit then Some (LeasesSpent (lease_of s)) else None

-- the replay would begin past the end of the inbound log
abbrev pub why_missing : State → ℕ → Option Why
why_missing s from = if nat_lt s.inbound from then Some (MissingMessages from s.inbound) else None

-- the first cause that applies
unfoldable pub why_refused : ℕ → State → ℕ → ℕ → Option Why
why_refused limit s library from = option_or (why_owned s) (option_or (why_reserved s.reserved library) (option_or (why_spent limit s) (why_missing s from)))

abbrev pub reply_by : State → Option Why → Reply
reply_by s None = ToGranted (lease_of s + 1) s.inbound
reply_by s (Some why) = ToRefused why

abbrev pub entry_with : ℕ → ℕ → ℕ → Reply → Entry
entry_with library nr from (ToGranted lease start) = Granted library nr lease from start
entry_with library nr from (ToRefused why) = Refused library nr why

-- the answer to a request
abbrev pub reply_to : ℕ → State → ℕ → ℕ → Reply
reply_to limit s library from = reply_by s (why_refused limit s library from)

-- the entry of a request, by the first cause that refuses it, if there is one
abbrev pub request_entry : State → ℕ → ℕ → ℕ → Option Why → Entry
request_entry s library nr from why = entry_with library nr from (reply_by s why)

abbrev pub send_entry : State → Entry
send_entry s = let l = last_lease s.leases in Send (lease_of s) l.library (l.sends + 1) (sent_in_series s + 1)

abbrev pub release_entry : State → ℕ → Entry
release_entry s heir = let l = last_lease s.leases in Release (lease_of s) l.library l.sends heir

abbrev pub timeout_entry : State → Entry
timeout_entry s = let l = last_lease s.leases in Timeout (lease_of s) l.library l.sends

abbrev pub hold_entry : State → ℕ → Entry
hold_entry s until = Hold (lease_of s) until

-- the entry, where a session can be granted `limit` times
abbrev pub step : ℕ → State → Event → Entry
step limit s Arrives = Arrive s.inbound
step limit s AdminSent = Admin (sent_in_series s + 1)
step limit s (Binds c) = Bind c
step limit s (Plans begin last at) = Plan begin last at
step limit s (Leaves c) = Leave c
step limit s Resets = Reset (series_of s + 1)
step limit s (Requests library nr from) = request_entry s library nr from (why_refused limit s library from)
step limit s Sends = send_entry s
step limit s (Releases heir) = release_entry s heir
step limit s TimesOut = timeout_entry s
step limit s (Holds until) = hold_entry s until
step limit s Lapses = Lapse (lease_of s)

-- a library, and not the engine
pub record IsLibrary (library : ℕ) : Type 0 where
  pub from_one : 1 ≤ library
  pub to_last : library ≤ MOST_LIBRARIES

-- a library has the session by the last lease
abbrev pub IsActive : State → Type 0
IsActive s = 0 < owner_of s

-- nobody, or another library than the one that gives the session back
pub record IsHeir (s : State) (heir : ℕ) : Type 0 where
  pub to_last : heir ≤ MOST_LIBRARIES
  pub other : heir ≢ (last_lease s.leases).library

abbrev pub CanHappen : State → Event → Type 0
CanHappen s Arrives = Unit {0}
CanHappen s AdminSent = Unit {0}
CanHappen s (Binds c) = Unit {0}
CanHappen s (Plans begin last at) = Unit {0}
CanHappen s (Leaves c) = Unit {0}
CanHappen s Resets = Unit {0}
CanHappen s (Requests library nr from) = IsLibrary library
CanHappen s Sends = IsActive s
CanHappen s (Releases heir) = IsActive s × IsHeir s heir
CanHappen s TimesOut = IsActive s
CanHappen s (Holds until) = Unit {0}
CanHappen s Lapses = IsSome s.reserved

-- the entries, followed by the step's
abbrev pub entries_after : ℕ → List Entry → Event → List Entry
entries_after limit entries event = entries ++ step limit (state_of entries) event ∷ []

-- the session is reserved for nobody else
abbrev pub IsOpenTo : Option (ℕ × ℕ) → ℕ → Type 0
IsOpenTo None library = Unit {0}
IsOpenTo (Some r) library = r.0 ≡ library

-- no library has the session, and none stands before this one
pub record CanTake (s : State) (library : ℕ) : Type 0 where
  pub nobody_owns : owner_of s ≡ 0
  pub is_open : IsOpenTo s.reserved library
