-- What the entries of a session's journal come to. It follows from the entries alone.
use Rattle.std.specs.Prelude.{◌≡◌, ℕ, ◌+◌, List, [], ◌∷◌, ◌++◌, length, sum, fold, Option, Some, None}
use Rattle.lease_core.specs.declared.entry.Entry.{Entry}
use Rattle.lease_core.specs.declared.entry.Entry.TheVariants.{Arrive, Admin, Bind, Leave, Reset, Granted, Send, Release, Timeout, Hold, Lapse}
use Rattle.lease_core.specs.declared.entry.Holding.{Holding}
use Rattle.lease_core.specs.declared.lease.Ending.{Ending}
use Rattle.lease_core.specs.declared.lease.Ending.TheVariants.{Running, GivenBack, TakenBack}
use Rattle.lease_core.specs.declared.lease.Lease.{Lease}

-- the last of a list is changed
abbrev pub with_last : {T : Type 0} → (T → T) → List T → List T
with_last f [] = []
with_last f (x ∷ []) = f x ∷ []
with_last f (x ∷ y ∷ ys) = x ∷ with_last f (y ∷ ys)

-- the last of a list, or d where there is none
abbrev pub last_or : {T : Type 0} → T → List T → T
last_or d [] = d
last_or d (x ∷ xs) = last_or x xs

-- The leases in order, the spans of ownership in order, the length of the inbound log, the length of each series of the outbound log,
-- for which library and until when the session is reserved, the connection to which it is bound, and the last entry.
pub record State : Type 0 where
  pub leases : List Lease
  pub holdings : List Holding
  pub inbound : ℕ
  pub series : List ℕ
  pub reserved : Option (ℕ × ℕ)
  pub bound : Option ℕ
  pub latest : Option Entry

abbrev pub lease_with_send : Lease → Lease
lease_with_send l = record l { sends = l.sends + 1 }

abbrev pub lease_with_ending : Ending → Lease → Lease
lease_with_ending ending l = record l { ending = ending }

abbrev pub leases_after : List Lease → Entry → List Lease
leases_after leases (Granted library nr lease from start) = leases ++ record { library = library; from = from; start = start; sends = 0; ending = Running } ∷ []
leases_after leases (Send lease library ordinal number) = with_last lease_with_send leases
leases_after leases (Release lease library count heir) = with_last (lease_with_ending (GivenBack heir)) leases
leases_after leases (Timeout lease library count) = with_last (lease_with_ending TakenBack) leases
leases_after leases _ = leases

-- the engine has the session from this position on
abbrev pub engine_from : ℕ → Holding
engine_from at = record { library = 0; lease = 0; from = at; start = at; end = at; sends = 0 }

abbrev pub holding_with_end : ℕ → Holding → Holding
holding_with_end at h = record h { end = at }

abbrev pub holding_with_send : Holding → Holding
holding_with_send h = record h { sends = h.sends + 1 }

-- a span begins with each grant and with each end of a lease, and the last one grows as messages arrive
abbrev pub holdings_after : List Holding → ℕ → Entry → List Holding
holdings_after holdings inbound (Arrive pos) = with_last (holding_with_end (inbound + 1)) holdings
holdings_after holdings inbound (Granted library nr lease from start) = holdings ++ record { library = library; lease = lease; from = from; start = start; end = start; sends = 0 } ∷ []
holdings_after holdings inbound (Send lease library ordinal number) = with_last holding_with_send holdings
holdings_after holdings inbound (Release lease library count heir) = holdings ++ engine_from inbound ∷ []
holdings_after holdings inbound (Timeout lease library count) = holdings ++ engine_from inbound ∷ []
holdings_after holdings inbound _ = holdings

abbrev pub inbound_after : ℕ → Entry → ℕ
inbound_after inbound (Arrive pos) = inbound + 1
inbound_after inbound _ = inbound

abbrev pub one_more : ℕ → ℕ
one_more n = n + 1

-- each send and each session message takes a number of the present series
abbrev pub series_after : List ℕ → Entry → List ℕ
series_after series (Admin number) = with_last one_more series
series_after series (Send lease library ordinal number) = with_last one_more series
series_after series (Reset number) = series ++ 0 ∷ []
series_after series _ = series

abbrev pub heir_in : Ending → ℕ
heir_in (GivenBack heir) = heir
heir_in _ = 0

-- where there was no lease yet
abbrev pub no_lease : Lease
no_lease = record { library = 0; from = 0; start = 0; sends = 0; ending = Running }

abbrev pub last_lease : List Lease → Lease
last_lease leases = last_or no_lease leases

-- a hold reserves for the heir of the release before it, which ended the last lease
abbrev pub reserved_by : Option (ℕ × ℕ) → Lease → Entry → Option (ℕ × ℕ)
reserved_by reserved last (Hold lease until) = Some (heir_in last.ending, until)
reserved_by reserved last (Granted library nr lease from start) = None
reserved_by reserved last (Lapse lease) = None
reserved_by reserved last _ = reserved

abbrev pub bound_after : Option ℕ → Entry → Option ℕ
bound_after bound (Bind c) = Some c
bound_after bound (Leave c) = None
bound_after bound _ = bound

-- one entry more
abbrev pub state_after : State → Entry → State
state_after s e = record {
  leases = leases_after s.leases e;
  holdings = holdings_after s.holdings s.inbound e;
  inbound = inbound_after s.inbound e;
  series = series_after s.series e;
  reserved = reserved_by s.reserved (last_lease s.leases) e;
  bound = bound_after s.bound e;
  latest = Some e;
}

-- before the first entry
abbrev pub opening : State
opening = record { leases = []; holdings = engine_from 0 ∷ []; inbound = 0; series = 0 ∷ []; reserved = None; bound = None; latest = None }

unfoldable pub state_of : List Entry → State
state_of entries = fold state_after opening entries

abbrev pub owner_in : Ending → ℕ → ℕ
owner_in Running library = library
owner_in _ library = 0

-- the library that has the session, or 0 for the engine
abbrev pub owner_of : State → ℕ
owner_of s = let l = last_lease s.leases in owner_in l.ending l.library

-- the number of the last lease
abbrev pub lease_of : State → ℕ
lease_of s = length s.leases

-- the number of the present series, from 1, its length, and the length of all
abbrev pub series_of : State → ℕ
series_of s = length s.series

abbrev pub sent_in_series : State → ℕ
sent_in_series s = last_or 0 s.series

abbrev pub sent_in_all : State → ℕ
sent_in_all s = sum s.series

-- So many messages more were sent in the present series. The inbound log, the number of series and the connection are as before.
pub record SentMore (n : ℕ) (s t : State) : Type 0 where
  pub inbound : t.inbound ≡ s.inbound
  pub series : series_of t ≡ series_of s
  pub number : sent_in_series t ≡ sent_in_series s + n
  pub all : sent_in_all t ≡ sent_in_all s + n
  pub bound : t.bound ≡ s.bound
