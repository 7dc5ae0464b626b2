-- The numbers of an entry as its record has them, by the entry's kind.
use Rattle.std.specs.Prelude.{◌≡◌, ℕ, ◌<◌, ◌^◌, ◌%◌, ◌==◌, if◌then◌else◌, Option, Some, None}
use Rattle.lease_core.specs.declared.entry.Entry.{Entry}
use Rattle.lease_core.specs.declared.entry.Entry.TheVariants.{Arrive, Admin, Bind, Plan, Leave, Reset, Granted, Refused, Send, Release, Timeout, Hold, Lapse}
use Rattle.lease_core.specs.declared.entry.Why.{Why}
use Rattle.lease_core.specs.declared.entry.Why.TheVariants.{UnknownSession, OtherOwner, Reserved, LeasesSpent, MissingMessages}
use Rattle.durable_journal.specs.declared.numbers.Numbers.{Numbers}

abbrev pub numbers : ℕ → ℕ → ℕ → ℕ → ℕ → ℕ → Numbers
numbers kind a b c d e = record { kind = kind; a = a; b = b; c = c; d = d; e = e }

-- a refusal's cause: its number, and its own two numbers; no record is by an unknown session
abbrev pub refusal_numbers : ℕ → ℕ → Why → Numbers
refusal_numbers library nr (UnknownSession s) = numbers 7 library nr 0 s 0
refusal_numbers library nr (OtherOwner owner lease) = numbers 7 library nr 1 owner lease
refusal_numbers library nr (Reserved heir until) = numbers 7 library nr 2 heir until
refusal_numbers library nr (LeasesSpent lease) = numbers 7 library nr 3 lease 0
refusal_numbers library nr (MissingMessages asked logged) = numbers 7 library nr 4 asked logged

-- the number of the kind, and the entry's own numbers
abbrev pub numbers_of : Entry → Numbers
numbers_of (Arrive pos) = numbers 1 pos 0 0 0 0
numbers_of (Admin number) = numbers 2 number 0 0 0 0
numbers_of (Bind c) = numbers 3 c 0 0 0 0
numbers_of (Plan begin last at) = numbers 4 begin last 0 0 0
numbers_of (Leave c) = numbers 5 c 0 0 0 0
numbers_of (Granted library nr lease from start) = numbers 6 library nr lease from start
numbers_of (Refused library nr why) = refusal_numbers library nr why
numbers_of (Send lease library ordinal number) = numbers 8 lease library ordinal number 0
numbers_of (Release lease library count heir) = numbers 9 lease library count heir 0
numbers_of (Timeout lease library count) = numbers 10 lease library count 0 0
numbers_of (Hold lease until) = numbers 11 lease until 0 0 0
numbers_of (Lapse lease) = numbers 12 lease 0 0 0 0
numbers_of (Reset series) = numbers 13 series 0 0 0 0

abbrev pub WhyHasTypes : Why → Type 0
WhyHasTypes (UnknownSession s) = s < 2 ^ 16
WhyHasTypes (OtherOwner owner lease) = (owner < 2 ^ 8) × (lease < 2 ^ 32)
WhyHasTypes (Reserved heir until) = (heir < 2 ^ 8) × (until < 2 ^ 64)
WhyHasTypes (LeasesSpent lease) = lease < 2 ^ 32
WhyHasTypes (MissingMessages asked logged) = (asked < 2 ^ 64) × (logged < 2 ^ 64)

-- each number of the entry is in its type
abbrev pub HasTypes : Entry → Type 0
HasTypes (Arrive pos) = pos < 2 ^ 64
HasTypes (Admin number) = number < 2 ^ 64
HasTypes (Bind c) = c < 2 ^ 32
HasTypes (Plan begin last at) = (begin < 2 ^ 64) × (last < 2 ^ 64) × (at < 2 ^ 64)
HasTypes (Leave c) = c < 2 ^ 32
HasTypes (Granted library nr lease from start) = (library < 2 ^ 8) × (nr < 2 ^ 32) × (lease < 2 ^ 32) × (from < 2 ^ 64) × (start < 2 ^ 64)
HasTypes (Refused library nr why) = (library < 2 ^ 8) × (nr < 2 ^ 32) × WhyHasTypes why
HasTypes (Send lease library ordinal number) = (lease < 2 ^ 32) × (library < 2 ^ 8) × (ordinal < 2 ^ 32) × (number < 2 ^ 64)
HasTypes (Release lease library count heir) = (lease < 2 ^ 32) × (library < 2 ^ 8) × (count < 2 ^ 32) × (heir < 2 ^ 8)
HasTypes (Timeout lease library count) = (lease < 2 ^ 32) × (library < 2 ^ 8) × (count < 2 ^ 32)
HasTypes (Hold lease until) = (lease < 2 ^ 32) × (until < 2 ^ 64)
HasTypes (Lapse lease) = lease < 2 ^ 32
HasTypes (Reset series) = series < 2 ^ 32

-- a plan's own moment is the record's; the other entries have none
abbrev pub HasMoment : ℕ → Entry → Type 0
HasMoment at (Plan begin last own) = own ≡ at
HasMoment at _ = Unit {0}

-- how each number is cut to its type
abbrev pub low_8 : ℕ → ℕ
low_8 n = n % 2 ^ 8

abbrev pub low_16 : ℕ → ℕ
low_16 n = n % 2 ^ 16

abbrev pub low_32 : ℕ → ℕ
low_32 n = n % 2 ^ 32

-- the cause that the numbers are of, if of any
abbrev pub why_like : Numbers → Option Why
why_like n =
    if n.c == 0 then Some (UnknownSession (low_16 n.d))
    else (if n.c == 1 then Some (OtherOwner (low_8 n.d) (low_32 n.e))
    else (if n.c == 2 then Some (Reserved (low_8 n.d) n.e)
    else (if n.c == 3 then Some (LeasesSpent (low_32 n.d))
    else (if n.c == 4 then Some (MissingMessages n.d n.e)
    else None))))

abbrev pub refusal_like : Numbers → Option Why → Option Entry
refusal_like n None = None
refusal_like n (Some why) = Some (Refused (low_8 n.a) (low_32 n.b) why)

-- the one entry that may have these numbers, in a record with this moment, if there is one
unfoldable pub entry_like : Numbers → ℕ → Option Entry
entry_like n at =
    if n.kind == 1 then Some (Arrive n.a)
    else (if n.kind == 2 then Some (Admin n.a)
    else (if n.kind == 3 then Some (Bind (low_32 n.a))
    else (if n.kind == 4 then Some (Plan n.a n.b at)
    else (if n.kind == 5 then Some (Leave (low_32 n.a))
    else (if n.kind == 6 then Some (Granted (low_8 n.a) (low_32 n.b) (low_32 n.c) n.d n.e)
    else (if n.kind == 7 then refusal_like n (why_like n)
    else (if n.kind == 8 then Some (Send (low_32 n.a) (low_8 n.b) (low_32 n.c) n.d)
    else (if n.kind == 9 then Some (Release (low_32 n.a) (low_8 n.b) (low_32 n.c) (low_8 n.d))
    else (if n.kind == 10 then Some (Timeout (low_32 n.a) (low_8 n.b) (low_32 n.c))
    else (if n.kind == 11 then Some (Hold (low_32 n.a) n.b)
    else (if n.kind == 12 then Some (Lapse (low_32 n.a))
    else (if n.kind == 13 then Some (Reset (low_32 n.a))
    else None))))))))))))
