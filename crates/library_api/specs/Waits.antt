-- How long a library has waited.
use Rattle.std.specs.Prelude.{ℕ, ◌+◌, Bool, true, false, ◌==◌, if◌then◌else◌}
use Rattle.library_api.specs.declared.waited.WaitKind.{WaitKind}
use Rattle.library_api.specs.declared.waited.WaitKind.TheVariants.{Free, Event, Lane, Asks, Done}

pub record Waits : Type 0 where
  pub kind : WaitKind
  pub count : ℕ

abbrev pub same_kind : WaitKind → WaitKind → Bool
same_kind Free Free = true
same_kind Event Event = true
same_kind Lane Lane = true
same_kind Asks Asks = true
same_kind Done Done = true
same_kind _ _ = false

-- the count at which a library's stays
abbrev pub most_waits : ℕ
most_waits = 18446744073709551615

abbrev pub next_count : ℕ → ℕ
next_count n = if n == most_waits then n else n + 1

abbrev pub count_after : WaitKind → Waits → ℕ
count_after Free w = 0
count_after kind w = if same_kind kind w.kind then next_count w.count else 1

-- a call waited for this, and the calls before it as these
abbrev pub waits_after : WaitKind → Waits → Waits
waits_after kind w = record { kind = kind; count = count_after kind w }

abbrev pub no_waits : Waits
no_waits = record { kind = Free; count = 0 }
