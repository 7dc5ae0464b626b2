-- A registry as contracts see it: its entries, how many leases can be given, and for how many entries it has room.
use Rattle.std.specs.Prelude.{◌≡◌, ℕ, ◌≤◌, List}
use Rattle.lease_core.specs.declared.entry.Entry.{Entry}
use Rattle.lease_core.specs.declared.entry.Holding.{Holding}
use Rattle.lease_core.specs.declared.totals.Totals.{Totals}
use Rattle.lease_core.specs.declared.word.Word.{Word}
use Rattle.lease_core.specs.State.{State, state_of, last_lease, lease_of}
use Rattle.lease_core.specs.Runs.{IsRun}
use Rattle.lease_core.specs.Totals.{totals_of}
use Rattle.lease_core.specs.Showable.{NamesOwner}

pub record Kept : Type 0 where
  pub entries : List Entry
  pub leases : ℕ
  pub spare : ℕ

-- what is kept beside the entries is what they come to
pub record IsKept (entries : List Entry) (limit : ℕ) (holdings : List Holding) (totals : Totals) : Type 0 where
  pub run : IsRun limit entries
  pub holdings_are : holdings ≡ (state_of entries).holdings
  pub totals_are : totals ≡ totals_of (state_of entries)

-- the word can be shown, in what the code looks at: it is of the last lease, and not older than what was recorded of it
pub record IsCurrent (s : State) (w : Word) : Type 0 where
  pub lease : w.lease ≡ lease_of s
  pub owner : NamesOwner w.standing w.owner (last_lease s.leases).library
  pub count : (last_lease s.leases).sends ≤ w.count
