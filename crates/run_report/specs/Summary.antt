-- The summary of a drill's run: four lines of counts.
use Rattle.std.specs.Prelude.{ℕ, ◌^◌, ◌-◌, min, Bool, true, false, List, [], ◌∷◌, ◌++◌, length, sum_by, decimal, codes}
use Rattle.std.specs.List.{count_by}
use Rattle.lease_core.specs.State.{lease_of, state_of}
use Rattle.lease_core.specs.declared.entry.Entry.{Entry}
use Rattle.lease_core.specs.declared.entry.Entry.TheVariants.{Send}
use Rattle.session_book.specs.declared.reads.SessionRecord.{SessionRecord}
use Rattle.run_report.specs.declared.records.LibReport.{LibReport}
use Rattle.run_report.specs.declared.records.RunRecord.{RunRecord}
use Rattle.run_report.specs.Lines.{line}
use Rattle.run_report.specs.Sessions.{outbound_length}

-- how many messages a session accepted, how many it numbered, how many leases it gave, and how many sends they made
abbrev pub accepted_in : SessionRecord → ℕ
accepted_in session = length session.inbound.items

abbrev pub numbered_in : SessionRecord → ℕ
numbered_in session = outbound_length session.outbound.series

abbrev pub leases_in : SessionRecord → ℕ
leases_in session = lease_of (state_of session.registry.entries)

abbrev pub is_send : Entry → Bool
is_send (Send lease library ordinal number) = true
is_send _ = false

abbrev pub sends_in : SessionRecord → ℕ
sends_in session = count_by is_send session.registry.entries

-- how many messages a library read
abbrev pub reads_in : LibReport → ℕ
reads_in library = library.reads

-- a greater sum is written as this number
abbrev pub MOST_TOLD : ℕ
MOST_TOLD = 2 ^ 64 - 1

-- what all have together
unfoldable pub told_sum : {X : Type 0} → (X → ℕ) → List X → ℕ
told_sum count xs = min (sum_by count xs) MOST_TOLD

unfoldable pub sums_line : RunRecord → List ℕ
sums_line run =
    let sessions = run.engine.sessions in
    line (codes "accepted") (decimal (told_sum accepted_in sessions) ∷ codes "entries" ∷ decimal (told_sum numbered_in sessions) ∷ codes "leases" ∷ decimal (told_sum leases_in sessions) ∷ codes "reads" ∷ decimal (told_sum reads_in run.libraries) ∷ codes "sends" ∷ decimal (told_sum sends_in sessions) ∷ [])

unfoldable pub sizes_line : RunRecord → List ℕ
sizes_line run =
    line (codes "sessions") (decimal (length run.engine.sessions) ∷ codes "libraries" ∷ decimal (length run.libraries) ∷ codes "connections" ∷ decimal (length run.engine.connections) ∷ [])

abbrev pub summary_of : ℕ → RunRecord → List ℕ
summary_of n run =
    line (codes "fixgate") (codes "drill" ∷ decimal n ∷ [])
    ++ sizes_line run
    ++ sums_line run
    ++ line (codes "end") []
