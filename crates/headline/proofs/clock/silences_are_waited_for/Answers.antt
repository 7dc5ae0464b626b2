use Rattle.std.proofs.Common.{ℕ, List}
use Rattle.std.specs.Prelude.{min}
use Rattle.headline.proofs.clock_lemmas.Served.{keeps_time}
use Rattle.headline.proofs.clock_lemmas.Walk.{ClockLaws}
use Rattle.headline.proofs.clock.silences_are_waited_for.Goals as goal
use Rattle.gate_io.specs.declared.clocks.TheConstants.{LAST_MOMENT}
use Rattle.headline.specs.runs.Accounted.{first_machines, no_entries}
use Rattle.lease_core.specs.declared.entry.Entry.{Entry}
use Rattle.session_core.specs.State.{State}

laws : goal.After-served_scripts_are_accounted_for → (before : ℕ → List Entry) (start : ℕ → State) → ClockLaws before start
laws c before start = record { accounts = c.accounts_are_kept.ensures; stands = c.accounts_are_whole.ensures.stands before start; named = c.accounts_are_whole.ensures.named before start }

pub returns : goal.returns
returns c = λ script turns wide old new old_links new_links left spent serves.
    keeps_time script turns wide old new old_links new_links left spent serves (laws c no_entries (first_machines script.config))
    (c.engines_are_accounted_for.ensures.first script.config (min serves.reading LAST_MOMENT) serves.shared serves.first serves.starts)
    (c.served_scripts_are_accounted_for.ensures script turns wide old new old_links new_links left spent serves)
