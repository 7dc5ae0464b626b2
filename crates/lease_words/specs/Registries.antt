-- What the registries tell that a table is resumed from.
use Rattle.std.specs.Prelude.{◌≡◌, ◌^◌, ◌<◌, ◌≤◌, false, List, [], ◌∷◌, ◌++◌, length, map, Option, Some, None, option_to_list}
use Rattle.lease_core.specs.declared.entry.Entry.{Entry}
use Rattle.lease_core.specs.declared.entry.Entry.TheVariants.{Release, Timeout}
use Rattle.lease_core.specs.declared.lease.Ending.TheVariants.{GivenBack, TakenBack}
use Rattle.lease_core.specs.declared.lease.Line.{Line}
use Rattle.lease_core.specs.declared.limits.TheConstants.{MOST_LEASES, MOST_LIBRARIES}
use Rattle.lease_core.specs.Kept.{Kept}
use Rattle.lease_core.specs.Lines.{lines_of}
use Rattle.lease_words.specs.Leases.{Each, IsLineOf, is_running, runs}

-- the lines of a session's leases
abbrev pub kept_lines : Kept → List Line
kept_lines journal = lines_of journal.entries

-- those of each session
abbrev pub lines_of_each : List Kept → List (List Line)
lines_of_each journals = map kept_lines journals

-- a journal with no active lease, and no more leases than a session can have
pub record IsEndedJournal (journal : Kept) : Type 0 where
  pub ended : is_running (kept_lines journal) ≡ false
  pub few : length (kept_lines journal) ≤ MOST_LEASES

-- a lease that has ended
pub record IsEndedLine (l : Line) : Type 0 where
  pub ended : runs l.ending ≡ false
  pub known : IsLineOf MOST_LIBRARIES l

-- the lines of a session of which no lease is active
pub record AreEnded (lines : List Line) : Type 0 where
  pub few : length lines < 2 ^ 24
  pub ended : Each IsEndedLine lines

-- the line of the lease that an entry ends
abbrev pub ended_line : Entry → Option Line
ended_line (Release lease library count heir) = Some (record { library = library; sends = count; ending = GivenBack heir })
ended_line (Timeout lease library count) = Some (record { library = library; sends = count; ending = TakenBack })
ended_line _ = None

abbrev pub ended_lines : List Entry → List Line
ended_lines [] = []
ended_lines (e ∷ es) = option_to_list (ended_line e) ++ ended_lines es

-- each line's sends fit into a word
abbrev pub AreCounted : List Line → Type 0
AreCounted lines = Each (λ (l : Line). l.sends < 2 ^ 32) lines
