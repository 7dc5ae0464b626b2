-- What was done by leases: as a journal has it, and as lines of leases tell it.
use Rattle.std.specs.Prelude.{ℕ, zero, suc, ◌+◌, ◌==◌, if◌then◌else◌, List, [], ◌∷◌, ◌++◌, filter}
use Rattle.lease_core.specs.declared.entry.Entry.{Entry}
use Rattle.lease_core.specs.declared.entry.Entry.TheVariants.{Send, Release, Timeout}
use Rattle.lease_core.specs.declared.lease.Deed.{Deed}
use Rattle.lease_core.specs.declared.lease.Deed.TheVariants.{Sent, GaveBack, TookBack}
use Rattle.lease_core.specs.declared.lease.Ending.{Ending}
use Rattle.lease_core.specs.declared.lease.Ending.TheVariants.{Running, GivenBack, TakenBack}
use Rattle.lease_core.specs.declared.lease.Line.{Line}

abbrev pub deeds_in : Entry → List Deed
deeds_in (Send lease library ordinal number) = Sent lease library ordinal ∷ []
deeds_in (Release lease library count heir) = GaveBack lease library count heir ∷ []
deeds_in (Timeout lease library count) = TookBack lease library count ∷ []
deeds_in _ = []

-- of a journal, in order
abbrev pub deeds_of : List Entry → List Deed
deeds_of [] = []
deeds_of (e ∷ es) = deeds_in e ++ deeds_of es

-- the sends 1 to n
abbrev pub sends_by : ℕ → ℕ → ℕ → List Deed
sends_by lease library zero = []
sends_by lease library (suc n) = sends_by lease library n ++ Sent lease library (suc n) ∷ []

abbrev pub end_by : ℕ → ℕ → ℕ → Ending → List Deed
end_by lease library count Running = []
end_by lease library count (GivenBack heir) = GaveBack lease library count heir ∷ []
end_by lease library count TakenBack = TookBack lease library count ∷ []

-- a lease's sends, and then how it ended
abbrev pub deeds_by : ℕ → Line → List Deed
deeds_by lease l = sends_by lease l.library l.sends ++ end_by lease l.library l.sends l.ending

-- of the lines of leases from this one on
abbrev pub deeds_told : ℕ → List Line → List Deed
deeds_told lease [] = []
deeds_told lease (l ∷ ls) = deeds_by lease l ++ deeds_told (lease + 1) ls

-- of those that are one library's
abbrev pub deeds_told_of : ℕ → ℕ → List Line → List Deed
deeds_told_of library lease [] = []
deeds_told_of library lease (l ∷ ls) = (if l.library == library then deeds_by lease l else []) ++ deeds_told_of library (lease + 1) ls

abbrev pub library_of : Deed → ℕ
library_of (Sent lease library ordinal) = library
library_of (GaveBack lease library count heir) = library
library_of (TookBack lease library count) = library

-- one library's deeds, in order
abbrev pub deeds_of_library : ℕ → List Deed → List Deed
deeds_of_library library deeds = filter (λ d. library_of d == library) deeds
