use Rattle.log_tests.proofs.desk.first_ends.Given as goal

-- the look-ups are counted in a ledger of their own
abbrev pub ghosts-ends_in : goal.ghosts-ends_in
ghosts-ends_in a = record { name = a.blank.name; parts = a.blank.parts }
