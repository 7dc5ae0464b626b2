use Rattle.log_tests.proofs.desk.found_bodies.Given as goal

-- the look-ups are counted in a ledger of their own
abbrev pub ghosts-found_in : goal.ghosts-found_in
ghosts-found_in a = record { name = a.blank.name; parts = a.blank.parts }
