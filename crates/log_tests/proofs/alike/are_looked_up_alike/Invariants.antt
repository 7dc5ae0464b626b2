use Rattle.log_tests.proofs.alike.are_looked_up_alike.Given as goal

-- the look-ups are counted in a ledger of their own
abbrev pub ghosts-agree : goal.ghosts-agree
ghosts-agree a = record { name = a.blank.name; parts = a.blank.parts }
