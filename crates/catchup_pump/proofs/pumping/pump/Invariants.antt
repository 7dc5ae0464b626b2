use Rattle.catchup_pump.proofs.pumping.pump.Given as goal

-- the look-ups are counted in a ledger of their own
abbrev pub ghosts-pump_in : goal.ghosts-pump_in
ghosts-pump_in a = record { name = a.blank.name; parts = a.blank.parts }
