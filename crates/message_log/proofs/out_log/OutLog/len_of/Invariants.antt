use Rattle.message_log.proofs.out_log.OutLog.len_of.Given as goal

-- the counter is kept in a ledger of its own
abbrev pub ghosts-length_in : goal.ghosts-length_in
ghosts-length_in a = record { name = a.blank.name; parts = a.blank.parts }
