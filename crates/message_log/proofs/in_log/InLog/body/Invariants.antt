use Rattle.message_log.proofs.in_log.InLog.body.Given as goal

-- the counter is kept in a ledger of its own
abbrev pub ghosts-get_in : goal.ghosts-get_in
ghosts-get_in a = record { name = a.blank.name; parts = a.blank.parts }
