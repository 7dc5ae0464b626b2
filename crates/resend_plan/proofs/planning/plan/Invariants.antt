use Rattle.resend_plan.proofs.planning.plan.Given as goal

-- the look-ups are counted in a ledger of their own
abbrev pub ghosts-plan_in : goal.ghosts-plan_in
ghosts-plan_in a = record { name = a.blank.name; parts = a.blank.parts }
