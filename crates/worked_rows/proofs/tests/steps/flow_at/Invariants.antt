use Rattle.worked_rows.proofs.tests.steps.flow_at.Given as goal

-- the ledger of the blank that is passed
abbrev pub ghosts-flow_from : goal.ghosts-flow_from
ghosts-flow_from a = record { name = a.blank.name; parts = a.blank.parts }
