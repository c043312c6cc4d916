use Rattle.worked_rows.proofs.tests.fields.steps.find_uncounted.Given as goal

-- the ledger of the blank that is passed
abbrev pub ghosts-find_from : goal.ghosts-find_from
ghosts-find_from a = record { name = a.blank.name; parts = a.blank.parts }
