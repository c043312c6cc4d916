use Rattle.worked_rows.proofs.tests.fields.counting.run_over.Given as goal

-- the ledger of the blank that is passed
abbrev pub ghosts-run_from : goal.ghosts-run_from
ghosts-run_from g a = record { name = a.blank.name; parts = a.blank.parts }
