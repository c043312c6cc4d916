use Rattle.worked_rows.proofs.tests.steps.certificate_at.Given as goal

-- the ledger of the blank that is passed
abbrev pub ghosts-certificate_from : goal.ghosts-certificate_from
ghosts-certificate_from a = record { name = a.blank.name; parts = a.blank.parts }
