use Rattle.worked_rows.proofs.tests.fields.steps.places.Given as goal

-- the ledger of the blank that is passed
abbrev pub ghosts-places_from : goal.ghosts-places_from
ghosts-places_from a = record { name = a.blank.name; parts = a.blank.parts }
