use Rattle.field_vectors.proofs.inverse.invert.Given as goal

-- the ledger of the blank that is passed
abbrev pub ghosts-invert_from : goal.ghosts-invert_from
ghosts-invert_from g a = record { name = a.blank.name; parts = a.blank.parts }
