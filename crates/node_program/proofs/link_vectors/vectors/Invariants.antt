use Rattle.node_program.proofs.link_vectors.vectors.Given as goal

-- the ledger of the blank that is passed
abbrev pub ghosts-fill : goal.ghosts-fill
ghosts-fill g a = record { name = a.blank.name; parts = a.blank.parts }
