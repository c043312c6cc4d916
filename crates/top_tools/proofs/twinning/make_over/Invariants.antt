use Rattle.top_tools.proofs.twinning.make_over.Given as goal

-- the ledger of the blank that is passed
abbrev pub ghosts-code_in : goal.ghosts-code_in
ghosts-code_in g a = record { name = a.blank.name; parts = a.blank.parts }
