use Rattle.cut_witness.proofs.batches.enter_batch.Given as goal

-- the ledger of the blank that is passed
abbrev pub ghosts-certify_batch : goal.ghosts-certify_batch
ghosts-certify_batch g a = record { name = a.blank.name; parts = a.blank.parts }
