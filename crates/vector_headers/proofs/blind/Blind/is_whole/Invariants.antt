use Rattle.std.proofs.Common.{◌≡◌, ◌<◌, ℕ, length}
use Rattle.vector_headers.specs.Rows.{rows_of_piece}
use Rattle.vector_headers.proofs.blind.Blind.is_whole.Given as goal

-- as many rows are kept of the pieces before as the rate
abbrev pub invariant-loop-piece : goal.invariant-loop-piece
invariant-loop-piece g l = (piece : ℕ) → piece < l.piece → length (rows_of_piece l.self piece) ≡ l.self.rate
