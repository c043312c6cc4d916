use Rattle.std.proofs.Common.{◌≡◌, ◌*◌, List, ℕ, [], take, slice_index_or}
use Rattle.vector_headers.specs.Rows.{IsAdmitted}
use Rattle.vector_headers.proofs.blind.Blind.fill_row.Given as goal

-- the pieces before are written
abbrev pub invariant-loop-piece : goal.invariant-loop-piece
invariant-loop-piece g l =
    (block : List (List ℕ)) → IsAdmitted l.self block → take (l.piece * 128) l.into ≡ take (l.piece * 128) (slice_index_or block l.k [])
