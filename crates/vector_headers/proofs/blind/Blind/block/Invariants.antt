use Rattle.std.proofs.Common.{◌≡◌, ◌*◌, List, ℕ, take}
use Rattle.std.specs.List.{concat}
use Rattle.vector_headers.specs.Rows.{IsAdmitted}
use Rattle.vector_headers.proofs.blind.Blind.block.Given as goal

-- the rows before are written
abbrev pub invariant-loop-k : goal.invariant-loop-k
invariant-loop-k g l = (block : List (List ℕ)) → IsAdmitted l.self block → take (l.k * 1024) l.into ≡ concat (take l.k block)
