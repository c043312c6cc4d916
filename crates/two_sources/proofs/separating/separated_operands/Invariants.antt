use Rattle.std.proofs.Common.{◌≡◌, ◌++◌, map, take}
use Rattle.std.specs.List.{range_with_len}
use Rattle.two_sources.specs.Separated.{row_operands}
use Rattle.two_sources.proofs.separating.separated_operands.Given as goal

-- the links so far carry a row each
abbrev pub invariant-loop-row : goal.invariant-loop-row
invariant-loop-row l = l.table.items ≡ map row_operands (range_with_len 0 l.row)

-- and the others so far what they carried
abbrev pub invariant-loop-operands : goal.invariant-loop-operands
invariant-loop-operands l = l.table.items ≡ map row_operands (range_with_len 0 l.code.rate) ++ take l.operands-index l.operands-items
