use Rattle.std.proofs.Common.{◌≡◌, ◌≤◌, ◌+◌, ◌++◌, ◌∷◌, ℕ, [], List, ap, arith, length, map}
use Rattle.std.specs.List.{range_with_len}
use Rattle.std.proofs.lemmas.List.FromFn.{map-range_with_len_more}
use Rattle.node_program.proofs.LiveLaws.{length-operands}
use Rattle.node_program.specs.declared.Operand.{Operand}
use Rattle.node_program.specs.declared.code.Code.{Code}
use Rattle.two_sources.specs.Separated.{row_operands}
use Rattle.two_sources.proofs.separating.separated_operands.Goals as goal

-- one more link carries its row
one_more : (row : ℕ) (before new : List (List Operand)) (last : List Operand) → new ≡ before ++ last ∷ [] → last ≡ row_operands row
    → before ≡ map row_operands (range_with_len 0 row) → new ≡ map row_operands (range_with_len 0 (row + 1))
one_more row before new last pushed is so_far = rw (map-range_with_len_more row_operands 0 row row (omega arith), ← so_far, ← is) pushed

pub loop-row-preserved : goal.loop-row-preserved
loop-row-preserved c =
    one_more c.loop-row.row c.loop-row.table.items _ c.in_ok-row_operand.field-0
    c.in_ok-push.ensures.items c.in_ok-row_operand.ensures c.loop-row.invariant

-- there is a list of operands for each first link
enough : (code : Code) (lists : List (List Operand)) → lists ≡ code.operands → code.rate ≤ length code.net.links → code.rate ≤ length lists
enough code lists same few = omega (arith, few, length-operands code.code.draft, ap (length {A = List Operand}) same)

pub slice_bounds-operands-items-count : goal.slice_bounds-operands-items-count
slice_bounds-operands-items-count c = enough c.args.code.now c.as_slice.result.now c.as_slice.ensures c.requires

pub slice_bounds-operands-items-start : goal.slice_bounds-operands-items-start
slice_bounds-operands-items-start c = enough c.args.code.now c.as_slice.result.now c.as_slice.ensures c.requires
