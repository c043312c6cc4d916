use Rattle.std.proofs.Common.{ℕ, List, length, rules, subst₂, ◌∙◌}
use Rattle.node_program.specs.LiveTable.{IsFailTable}
use Rattle.vector_headers.proofs.FabricLaws.{opened-IsFabric}
use Rattle.vector_headers.proofs.fabric.Fabric.open.Goals as goal

pub invariant_of-result : goal.invariant_of-result
invariant_of-result g c =
    let code = c.args.code.now in
    let coding = c.coding-coding.result in
    let same = c.coding-coding.ensures in
    let fails = c.in_ok-fails.fails.items in
    let Table : List ℕ → ℕ → Type 0 = λ failed links. IsFailTable failed links fails in
    let table : Table c.args.failed.now (length code.net.links) = subst₂ Table c.as_slice.ensures c.len.ensures c.in_ok-fails.ensures.table in
    opened-IsFabric g.F.Field.number code coding.net.now coding.rate coding.field coding.operands.now same.net same.rate same.field same.operands
    c.args.failed.now fails table
    c.in_ok-to_vec.field-0.items c.deref.result.now c.deref-2.result.now c.deref-3.result.now c.in_ok-live.live c.in_ok-vectors.vectors.items c.in_ok-block.block.items c.deref-4.result.now
    c.in_ok-rows.rows
    (c.in_ok-to_vec.ensures.items_if_clones_equal (λ x y is. is) ∙ c.as_slice-2.ensures)
    (c.in_ok-fails.ensures.count ∙ c.len.ensures) c.deref.ensures.value c.deref-2.ensures.value c.deref-3.ensures.value
    c.in_ok-live.ensures.count c.in_ok-live.ensures.entries c.in_ok-vectors.ensures (search rules) c.in_ok-rows.ensures
