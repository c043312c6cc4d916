use Rattle.std.proofs.Common.{◌≡◌, ◌*◌, ◌<◌, ℕ, Option, Some, List, ap, drop, length, sym, take, ◌∙◌, ◌++◌}
use Rattle.std.proofs.lemmas.List.{take_at}
use Rattle.std.proofs.lemmas.List.Elements.{All-from_get_or}
use Rattle.coded_traffic.specs.CodeBlocks.{IsBlockOf}
use Rattle.generation_frame.specs.Blocks.{row_bytes}
use Rattle.linear_algebra.specs.Matrices.{rows_of}
use Rattle.vector_headers.specs.Fabric.{Carried, Carrying, carried_in}
use Rattle.vector_headers.proofs.FabricLaws.{carried-IsFabric, concat-rows}
use Rattle.vector_headers.proofs.fabric.Fabric.carry.Goals as goal
use Rattle.vector_headers.proofs.fabric.Fabric.carry.Goals.{After-copy_rows}

-- what is carried then
abbrev carried_with : ℕ → List ℕ → Option Carried
carried_with generation block = Some (record { generation = generation; block = block })

-- the block's size
sized : (g : _) (c : After-copy_rows g) → length c.args.block.now ≡ c.self.inside.code.now.rate * row_bytes
sized g c = c.requires ∙ ap (λ (fabric : Carrying). fabric.code.rate * row_bytes) (sym c.self.view_is)

-- the rows are its rows
copied : (g : _) (c : After-copy_rows g)
    → take c.self.inside.block.len (c.copy_rows.new.rows ++ drop (length c.copy_rows.new.rows) c.self.inside.block.items) ≡ rows_of c.self.inside.code.now.rate row_bytes c.args.block.now
copied g c =
    let new = c.copy_rows.new.rows in
    let count : length c.deref_mut.result.now ≡ c.self.inside.code.now.rate = ap (length {A = List ℕ}) c.deref_mut.ensures.value ∙ c.self.invariant.block_count in
    take_at new (drop (length new) c.self.inside.block.items) c.self.inside.block.len (c.copy_rows.auto.rows ∙ c.deref_mut.ensures.len)
    ∙ c.copy_rows.ensures ∙ ap (λ (n : ℕ). rows_of n row_bytes c.args.block.now) count

pub invariant_of-self : goal.invariant_of-self
invariant_of-self g c =
    let at = (goal.at.invariant_of-self g c).After-copy_rows in
    let inside = c.self.inside in
    let coding = c.coding.result in
    let same = c.coding.ensures in
    let whole : IsBlockOf inside.code.now c.args.block.now = record {
      size = sized g at;
      bytes = All-from_get_or (λ byte. byte < 256) c.args.block.now 0 (λ k _. (c.type_inv.block k).fits);
    } in
    carried-IsFabric g.F.Field.number inside.code.now coding.net.now coding.rate coding.field coding.operands.now same.net same.rate same.field same.operands
    inside.failed.items inside.fails.items c.self.invariant.fail_table
    (carried_in inside.generation inside.block.items) inside.live inside.vectors.items inside.block.items inside.rows c.self.invariant
    c.args.generation c.args.block.now c.deref.result.now _ c.deref-2.result.now c.fill.new.self whole (copied g at)
    c.deref.ensures.value c.deref-2.ensures.value c.fill.ensures.rows

pub returns-clause-carried : goal.returns-clause-carried
returns-clause-carried g c =
    let at = (goal.at.returns-clause-carried g c).After-copy_rows in
    ap (λ (whole : List ℕ). carried_with c.args.generation whole) (concat-rows c.self.inside.code.now.rate c.args.block.now _ (sized g at) (copied g at))
