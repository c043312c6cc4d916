-- One more row is taken in.
use Rattle.std.proofs.Common.{◌≡◌, ◌+◌, ◌-◌, ◌*◌, ℕ, arith, drop, subst, take}
use Rattle.coded_traffic.specs.CodeBlocks.{row_of}
use Rattle.generation_frame.specs.Blocks.{pieces, row_bytes}
use Rattle.relay_node.specs.Feeding.{ArePiecesTaken}
use Rattle.relay_node.proofs.FeedingLaws.{no_row-next, rows-next}
use Rattle.relay_node.proofs.feeding.take_rows.Goals as goal

pub loop-row-preserved : goal.loop-row-preserved
loop-row-preserved c =
    let row = c.loop-row.row in
    let block = c.args.block.now in
    let whole : row * row_bytes + row_bytes - row * row_bytes ≡ row_bytes = omega arith in
    let came : ArePiecesTaken c.args.generation row pieces (row_of block row) c.loop-row.sums c.take_row.new.sums =
    subst (λ (n : ℕ). ArePiecesTaken c.args.generation row pieces (take n (drop (row * row_bytes) block)) c.loop-row.sums c.take_row.new.sums) whole c.take_row.ensures in
    let taken = c.loop-row.invariant.taken in
    record {
      taken = rows-next c.args.generation row block c.args.sums.now c.loop-row.sums c.take_row.new.sums (omega arith) taken came;
      none = no_row-next c.args.generation row block c.args.sums.now c.loop-row.sums c.take_row.new.sums (omega arith) taken came c.args.rows (omega arith) c.loop-row.invariant.none;
    }
