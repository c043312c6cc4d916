use Rattle.std.specs.Prelude.{◌≤◌}
use Rattle.std.proofs.Common.{◌≡◌, ◌+◌, ◌*◌, length, arith}
use Rattle.std.proofs.Math.Nat.{add-mul, mul-le-mul_right}
use Rattle.generation_frame.specs.Blocks.{row_bytes}
use Rattle.source_delivery.proofs.CutLaws.{cut-next, length-file_block}
use Rattle.source_delivery.specs.Carried.{file_block}
use Rattle.source_delivery.proofs.delivering.cut_blocks.Goals as goal

pub loop-place-preserved : goal.loop-place-preserved
loop-place-preserved c =
    let rate = c.args.rate in
    let bytes = c.args.bytes.now in
    let blocks = c.loop-place.blocks in
    let n = c.loop-place.place in
    let size = rate * row_bytes in
    let enough : (n + 1) * size ≤ c.args.count * size = mul-le-mul_right size (omega arith) in
    let next : (n + 1) * size ≡ n * size + 1 * size = add-mul n 1 size in
    let room : n * size + size ≤ length blocks = omega (arith, enough, next, c.loop-place.auto.blocks, c.requires.room) in
    cut-next (file_block bytes rate) blocks c.cut_block.new.block _ n size room (length-file_block bytes rate n c.requires.some_rate) c.loop-place.invariant c.cut_block.ensures
