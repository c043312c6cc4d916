use Rattle.std.specs.Prelude.{◌≤◌}
use Rattle.std.proofs.Common.{◌≡◌, ◌+◌, ◌*◌, length, arith}
use Rattle.std.proofs.Math.Nat.{add-mul, mul-le-mul_right}
use Rattle.generation_frame.specs.Blocks.{row_bytes}
use Rattle.source_delivery.proofs.CutLaws.{cut-next, length-twin_block}
use Rattle.source_delivery.specs.Twin.{twin_block}
use Rattle.source_delivery.proofs.twin.cut_twin_blocks.Goals as goal

pub loop-place-preserved : goal.loop-place-preserved
loop-place-preserved c =
    let first_rate = c.args.first_rate in
    let second_rate = c.args.second_rate in
    let first = c.args.first.now in
    let second = c.args.second.now in
    let blocks = c.loop-place.blocks in
    let n = c.loop-place.place in
    let size = (first_rate + second_rate) * row_bytes in
    let enough : (n + 1) * size ≤ c.args.count * size = mul-le-mul_right size (omega arith) in
    let next : (n + 1) * size ≡ n * size + 1 * size = add-mul n 1 size in
    let room : n * size + size ≤ length blocks = omega (arith, enough, next, c.loop-place.auto.blocks, c.requires.room) in
    cut-next (twin_block first_rate second_rate first second) blocks c.cut_twin_block.new.block _ n size room
    (length-twin_block first_rate second_rate first second n c.requires.some_first c.requires.some_second) c.loop-place.invariant c.cut_twin_block.ensures
