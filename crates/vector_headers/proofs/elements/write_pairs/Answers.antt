use Rattle.std.proofs.Common.{◌<◌, ◌+◌, ◌*◌, length, arith}
use Rattle.vector_headers.proofs.ElementSteps.{pair-written}
use Rattle.vector_headers.proofs.elements.write_pairs.Goals as goal

pub loop-i-preserved : goal.loop-i-preserved
loop-i-preserved g c =
    let number = g.F.Field.number in
    let vector = c.args.vector.now in
    let into = c.loop-i.into in
    let i = c.loop-i.i in
    let below : i < length vector = omega arith in
    let inside : 2 * i + 1 < length into = omega arith in
    let step = pair-written number vector into i c.index-vector-i.result below inside c.index-vector-i.is c.loop-i.invariant in
    rw c.number-number.ensures.value step
