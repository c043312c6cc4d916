use Rattle.std.proofs.Common.{arith}
use Rattle.due_sums.specs.Counts.{lists_of}
use Rattle.due_sums.proofs.ReaderLaws.{GainReader-pushed}
use Rattle.due_sums.proofs.readers.add_reader.Goals as goal

pub loop-input-preserved : goal.loop-input-preserved
loop-input-preserved c =
    let i = c.loop-input.input-index in
    GainReader-pushed c.args.group i c.args.inputs.now (lists_of c.args.readers.now) c.loop-input.readers c.index-readers-input.result c.push.new.self c.loop-input-test.true
    (omega (arith, c.requires i 0 c.loop-input-test.true)) c.in_ok-push.ensures.items c.loop-input.invariant
