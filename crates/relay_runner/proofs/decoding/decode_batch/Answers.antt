use Rattle.std.proofs.Common.{arith}
use Rattle.failure_patterns.proofs.DemandLaws.{few_sinks}
use Rattle.relay_runner.proofs.decoding.decode_batch.Goals as goal

pub overflow_add-start : goal.overflow_add-start
overflow_add-start g c =
    let net = c.args.code.now.net in
    omega (arith, few_sinks net, net.network.few_nodes, c.requires.within, c.loop-place.auto.blocks, c.loop-place.auto.place-end, c.loop-place-test.true)
