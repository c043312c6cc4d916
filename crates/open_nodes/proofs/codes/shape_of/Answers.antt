use Rattle.std.proofs.Common.{arith}
use Rattle.failure_patterns.proofs.DemandLaws.{few_sinks}
use Rattle.open_nodes.proofs.codes.shape_of.Goals as goal

pub overflow_cast-result-3 : goal.overflow_cast-result-3
overflow_cast-result-3 c =
    let net = c.code-code.result.now.net in
    record { fits = omega (arith, c.len-3.ensures, few_sinks net, net.network.few_nodes) }
