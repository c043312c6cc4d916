use Rattle.std.proofs.Common.{◌≤◌, ◌*◌, ◌^◌, ap, length, arith}
use Rattle.std.proofs.Math.Nat.{mul-le-mul_right}
use Rattle.top_nodes.proofs.RelayingLaws.{few_outs}
use Rattle.top_nodes.proofs.working.Relaying.line.Goals as goal

pub overflow_mul-generations-2 : goal.overflow_mul-generations-2
overflow_mul-generations-2 g c =
    let self = c.args.self.now in
    let links = c.len-links.result in
    let few : links ≤ 8192 = omega (arith, few_outs self.code.now self.pattern self.node, ap length self.links, self.each, c.len-links.ensures) in
    let all : c.args.generations * 8 * links ≤ 2 ^ 35 * links = mul-le-mul_right links (omega (arith, c.requires)) in
    omega (arith, few, all)
