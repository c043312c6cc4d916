-- The network with a sink behind each two of four nodes is one that is made.
use Rattle.std.proofs.Common.{◌≡◌, arith, refl}
use Rattle.net_maker.specs.Subsets.{binomial}
use Rattle.worked_nodes.proofs.tests.gates.combination_meets.Goals as goal

pub combination_code-requires-after_bounds : goal.combination_code-requires-after_bounds
unfolding binomial
combination_code-requires-after_bounds g c κs within =
    let six : binomial 4 2 ≡ 6 = refl in
    record {
      some = omega arith;
      among = omega arith;
      middle = omega arith;
      rate = omega arith;
      links = omega (arith, six);
      nodes = omega (arith, six);
    }
