use Rattle.std.proofs.Common.{ap, arith, length, length-append}
use Rattle.lif_compiler.specs.Bases.{HasMatrices, HasNoLinks, HasUnitVectors}
use Rattle.lif_compiler.proofs.StartSteps.{All-more}
use Rattle.lif_compiler.proofs.starting.unit_bases.Goals as goal

pub loop-preserved : goal.loop-preserved
loop-preserved g c =
    let F = g.F.Field in
    let old = c.loop.bases.items in
    let new = c.push.new.self.items in
    let basis = c.in_ok-unit_basis.field-0 in
    let so_far = c.loop.invariant in
    let made = c.in_ok-unit_basis.ensures in
    let pushed = c.in_ok-push.ensures.items in
    record {
      count = omega (arith, simp length-append at (ap length pushed), so_far.count);
      frontiers = All-more (HasNoLinks c.args.rate) old new basis pushed so_far.frontiers made.frontier;
      vectors = All-more (HasUnitVectors c.args.rate) old new basis pushed so_far.vectors made.vectors;
      matrices = All-more HasMatrices old new basis pushed so_far.matrices made.matrices;
    }
