use Rattle.std.proofs.Common.{◌≤◌, ◌+◌, ◌∙◌, length, arith, subst}
use Rattle.counted_steps.specs.Steps.{RoseByAtMost}
use Rattle.net_model.specs.Demands.{demand_count}
use Rattle.lif_compiler.proofs.AllSteps.{can_next}
use Rattle.lif_compiler.proofs.WorkLaws.{links_more, links_within}
use Rattle.lif_compiler.specs.Work.{choice_bound}
use Rattle.lif_compiler.proofs.partial_code.PartialCode.visit_all.Goals as goal

pub visit-requires-clause-ready : goal.visit-requires-clause-ready
visit-requires-clause-ready g c =
    let so_far = c.loop-list.invariant in
    let ready = c.requires.ready in (
      ready.0,
      can_next ready.1 c.loop-list.self c.loop-list.list-index c.list-item.result c.as_slice.result.now so_far.rate so_far.count c.loop-list-test.true c.list-item.is c.as_slice.ensures
          (so_far.visited ready.0 ready.1 ready.2),
    )

pub loop-list-preserved : goal.loop-list-preserved
loop-list-preserved g c =
    let so_far = c.loop-list.invariant in
    let done = c.in_ok-visit.ensures in
    let net = c.args.net.now in
    record {
      rate = done.rate ∙ so_far.rate;
      count = omega (arith, done.count, so_far.count);
      matrices = done.matrices;
      visited = λ routes visitable first.
          done.visited routes
          (can_next visitable c.loop-list.self c.loop-list.list-index c.list-item.result c.as_slice.result.now so_far.rate so_far.count c.loop-list-test.true c.list-item.is c.as_slice.ensures
          (so_far.visited routes visitable first));
      ticks = links_more c.loop-list.list-index (demand_count net) c.args.self.now.rate c.args.steps.now c.loop-list.steps c.visit.new.steps so_far.ticks (subst (λ rate. RoseByAtMost (choice_bound 1 (demand_count net) rate) c.loop-list.steps c.visit.new.steps) so_far.rate c.visit.ensures.ticks);
    }

pub returns-in_err-visit-clause-ticks : goal.returns-in_err-visit-clause-ticks
returns-in_err-visit-clause-ticks g c =
    let so_far = c.loop-list.invariant in
    let net = c.args.net.now in
    let rate = c.args.self.now.rate in
    let within : c.loop-list.list-index + 1 ≤ length net.links = omega (arith, c.loop-list-test.true, c.requires.ready.1.each_link) in
    links_within (c.loop-list.list-index + 1) (length net.links) (demand_count net) rate c.args.steps.now c.visit.new.steps within
    (links_more c.loop-list.list-index (demand_count net) rate c.args.steps.now c.loop-list.steps c.visit.new.steps so_far.ticks
    (subst (λ rate. RoseByAtMost (choice_bound 1 (demand_count net) rate) c.loop-list.steps c.visit.new.steps) so_far.rate c.visit.ensures.ticks))
