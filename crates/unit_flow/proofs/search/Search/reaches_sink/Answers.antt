use Rattle.std.proofs.Common.{sym, ◌∙◌, ap, arith}
use Rattle.net_model.specs.Flows.{flow_network, is_on}
use Rattle.unit_flow.proofs.ReachSteps.{IsReached-searched, few_looks, looks-le, looks-reached}
use Rattle.unit_flow.proofs.search.Search.reaches_sink.Goals as goal

pub loop-self-init : goal.loop-self-init
loop-self-init g c = record { searching = c.begin.ensures.searching; away = c.begin.ensures.sink; steps = omega (arith, c.begin.ensures.none c.args.entered.now) }

pub go_on-requires-clause-searching : goal.go_on-requires-clause-searching
go_on-requires-clause-searching g c = c.loop-self.invariant.searching

pub go_on-requires-clause-away : goal.go_on-requires-clause-away
go_on-requires-clause-away g c = ap (is_on c.loop-self.self.reached.items) c.sink-sink.ensures ∙ c.loop-self.invariant.away

pub returns-then-go_on-clause-ticks : goal.returns-then-go_on-clause-ticks
returns-then-go_on-clause-ticks g c = omega (arith, c.loop-self.invariant.steps, c.go_on.ensures.ticks.counted)

pub returns-then-go_on-clause-few_looks : goal.returns-then-go_on-clause-few_looks
returns-then-go_on-clause-few_looks g c =
    few_looks c.args.net.now.links c.args.entered.now c.go_on.new.self c.args.steps.now c.go_on.new.steps (omega (arith, c.loop-self.invariant.steps, c.go_on.ensures.ticks.counted))

pub loop-self-smaller : goal.loop-self-smaller
loop-self-smaller g c = omega (arith, c.go_on.ensures.sooner, looks-le c.args.net.now.links c.args.entered.now c.go_on.new.self)

pub loop-self-preserved : goal.loop-self-preserved
loop-self-preserved g c =
    record {
      searching = c.go_on.ensures.searching;
      away = sym (ap (is_on c.go_on.new.self.reached.items) c.sink-sink.ensures) ∙ c.go_on.ensures.sink ∙ c.if-go_on.false;
      steps = omega (arith, c.loop-self.invariant.steps, c.go_on.ensures.ticks.counted);
    }

pub returns-clause-way : goal.returns-clause-way
returns-clause-way g c = c.loop-self.invariant.searching.way

pub returns-clause-sink : goal.returns-clause-sink
returns-clause-sink g c = c.loop-self.invariant.away

pub returns-clause-reached : goal.returns-clause-reached
returns-clause-reached g c = λ _. IsReached-searched (flow_network c.args.net.now c.args.residual.now.demand) c.args.residual.now.states c.loop-self.self c.loop-self.invariant.searching (omega (arith, c.loop-self-test.false))

pub returns-clause-ticks : goal.returns-clause-ticks
returns-clause-ticks g c = c.loop-self.invariant.steps

pub returns-clause-few_looks : goal.returns-clause-few_looks
returns-clause-few_looks g c = few_looks c.args.net.now.links c.args.entered.now c.loop-self.self c.args.steps.now c.loop-self.steps c.loop-self.invariant.steps

pub returns-clause-each_once : goal.returns-clause-each_once
returns-clause-each_once g c = λ _.
    let network = flow_network c.args.net.now c.args.residual.now.demand in
    let once = looks-reached network c.args.residual.now.states c.args.entered.now c.loop-self.self c.loop-self.invariant.searching (omega (arith, c.loop-self-test.false)) in
    omega (arith, c.loop-self.invariant.steps, once)
