use Rattle.std.proofs.Common.{◌<◌, ◌∙◌, ◌+◌, length, sym, subst, refl, arith}
use Rattle.net_model.specs.declared.Demand.{Demand}
use Rattle.unit_flow.proofs.BeginSteps.{IsFlowToSink-one, IsFlowToSink-walk, begun_more}
use Rattle.unit_flow.proofs.FlowSteps.{flowing_few}
use Rattle.unit_flow.proofs.beginning.use_paths.Goals as goal
use Rattle.unit_flow.proofs.beginning.use_paths.Goals.{then-is_open_path, else-is_open_path}

pub loop-path-init : goal.loop-path-init
loop-path-init c = record { kept = refl; conserved = c.requires.nothing; marked = c.requires.entered }

pub is_open_path-requires-clause-sink : goal.is_open_path-requires-clause-sink
is_open_path-requires-clause-sink c =
    let Within : Demand → Type 0 = λ demand. demand.sink < length c.args.net.now.sinks in
    subst Within (sym c.loop-path.invariant.kept) c.requires.sink

pub is_open_path-requires-clause-states : goal.is_open_path-requires-clause-states
is_open_path-requires-clause-states c = c.loop-path.invariant.conserved.are_states.each_link

pub is_open_path-requires-clause-walk : goal.is_open_path-requires-clause-walk
is_open_path-requires-clause-walk c =
    IsFlowToSink-walk c.args.net.now c.loop-path.residual.demand c.path-item.result
    (IsFlowToSink-one c.args.net.now c.args.residual.now.demand c.loop-path.residual.demand c.args.begun.now c.as_slice-path-items.result.now c.loop-path.path-index c.path-item.result c.loop-path.invariant.kept
    c.as_slice-path-items.ensures c.loop-path-test.true c.path-item.is c.requires.begun)

pub use_path-requires-clause-sink : goal.use_path-requires-clause-sink
use_path-requires-clause-sink c =
    let Within : Demand → Type 0 = λ demand. demand.sink < length c.args.net.now.sinks in
    subst Within (sym c.loop-path.invariant.kept) c.requires.sink

pub use_path-requires-clause-path : goal.use_path-requires-clause-path
use_path-requires-clause-path c =
    IsFlowToSink-one c.args.net.now c.args.residual.now.demand c.loop-path.residual.demand c.args.begun.now c.as_slice-path-items.result.now c.loop-path.path-index c.path-item.result c.loop-path.invariant.kept
    c.as_slice-path-items.ensures c.loop-path-test.true c.path-item.is c.requires.begun

pub use_path-requires-clause-all_open : goal.use_path-requires-clause-all_open
use_path-requires-clause-all_open c = sym c.is_open_path.ensures ∙ c.if-is_open_path.true

pub overflow_add-value : goal.overflow_add-value
overflow_add-value c =
    let net = c.args.net.now in
    let more = begun_more net c.args.residual.now.demand c.loop-path.residual c.use_path.new.residual c.loop-path.entered c.use_path.new.entered c.loop-path.value c.loop-path.invariant
    c.use_path.ensures.demand c.use_path.ensures.more c.use_path.ensures.entered in
    omega (arith, net.network.few_links, flowing_few net c.use_path.new.residual.demand c.use_path.new.residual.states (c.loop-path.value + 1) more.conserved)

pub loop-path-preserved : goal.loop-path-preserved
loop-path-preserved c =
    elim c.if-is_open_path.branch [
      | then-is_open_path w ↦
          rw (w.residual-is, w.entered-is, w.value-is)
          (begun_more c.args.net.now c.args.residual.now.demand c.loop-path.residual w.use_path.new.residual c.loop-path.entered w.use_path.new.entered c.loop-path.value c.loop-path.invariant
          w.use_path.ensures.demand w.use_path.ensures.more w.use_path.ensures.entered)
      | else-is_open_path w ↦ rw (w.residual-is, w.entered-is, w.value-is) c.loop-path.invariant
    ]
