use Rattle.std.proofs.Common.{◌≡◌, ◌<◌, ◌∙◌, ◌-◌, List, ℕ, suc, ◌++◌, length, sym, ap, subst, refl, arith}
use Rattle.std.proofs.lemmas.List.{append-nil}
use Rattle.net_model.specs.Flows.{flow_network}
use Rattle.net_model.specs.declared.Demand.{Demand}
use Rattle.unit_flow.specs.Conservation.{IsConserved}
use Rattle.unit_flow.proofs.ConservationLaws.{IsFlowNetwork-flow_network}
use Rattle.unit_flow.specs.Decomposition.{paths_of}
use Rattle.unit_flow.specs.FlowOf.{HasUnit}
use Rattle.unit_flow.specs.Taking.{AreCursors}
use Rattle.unit_flow.proofs.CursorSteps.{cursors_start}
use Rattle.unit_flow.proofs.TakingSteps.{IsDecomposedTo, decomposition_next}
use Rattle.unit_flow.proofs.decomposing.decompose.Goals as goal

pub loop-k-init : goal.loop-k-init
loop-k-init c =
    let net = c.args.net.now in
    let residual = c.args.residual in
    let whole : c.args.value ≡ c.args.value - 0 = omega arith in
    let Left : ℕ → Type 0 = λ n. IsDecomposedTo (flow_network net residual.demand) c.args.value residual.states residual.states c.new-paths.result.items n in
    let Cursors : List ℕ → Type 0 = λ some. AreCursors net.links (length net.nodes) residual.states some in
    record {
      demand = refl;
      decomposed = subst Left whole (record {
        conserved = c.requires.conserved;
        paths_end = ap (λ some. some ++ paths_of (flow_network net residual.demand) c.args.value residual.states) (sym c.new-paths.ensures.items);
      });
      cursors = subst Cursors (sym (c.in_ok-cursors.ensures.items ∙ c.as_slice.ensures.value)) (cursors_start net.links (length net.nodes) residual.states c.args.from.now.firsts.items c.requires.firsts);
    }

pub take_path-requires-clause-sink : goal.take_path-requires-clause-sink
take_path-requires-clause-sink c =
    let Within : Demand → Type 0 = λ demand. demand.sink < length c.args.net.now.sinks in
    subst Within (sym c.loop-k.invariant.demand) c.requires.sink

pub take_path-requires-clause-unit : goal.take_path-requires-clause-unit
take_path-requires-clause-unit c =
    let net = c.args.net.now in
    let states = c.loop-k.undecomposed.residual.states in
    let Conserved : ℕ → Type 0 = λ n. IsConserved (flow_network net c.args.residual.demand) states n in
    let HasOne : Demand → Type 0 = λ demand. HasUnit net (record { demand = demand; states = states }) in
    let some : c.args.value - c.loop-k._k ≡ suc (c.args.value - c.loop-k._k - 1) = omega (arith, c.loop-k-test.true) in
    subst HasOne (sym c.loop-k.invariant.demand) (c.args.value - c.loop-k._k - 1, subst Conserved some c.loop-k.invariant.decomposed.conserved)

pub take_path-requires-clause-cursors : goal.take_path-requires-clause-cursors
take_path-requires-clause-cursors c = c.loop-k.invariant.cursors

pub loop-k-preserved : goal.loop-k-preserved
loop-k-preserved c =
    decomposition_next c.args.net.now c.args.value _ c.loop-k.undecomposed c.take_path.new.self c.loop-k.paths.items c.push.new.self.items c.in_ok-path.path (c.args.value - c.loop-k._k) _
    (IsFlowNetwork-flow_network c.args.net.now c.args.residual.demand c.requires.sink) c.loop-k.invariant (omega (arith, c.loop-k-test.true)) c.in_ok-path.ensures.path c.in_ok-path.ensures.states c.in_ok-path.ensures.demand
    c.in_ok-path.ensures.cursors c.in_ok-push.ensures.items

pub returns : goal.returns
returns c =
    let net = c.args.net.now in
    let none : c.args.value - c.loop-k._k ≡ 0 = omega (arith, c.loop-k-test.false) in
    let Left : ℕ → Type 0 = λ n. IsDecomposedTo (flow_network net c.args.residual.demand) c.args.value c.args.residual.states c.loop-k.undecomposed.residual.states c.loop-k.paths.items n in
    let done = subst Left none c.loop-k.invariant.decomposed in
    c.of.ensures ∙ sym (done.paths_end ∙ append-nil c.loop-k.paths.items)
