use Rattle.std.proofs.Common.{◌≡◌, ◌<◌, ◌+◌, ◌∙◌, ℕ, Bool, false, List, length, replicate, sym, subst, arith}
use Rattle.std.proofs.lemmas.List.{with_items_is}
use Rattle.net_model.specs.Flows.{flow_network}
use Rattle.net_model.specs.declared.Demand.{Demand}
use Rattle.unit_flow.specs.Begun.{IsFlowToSink}
use Rattle.unit_flow.specs.Conservation.{IsConserved}
use Rattle.unit_flow.specs.Residual.{AreEntered}
use Rattle.unit_flow.specs.Searching.{HasPlaces}
use Rattle.unit_flow.proofs.EnteredLaws.{entered_none}
use Rattle.unit_flow.specs.declared.residual.LinkState.{LinkState}
use Rattle.unit_flow.proofs.FlowSteps.{HasValue-none, flow_found, flowing_few, flowing_next, flowing_start, flowing_ticks}
use Rattle.unit_flow.proofs.flow.max_flow_from.Goals as goal

pub use_paths-value-requires-clause-nothing : goal.use_paths-value-requires-clause-nothing
use_paths-value-requires-clause-nothing g c =
    HasValue-none c.args.net.now c.args.demand c.in_ok-residual.residual c.requires.sink c.in_ok-residual.ensures.demand c.in_ok-residual.ensures.states c.in_ok-residual.ensures.unused

pub use_paths-value-requires-clause-entered : goal.use_paths-value-requires-clause-entered
use_paths-value-requires-clause-entered g c =
    let net = c.args.net.now in
    let Marked : List Bool → Type 0 = λ marks. AreEntered net.links (length net.nodes) c.in_ok-residual.residual.states marks in
    let Unmarked : ℕ → Type 0 = λ n. c.in_ok-entered.entered.items ≡ replicate n false in
    let none = subst Unmarked c.len-2.ensures (c.in_ok-entered.ensures.items_if_clones_equal (λ y same. same)) in
    subst Marked (sym (c.deref_mut.ensures.value ∙ none)) (entered_none net.links (length net.nodes) c.in_ok-residual.residual.states c.in_ok-residual.ensures.unused)

pub use_paths-value-requires-clause-sink : goal.use_paths-value-requires-clause-sink
use_paths-value-requires-clause-sink g c =
    let Within : Demand → Type 0 = λ demand. demand.sink < length c.args.net.now.sinks in
    subst Within (sym c.in_ok-residual.ensures.demand) c.requires.sink

pub use_paths-value-requires-clause-begun : goal.use_paths-value-requires-clause-begun
use_paths-value-requires-clause-begun g c =
    let Begun : Demand → Type 0 = λ demand. IsFlowToSink c.args.net.now demand c.args.begun.now in
    subst Begun (sym c.in_ok-residual.ensures.demand) c.requires.begun

pub loop-value-init : goal.loop-value-init
loop-value-init g c =
    let net = c.args.net.now in
    let Places : ℕ → Type 0 = λ n. HasPlaces n c.in_ok-search.search in
    let Marked : List Bool → Type 0 = λ marks. AreEntered net.links (length net.nodes) c.use_paths-value.new.residual.states marks in
    record {
      flowing = flowing_start net c.args.demand c.use_paths-value.new.residual c.in_ok-search.search c.use_paths-value.result c.args.steps.now (c.use_paths-value.ensures.demand ∙ c.in_ok-residual.ensures.demand)
          c.use_paths-value.ensures.value (subst Places c.len.ensures c.in_ok-search.ensures);
      entered = subst Marked (sym (with_items_is c.in_ok-entered.entered c.use_paths-value.new.entered (c.use_paths-value.auto.entered ∙ c.deref_mut.ensures.len))) c.use_paths-value.ensures.entered;
    }

pub augment-requires-clause-entered : goal.augment-requires-clause-entered
augment-requires-clause-entered g c =
    let net = c.args.net.now in
    let Marked : List Bool → Type 0 = λ marks. AreEntered net.links (length net.nodes) c.loop-value.residual.states marks in
    subst Marked (sym c.deref_mut-in-loop-value.ensures.value) c.loop-value.invariant.entered

pub augment-requires-clause-states : goal.augment-requires-clause-states
augment-requires-clause-states g c = c.loop-value.invariant.flowing.conserved.are_states.each_link

pub augment-requires-clause-sink : goal.augment-requires-clause-sink
augment-requires-clause-sink g c =
    let Within : Demand → Type 0 = λ demand. demand.sink < length c.args.net.now.sinks in
    subst Within (sym c.loop-value.invariant.flowing.kept) c.requires.sink

pub augment-requires-clause-places : goal.augment-requires-clause-places
augment-requires-clause-places g c = c.loop-value.invariant.flowing.places

pub loop-value-preserved : goal.loop-value-preserved
loop-value-preserved g c =
    let net = c.args.net.now in
    let Marked : List Bool → Type 0 = λ marks. AreEntered net.links (length net.nodes) c.augment.new.residual.states marks in
    record {
      flowing = flowing_next c.args.net.now c.args.demand c.loop-value.residual c.augment.new.residual c.loop-value.search c.augment.new.search c.loop-value.value c.args.steps.now c.loop-value.steps c.augment.new.steps c.loop-value.invariant.flowing
          c.augment.ensures.demand (c.augment.ensures.more c.loop-value-test.true) c.augment.ensures.places c.augment.ensures.few_looks;
      entered = subst Marked (sym (with_items_is c.loop-value.entered c.augment.new.entered (c.augment.auto.entered ∙ c.deref_mut-in-loop-value.ensures.len))) c.augment.ensures.entered;
    }

pub overflow_add-value : goal.overflow_add-value
overflow_add-value g c =
    omega (arith, c.args.net.now.network.few_links, flowing_few c.args.net.now c.args.demand c.loop-value.residual.states c.loop-value.value c.loop-value.invariant.flowing.conserved)

pub loop-value-smaller : goal.loop-value-smaller
loop-value-smaller g c =
    let next = flowing_next c.args.net.now c.args.demand c.loop-value.residual c.augment.new.residual c.loop-value.search c.augment.new.search c.loop-value.value c.args.steps.now c.loop-value.steps c.augment.new.steps
    c.loop-value.invariant.flowing c.augment.ensures.demand (c.augment.ensures.more c.loop-value-test.true) c.augment.ensures.places c.augment.ensures.few_looks in
    omega (arith, flowing_few c.args.net.now c.args.demand c.augment.new.residual.states (c.loop-value.value + 1) next.conserved)

pub decompose-requires-clause-sink : goal.decompose-requires-clause-sink
decompose-requires-clause-sink g c =
    let Within : Demand → Type 0 = λ demand. demand.sink < length c.args.net.now.sinks in
    subst Within (sym (c.augment.ensures.demand ∙ c.loop-value.invariant.flowing.kept)) c.requires.sink

pub decompose-requires-clause-conserved : goal.decompose-requires-clause-conserved
decompose-requires-clause-conserved g c =
    let Conserved : List LinkState → Type 0 = λ states. IsConserved (flow_network c.args.net.now c.args.demand) states c.loop-value.value in
    let Wanted : Demand → Type 0 = λ demand. IsConserved (flow_network c.args.net.now demand) c.augment.new.residual.states c.loop-value.value in
    subst Wanted (sym (c.augment.ensures.demand ∙ c.loop-value.invariant.flowing.kept)) (subst Conserved (sym (c.augment.ensures.same c.loop-value-test.false)) c.loop-value.invariant.flowing.conserved)

pub returns-in_err-paths-clause-ticks : goal.returns-in_err-paths-clause-ticks
returns-in_err-paths-clause-ticks g c =
    flowing_ticks c.args.net.now c.args.demand c.loop-value.residual c.loop-value.search c.loop-value.value c.args.steps.now c.loop-value.steps c.augment.new.steps c.requires.sink c.loop-value.invariant.flowing c.augment.ensures.few_looks

pub returns : goal.returns
returns g c =
    let found = flow_found c.args.net.now c.args.demand c.loop-value.residual c.augment.new.residual c.loop-value.search c.loop-value.value c.args.steps.now c.loop-value.steps c.in_ok-paths.paths c.of-side.result
    c.augment.new.search.reached.items c.requires.sink c.loop-value.invariant.flowing c.augment.ensures.demand (c.augment.ensures.same c.loop-value-test.false) (c.augment.ensures.reached c.loop-value-test.false)
    (c.augment.ensures.away c.loop-value-test.false) c.in_ok-paths.ensures c.of-side.ensures in
    record {
      greatest = found.greatest;
      rising = found.rising;
      side = found.least;
      as_many = found.as_many;
      ticks = flowing_ticks c.args.net.now c.args.demand c.loop-value.residual c.loop-value.search c.loop-value.value c.args.steps.now c.loop-value.steps c.augment.new.steps c.requires.sink c.loop-value.invariant.flowing c.augment.ensures.few_looks;
    }
