use Rattle.std.specs.Prelude.{ℕ}
use Rattle.std.proofs.Common.{subst, arith}
use Rattle.std.proofs.lemmas.Bool.{eqb-true}
use Rattle.net_model.specs.Flows.{flow_network}
use Rattle.unit_flow.specs.Searching.{EndsAt}
use Rattle.unit_flow.proofs.SearchSteps.{ends_at, entered, looks_same, room, stepped_back}
use Rattle.unit_flow.proofs.search.Search.go_on.Goals as goal

pub returns-in_default-clause-searching : goal.returns-in_default-clause-searching
returns-in_default-clause-searching g c =
    let found = c.in_default.ensures in
    stepped_back (flow_network c.args.net.now c.args.residual.now.demand) c.args.residual.now.states c.args.self.now c.next_entry.new.self c.requires.searching c.requires.on_way found.way found.moved found.led
    found.left

pub returns-in_default-clause-sooner : goal.returns-in_default-clause-sooner
returns-in_default-clause-sooner g c = omega (arith, c.in_default.ensures.ticks.not_back, c.in_default.ensures.ticks.counted, c.in_default.ensures.way.depth, c.requires.on_way)

pub enter-requires-clause-way : goal.enter-requires-clause-way
enter-requires-clause-way g c =
    let found = c.in-Some.ensures in
    room (flow_network c.args.net.now c.args.residual.now.demand) c.args.residual.now.states c.args.self.now c.next_entry.new.self c.requires.searching c.requires.on_way found.way found.moved c.next_entry.new.self
    c.in-Some.entry found.entry.below found.entry.within found.entry.leads found.entry.fresh

pub returns-clause-searching : goal.returns-clause-searching
returns-clause-searching g c =
    let found = c.in-Some.ensures in
    let after = c.enter.ensures in
    entered (flow_network c.args.net.now c.args.residual.now.demand) c.args.residual.now.states c.args.self.now c.next_entry.new.self c.requires.searching c.requires.on_way found.way found.moved c.enter.new.self
    c.in-Some.entry found.entry.below found.entry.within found.entry.leads found.entry.fresh found.led after.way after.depth after.came after.reached after.from after.into

pub returns-clause-at_sink : goal.returns-clause-at_sink
returns-clause-at_sink g c = λ same.
    let found = c.in-Some.ensures in
    let after = c.enter.ensures in
    let At : ℕ → Type 0 = λ node. EndsAt node c.enter.new.self in
    subst At (eqb-true _ _ same)
    (ends_at (flow_network c.args.net.now c.args.residual.now.demand) c.args.residual.now.states c.args.self.now c.next_entry.new.self c.requires.searching c.requires.on_way found.way found.moved c.enter.new.self
    c.in-Some.entry found.entry.below found.entry.within found.entry.leads found.entry.fresh found.led after.way after.depth after.came after.reached after.from after.into)

pub returns-clause-ticks : goal.returns-clause-ticks
returns-clause-ticks g c =
    let found = c.in-Some.ensures in
    let after = c.enter.ensures in
    let same = looks_same (flow_network c.args.net.now c.args.residual.now.demand) c.args.residual.now.states c.args.self.now c.next_entry.new.self c.requires.searching c.requires.on_way found.way found.moved
    c.enter.new.self c.in-Some.entry found.entry.below found.entry.within found.entry.leads found.entry.fresh found.led after.way after.depth after.came after.reached after.from after.into c.args.entered.now in
    record { not_back = found.ticks.not_back; counted = omega (arith, found.ticks.counted, same) }
