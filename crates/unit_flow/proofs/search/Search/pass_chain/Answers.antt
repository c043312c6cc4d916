use Rattle.std.specs.Prelude.{◌≡◌, ◌<◌, ℕ, true, false, None, Some, length, slice_set}
use Rattle.std.proofs.Common.{sym, ◌∙◌, ap, subst, arith}
use Rattle.std.proofs.lemmas.List.{get_or-set_same}
use Rattle.std.proofs.lemmas.Option.{same_Some}
use Rattle.net_model.specs.Flows.{is_on}
use Rattle.unit_flow.specs.Residual.{passage}
use Rattle.unit_flow.specs.Searching.{HasPassed, IsEntry}
use Rattle.unit_flow.specs.declared.search.Entry.{Entry}
use Rattle.unit_flow.proofs.PassingSteps.{IsNextAt-read, passing_more, passing_none, steps_kept}
use Rattle.unit_flow.proofs.search.Search.pass_chain.Goals as goal

pub loop-link-init : goal.loop-link-init
loop-link-init g c = passing_none c.args.net.now c.args.residual.now.states c.args.end c.args.node c.args.first c.args.self.now.reached.items c.args.steps.now c.requires.first

pub returns-in-Some-clause-passed : goal.returns-in-Some-clause-passed
returns-in-Some-clause-passed g c =
    let net = c.args.net.now in
    let states = c.args.residual.now.states in
    let reached = c.args.self.now.reached.items in
    let link = c.loop-link.link in
    let node = c.in-Some.to in
    let entry : Entry = record { node = node; link = link } in
    let within : link < length net.links = omega (arith, c.loop-link-test.true, c.len-count.ensures) in
    let from = c.end_of-from.ensures ∙ c.loop-link.invariant.on_chain.ends within in
    let leads_on : passage net.links states link c.args.node ≡ Some node = subst (λ n. passage net.links states link n ≡ Some node) from c.in-Some.ensures.entry.leads in
    let room : node < length reached = omega (arith, c.in-Some.ensures.entry.below, c.requires.places.reached) in
    let Passed_by : ℕ → Type 0 = λ n. HasPassed net states c.args.end c.args.node c.args.first reached (record { next = c.index-next.result.now; entry = Some entry }) c.args.steps.now n in
    subst Passed_by (sym c.pass.ensures.ticks)
    (passing_more net states c.args.end c.args.node c.args.first link c.index-next.result.now reached (Some entry) c.args.steps.now c.loop-link.steps c.loop-link.invariant within (IsNextAt-read net.links (length net.nodes) c.args.wiring.now c.chains-chains.result.now c.args.end link c.index-next.result.now c.requires.wiring c.chains-chains.ensures within c.index-next.ensures)
    (λ to leads. ap (is_on (slice_set reached node true)) (same_Some _ _ (sym leads ∙ leads_on)) ∙ get_or-set_same reached node true false room))

pub returns-in-Some-clause-entry : goal.returns-in-Some-clause-entry
returns-in-Some-clause-entry g c =
    let net = c.args.net.now in
    let within : c.loop-link.link < length net.links = omega (arith, c.loop-link-test.true, c.len-count.ensures) in
    subst (λ n. IsEntry net c.args.residual.now.states n c.args.self.now.reached.items (record { node = c.in-Some.to; link = c.loop-link.link })) (c.end_of-from.ensures ∙ c.loop-link.invariant.on_chain.ends within)
    c.in-Some.ensures.entry

pub returns-in-Some-clause-looked : goal.returns-in-Some-clause-looked
returns-in-Some-clause-looked g c = omega (arith, c.pass.ensures.ticks, steps_kept c.args.net.now c.args.residual.now.states c.args.end c.args.node c.args.first c.args.self.now.reached.items _ c.args.steps.now c.loop-link.steps c.loop-link.invariant)

pub loop-link-preserved : goal.loop-link-preserved
loop-link-preserved g c =
    let net = c.args.net.now in
    let states = c.args.residual.now.states in
    let reached = c.args.self.now.reached.items in
    let link = c.loop-link.link in
    let within : link < length net.links = omega (arith, c.loop-link-test.true, c.len-count.ensures) in
    let Passed_by : ℕ → Type 0 = λ n. HasPassed net states c.args.end c.args.node c.args.first reached (record { next = c.index-next.result.now; entry = None }) c.args.steps.now n in
    subst Passed_by (sym c.pass.ensures.ticks)
    (passing_more net states c.args.end c.args.node c.args.first link c.index-next.result.now reached None c.args.steps.now c.loop-link.steps c.loop-link.invariant within (IsNextAt-read net.links (length net.nodes) c.args.wiring.now c.chains-chains.result.now c.args.end link c.index-next.result.now c.requires.wiring c.chains-chains.ensures within c.index-next.ensures)
    (λ next leads. c.in_default.ensures.known next (ap (passage net.links states link) (c.end_of-from.ensures ∙ c.loop-link.invariant.on_chain.ends within) ∙ leads)))

pub returns-clause-passed : goal.returns-clause-passed
returns-clause-passed g c = c.loop-link.invariant
