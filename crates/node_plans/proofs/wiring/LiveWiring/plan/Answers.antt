use Rattle.std.proofs.Common.{◌≡◌, ◌<◌, ℕ, List, All, Bool, length, map, refl, sym, ◌∙◌, ap, subst}
use Rattle.due_sums.specs.Waiting.{AreSums}
use Rattle.node_plans.proofs.PlanLaws.{AreSums-plan_of, IsPlan-plan_of}
use Rattle.node_plans.proofs.WiringLaws.{HasPlaces-wiring, ins-read, operands_of-outs, outs-read, outs_of-below}
use Rattle.node_plans.specs.Listed.{operands_by}
use Rattle.node_plans.specs.Plans.{IsPlan, input_count, ins_of, outs_of, sums_of}
use Rattle.node_plans.specs.Wired.{HasPlaces, IsWiringOf, Wired}
use Rattle.node_plans.specs.declared.plan.Plan.{Plan}
use Rattle.node_plans.proofs.wiring.LiveWiring.plan.Goals as goal

pub operands_of_links-requires-clause-links : goal.operands_of_links-requires-clause-links
operands_of_links-requires-clause-links c =
    let code = c.args.code.now in
    let Is : Wired → Type 0 = IsWiringOf code c.args.pattern in
    let wiring = subst Is (sym c.self.view_is) c.requires.wiring in
    let outs = outs-read code c.args.pattern c.args.node c.requires.node _ _ c.self.inside.outs.items _ _ wiring c.index-2.result.now c.index-2.ensures in
    let Below : List ℕ → Type 0 = All (λ link. link < length code.net.links) in
    subst Below (sym (c.as_slice-4.ensures ∙ c.in_ok-outs.ensures ∙ c.as_slice-2.ensures.value ∙ outs)) (outs_of-below code c.args.pattern c.args.node)

pub returns-clause-value : goal.returns-clause-value
returns-clause-value c =
    let code = c.args.code.now in
    let Is : Wired → Type 0 = IsWiringOf code c.args.pattern in
    let wiring = subst Is (sym c.self.view_is) c.requires.wiring in
    let ins : c.in_ok-ins.ins ≡ ins_of code c.args.pattern c.args.node =
    c.in_ok-ins.ensures ∙ c.as_slice.ensures.value
    ∙ ins-read code c.args.pattern c.args.node c.requires.node _ c.self.inside.ins.items _ _ _ wiring c.index.result.now c.index.ensures in
    let outs : c.in_ok-outs.outs ≡ outs_of code c.args.pattern c.args.node =
    c.in_ok-outs.ensures ∙ c.as_slice-2.ensures.value
    ∙ outs-read code c.args.pattern c.args.node c.requires.node _ _ c.self.inside.outs.items _ _ wiring c.index-2.result.now c.index-2.ensures in
    let operands : c.in_ok-operands.operands ≡ map (operands_by code c.self.inside.live) (outs_of code c.args.pattern c.args.node) =
    c.in_ok-operands.ensures ∙ ap (λ (live : List Bool). map (operands_by code live) c.as_slice-4.result.now) c.as_slice-3.ensures
    ∙ ap (map (operands_by code c.self.inside.live)) (c.as_slice-4.ensures ∙ outs) in
    rw (ins, outs, operands, operands_of-outs code c.args.pattern c.args.node c.self.inside.live wiring.live) refl

pub returns-clause-plan : goal.returns-clause-plan
returns-clause-plan c =
    let Is : Plan → Type 0 = IsPlan in
    subst Is (sym (returns-clause-value c)) (IsPlan-plan_of c.args.code.now c.args.pattern c.args.node)

pub returns-clause-sums : goal.returns-clause-sums
returns-clause-sums c =
    let Are : Plan → Type 0 = λ plan. AreSums (input_count plan) (sums_of plan) in
    subst Are (sym (returns-clause-value c)) (AreSums-plan_of c.args.code.now c.args.pattern c.args.node)

pub returns-clause-places : goal.returns-clause-places
returns-clause-places c =
    let Have : Plan → Type 0 = λ plan. HasPlaces plan c.args.self.now.places in
    subst Have (sym (returns-clause-value c)) (HasPlaces-wiring c.args.code.now c.args.pattern c.args.node c.args.self.now c.requires.wiring)
