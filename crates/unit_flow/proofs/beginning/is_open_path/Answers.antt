use Rattle.std.proofs.Common.{◌≡◌, ◌∙◌, ℕ, List, true, sym, subst}
use Rattle.std.proofs.lemmas.Bool.{and_from}
use Rattle.std.proofs.lemmas.List.{take_all}
use Rattle.std.proofs.lemmas.List.Folds.{list_all_more}
use Rattle.net_model.proofs.WalkLaws.{IsWalk-below}
use Rattle.net_model.specs.Flows.{flow_network}
use Rattle.net_model.specs.Walks.{IsWalk}
use Rattle.unit_flow.specs.Begun.{is_open, is_open_path}
use Rattle.unit_flow.proofs.beginning.is_open_path.Goals as goal

pub is_open-requires-clause-link : goal.is_open-requires-clause-link
is_open-requires-clause-link c =
    let links = c.args.net.now.links in
    IsWalk-below links c.as_slice-link-items.result.now (subst (IsWalk links) (sym c.as_slice-link-items.ensures) c.requires.walk) c.loop-link.link-index 0 c.loop-link-test.true

pub loop-link-preserved : goal.loop-link-preserved
loop-link-preserved c =
    list_all_more (is_open (flow_network c.args.net.now c.args.residual.now.demand) c.args.residual.now.states) c.as_slice-link-items.result.now c.loop-link.link-index 0 c.loop-link-test.true
    ∙ and_from _ _ c.loop-link.invariant (sym c.is_open.ensures ∙ c.if-not-is_open.false)

pub returns : goal.returns
returns c =
    let network = flow_network c.args.net.now c.args.residual.now.demand in
    let Open : List ℕ → Type 0 = λ links. is_open_path network c.args.residual.now.states links ≡ true in
    sym (subst Open (take_all c.loop-link.link-index c.as_slice-link-items.result.now c.loop-link-test.false ∙ c.as_slice-link-items.ensures) c.loop-link.invariant)
