use Rattle.std.proofs.Common.{◌≡◌, ◌∙◌, ℕ, ◌-◌, suc, sym, subst, refl, arith}
use Rattle.net_model.specs.Flows.{flow_network}
use Rattle.unit_flow.proofs.BeginSteps.{IsUsedFrom, link_within, used_all, used_next, used_none}
use Rattle.unit_flow.proofs.beginning.use_path.Goals as goal

pub loop-place-init : goal.loop-place-init
loop-place-init c =
    let residual = c.args.residual.now in
    let path = c.args.path.now in
    let From : ℕ → Type 0 = λ place. IsUsedFrom (flow_network c.args.net.now residual.demand) residual.states residual.states path place in
    record {
      demand = refl;
      used = subst From (sym c.len-place.ensures) (used_none c.args.net.now residual.demand residual.states path c.requires.path c.requires.all_open c.requires.states);
      entered = c.requires.entered;
    }

pub at-requires : goal.at-requires
at-requires c = omega (arith, c.loop-place.invariant.used.within)

pub turn-requires-clause-states : goal.turn-requires-clause-states
turn-requires-clause-states c = c.loop-place.invariant.used.each_link

pub turn-requires-clause-link : goal.turn-requires-clause-link
turn-requires-clause-link c =
    let residual = c.args.residual.now in
    link_within c.args.net.now residual.demand residual.states c.args.path.now c.requires.path c.requires.all_open (c.loop-place.place - 1) c.at.result.now c.at.ensures

pub loop-place-preserved : goal.loop-place-preserved
loop-place-preserved c =
    let residual = c.args.residual.now in
    let before : c.loop-place.place ≡ suc (c.loop-place.place - 1) = omega (arith, c.loop-place-test.true) in
    record {
      demand = c.turn.ensures.demand ∙ c.loop-place.invariant.demand;
      used = used_next c.args.net.now residual.demand residual.states c.args.path.now c.requires.path c.requires.all_open c.loop-place.residual.states c.turn.new.residual.states c.loop-place.place
          (c.loop-place.place - 1) c.at.result.now before c.at.ensures c.loop-place.invariant.used c.turn.ensures.states;
      entered = c.turn.ensures.entered;
    }

pub returns-clause-more : goal.returns-clause-more
returns-clause-more c =
    let residual = c.args.residual.now in
    let network = flow_network c.args.net.now residual.demand in
    let none : c.loop-place.place ≡ 0 = omega (arith, c.loop-place-test.false) in
    let From : ℕ → Type 0 = λ place. IsUsedFrom network residual.states c.loop-place.residual.states c.args.path.now place in
    λ value conserved.
    used_all c.args.net.now residual.demand residual.states c.args.path.now c.requires.path c.requires.all_open c.loop-place.residual.states value c.requires.sink (subst From none c.loop-place.invariant.used) conserved
