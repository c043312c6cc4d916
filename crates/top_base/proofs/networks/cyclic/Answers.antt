use Rattle.std.proofs.Common.{inl, subst, All, length, List, ℕ, ◌<◌, sym, ◌≡◌}
use Rattle.net_model.proofs.WalkLaws.{IsWalk-below}
use Rattle.top_base.specs.Lines.{cycle_line}
use Rattle.top_base.proofs.networks.cyclic.Goals as goal

pub cycle_line-requires : goal.cycle_line-requires
cycle_line-requires c =
    let Below : List ℕ → Type 0 = λ links. All (λ link. link < length c.args.net.now.links) links in
    subst Below (sym c.as_slice.ensures) (IsWalk-below c.args.net.now.links c.args.links c.requires.is_cycle.walk)

pub returns-in-Ok : goal.returns-in-Ok
returns-in-Ok c = λ text stands_for.
    let net = c.args.net.now in
    let line = subst (λ links. c.in-Ok.line ≡ cycle_line net links) c.as_slice.ensures c.in-Ok.ensures in
    inl (net, stands_for, c.requires, line)
