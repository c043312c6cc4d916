use Rattle.std.proofs.Common.{length, ◌∙◌, subst}
use Rattle.node_plans.proofs.WiringLaws.{IsWiringOf-listed}
use Rattle.node_plans.specs.Listed.{AreListed}
use Rattle.node_plans.proofs.wiring.LiveWiring.of.Goals as goal

pub returns : goal.returns
returns c =
    let code = c.args.code.now in
    let listed : AreListed code c.in_ok-live.live (length code.net.links) c.in_ok-ins.field-0 =
    subst (λ live. AreListed code live (length code.net.links) c.in_ok-ins.field-0) c.as_slice.ensures c.in_ok-ins.ensures in
    IsWiringOf-listed code c.args.pattern c.in_ok-live.live c.in_ok-live.ensures.entries c.in_ok-ins.field-0 _ c.in_ok-sinks.sinks.items c.in_ok-live.ensures.count listed
    (c.in_ok-places.ensures.ok ∙ c.of.ensures) c.in_ok-sinks.ensures
