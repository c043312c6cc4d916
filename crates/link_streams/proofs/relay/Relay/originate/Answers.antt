use Rattle.std.proofs.Common.{subst, ◌∙◌}
use Rattle.node_plans.specs.Plans.{IsPlan}
use Rattle.node_plans.specs.declared.plan.Plan.{Plan}
use Rattle.link_streams.proofs.PassLaws.{fed-complete, fed-filled}
use Rattle.link_streams.proofs.relay.Relay.originate.Goals as goal

pub give_all-requires-clause-complete : goal.give_all-requires-clause-complete
give_all-requires-clause-complete g c =
    let is_plan : IsPlan c.args.self.now = subst (λ (p : Plan). IsPlan p) c.self.view_is c.self.invariant in
    fed-complete c.args.self.now c.begin.new.self c.feed.new.self c.args.generation c.args.block.now is_plan c.requires.source
    (c.begin.ensures.plan ∙ c.self.view_is) c.begin.ensures.first c.begin.ensures.count c.begin.ensures.nothing c.feed.ensures

pub returns-clause-frames : goal.returns-clause-frames
returns-clause-frames g c code pattern node planned is =
    let is_plan : IsPlan c.args.self.now = subst (λ (p : Plan). IsPlan p) c.self.view_is c.self.invariant in
    c.give_all.ensures.frames
    ∙ fed-filled c.args.self.now c.begin.new.self c.feed.new.self c.args.generation c.args.block.now is_plan c.requires.source
    (c.begin.ensures.plan ∙ c.self.view_is) c.begin.ensures.first c.begin.ensures.count c.begin.ensures.nothing c.feed.ensures code pattern node planned is
