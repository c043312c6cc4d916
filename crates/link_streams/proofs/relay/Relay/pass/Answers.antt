use Rattle.std.proofs.Common.{◌≡◌, ◌≤◌, ℕ, List, ap, arith, length, subst, ◌∙◌}
use Rattle.node_plans.specs.Plans.{IsPlan}
use Rattle.node_plans.specs.declared.plan.Plan.{Plan}
use Rattle.relay_node.specs.Relay.{Relay}
use Rattle.link_streams.specs.Streams.{Stream}
use Rattle.link_streams.proofs.CameLaws.{reached}
use Rattle.link_streams.proofs.PassLaws.{AcceptsStreams, accepted_more, pass-complete, pass-filled}
use Rattle.link_streams.proofs.relay.Relay.pass.Goals as goal

-- what a node has is a plan
is_plan : (inside plan : Plan) → inside ≡ plan → IsPlan inside → IsPlan plan
is_plan inside plan seen is = subst (λ (p : Plan). IsPlan p) seen is

-- all streams are taken in where the loop has ended
all_taken : (items inputs : List Stream) (plan : Plan) (generation place : ℕ) (node : Relay) → items ≡ inputs → length items ≤ place → place ≤ length items
    → AcceptsStreams plan inputs generation place node → AcceptsStreams plan inputs generation (length inputs) node
all_taken items inputs plan generation place node same past within takes =
    let end : place ≡ length inputs = omega (arith, past, within, ap (length {A = Stream}) same) in
    subst (λ (n : ℕ). AcceptsStreams plan inputs generation n node) end takes

pub loop-stream-preserved : goal.loop-stream-preserved
loop-stream-preserved g c =
    let at = reached c.as_slice-stream-items.result.now c.args.inputs.now c.loop-stream.stream-index c.stream-item.result c.as_slice-stream-items.ensures
    c.loop-stream-test.true c.stream-item.is in
    let done = c.accept_all.ensures in
    accepted_more c.args.self.now c.args.inputs.now c.args.generation (is_plan c.self.inside.node.plan c.args.self.now c.self.view_is c.self.invariant) c.requires.links
    c.loop-stream.stream-index c.stream-item.result at.0 at.1 c.loop-stream.self-inside.node c.loop-stream.invariant
    c.accept_all.new.node done.work done.given done.stream done.came done.bytes done.others

pub give_all-requires-clause-complete : goal.give_all-requires-clause-complete
give_all-requires-clause-complete g c =
    pass-complete c.args.self.now c.args.inputs.now c.args.generation (is_plan c.self.inside.node.plan c.args.self.now c.self.view_is c.self.invariant) c.requires.links
    c.requires.whole c.loop-stream.self-inside.node c.requires.relays
    (all_taken c.as_slice-stream-items.result.now c.args.inputs.now c.args.self.now c.args.generation c.loop-stream.stream-index c.loop-stream.self-inside.node
    c.as_slice-stream-items.ensures c.loop-stream-test.false c.loop-stream.auto.stream-index-end c.loop-stream.invariant)

pub returns-clause-frames : goal.returns-clause-frames
returns-clause-frames g c code pattern node planned =
    c.give_all.ensures.frames
    ∙ pass-filled c.args.self.now c.args.inputs.now c.args.generation (is_plan c.self.inside.node.plan c.args.self.now c.self.view_is c.self.invariant) c.requires.links
    c.requires.whole c.loop-stream.self-inside.node c.requires.relays
    (all_taken c.as_slice-stream-items.result.now c.args.inputs.now c.args.self.now c.args.generation c.loop-stream.stream-index c.loop-stream.self-inside.node
    c.as_slice-stream-items.ensures c.loop-stream-test.false c.loop-stream.auto.stream-index-end c.loop-stream.invariant)
    code pattern node planned
