use Rattle.std.proofs.Common.{◌≡◌, ◌≤◌, ℕ, List, ap, arith, length, subst, true, ◌∙◌}
use Rattle.net_model.specs.Lists.{is_rising}
use Rattle.sink_decoder.specs.Receiving.{Receiver, SinkPlan}
use Rattle.link_streams.specs.Streams.{Stream}
use Rattle.link_streams.proofs.CameLaws.{reached}
use Rattle.link_streams.proofs.GatherLaws.{TakesStreams, all-decoded, all-whole, next-none, next-wanted, streams_more}
use Rattle.link_streams.proofs.gather.Gather.take.Goals as goal

-- the links of a sink's plan rise
rising : (inside plan : SinkPlan) → inside ≡ plan → is_rising inside.links ≡ true → is_rising plan.links ≡ true
rising inside plan seen rises = subst (λ (p : SinkPlan). is_rising p.links ≡ true) seen rises

-- all streams are taken in where the loop has ended
all_taken : (items inputs : List Stream) (plan : SinkPlan) (generation place : ℕ) (sink : Receiver) → items ≡ inputs → length items ≤ place → place ≤ length items
    → TakesStreams plan inputs generation place sink → TakesStreams plan inputs generation (length inputs) sink
all_taken items inputs plan generation place sink same past within takes =
    let end : place ≡ length inputs = omega (arith, past, within, ap (length {A = Stream}) same) in
    subst (λ (n : ℕ). TakesStreams plan inputs generation n sink) end takes

pub accept_all-requires-clause-wanted : goal.accept_all-requires-clause-wanted
accept_all-requires-clause-wanted g c =
    let at = reached c.as_slice-stream-items.result.now c.args.inputs.now c.loop-stream.stream-index c.stream-item.result c.as_slice-stream-items.ensures
    c.loop-stream-test.true c.stream-item.is in
    next-wanted c.args.self.now c.args.inputs.now c.args.generation (rising c.self.inside.decoder.plan c.args.self.now c.self.view_is c.self.invariant) c.requires.links
    c.loop-stream.stream-index c.stream-item.result at.0 at.1 c.loop-stream.self-inside.decoder c.loop-stream.invariant

pub accept_all-requires-clause-none : goal.accept_all-requires-clause-none
accept_all-requires-clause-none g c =
    let at = reached c.as_slice-stream-items.result.now c.args.inputs.now c.loop-stream.stream-index c.stream-item.result c.as_slice-stream-items.ensures
    c.loop-stream-test.true c.stream-item.is in
    next-none c.args.self.now c.args.inputs.now c.args.generation (rising c.self.inside.decoder.plan c.args.self.now c.self.view_is c.self.invariant) c.requires.links
    c.loop-stream.stream-index c.stream-item.result at.0 at.1 c.loop-stream.self-inside.decoder c.loop-stream.invariant

pub loop-stream-preserved : goal.loop-stream-preserved
loop-stream-preserved g c =
    let at = reached c.as_slice-stream-items.result.now c.args.inputs.now c.loop-stream.stream-index c.stream-item.result c.as_slice-stream-items.ensures
    c.loop-stream-test.true c.stream-item.is in
    let done = c.accept_all.ensures in
    streams_more c.args.self.now c.args.inputs.now c.args.generation (rising c.self.inside.decoder.plan c.args.self.now c.self.view_is c.self.invariant) c.requires.links
    c.loop-stream.stream-index c.stream-item.result at.0 at.1 c.loop-stream.self-inside.decoder c.loop-stream.invariant
    c.accept_all.new.sink done.plan done.first done.count done.stream done.came done.bytes done.others

pub block-requires-clause-whole : goal.block-requires-clause-whole
block-requires-clause-whole g c =
    all-whole c.args.self.now c.args.inputs.now c.args.generation (rising c.self.inside.decoder.plan c.args.self.now c.self.view_is c.self.invariant) c.requires.links
    c.loop-stream.self-inside.decoder c.requires.whole
    (all_taken c.as_slice-stream-items.result.now c.args.inputs.now c.args.self.now c.args.generation c.loop-stream.stream-index c.loop-stream.self-inside.decoder
    c.as_slice-stream-items.ensures c.loop-stream-test.false c.loop-stream.auto.stream-index-end c.loop-stream.invariant)

pub returns-clause-block : goal.returns-clause-block
returns-clause-block g c code demand planned =
    c.block.ensures.value
    ∙ all-decoded c.args.self.now c.args.inputs.now c.args.generation (rising c.self.inside.decoder.plan c.args.self.now c.self.view_is c.self.invariant) c.requires.links
    c.loop-stream.self-inside.decoder c.requires.whole
    (all_taken c.as_slice-stream-items.result.now c.args.inputs.now c.args.self.now c.args.generation c.loop-stream.stream-index c.loop-stream.self-inside.decoder
    c.as_slice-stream-items.ensures c.loop-stream-test.false c.loop-stream.auto.stream-index-end c.loop-stream.invariant)
    code demand planned
