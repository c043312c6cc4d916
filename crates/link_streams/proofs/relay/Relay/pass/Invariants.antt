use Rattle.link_streams.proofs.PassLaws.{AcceptsStreams}
use Rattle.link_streams.proofs.relay.Relay.pass.Given as goal

abbrev pub invariant-loop-stream : goal.invariant-loop-stream
invariant-loop-stream g l = AcceptsStreams l.fn.self l.inputs l.generation l.stream-index l.self-inside.node
