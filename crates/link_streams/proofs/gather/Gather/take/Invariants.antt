use Rattle.link_streams.proofs.GatherLaws.{TakesStreams}
use Rattle.link_streams.proofs.gather.Gather.take.Given as goal

abbrev pub invariant-loop-stream : goal.invariant-loop-stream
invariant-loop-stream g l = TakesStreams l.fn.self l.inputs l.generation l.stream-index l.self-inside.decoder
