use Rattle.node_stations.proofs.FeedingLaws.{AreFedTo}
use Rattle.node_stations.proofs.feeding.feed_blocks.Given as goal

-- the first so many blocks were fed, and nothing came of the others
abbrev pub invariant-feeding : goal.invariant-feeding
invariant-feeding g l = AreFedTo l.first l.size l.place l.blocks l.fn.source l.source
