use Rattle.std.specs.Prelude.{◌<◌, ◌+◌, ℕ, [], slice_index_or}
use Rattle.node_stations.specs.Table.{sinks_of}
use Rattle.relay_runner.proofs.decoding.decode_batch.Given as goal
use Rattle.relay_runner.specs.Decoding.{AreDecoded, AreRooms}

-- the sinks so far have decoded
abbrev pub invariant-loop-place : goal.invariant-loop-place
invariant-loop-place g l = record {
  rooms : AreRooms l.code l.blocks;
  blocks : (before : ℕ) → before < l.place
      → AreDecoded l.code (sinks_of l.stations) l.first l.count (l.start + before) (slice_index_or l.blocks before []);
}
