use Rattle.std.specs.Prelude.{◌≡◌, length}
use Rattle.relay_runner.proofs.decoding.open_blocks.Given as goal
use Rattle.relay_runner.specs.Decoding.{AreRooms}

-- so many sinks have room
abbrev pub invariant-loop : goal.invariant-loop
invariant-loop l = record {
  each_sink : length l.blocks.items ≡ l.counter;
  rooms : AreRooms l.code l.blocks.items;
}
