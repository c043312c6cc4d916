use Rattle.std.proofs.Common.{◌≡◌, ◌≤◌, take}
use Rattle.top_nodes.specs.Files.{generations_of}
use Rattle.top_nodes.proofs.reading.generations_of.Given as goal

abbrev pub invariant-loop-stream : goal.invariant-loop-stream
invariant-loop-stream l = (1 ≤ l.generations) × (l.generations ≡ generations_of (take l.stream-index l.stream-items))
