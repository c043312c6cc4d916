use Rattle.std.proofs.Common.{◌≡◌, ◌<◌, ◌≤◌, ◌*◌, ℕ, false}
use Rattle.generation_frame.specs.Blocks.{capacity, count_of}
use Rattle.top_nodes.proofs.SinkingLaws.{IsStill}
use Rattle.top_nodes.specs.Sink.{block_in, bytes_in, is_bad}
use Rattle.top_nodes.proofs.sinking.Sinking.see_counts.Given as goal

-- no count before is wrong, and these are the bytes that the blocks before count
abbrev pub invariant-loop-generation : goal.invariant-loop-generation
invariant-loop-generation g l =
    let was = l.initial.self in
    record {
      still : IsStill was l.self;
      bytes : l.bytes ≡ bytes_in was.code.now was.demand was.streams l.generation;
      low : l.bytes ≤ l.generation * 4294967295;
      good : (generation : ℕ) → generation < l.generation
          → is_bad (capacity was.code.now.rate) was.generations generation (count_of (block_in was.code.now was.demand was.streams generation)) ≡ false;
    }
