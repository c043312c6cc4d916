use Rattle.std.specs.Prelude.{◌≡◌, ◌<◌, ◌+◌, ℕ}
use Rattle.sink_decoder.specs.Receiving.{decoded}
use Rattle.relay_runner.proofs.decoding.decode_blocks.Given as goal
use Rattle.relay_runner.specs.Decoding.{block_in}

-- the blocks so far are those that the sink decodes
abbrev pub invariant-loop-place : goal.invariant-loop-place
invariant-loop-place g l = (before : ℕ) → before < l.place → block_in l.size l.into before ≡ decoded l.sink (l.first + before)
