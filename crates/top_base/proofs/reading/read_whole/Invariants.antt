use Rattle.std.proofs.Common.{◌≡◌, ◌≤◌, ◌+◌, ◌-◌, vec_len, vec_capacity}
use Rattle.lif_outside.specs.Calls.{MakesCalls}
use Rattle.lif_outside.specs.FileCalls.{AreReadsFrom, bytes_read}
use Rattle.top_base.proofs.reading.read_whole.Given as goal

abbrev pub invariant-loop-chunk : goal.invariant-loop-chunk
invariant-loop-chunk g l = record {
  within : vec_len l.bytes ≤ l.limit + 1;
  room : vec_capacity l.fn.empty ≤ vec_capacity l.bytes;
  reads : MakesCalls g.S.Store l.initial.store l.store (λ calls. AreReadsFrom 0 l.path calls × (bytes_read calls ≡ l.bytes.items));
}

-- each turn but the last reads a byte
abbrev pub decreases-loop-chunk : goal.decreases-loop-chunk
decreases-loop-chunk g l = l.limit + 1 - vec_len l.bytes
