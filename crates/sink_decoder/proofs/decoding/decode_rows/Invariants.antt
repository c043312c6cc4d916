use Rattle.std.proofs.Common.{◌≡◌, ◌*◌, take}
use Rattle.linear_algebra.specs.Elements.{elements_of}
use Rattle.generation_frame.specs.Blocks.{row_bytes}
use Rattle.sink_decoder.proofs.SumLaws.{rows_before}
use Rattle.sink_decoder.specs.Sums.{values_held}
use Rattle.sink_decoder.proofs.decoding.decode_rows.Given as goal

-- the rows so far are those that the matrix makes
abbrev pub invariant-loop-i : goal.invariant-loop-i
invariant-loop-i l =
    elements_of l.field (take (l.i * row_bytes) l.into) ≡ rows_before l.field l.rate l.entries (values_held l.field l.live l.held) l.i
