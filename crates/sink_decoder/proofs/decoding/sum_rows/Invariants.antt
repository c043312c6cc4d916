use Rattle.std.proofs.Common.{◌≡◌}
use Rattle.linear_algebra.specs.Elements.{elements_of}
use Rattle.sink_decoder.proofs.SumLaws.{sum_before}
use Rattle.sink_decoder.proofs.decoding.sum_rows.Given as goal

-- the row is the sum of the rows of the live links so far
abbrev pub invariant-loop-place : goal.invariant-loop-place
invariant-loop-place l = elements_of l.field l.into ≡ sum_before l.field l.coefficients l.live l.held l.place
