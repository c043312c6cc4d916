use Rattle.std.proofs.Common.{◌≡◌, map}
use Rattle.linear_algebra.specs.Elements.{elements_of}
use Rattle.node_program.specs.Decoding.{decoder_vectors}
use Rattle.link_rows.proofs.SumSteps.{sum_before}
use Rattle.link_rows.specs.Vectors.{wide_width, widened}
use Rattle.code_checker.proofs.products.product_row.Given as goal

-- the vectors of the links so far are added up
abbrev pub invariant-loop-place : goal.invariant-loop-place
invariant-loop-place l =
    elements_of l.code.field l.sum
    ≡ sum_before l.code.field (wide_width l.code.field) l.coefficients (map (widened l.code.field) (decoder_vectors l.code l.demand)) l.place
