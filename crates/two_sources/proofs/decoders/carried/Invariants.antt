use Rattle.std.proofs.Common.{◌≡◌, [], map}
use Rattle.linear_algebra.specs.Elements.{elements_of}
use Rattle.link_rows.proofs.SumSteps.{sum_before}
use Rattle.link_rows.specs.LinkRows.{row_read}
use Rattle.link_rows.specs.Vectors.{wide_width}
use Rattle.two_sources.proofs.decoders.carried.Given as goal

-- the rows of the operands so far are added up
abbrev pub invariant-loop-operand : goal.invariant-loop-operand
invariant-loop-operand l =
    elements_of l.code.field l.sum
    ≡ sum_before l.code.field (wide_width l.code.field) (map (λ operand. operand.times) l.operand-items)
    (map (λ operand. elements_of l.code.field (row_read l.code.net l.rows [] l.link operand)) l.operand-items) l.operand-index
