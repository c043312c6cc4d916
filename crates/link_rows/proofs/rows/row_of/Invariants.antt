use Rattle.std.proofs.Common.{◌≡◌, map}
use Rattle.linear_algebra.specs.Elements.{elements_of}
use Rattle.link_rows.proofs.SumSteps.{sum_before}
use Rattle.link_rows.specs.LinkRows.{row_read}
use Rattle.field_rows.specs.Widths.{width_in}
use Rattle.link_rows.proofs.rows.row_of.Given as goal

-- the rows of the operands so far are added up
abbrev pub invariant-loop-operand : goal.invariant-loop-operand
invariant-loop-operand g l =
    elements_of l.coding.field l.row
    ≡ sum_before l.coding.field (width_in l.coding.field g.row.W) (map (λ operand. operand.times) l.operand-items)
    (map (λ operand. elements_of l.coding.field (row_read l.coding.net.now l.block l.before l.link operand)) l.operand-items) l.operand-index
