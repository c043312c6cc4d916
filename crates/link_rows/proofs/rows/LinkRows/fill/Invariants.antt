use Rattle.link_rows.proofs.LinkLaws.{AreFilled}
use Rattle.field_rows.specs.Widths.{rows_in}
use Rattle.link_rows.proofs.rows.LinkRows.fill.Given as goal

-- the rows of the links so far are what these carry
abbrev pub invariant-loop-link : goal.invariant-loop-link
invariant-loop-link g l =
    AreFilled l.coding.net.now l.coding.field l.coding.operands.now l.fails (rows_in l.coding.field l.block) l.link l.self-inside.rows.items
