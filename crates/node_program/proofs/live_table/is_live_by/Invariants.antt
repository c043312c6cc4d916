use Rattle.std.proofs.Common.{◌≡◌, false, take}
use Rattle.std.specs.List.{list_any}
use Rattle.node_program.specs.LiveTable.{reads_before}
use Rattle.node_program.proofs.live_table.is_live_by.Given as goal

-- no operand so far is a source row or a live link
abbrev pub invariant-loop-operand : goal.invariant-loop-operand
invariant-loop-operand l = list_any (reads_before l.fn.coding.net.now l.before l.link) (take l.operand-index l.operand-items) ≡ false
