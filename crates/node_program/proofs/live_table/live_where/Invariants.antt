use Rattle.node_program.proofs.LiveTableLaws.{AreLive}
use Rattle.node_program.proofs.live_table.live_where.Given as goal

-- the entries so far say which links are live
abbrev pub invariant-loop-link : goal.invariant-loop-link
invariant-loop-link l = AreLive l.coding.net.now l.coding.operands.now l.fails l.link l.live.items
