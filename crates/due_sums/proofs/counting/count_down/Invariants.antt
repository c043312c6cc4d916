use Rattle.std.proofs.Common.{take}
use Rattle.due_sums.specs.Counts.{CountsDown, reads_of}
use Rattle.due_sums.proofs.counting.count_down.Given as goal

-- the groups before this one are counted down
abbrev pub invariant-loop-group : goal.invariant-loop-group
invariant-loop-group l =
    CountsDown l.base (reads_of (take l.group-index l.readers) l.piece) l.starts l.piece l.initial.missing l.missing l.initial.due l.due
