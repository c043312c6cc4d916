use Rattle.std.proofs.Common.{take}
use Rattle.due_sums.specs.Counts.{AreReaders, lists_of}
use Rattle.due_sums.proofs.readers.readers_of.Given as goal

-- those of the groups before this one
abbrev pub invariant-loop-group : goal.invariant-loop-group
invariant-loop-group l = AreReaders l.fn.inputs (take l.group l.groups) (lists_of l.readers.items)
