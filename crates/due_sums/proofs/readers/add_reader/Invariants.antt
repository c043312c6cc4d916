use Rattle.std.proofs.Common.{take}
use Rattle.due_sums.specs.Counts.{GainReader, lists_of}
use Rattle.due_sums.proofs.readers.add_reader.Given as goal

-- the group is added to the readers of the inputs before this one
abbrev pub invariant-loop-input : goal.invariant-loop-input
invariant-loop-input l = GainReader l.group (take l.input-index l.inputs) (lists_of l.initial.readers) (lists_of l.readers)
