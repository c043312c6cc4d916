use Rattle.std.proofs.Common.{map, string_bytes, take}
use Rattle.lif_outside.specs.Calls.{MakesCalls}
use Rattle.lif_outside.specs.FileCalls.{creates_of}
use Rattle.lif_outside.specs.Sequences.{Are}
use Rattle.source_turns.proofs.creating.create_each.Given as goal

-- the first files were created
abbrev pub invariant-loop-path : goal.invariant-loop-path
invariant-loop-path g l = MakesCalls g.S.Store l.initial.store l.store (Are (creates_of (take l.path-index (map string_bytes l.paths))))
