use Rattle.std.proofs.Common.{◌≡◌, ◌+◌, Contains, List, ℕ, take}
use Rattle.lif_outside.specs.Calls.{MakesCalls}
use Rattle.lif_outside.specs.FileCalls.{appends_of}
use Rattle.lif_outside.specs.Sequences.{Are}
use Rattle.source_turns.specs.Turns.{turns_from}
use Rattle.source_turns.proofs.feeding.Feeding.send_blocks.Given as goal

-- the first blocks were sent
abbrev pub invariant-loop-place : goal.invariant-loop-place
invariant-loop-place g l =
    let was = l.fn.self in
    record {
      still : g.T.BlockTurns.job l.self.turns ≡ g.T.BlockTurns.job was.turns;
      bytes : l.self.bytes ≡ was.bytes;
      filled : l.self.filled ≡ was.filled;
      next : l.self.next ≡ was.next + l.place;
      made : (path : List ℕ) → Contains (g.T.BlockTurns.job was.turns).paths path → g.S.Store.made l.store path;
      calls : MakesCalls g.S.Store l.initial.store l.store (Are (appends_of (turns_from (g.T.BlockTurns.job was.turns) was.next l.place (take was.filled was.bytes.items))));
    }
