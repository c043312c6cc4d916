use Rattle.std.proofs.Common.{◌≡◌, ◌<◌, ◌≤◌, ◌+◌, ◌-◌, Contains, List, ℕ, take, vec_len}
use Rattle.command_steps.specs.Filling.{Fills}
use Rattle.lif_outside.specs.Calls.{MakesCalls}
use Rattle.source_turns.proofs.FedLaws.{IsFed}
use Rattle.source_turns.proofs.feeding.Feeding.feed.Given as goal

-- what was read so far was sent, but for what is gathered
abbrev pub invariant-loop-at : goal.invariant-loop-at
invariant-loop-at g l =
    let was = l.fn.self in
    record {
      still : g.T.BlockTurns.job l.self.turns ≡ g.T.BlockTurns.job was.turns;
      within : l.at ≤ l.limit + 1;
      room : l.self.filled < vec_len l.self.bytes;
      made : (path : List ℕ) → Contains (g.T.BlockTurns.job was.turns).paths path → g.S.Store.made l.store path;
      calls : MakesCalls g.S.Store l.fn.store l.store
          (Fills (g.T.BlockTurns.job was.turns).paths (IsFed (g.T.BlockTurns.job was.turns) l.path l.at l.self.next (take l.self.filled l.self.bytes.items)));
    }

abbrev pub decreases-loop-at : goal.decreases-loop-at
decreases-loop-at g l = l.limit + 1 - l.at
