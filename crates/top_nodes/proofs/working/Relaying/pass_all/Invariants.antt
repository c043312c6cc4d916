use Rattle.std.proofs.Common.{Contains, List, ℕ, map}
use Rattle.std.specs.List.{range_with_len}
use Rattle.command_steps.specs.Filling.{Fills}
use Rattle.lif_outside.specs.Calls.{MakesCalls}
use Rattle.lif_outside.specs.FileCalls.{appends_of}
use Rattle.lif_outside.specs.Sequences.{Are}
use Rattle.top_nodes.proofs.RelayingLaws.{IsStill, passed_turn}
use Rattle.top_nodes.specs.Working.{paths_of}
use Rattle.top_nodes.proofs.working.Relaying.pass_all.Given as goal

-- the generations before are passed on
abbrev pub invariant-loop-generation : goal.invariant-loop-generation
invariant-loop-generation g l = record {
  still : IsStill l.fn.self l.self;
  made : (path : List ℕ) → Contains (paths_of l.fn.self) path → g.S.Store.made l.store path;
  calls : MakesCalls g.S.Store l.fn.store l.store (Fills (paths_of l.fn.self) (Are (appends_of (map (passed_turn l.fn.self l.streams) (range_with_len 0 l.generation)))));
}
