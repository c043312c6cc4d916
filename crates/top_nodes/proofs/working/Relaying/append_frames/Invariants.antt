use Rattle.std.proofs.Common.{◌∷◌, [], Contains, List, ℕ, take}
use Rattle.lif_outside.specs.Calls.{MakesCalls}
use Rattle.lif_outside.specs.FileCalls.{appends_of}
use Rattle.lif_outside.specs.Sequences.{Are}
use Rattle.top_nodes.specs.Working.{paths_of, turn_of}
use Rattle.top_nodes.proofs.working.Relaying.append_frames.Given as goal

abbrev pub invariant-loop-place : goal.invariant-loop-place
invariant-loop-place g l = record {
  made : (path : List ℕ) → Contains (paths_of l.self) path → g.S.Store.made l.store path;
  calls : MakesCalls g.S.Store l.initial.store l.store (Are (appends_of (take l.place (turn_of l.self) ∷ [])));
}
