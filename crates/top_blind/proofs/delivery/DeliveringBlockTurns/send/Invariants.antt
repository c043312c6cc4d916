use Rattle.std.proofs.Common.{◌≡◌, ◌∷◌, [], Contains, List, ℕ, map, string_bytes, take}
use Rattle.std.specs.Prelude.{Some}
use Rattle.generation_frame.specs.Blocks.{block_of}
use Rattle.lif_outside.specs.Calls.{MakesCalls}
use Rattle.lif_outside.specs.FileCalls.{appends_of}
use Rattle.lif_outside.specs.Sequences.{Are}
use Rattle.top_blind.specs.Blind.{piece_turn}
use Rattle.top_blind.proofs.delivery.DeliveringBlockTurns.send.Given as goal

-- the sinks so far got the piece
abbrev pub invariant-loop-place : goal.invariant-loop-place
invariant-loop-place g l = record {
  fabric : l.self.fabric ≡ l.initial.self.fabric;
  paths : l.self.paths ≡ l.initial.self.paths;
  made : (path : List ℕ) → Contains (map string_bytes l.initial.self.paths.items) path → g.S.Store.made l.store path;
  calls : (piece : List ℕ) → l.block ≡ block_of l.initial.self.fabric.code.rate piece
      → MakesCalls g.S.Store l.initial.store l.store (Are (appends_of (piece_turn (take l.place (map string_bytes l.initial.self.paths.items)) piece ∷ [])));
}
