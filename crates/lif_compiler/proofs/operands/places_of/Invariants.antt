use Rattle.std.proofs.Common.{◌≡◌, ◌<◌, ℕ, length, get_or}
use Rattle.lif_compiler.specs.Operands.{befores}
use Rattle.lif_compiler.proofs.operands.places_of.Given as goal

-- the places for the hops before this one
abbrev pub invariant-loop-hop : goal.invariant-loop-hop
invariant-loop-hop l = record {
  each : length l.places.items ≡ l.hop-index;
  within : (k : ℕ) → k < l.hop-index → get_or l.places.items k 0 < length l.sources;
  there : (k : ℕ) → k < l.hop-index → get_or l.sources (get_or l.places.items k 0) 0 ≡ get_or (befores l.hops) k 0;
}
