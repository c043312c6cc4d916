-- The operands of a link, from what its hops come from, and from the coefficients that were chosen.
use Rattle.std.specs.Prelude.{◌≡◌, ◌<◌, ◌==◌, ℕ, IsTrue, List, [], ◌∷◌, length, map, slice_index, if◌then◌else◌}
use Rattle.net_model.specs.Lists.{is_among, is_rising}
use Rattle.node_program.specs.declared.Operand.{Operand}
use Rattle.lif_compiler.specs.declared.hops.Hop.{Hop}

-- what comes before a link on the paths of its hops
abbrev pub befores : List Hop → List ℕ
befores hops = map (λ hop. hop.before) hops

-- these numbers, each once, in rising order
pub record AreSources (numbers sources : List ℕ) : Type 0 where
  pub rising : IsTrue (is_rising sources)
  pub same : (number : ℕ) → is_among sources number ≡ is_among numbers number

-- for each number its place among the sources
pub record ArePlaces (numbers sources places : List ℕ) : Type 0 where
  pub each : length places ≡ length numbers
  pub within : (k : ℕ) → k < length numbers → slice_index places k < length sources
  pub there : (k : ℕ) → k < length numbers
      → slice_index sources (slice_index places k) ≡ slice_index numbers k

-- the sources with their coefficients, but for those whose coefficient is zero
abbrev pub operands_of : List ℕ → List ℕ → List Operand
operands_of [] coefficients = []
operands_of (from ∷ sources) [] = []
operands_of (from ∷ sources) (times ∷ coefficients) =
    if times == 0 then operands_of sources coefficients
    else record { from = from; times = times } ∷ operands_of sources coefficients
