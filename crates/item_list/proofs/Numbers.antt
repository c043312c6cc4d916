-- Two numbers.
use Rattle.std.specs.Prelude.{◌≡◌, ℕ, ◌<◌}
use Rattle.std.proofs.Common.{arith}

-- two numbers of which neither is below the other
pub neither_below : (a b : ℕ) → ¬ (a < b) → ¬ (b < a) → a ≡ b
neither_below a b h k = omega arith
