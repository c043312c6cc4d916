-- How much is multiplied where the coefficients of a code are chosen.
use Rattle.std.specs.Prelude.{ℕ, ◌+◌, ◌*◌}

-- The most multiplications that the choice of a code's coefficients takes, for a network of so many
-- links and demands, at a rate.
abbrev pub choice_bound : ℕ → ℕ → ℕ → ℕ
choice_bound links demands rate =
    4 * links * demands * (demands * rate + demands + rate * rate)
