-- The numbers below a count, cut into batches of numbers that follow each other.
use Rattle.std.specs.Prelude.{ℕ, ◌*◌, ◌/◌}

-- the first number of a batch, where there are so many batches and numbers
abbrev pub batch_start : ℕ → ℕ → ℕ → ℕ
batch_start batch batches count = batch * count / batches
