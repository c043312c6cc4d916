-- The combination networks that are made: those whose counts a network may have, within the highest rate.
use Rattle.std.specs.Prelude.{ℕ, ◌+◌, ◌*◌, ◌≤◌, ◌&&◌, nat_le, Bool}
use Rattle.net_model.specs.Limits.{highest_rate, most_links, most_nodes}
use Rattle.net_maker.specs.Subsets.{binomial}

-- the most nodes between the source and the sinks
abbrev pub most_middle : ℕ
most_middle = 64

pub record Fits (n k : ℕ) : Type 0 where
  pub some : 1 ≤ k
  pub among : k ≤ n
  pub middle : n ≤ most_middle
  pub rate : k ≤ highest_rate
  pub links : n + k * binomial n k ≤ most_links
  pub nodes : 1 + n + binomial n k ≤ most_nodes

-- the same as a truth value
abbrev pub fits : ℕ → ℕ → Bool
fits n k =
    nat_le 1 k && nat_le k n && nat_le n most_middle && nat_le k highest_rate
    && nat_le (n + k * binomial n k) most_links && nat_le (1 + n + binomial n k) most_nodes
