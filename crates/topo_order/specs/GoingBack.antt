-- Going back along links that aren't placed, until a node is met again.
use Rattle.std.specs.Prelude.{◌≡◌, ◌≢◌, ◌<◌, ◌+◌, ◌-◌, ℕ, List, length, slice_index, nat_le, cond}
use Rattle.net_model.specs.Walks.{head_of, tail_of}
use Rattle.net_model.specs.declared.Link.{Link}

-- a cycle, against its direction, that passes no node twice
pub record IsTurn (links : List Link) (turn : List ℕ) : Type 0 where
  pub some : 0 < length turn
  pub within : (k : ℕ) → k < length turn → slice_index turn k < length links
  pub back : (k : ℕ) → k + 1 < length turn
      → head_of links (slice_index turn (k + 1)) ≡ tail_of links (slice_index turn k)
  pub closed : head_of links (slice_index turn 0)
      ≡ tail_of links (slice_index turn (length turn - 1))
  pub once : (i j : ℕ) → i < j → j < length turn
      → tail_of links (slice_index turn i) ≢ tail_of links (slice_index turn j)

-- the place in a turn of so many links of the link that stands at `k` where the cycle is walked
-- from a place on
abbrev pub place_in_turn : ℕ → ℕ → ℕ → ℕ
place_in_turn count from k = cond (nat_le k from) (from - k) (from + (count - k))

-- the links of a turn, walked from a place on
pub record IsWalkedFrom (turn : List ℕ) (from : ℕ) (cycle : List ℕ) : Type 0 where
  pub whole : length cycle ≡ length turn
  pub each : (k : ℕ) → k < length turn
      → slice_index cycle k ≡ slice_index turn (place_in_turn (length turn) from k)
