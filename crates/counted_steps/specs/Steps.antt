-- What a call says of the steps that it counted: the counter stood at `old` before it, and stands at `new` after it.
use Rattle.std.specs.Prelude.{◌≡◌, ℕ, ◌+◌, ◌≤◌}

-- exactly so many steps were counted
abbrev pub RoseBy : ℕ → ℕ → ℕ → Type 0
RoseBy count old new = new ≡ old + count

-- at most so many steps were counted, and none was taken back
pub record RoseByAtMost (most old new : ℕ) : Type 0 where
  pub not_below : old ≤ new
  pub not_above : new ≤ old + most
