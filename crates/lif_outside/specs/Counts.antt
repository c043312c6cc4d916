-- Counts of faults. They are kept in 64 bits, and never fall.
use Rattle.std.specs.Prelude.{ℕ, ◌+◌, ◌-◌, ◌^◌, ◌≤◌, min, List}

-- one more, as 64 bits count it
abbrev pub one_more : ℕ → ℕ
one_more count = min (count + 1) (2 ^ 64 - 1)

-- a count rose, or stands at its greatest value
abbrev pub Rose : ℕ → ℕ → Type 0
Rose before after = one_more before ≤ after

-- no count of a store falls, and what was made stays made
pub record KeepsCounts {S : Type 0} (read_faults write_faults : S → List ℕ → ℕ) (made : S → List ℕ → Type 0) (before after : S) : Type 0 where
  pub reads : (path : List ℕ) → read_faults before path ≤ read_faults after path
  pub writes : (path : List ℕ) → write_faults before path ≤ write_faults after path
  pub still_made : (path : List ℕ) → made before path → made after path
