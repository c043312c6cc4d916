-- The place that a list says for a take.
use Rattle.std.specs.Prelude.{ℕ, ◌-◌, List, min, slice_index_or}

-- of so many that fly, the one that the list has for the take of a number, or else the first
abbrev pub place_of : List ℕ → ℕ → ℕ → ℕ
place_of picks take flying = min (slice_index_or picks take 0) (flying - 1)
