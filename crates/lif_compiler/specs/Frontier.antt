-- The frontier of a demand's paths: how far each goes over the links whose numbers are below a
-- bound, and what its last such link carries.
use Rattle.std.specs.Prelude.{◌≡◌, ◌<◌, ℕ, nat_lt, List, [], ◌∷◌, Option, Some, None, if◌then◌else◌, map, slice_index_or}
use Rattle.std.specs.Option.{option_or}
use Rattle.linear_algebra.specs.Rows.{unit_row}

-- the last link of a path whose number is below a bound
abbrev pub last_below : ℕ → List ℕ → Option ℕ
last_below bound [] = None
last_below bound (link ∷ path) =
    option_or (last_below bound path) (if nat_lt link bound then Some link else None)

-- the vector at a path's frontier: that of its link, and while it has none the unit vector of the
-- path's number
abbrev pub frontier_vector : (ℕ → List ℕ) → ℕ → ℕ → Option ℕ → List ℕ
frontier_vector vector_of rate path None = unit_row rate path
frontier_vector vector_of rate path (Some link) = vector_of link

-- Where the links below a bound were visited, each path's frontier link is the last of them on the
-- path, and the vector of the path is the one at its frontier.
pub record IsAtFrontier (vector_of : ℕ → List ℕ) (rate : ℕ) (paths : List (List ℕ)) (bound : ℕ)
    (frontier : List (Option ℕ)) (vectors : List (List ℕ)) : Type 0 where
  pub links : frontier ≡ map (last_below bound) paths
  pub vector : (path : ℕ) → path < rate → slice_index_or vectors path []
      ≡ frontier_vector vector_of rate path (slice_index_or frontier path None)
