-- How a decoder is read off a basis: the links of its frontier, sorted with their paths, and the
-- entries row by row.
use Rattle.std.specs.Prelude.{◌≢◌, ◌<◌, ℕ, IsTrue, List, [], All, Option, None, is_some, length, map, slice_index, slice_index_or, unwrap_or}
use Rattle.std.specs.List.{concat, range_with_len}
use Rattle.std.specs.List.Sorted.{IsPermutation}
use Rattle.field_vectors.specs.Grid.{Grid}
use Rattle.linear_algebra.specs.Elements.{numbers}
use Rattle.net_model.specs.Lists.{is_rising}
use Rattle.lif_compiler.specs.declared.decoding.PlacedLink.{PlacedLink}

-- each path has a link on the frontier
abbrev pub AreReached : List (Option ℕ) → Type 0
AreReached frontier = All (λ link. IsTrue (is_some link)) frontier

-- no two paths have the same
abbrev pub AreApart : List (Option ℕ) → Type 0
AreApart frontier = (i j : ℕ) → i < j → j < length frontier
    → slice_index_or frontier i None ≢ slice_index_or frontier j None

-- the frontier link of a path
abbrev pub placed_link : List (Option ℕ) → ℕ → PlacedLink
placed_link frontier path =
    record { link = unwrap_or (slice_index_or frontier path None) 0; path = path }

-- those of all paths
abbrev pub placed_links : List (Option ℕ) → List PlacedLink
placed_links frontier = map (placed_link frontier) (range_with_len 0 (length frontier))

-- the frontier links by rising links
pub record AreSorted (frontier : List (Option ℕ)) (sorted : List PlacedLink) : Type 0 where
  pub each : IsPermutation (placed_links frontier) sorted
  pub rising : IsTrue (is_rising (map (λ one. one.link) sorted))

-- the numbers at a place of the inverse vectors of paths
abbrev pub row_of_entries : List (List ℕ) → List ℕ → ℕ → List ℕ
row_of_entries inverses paths i =
    map (λ path. slice_index (slice_index_or inverses path []) i) paths

-- those at so many places
abbrev pub entries_of_paths : ℕ → List (List ℕ) → List ℕ → List ℕ
entries_of_paths rate inverses paths =
    concat (map (row_of_entries inverses paths) (range_with_len 0 rate))

-- by a matrix of the inverse vectors, and links with their paths
abbrev pub row_by : {A : Type 0} → (A → ℕ) → Grid A → List PlacedLink → ℕ → List ℕ
row_by number inverses sorted i =
    row_of_entries (map (numbers number) inverses.rows) (map (λ one. one.path) sorted) i

abbrev pub entries_by : {A : Type 0} → (A → ℕ) → Grid A → List PlacedLink → List ℕ
entries_by number inverses sorted =
    entries_of_paths inverses.columns (map (numbers number) inverses.rows)
    (map (λ one. one.path) sorted)
