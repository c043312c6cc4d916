-- Planning: the links of all routes with what comes before them, and the lists by link that they
-- are added to.
use Rattle.std.specs.Prelude.{◌≡◌, ◌<◌, ◌==◌, ℕ, List, [], ◌∷◌, ◌++◌, Vec, filter, length, map, slice_get, slice_index, unwrap_or}
use Rattle.std.specs.Global.{Global}
use Rattle.std.specs.List.{flat_map, range_with_len}
use Rattle.std.specs.Option.{option_map_or}
use Rattle.lif_compiler.specs.Hops.{Routes, before_place}
use Rattle.lif_compiler.specs.declared.hops.Hop.{Hop}

-- the hop of a place of a path
abbrev pub hop_of_place : ℕ → ℕ → List ℕ → ℕ → Hop
hop_of_place demand path links place =
    record { demand = demand; path = path; before = before_place path links place }

-- the first links of a path of a demand, each with its hop
abbrev pub hops_on_path : ℕ → ℕ → List ℕ → ℕ → List (ℕ × Hop)
hops_on_path demand path links count =
    flat_map (λ place. (slice_index links place, hop_of_place demand path links place) ∷ [])
    (range_with_len 0 count)

-- those of all of a path
abbrev pub hops_of_path : ℕ → ℕ → List ℕ → List (ℕ × Hop)
hops_of_path demand path links = hops_on_path demand path links (length links)

-- those of the first paths of a demand
abbrev pub hops_on_paths : ℕ → List (List ℕ) → ℕ → List (ℕ × Hop)
hops_on_paths demand paths count =
    flat_map (λ path. hops_of_path demand path (unwrap_or (slice_get paths path) []))
    (range_with_len 0 count)

-- those of all paths of a demand
abbrev pub hops_of_demand : ℕ → List (List ℕ) → List (ℕ × Hop)
hops_of_demand demand paths = hops_on_paths demand paths (length paths)

-- those of the first demands
abbrev pub hops_of_demands : Routes → ℕ → List (ℕ × Hop)
hops_of_demands routes count =
    flat_map (λ demand. hops_of_demand demand (unwrap_or (slice_get routes demand) []))
    (range_with_len 0 count)

-- the hops over one link
abbrev pub hops_over : ℕ → List (ℕ × Hop) → List Hop
hops_over link hops = map (λ hop. hop.1) (filter (λ hop. hop.0 == link) hops)

-- the list of a link
abbrev pub list_of : List (Vec Hop Global) → ℕ → List Hop
list_of lists link = option_map_or (λ list. list.items) (slice_get lists link) []

-- each hop is added at the end of its link's list
pub record Gains (hops : List (ℕ × Hop)) (old new : List (Vec Hop Global)) : Type 0 where
  pub whole : length new ≡ length old
  pub each : (link : ℕ) → link < length old
      → list_of new link ≡ list_of old link ++ hops_over link hops
