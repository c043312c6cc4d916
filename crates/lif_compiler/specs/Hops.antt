-- Which demands use a link, on which of their paths, and what comes before it there.
use Rattle.std.specs.Prelude.{◌≡◌, ◌<◌, ◌-◌, ◌==◌, ℕ, List, [], length, map, slice_get, slice_index, unwrap_or, Some, true, if◌then◌else◌, IsTrue}
use Rattle.net_model.specs.Lists.{is_among, is_rising}
use Rattle.lif_compiler.specs.declared.hops.Hop.{Hop}

-- for each demand its paths
abbrev pub Routes : Type 0
Routes = List (List (List ℕ))

-- a path of a demand
abbrev pub route_of : Routes → ℕ → ℕ → List ℕ
route_of routes demand path = unwrap_or (slice_get (unwrap_or (slice_get routes demand) []) path) []

-- what comes before a place of a path: the link there, or before the first link, the number of the
-- path
abbrev pub before_place : ℕ → List ℕ → ℕ → ℕ
before_place path links place = if place == 0 then path else slice_index links (place - 1)

-- the link stands on the path, behind another, or as its first
pub record IsHop (routes : Routes) (link : ℕ) (hop : Hop) : Type 0 where
  pub place : ℕ
  pub within : place < length (route_of routes hop.demand hop.path)
  pub here : slice_index (route_of routes hop.demand hop.path) place ≡ link
  pub before : hop.before ≡ before_place hop.path (route_of routes hop.demand hop.path) place

-- all hops over a link, in the order of the demands, of which each uses it at most once
pub record AreHops (routes : Routes) (link : ℕ) (hops : List Hop) : Type 0 where
  pub each : (k : ℕ) (hop : Hop) → slice_get hops k ≡ Some hop → IsHop routes link hop
  pub all : (demand path : ℕ) → is_among (route_of routes demand path) link ≡ true
      → (k : ℕ) × (hop : Hop) × (slice_get hops k ≡ Some hop)
      × (hop.demand ≡ demand) × (hop.path ≡ path)
  pub rising : IsTrue (is_rising (map (λ hop. hop.demand) hops))

-- lists of the hops over all links, by link
abbrev pub HaveHops : Routes → List (List Hop) → Type 0
HaveHops routes hops = (link : ℕ) (at : List Hop) → slice_get hops link ≡ Some at
    → AreHops routes link at
