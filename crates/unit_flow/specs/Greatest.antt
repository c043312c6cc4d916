-- A greatest flow of a demand, and a side that as many links leave as it has paths.
use Rattle.std.specs.Prelude.{◌≡◌, ℕ, List, length, map, slice_index}
use Rattle.net_model.specs.Flows.{IsGreatestFlow, crossing, flow_network}
use Rattle.net_model.specs.declared.Demand.{Demand}
use Rattle.net_model.specs.declared.net.Net.{Net}
use Rattle.unit_flow.specs.declared.flow.Flow.{Flow}

-- the first link of each path
abbrev pub first_links : List (List ℕ) → List ℕ
first_links paths = map (λ path. slice_index path 0) paths

-- the paths are a greatest flow
abbrev pub IsGreatest : Net → Demand → Flow → Type 0
IsGreatest net demand flow = IsGreatestFlow (flow_network net demand) flow.paths

-- as many links that didn't fail leave the side as there are paths
abbrev pub CrossesAsOften : Net → Demand → Flow → Type 0
CrossesAsOften net demand flow =
    length flow.paths ≡ length (crossing (flow_network net demand) flow.side)
