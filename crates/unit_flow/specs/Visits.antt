-- How often links are looked at: a look is one call of `Residual::cross`, which takes one step.
use Rattle.std.specs.Prelude.{ℕ, ◌+◌, ◌*◌, List, length}
use Rattle.counted_steps.specs.Steps.{RoseByAtMost}
use Rattle.net_model.specs.Flows.{IsCut, flow_network}
use Rattle.net_model.specs.declared.Demand.{Demand}
use Rattle.net_model.specs.declared.net.Net.{Net}

-- the most looks for so many links and a least cut of that size: one at each link from each of its
-- ends, for each path and once more
abbrev pub visit_bound : ℕ → ℕ → ℕ
visit_bound links value = 2 * links * (value + 1)

-- a counter rose by no more than that for each cut of a demand
abbrev pub AreFewVisits : Net → Demand → ℕ → ℕ → Type 0
AreFewVisits net demand old new =
    (cut : List ℕ) → IsCut (flow_network net demand) cut
    → RoseByAtMost (visit_bound (length net.links) (length cut)) old new
