-- Demands: each sink with each pattern, sinks outside and patterns inside.
use Rattle.std.specs.Prelude.{ℕ, ◌*◌, ◌/◌, ◌%◌, List, length, slice_index, replicate}
use Rattle.std.specs.List.{flat_map}
use Rattle.net_model.specs.declared.net.Net.{Net}

abbrev pub demand_count : Net → ℕ
demand_count net = length net.sinks * length net.patterns

-- the node of a demand's sink
abbrev pub sink_of_demand : Net → ℕ → ℕ
sink_of_demand net demand = slice_index net.sinks (demand / length net.patterns)

-- the number of a demand's pattern
abbrev pub pattern_of_demand : Net → ℕ → ℕ
pattern_of_demand net demand = demand % length net.patterns

-- the sinks of all demands in order
abbrev pub sinks_of_demands : Net → List ℕ
sinks_of_demands net = flat_map (λ sink. replicate (length net.patterns) sink) net.sinks
