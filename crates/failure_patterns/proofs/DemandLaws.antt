-- What holds of the demands of a network.
use Rattle.std.specs.Prelude.{◌≡◌, ℕ, ◌+◌, ◌*◌, ◌/◌, ◌^◌, ◌<◌, ◌≤◌, true, nat_lt, List, [], ◌∷◌, length, slice_index}
use Rattle.std.proofs.Common.{arith, refl}
use Rattle.std.proofs.Math.Nat.{div-lt_iff_lt-mul, mod-lt, mul-le-mul}
use Rattle.std.proofs.lemmas.Nat.{div-mul-add, mod-mul-add}
use Rattle.std.proofs.lemmas.Bool.{and_parts}
use Rattle.item_list.proofs.Tests.{list_all-implied}
use Rattle.net_model.specs.Demands.{demand_count, pattern_of_demand, sink_of_demand, sinks_of_demands}
use Rattle.net_model.proofs.ListLaws.{length-are_distinct}
use Rattle.net_model.specs.Limits.{most_nodes, most_patterns}
use Rattle.net_model.specs.Network.{are_patterns, is_sink_among}
use Rattle.net_model.specs.declared.Demand.{Demand}
use Rattle.net_model.specs.declared.Pattern.{Pattern}
use Rattle.net_model.specs.declared.net.Net.{Net}
use Rattle.failure_patterns.specs.Demands.{demand_of, number_of}
use Rattle.failure_patterns.proofs.ListLaws.{length-repeated, get_or-repeated}

-- there are as many demands as sinks of demands
pub length-sinks_of_demands : (net : Net) → length (sinks_of_demands net) ≡ demand_count net
length-sinks_of_demands net = length-repeated (length net.patterns) net.sinks

-- the sinks of all demands stand in order
pub slice_index-sinks_of_demands : (net : Net) (demand : ℕ) → demand < demand_count net → slice_index (sinks_of_demands net) demand ≡ sink_of_demand net demand
slice_index-sinks_of_demands net demand within = get_or-repeated (length net.patterns) net.sinks demand 0 within

-- there are no more sinks than nodes
pub few_sinks : (net : Net) → length net.sinks ≤ length net.nodes
few_sinks net =
    length-are_distinct net.sinks (length net.nodes) net.network.distinct_sinks
    (list_all-implied (is_sink_among (length net.nodes) net.source) (λ sink. nat_lt sink (length net.nodes)) net.sinks (λ sink among. (and_parts _ _ among).0) net.network.sink_nodes)

-- there are no more demands than places for a node and a pattern
pub few_demands : (net : Net) → demand_count net ≤ most_nodes * most_patterns
few_demands net =
    let sinks : length net.sinks ≤ most_nodes = omega (arith, few_sinks net, net.network.few_nodes) in
    mul-le-mul sinks net.network.few_patterns

-- so their number fits into 64 bits
pub demands_fit : (net : Net) → demand_count net < 2 ^ 64
demands_fit net = omega (arith, few_demands net)

-- a network with a demand has a pattern
pub some_pattern : (net : Net) (demand : ℕ) → demand < demand_count net → 0 < length net.patterns
some_pattern net demand within = grind arith

-- the sink of a demand has a place among the sinks
pub sink_place_within : (net : Net) (demand : ℕ) → demand < demand_count net → demand / length net.patterns < length net.sinks
sink_place_within net demand within = (div-lt_iff_lt-mul (some_pattern net demand within)).1 within

-- so it fits into 32 bits
pub sink_place_fits : (net : Net) (demand : ℕ) → demand < demand_count net → demand / length net.patterns < 2 ^ 32
sink_place_fits net demand within = omega (arith, few_sinks net, net.network.few_nodes, sink_place_within net demand within)

-- the pattern of a demand has a place among the patterns
pub pattern_place_within : (net : Net) (demand : ℕ) → demand < demand_count net → pattern_of_demand net demand < length net.patterns
pattern_place_within net demand within = mod-lt demand (some_pattern net demand within)

-- a demand's number is one of a demand
pub number_within : (net : Net) (demand : Demand) → demand.sink < length net.sinks → demand.pattern < length net.patterns → number_of net demand < demand_count net
number_within net demand sink pattern =
    let more : (demand.sink + 1) * length net.patterns ≤ length net.sinks * length net.patterns = mul-le-mul (omega (arith, sink)) (omega arith) in
    grind (arith, more, pattern)

-- and the demand of that number is the demand
pub demand_of_number : (net : Net) (demand : Demand) → demand.pattern < length net.patterns → demand_of net (number_of net demand) ≡ demand
demand_of_number net demand pattern =
    rw (div-mul-add demand.sink (length net.patterns) demand.pattern pattern, mod-mul-add demand.sink (length net.patterns) demand.pattern pattern)
    refl

-- there is a demand
pub some_demand : (net : Net) → 0 < demand_count net
some_demand net = grind (arith, net.network.some_sink, patterned (length net.links) net.patterns net.network.pattern_links)
  where
    patterned : (links : ℕ) (patterns : List Pattern) → are_patterns links patterns ≡ true → 0 < length patterns
    patterned links [] are = cc
    patterned links (none ∷ listed) are = omega arith
