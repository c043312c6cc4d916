-- The demands of a network by their numbers.
use Rattle.std.specs.Prelude.{ℕ, ◌+◌, ◌*◌, ◌/◌, ◌%◌, length}
use Rattle.net_model.specs.declared.Demand.{Demand}
use Rattle.net_model.specs.declared.net.Net.{Net}

-- the demand of a number: all patterns of the first sink come first, then all of the second
abbrev pub demand_of : Net → ℕ → Demand
demand_of net number = record { sink = number / length net.patterns; pattern = number % length net.patterns }

-- the number of a demand
abbrev pub number_of : Net → Demand → ℕ
number_of net demand = demand.sink * length net.patterns + demand.pattern
