-- What a sink gathers of: the links of its decoder that are live.
use Rattle.std.specs.Prelude.{ℕ, List, filter}
use Rattle.sink_decoder.specs.Receiving.{SinkPlan, wants}

-- the links that a sink wants, rising
abbrev pub wanted_links : SinkPlan → List ℕ
wanted_links plan = filter (wants plan) plan.links
