use Rattle.std.proofs.Common.{◌≡◌}
use Rattle.std.specs.Prelude.{filter}
use Rattle.std.specs.List.{range_with_len}
use Rattle.net_model.specs.Flows.{flow_network, leaves}
use Rattle.cut_witness.proofs.crossing.cut_of.Given as goal

-- those of the links so far that leave the side
abbrev pub invariant-loop-link : goal.invariant-loop-link
invariant-loop-link l = l.cut.items ≡ filter (leaves (flow_network l.net l.fn.demand) l.side) (range_with_len 0 l.link)
