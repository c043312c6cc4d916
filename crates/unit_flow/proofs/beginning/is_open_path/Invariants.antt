use Rattle.std.proofs.Common.{◌≡◌, true, take}
use Rattle.net_model.specs.Flows.{flow_network}
use Rattle.unit_flow.specs.Begun.{is_open_path}
use Rattle.unit_flow.proofs.beginning.is_open_path.Given as goal

-- the links so far are open
abbrev pub invariant-loop-link : goal.invariant-loop-link
invariant-loop-link l = is_open_path (flow_network l.net l.residual.demand) l.residual.states (take l.link-index l.link-items) ≡ true
