use Rattle.std.proofs.Common.{◌≡◌, ap, arith, length, ◌∙◌}
use Rattle.node_program.specs.declared.code.Code.{Code}
use Rattle.node_stations.proofs.TableLaws.{are_opened, first_more, opened-planned}
use Rattle.node_stations.proofs.opening.open_stations.Goals as goal
use Rattle.node_stations.specs.Table.{relays_of, sinks_of}

pub nodes-preserved : goal.nodes-preserved
nodes-preserved g c =
    first_more c.args.code.now c.args.pattern c.nodes.node c.nodes.stations.items c.push.new.self.items c.in_ok-open_with.field-0 c.nodes.invariant
    (record { node_is = c.in_ok-open_with.ensures.node; sink = c.in_ok-open_with.ensures.sink }) c.in_ok-push.ensures.items

pub returns-clause-opened : goal.returns-clause-opened
returns-clause-opened g c =
    let code = c.args.code.now in
    let nodes : c.len-nodes.result ≡ length code.net.nodes = c.len-nodes.ensures ∙ ap (λ (code : Code). length code.net.nodes) c.code-2.ensures.value in
    are_opened code c.args.pattern c.nodes.node c.nodes.stations.items c.nodes.invariant (omega (arith, nodes))

pub returns-clause-planned : goal.returns-clause-planned
returns-clause-planned g c =
    let code = c.args.code.now in
    let nodes : c.len-nodes.result ≡ length code.net.nodes = c.len-nodes.ensures ∙ ap (λ (code : Code). length code.net.nodes) c.code-2.ensures.value in
    opened-planned code c.args.pattern (relays_of c.nodes.stations.items) (sinks_of c.nodes.stations.items)
    (are_opened code c.args.pattern c.nodes.node c.nodes.stations.items c.nodes.invariant (omega (arith, nodes)))
