-- What is known of the sinks and their nodes.
use Rattle.std.specs.Prelude.{◌≡◌, ◌<◌, ℕ, Some, length, slice_get, slice_index}
use Rattle.std.proofs.Common.{subst}
use Rattle.std.proofs.lemmas.Bool.{and_parts, ltb-true}
use Rattle.std.proofs.lemmas.Option.{get_or_from_slice_get}
use Rattle.item_list.proofs.Tests.{passes_at}
use Rattle.net_model.specs.Network.{is_sink_among}
use Rattle.net_model.specs.declared.net.Net.{Net}

-- a sink is a node
pub sink_in_range : (net : Net) (sink : ℕ) → sink < length net.sinks → slice_index net.sinks sink < length net.nodes
sink_in_range net sink within =
    let test = passes_at (is_sink_among (length net.nodes) net.source) net.sinks sink 0 net.network.sink_nodes within in
    ltb-true _ _ (and_parts _ _ test).0

pub sink_node : (net : Net) (sink node : ℕ) → slice_get net.sinks sink ≡ Some node → sink < length net.sinks → node < length net.nodes
sink_node net sink node at within = subst (λ n. n < length net.nodes) (get_or_from_slice_get net.sinks sink node 0 at) (sink_in_range net sink within)
