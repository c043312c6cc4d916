-- Nodes and sinks, whichever their field.
use Rattle.relay_node.specs.Relay.{Relay}
use Rattle.sink_decoder.specs.Receiving.{Receiver}
use Rattle.open_nodes.specs.declared.nodes.FieldNode.{FieldNode}
use Rattle.open_nodes.specs.declared.nodes.FieldNode.TheVariants as nodes
use Rattle.open_nodes.specs.declared.sinks.FieldSink.{FieldSink}
use Rattle.open_nodes.specs.declared.sinks.FieldSink.TheVariants as sinks

-- the node
abbrev pub relay_of : FieldNode → Relay
relay_of (nodes.Eight relay) = relay
relay_of (nodes.Nine relay) = relay
relay_of (nodes.Sixteen relay) = relay

-- the sink
abbrev pub receiver_of : FieldSink → Receiver
receiver_of (sinks.Eight receiver) = receiver
receiver_of (sinks.Nine receiver) = receiver
receiver_of (sinks.Sixteen receiver) = receiver
