-- A packet that came to a node is passed on: the node takes it in, and what it gives then is put on links.
use Rattle.generation_frame.specs.declared.frame.Packet.{Packet}
use Rattle.lif_outside.specs.declared.links.Links.{Ghosts as LinksGhosts}
use Rattle.relay_node.specs.Relay.{Relay}
use Rattle.node_stations.specs.Delivering.{NodeTakes}
use Rattle.node_stations.specs.Putting.{HasRoom, PutsDue, StopsPutting}

-- what a node gives has room once it has taken in a packet
abbrev pub HasRoomAfter : {L : Type 0} → LinksGhosts L → L → Packet → Relay → Type 0
HasRoomAfter g links packet relay = (after : Relay) → NodeTakes packet relay after → HasRoom g links after

-- the packet was taken in, and what was due then was put
pub record Passes {L : Type 0} (g : LinksGhosts L) (packet : Packet) (before after : L) (old new : Relay) : Type 0 where
  pub mid : Relay
  pub takes : NodeTakes packet old mid
  pub puts : PutsDue g before after mid new

-- and of what was due a put failed
pub record FailsPassing {L : Type 0} (g : LinksGhosts L) (packet : Packet) (before after : L) (old new : Relay) : Type 0 where
  pub mid : Relay
  pub takes : NodeTakes packet old mid
  pub stops : StopsPutting g before after mid new
