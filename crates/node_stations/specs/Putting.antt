-- What a node gives, put on links.
use Rattle.std.specs.Prelude.{◌≤◌, ◌+◌, ◌++◌, List, [], ◌∷◌, length, map}
use Rattle.coded_traffic.specs.Traffic.{Key}
use Rattle.generation_frame.specs.Frames.{frame_of}
use Rattle.generation_frame.specs.declared.frame.Packet.{Packet}
use Rattle.lif_outside.specs.Moves.{Move, put, put_failed}
use Rattle.lif_outside.specs.declared.links.Flight.{Flight}
use Rattle.lif_outside.specs.declared.links.Links.{Ghosts as LinksGhosts}
use Rattle.relay_node.specs.Relay.{IsDue, Relay}
use Rattle.node_stations.specs.Shown.{GivesEach}

-- the pair of a packet: its link and its frame
abbrev pub flight_of : Packet → Flight
flight_of packet = record { link = packet.link; frame = frame_of packet }

-- the puts of packets, one after another
abbrev pub puts_of : List Packet → List Move
puts_of packets = map (λ packet. put (flight_of packet)) packets

-- whatever the node gives has room on the links
abbrev pub HasRoom : {L : Type 0} → LinksGhosts L → L → Relay → Type 0
HasRoom g links relay =
    (packets : List Packet) (new : Relay) → GivesEach relay packets new
    → length (g.flying links) + length packets ≤ g.room links

-- packets that a node gave, one after another, were put
pub record Puts {L : Type 0} (g : LinksGhosts L) (before after : L) (old new : Relay) : Type 0 where
  pub packets : List Packet
  pub given : GivesEach old packets new
  pub calls : g.moves (puts_of packets) before after

-- and nothing is due any more
pub record PutsDue {L : Type 0} (g : LinksGhosts L) (before after : L) (old new : Relay) : Type 0 where
  pub puts : Puts g before after old new
  pub none : (key : Key) → IsDue new key → ⊥

-- they were put but for the last one, which failed
pub record StopsPutting {L : Type 0} (g : LinksGhosts L) (before after : L) (old new : Relay) : Type 0 where
  pub packets : List Packet
  pub last : Packet
  pub given : GivesEach old (packets ++ last ∷ []) new
  pub calls : g.moves (puts_of packets ++ put_failed (flight_of last) ∷ []) before after
