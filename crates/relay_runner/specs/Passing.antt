-- A packet that came to a node is passed on, which is a step of the core at that node.
use Rattle.std.specs.Prelude.{◌≡◌, ◌<◌, ◌≤◌, ◌+◌, ◌++◌, ℕ, true, All, List, [], ◌∷◌, length}
use Rattle.coded_traffic.specs.Traffic.{IsKey, Key, Window, key_of}
use Rattle.generation_frame.specs.Blocks.{pieces}
use Rattle.generation_frame.specs.declared.frame.Packet.{Packet}
use Rattle.lif_outside.specs.Moves.{put_failed}
use Rattle.lif_outside.specs.declared.links.Links.{Ghosts as LinksGhosts}
use Rattle.net_model.specs.Walks.{head_of}
use Rattle.node_program.specs.declared.code.Code.{Code}
use Rattle.node_stations.specs.Putting.{flight_of, puts_of}
use Rattle.node_stations.specs.Shown.{ShowsHeld, ShowsSent, ShowsSink}
use Rattle.relay_core.specs.Core.{AreSent, Delivery, MaySend, has_key, held_after, summed, times_of}
use Rattle.relay_node.specs.Relay.{Relay}
use Rattle.sink_decoder.specs.Receiving.{Receiver}

-- A packet of the traffic, with some payload, comes to the node at its link's head, by which what is held and what was
-- sent is shown.
pub record Comes (code : Code) (pattern node : ℕ) (window : Window) (delivery : Delivery) (held sent : List Packet) (packet : Packet) (relay : Relay) : Type 0 where
  pub is : packet ≡ record delivery.pair { payload = delivery.payload }
  pub of_traffic : IsKey code pattern window (key_of delivery.pair)
  pub to_node : head_of code.net.links delivery.pair.link ≡ node
  pub held_are : (key : Key) → has_key key held ≡ true → IsKey code pattern window key
  pub shows : ShowsHeld code pattern node window relay held
  pub shown : ShowsSent relay sent

-- The node shows what is held and what was sent after the step, and the frames of what the core sends were put.
pub record PassesOn {L : Type 0} (g : LinksGhosts L) (code : Code) (pattern node : ℕ) (window : Window) (delivery : Delivery) (held sent : List Packet) (before after : L) (relay : Relay) : Type 0 where
  pub more : List Packet
  pub sends : AreSent code pattern node (held_after delivery held) sent more
  pub shows : ShowsHeld code pattern node window relay (held_after delivery held)
  pub shown : ShowsSent relay (more ++ sent)
  pub calls : g.moves (puts_of more) before after

-- Frames of some of those packets were put, no key twice, but for the last, which failed.
pub record StopsPassing {L : Type 0} (g : LinksGhosts L) (code : Code) (pattern node : ℕ) (delivery : Delivery) (held sent : List Packet) (before after : L) : Type 0 where
  pub more : List Packet
  pub last : Packet
  pub may : (key : Key) → has_key key (more ++ last ∷ []) ≡ true
      → MaySend code pattern node (held_after delivery held) sent key
  pub once : (key : Key) → times_of key (more ++ last ∷ []) ≤ 1
  pub payloads : All (λ packet. packet.payload ≡ summed code pattern (held_after delivery held) (key_of packet))
      (more ++ last ∷ [])
  pub calls : g.moves (puts_of more ++ put_failed (flight_of last) ∷ []) before after

-- A packet of the window, with some payload, comes to a sink of a demand by which what is held is shown.
pub record ComesToSink (code : Code) (demand : ℕ) (window : Window) (delivery : Delivery) (held : List Packet) (packet : Packet) (sink : Receiver) : Type 0 where
  pub is : packet ≡ record delivery.pair { payload = delivery.payload }
  pub begun : window.first ≤ delivery.pair.generation
  pub numbered : delivery.pair.generation < window.first + length window.blocks
  pub of_piece : delivery.pair.piece < pieces
  pub shows : ShowsSink code demand window sink held
