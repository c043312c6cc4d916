-- What a packet that came does to a node and to a sink.
use Rattle.std.specs.Prelude.{◌≡◌, true, false, Option, Some, None}
use Rattle.generation_frame.specs.declared.frame.Packet.{Packet}
use Rattle.relay_node.specs.Relay.{Gains, Relay, has_input}
use Rattle.sink_decoder.specs.Receiving as sinks
use Rattle.sink_decoder.specs.Receiving.{Receiver, has_piece, wants}

-- a packet that the node knows changes nothing, and else it came
pub record NodeTakes (packet : Packet) (old new : Relay) : Type 0 where
  pub known : has_input old packet.generation packet.link packet.piece ≡ true → new ≡ old
  pub gained : has_input old packet.generation packet.link packet.piece ≡ false → Gains packet old new

-- so it is at a sink that wants the packet's link, and one that doesn't stays as it was
pub record SinkTakes (packet : Packet) (old new : Receiver) : Type 0 where
  pub unwanted : wants old.plan packet.link ≡ false → new ≡ old
  pub known : wants old.plan packet.link ≡ true
      → has_piece old packet.generation packet.link packet.piece ≡ true → new ≡ old
  pub gained : wants old.plan packet.link ≡ true
      → has_piece old packet.generation packet.link packet.piece ≡ false
      → sinks.Gains packet.generation packet.link packet.piece packet.payload old new

-- a relation of the sink at a node before and after, where there is one
abbrev pub AtSink : (Receiver → Receiver → Type 0) → Option Receiver → Option Receiver → Type 0
AtSink R None new = new ≡ None
AtSink R (Some old) new = (after : Receiver) × (new ≡ Some after) × R old after
