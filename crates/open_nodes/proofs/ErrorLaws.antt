-- What holds where no error is due.
use Rattle.std.specs.Prelude.{◌≡◌, ℕ, Bool, true, false, List, None}
use Rattle.generation_frame.specs.declared.frame.Packet.{Packet}
use Rattle.relay_node.specs.Relay.{Relay, has_rows}
use Rattle.std.proofs.Common.{arith}
use Rattle.open_nodes.specs.Errors.{feed_error, packet_error}

-- the block that is fed wasn't fed before
pub not_fed : (relay : Relay) (generation : ℕ) (block : List ℕ) → None ≡ feed_error relay generation block → has_rows relay generation ≡ false
not_fed relay generation block none = grind arith

-- the link of a packet is taken in
pub taken : (is_taken is_begun : ℕ → Bool) (packet : Packet) → None ≡ packet_error is_taken is_begun packet → is_taken packet.link ≡ true
taken is_taken is_begun packet none = grind arith
