-- What holds in every run of the core from its opening state.
use Rattle.std.specs.Prelude.{◌≡◌, ◌≤◌, ◌||◌, ℕ, true, false, not, IsPermutation, List, [], All, count_by, length}
use Rattle.generation_frame.specs.declared.frame.Packet.{Packet}
use Rattle.net_model.specs.Walks.{leaves_source}
use Rattle.node_program.specs.declared.code.Code.{Code}
use Rattle.coded_traffic.specs.Traffic.{IsKey, Key, Window, key_of, keys_of, packet_of}
use Rattle.relay_core.specs.Core.{Delivery, IsFaithful, RelayState, has_key, packets_of, summed, times_of}

-- packets that are those of the traffic with their keys
abbrev pub AreOfTraffic : Code → ℕ → Window → List Packet → Type 0
AreOfTraffic code pattern window packets = All (λ packet. packet ≡ packet_of code pattern window (key_of packet)) packets

-- all packets of a state are
pub record IsOfTraffic (code : Code) (pattern : ℕ) (window : Window) (state : RelayState) : Type 0 where
  pub flying : AreOfTraffic code pattern window state.flying
  pub held : AreOfTraffic code pattern window state.held
  pub sent : AreOfTraffic code pattern window state.sent

pub record Reaches (code : Code) (pattern : ℕ) (window : Window) (run : List Delivery) (state : RelayState) : Type 0 where
  -- no key stands twice
  pub flying_once : (key : Key) → times_of key state.flying ≤ 1
  pub held_once : (key : Key) → times_of key state.held ≤ 1
  pub sent_once : (key : Key) → times_of key state.sent ≤ 1
  -- what was sent flies or is held, and is of the traffic
  pub sent_is : (key : Key) → has_key key state.sent ≡ has_key key state.flying || has_key key state.held
  pub of_traffic : (key : Key) → has_key key state.sent ≡ true → IsKey code pattern window key
  -- where nothing flies all of the traffic was sent
  pub all_sent : state.flying ≡ [] → (key : Key) → IsKey code pattern window key → has_key key state.sent ≡ true
  -- no more pairs leave than the traffic has
  pub steps : count_by (λ delivery. not delivery.stays) run ≤ length (keys_of code pattern window)
  -- where each payload is given as it was sent, it is that of the traffic
  pub faithful : IsFaithful run → IsOfTraffic code pattern window state
  pub whole : IsFaithful run → state.flying ≡ [] → IsPermutation (packets_of code pattern window) state.sent

-- What was sent says where it comes from: on a link that leaves the source it is of the traffic, and on another its payload is the sum over the
-- live operands of the payloads held.
pub record AreRelayed (code : Code) (pattern : ℕ) (window : Window) (held sent : List Packet) : Type 0 where
  pub from_source : All (λ packet. leaves_source code.net packet.link ≡ true → packet ≡ packet_of code pattern window (key_of packet)) sent
  pub others : All (λ packet. leaves_source code.net packet.link ≡ false → packet.payload ≡ summed code pattern held (key_of packet)) sent
