-- Streams for numbered blocks: what the links of a code carry of them, in files.
use Rattle.std.specs.Prelude.{◌≡◌, ◌≤◌, ◌^◌, ℕ, true, All, List, flat_map, length}
use Rattle.std.specs.List.{range_with_len}
use Rattle.coded_traffic.specs.CodeBlocks.{IsBlockOf}
use Rattle.coded_traffic.specs.Traffic.{IsKey, Key, Window, block_at, key_of, packet_of, payload_in}
use Rattle.generation_frame.specs.Frames.{frame_of}
use Rattle.generation_frame.specs.declared.frame.Packet.{Packet}
use Rattle.link_streams.specs.Filled.{frames_of}
use Rattle.node_program.specs.declared.code.Code.{Code}
use Rattle.relay_core.specs.Core.{has_key}

-- a packet of the traffic on a link
pub record IsOfLink (code : Code) (pattern : ℕ) (window : Window) (link : ℕ) (packet : Packet) : Type 0 where
  pub on_link : packet.link ≡ link
  pub is_key : IsKey code pattern window (key_of packet)
  pub is : packet ≡ packet_of code pattern window (key_of packet)

-- A file is a stream of a link for some numbered blocks: it is frames of the traffic on that link, each at least once, in any order, and
-- nothing else.
pub record IsStreamFor (code : Code) (pattern : ℕ) (window : Window) (link : ℕ) (bytes : List ℕ) : Type 0 where
  pub packets : List Packet
  pub bytes_are : bytes ≡ flat_map frame_of packets
  pub of_traffic : All (IsOfLink code pattern window link) packets
  pub all : (key : Key) → IsKey code pattern window key → key.link ≡ link → has_key key packets ≡ true

-- blocks of a code, at least one and numbered from 0
pub record AreNumbered (code : Code) (window : Window) : Type 0 where
  pub from_start : window.first ≡ 0
  pub some : 1 ≤ length window.blocks
  pub few : length window.blocks ≤ 2 ^ 32
  pub blocks : All (IsBlockOf code) window.blocks

-- the frames of the traffic on a link, by rising generation and piece, each once
abbrev pub traffic_file : Code → ℕ → Window → ℕ → List ℕ
traffic_file code pattern window link =
    flat_map (λ generation. frames_of link generation (λ piece. payload_in code pattern (block_at window generation) piece link))
    (range_with_len window.first (length window.blocks))
