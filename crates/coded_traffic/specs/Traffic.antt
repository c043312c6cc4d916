-- The traffic of a code under a pattern: what its live links carry of numbered blocks, piece after piece.
use Rattle.std.specs.Prelude.{Bool, List, [], filter, flat_map, if◌then◌else◌, length, map, slice_index_or, true, ℕ, ◌&&◌, ◌*◌, ◌+◌, ◌-◌, ◌/◌, ◌<◌, ◌==◌, ◌≡◌, ◌≤◌}
use Rattle.std.specs.List.{range_with_len}
use Rattle.gf_tables.specs.declared.kind.FieldKind.{FieldKind}
use Rattle.gf_tables.specs.Product.{bytes_of_element}
use Rattle.linear_algebra.specs.Elements.{elements_of, bytes_of_row}
use Rattle.linear_algebra.specs.Rows.{combination}
use Rattle.lif_outside.specs.declared.links.Flight.{Flight}
use Rattle.generation_frame.specs.Blocks.{most_blocks, piece_bytes, piece_of_row, pieces}
use Rattle.generation_frame.specs.Frames.{frame_of}
use Rattle.generation_frame.specs.declared.frame.Packet.{Packet}
use Rattle.net_model.specs.Failed.{failed_links}
use Rattle.net_model.specs.Walks.{leaves_source}
use Rattle.node_program.specs.CodeValue.{is_live_in, reads_live_in}
use Rattle.node_program.specs.Value.{operands_at, value}
use Rattle.node_program.specs.declared.Operand.{Operand}
use Rattle.node_program.specs.declared.code.Code.{Code}
use Rattle.coded_traffic.specs.CodeBlocks.{block_elements, row_of}

-- how many elements a piece has
abbrev pub piece_width : FieldKind → ℕ
piece_width field = piece_bytes / bytes_of_element field

-- what a link carries of a piece of a block where links fail: that piece of its value
abbrev pub payload_where : Code → List ℕ → List ℕ → ℕ → ℕ → List ℕ
payload_where code failed block piece link =
    piece_of_row (bytes_of_row code.field (value code.net code.field code.operands failed (block_elements code block) link)) piece

-- and where those of a pattern do
abbrev pub payload_in : Code → ℕ → List ℕ → ℕ → ℕ → List ℕ
payload_in code pattern = payload_where code (failed_links code.net.patterns pattern)

-- what stands for an operand of a link, of a piece: at the source that of a row of the block, and else the payload
-- of the operand's link
abbrev pub operand_payload : Code → List ℕ → ℕ → (ℕ → List ℕ) → ℕ → Operand → List ℕ
operand_payload code block piece payloads link operand =
    if leaves_source code.net link
    then piece_of_row (row_of block operand.from) piece
    else payloads operand.from

-- the sum over operands of the coefficient times what stands for the operand
abbrev pub sum_of : FieldKind → List Operand → (Operand → List ℕ) → List ℕ
sum_of field operands payload =
    bytes_of_row field (combination field (piece_width field) (map (λ operand. operand.times) operands)
    (map (λ operand. elements_of field (payload operand)) operands))

-- the operands of a link that are source rows or live links
abbrev pub live_operands : Code → ℕ → ℕ → List Operand
live_operands code pattern link =
    filter (reads_live_in code pattern link) (operands_at code.operands link)

-- a link, a generation and a piece
pub record Key : Type 0 where
  pub link : ℕ
  pub generation : ℕ
  pub piece : ℕ

-- the key of a packet
abbrev pub key_of : Packet → Key
key_of packet = record { link = packet.link; generation = packet.generation; piece = packet.piece }

-- blocks with the numbers of their generations, from the first on
pub record Window : Type 0 where
  pub first : ℕ
  pub blocks : List (List ℕ)

-- how many frames may fly on the links of a code: those of all pieces of a window
abbrev pub room_for : Code → ℕ
room_for code = most_blocks * pieces * length code.net.links

-- the block of a generation
abbrev pub block_at : Window → ℕ → List ℕ
block_at window generation = slice_index_or window.blocks (generation - window.first) []

-- the packet of a key, and its pair of link and frame
abbrev pub packet_of : Code → ℕ → Window → Key → Packet
packet_of code pattern window key =
    record {
      link = key.link;
      generation = key.generation;
      piece = key.piece;
      payload = payload_in code pattern (block_at window key.generation) key.piece key.link;
    }

abbrev pub pair_of : Code → ℕ → Window → Key → Flight
pair_of code pattern window key =
    record { link = key.link; frame = frame_of (packet_of code pattern window key) }

-- the live links, in order
abbrev pub live_links_of : Code → ℕ → List ℕ
live_links_of code pattern =
    filter (is_live_in code pattern) (range_with_len 0 (length code.net.links))

-- the keys of the traffic: each generation, each live link, each piece
abbrev pub keys_of : Code → ℕ → Window → List Key
keys_of code pattern window =
    flat_map (λ generation. flat_map (λ link. map
    (λ piece. record { link = link; generation = generation; piece = piece }) (range_with_len 0 pieces))
    (live_links_of code pattern)) (range_with_len window.first (length window.blocks))

-- a key of the traffic
pub record IsKey (code : Code) (pattern : ℕ) (window : Window) (key : Key) : Type 0 where
  pub begun : window.first ≤ key.generation
  pub numbered : key.generation < window.first + length window.blocks
  pub of_link : key.link < length code.net.links
  pub live : is_live_in code pattern key.link ≡ true
  pub of_piece : key.piece < pieces

-- whether two keys are one
abbrev pub is_same_key : Key → Key → Bool
is_same_key one other =
    (one.link == other.link) && (one.generation == other.generation) && (one.piece == other.piece)

-- the traffic
abbrev pub traffic_of : Code → ℕ → Window → List Flight
traffic_of code pattern window = map (pair_of code pattern window) (keys_of code pattern window)
