-- A node at work: what it does of a code, what came to it, and what it gives.
use Rattle.std.specs.Prelude.{◌≡◌, ◌≢◌, ◌<◌, ◌≤◌, ◌⊎◌, ◌+◌, ◌-◌, ◌^◌, ◌&&◌, ℕ, Bool, true, false, nat_le, nat_lt, Contains, List, length}
use Rattle.std.specs.List.{list_all, list_any, range_with_len}
use Rattle.coded_traffic.specs.CodeBlocks.{IsBlockOf, row_of}
use Rattle.coded_traffic.specs.Traffic.{Key, Window, block_at, key_of, payload_in, sum_of}
use Rattle.due_sums.specs.Waiting.{AreSums, Waiting}
use Rattle.due_sums.specs.Waiting as waiting
use Rattle.generation_frame.specs.Blocks.{most_blocks, piece_of_row, pieces}
use Rattle.generation_frame.specs.declared.frame.Packet.{Packet}
use Rattle.node_plans.specs.Plans.{IsPlan, input_count, input_place, operands_of, out_place, plan_of, sums_of}
use Rattle.node_plans.specs.Wired.{HasPlaces}
use Rattle.node_plans.specs.declared.plan.Plan.{Plan}
use Rattle.node_program.specs.declared.code.Code.{Code}

-- a node at work: its plan, the generations begun, and the sums that it makes of what came
pub record Relay : Type 0 where
  pub plan : Plan
  pub first : ℕ
  pub count : ℕ
  pub sums : Waiting

-- a generation was begun
pub record IsBegun (relay : Relay) (generation : ℕ) : Type 0 where
  pub from_first : relay.first ≤ generation
  pub to_last : generation < relay.first + relay.count

-- whether it was
abbrev pub is_begun : Relay → ℕ → Bool
is_begun relay generation = nat_le relay.first generation && nat_lt (generation - relay.first) relay.count

-- An input is what an operand names: a row of the block at the source, and else a link into the node. Whether a piece of
-- it has come, and its bytes.
abbrev pub has_input : Relay → ℕ → ℕ → ℕ → Bool
has_input relay generation from piece =
    waiting.has_input relay.sums (generation - relay.first) (input_place relay.plan from) piece

abbrev pub input_at : Relay → ℕ → ℕ → ℕ → List ℕ
input_at relay generation from piece =
    waiting.input_at relay.sums (generation - relay.first) (input_place relay.plan from) piece

-- whether a piece of a row of the block of a generation has come
abbrev pub has_rows : Relay → ℕ → Bool
has_rows relay generation =
    list_any (λ row. list_any (λ piece. has_input relay generation row piece) (range_with_len 0 pieces))
    (range_with_len 0 relay.plan.rate)

-- what an operand of a link out of the node may name
abbrev pub IsInput : Plan → ℕ → Type 0
IsInput plan from = ((plan.is_source ≡ true) × (from < plan.rate)) ⊎ Contains plan.ins from

-- that piece of all live operands of a link has come
abbrev pub is_complete : Relay → Key → Bool
is_complete relay key =
    list_all (λ operand. has_input relay key.generation operand.from key.piece) (operands_of relay.plan key.link)

-- a packet was given since the generations were begun
abbrev pub is_given : Relay → Key → Bool
is_given relay key =
    waiting.is_given relay.sums (key.generation - relay.first) (out_place relay.plan key.link) key.piece

-- a packet that the node can give: a piece of a begun generation on a live link out of it
pub record IsOut (relay : Relay) (key : Key) : Type 0 where
  pub leaves : Contains relay.plan.outs key.link
  pub begun : IsBegun relay key.generation
  pub of_piece : key.piece < pieces

-- a packet is due: all live operands of its link are held for its piece, and it wasn't given yet
pub record IsDue (relay : Relay) (key : Key) : Type 0 where
  pub out : IsOut relay key
  pub complete : is_complete relay key ≡ true
  pub not_given : is_given relay key ≡ false

-- one key is at most another: by generation, link and piece
abbrev pub IsAtMost : Key → Key → Type 0
IsAtMost one other =
    (one.generation < other.generation)
    ⊎ (one.generation ≡ other.generation)
    × ((one.link < other.link) ⊎ (one.link ≡ other.link) × (one.piece ≤ other.piece))

-- nothing came, and nothing was given
pub record HasNothing (relay : Relay) : Type 0 where
  pub inputs : (generation from piece : ℕ) → has_input relay generation from piece ≡ false
  pub given : (key : Key) → IsOut relay key → is_given relay key ≡ false

-- the plan and the generations stay
pub record IsSameWork (old new : Relay) : Type 0 where
  pub plan : new.plan ≡ old.plan
  pub first : new.first ≡ old.first
  pub count : new.count ≡ old.count

-- an input stays as it was, for a piece of a generation
pub record IsSameInput (old new : Relay) (generation from piece : ℕ) : Type 0 where
  pub has : has_input new generation from piece ≡ has_input old generation from piece
  pub bytes : input_at new generation from piece ≡ input_at old generation from piece

-- the block of a generation was fed to the source: all pieces of its rows have come
pub record IsFed (generation : ℕ) (block : List ℕ) (old new : Relay) : Type 0 where
  pub work : IsSameWork old new
  pub came : (row piece : ℕ) → row < old.plan.rate → piece < pieces → has_input new generation row piece ≡ true
  pub bytes : (row piece : ℕ) → row < old.plan.rate → piece < pieces
      → input_at new generation row piece ≡ piece_of_row (row_of block row) piece
  pub others : (g row piece : ℕ) → IsBegun old g → row < old.plan.rate → piece < pieces → g ≢ generation → IsSameInput old new g row piece
  pub given : (key : Key) → IsOut old key → is_given new key ≡ is_given old key

-- A packet came on a link into the node. All else that came stays, and so does what was given.
pub record Gains (packet : Packet) (old new : Relay) : Type 0 where
  pub work : IsSameWork old new
  pub came : has_input new packet.generation packet.link packet.piece ≡ true
  pub bytes : input_at new packet.generation packet.link packet.piece ≡ packet.payload
  pub others : (g link p : ℕ) → IsBegun old g → Contains old.plan.ins link → p < pieces
      → ((g ≡ packet.generation) × (link ≡ packet.link) × (p ≡ packet.piece) → ⊥) → IsSameInput old new g link p
  pub given : (key : Key) → IsOut old key → is_given new key ≡ is_given old key

-- The least packet that is due was given: its payload is the sum over the live operands of its link of the coefficient
-- times what came of the operand. Nothing else changed.
pub record Gives (packet : Packet) (old new : Relay) : Type 0 where
  pub due : IsDue old (key_of packet)
  pub least : (other : Key) → IsDue old other → IsAtMost (key_of packet) other
  pub payload : packet.payload
      ≡ sum_of old.plan.field (operands_of old.plan packet.link)
      (λ operand. input_at old packet.generation operand.from packet.piece)
  pub work : IsSameWork old new
  pub given : is_given new (key_of packet) ≡ true
  pub others : (other : Key) → IsOut old other → other ≢ key_of packet → is_given new other ≡ is_given old other
  pub inputs : (g from p : ℕ) → IsSameInput old new g from p

-- A node of a code that works on a window of blocks, and to which nothing came but the rows of those, at the source, and
-- else their traffic.
pub record TakesTraffic (code : Code) (pattern node : ℕ) (window : Window) (relay : Relay) : Type 0 where
  pub plan : relay.plan ≡ plan_of code pattern node
  pub first : relay.first ≡ window.first
  pub count : relay.count ≡ length window.blocks
  pub blocks : (generation : ℕ) → IsBegun relay generation → IsBlockOf code (block_at window generation)
  pub rows : relay.plan.is_source ≡ true → (generation row piece : ℕ) → IsBegun relay generation → row < code.rate → piece < pieces
      → has_input relay generation row piece ≡ true
      → input_at relay generation row piece ≡ piece_of_row (row_of (block_at window generation) row) piece
  pub traffic : (generation link piece : ℕ) → IsBegun relay generation → Contains relay.plan.ins link → piece < pieces
      → has_input relay generation link piece ≡ true
      → input_at relay generation link piece ≡ payload_in code pattern (block_at window generation) piece link

-- what a node keeps: a plan, the places of the links into it, and sums of the inputs that the plan names
pub record IsNode (plan : Plan) (places : List ℕ) (first count : ℕ) (sums : Waiting) : Type 0 where
  pub is_plan : IsPlan plan
  pub has_places : HasPlaces plan places
  pub inputs : sums.inputs ≡ input_count plan
  pub each_sum : sums.sums ≡ sums_of plan
  pub are_sums : AreSums (input_count plan) (sums_of plan)
  pub generations : length sums.held ≡ most_blocks
  pub few_generations : count ≤ most_blocks
  pub last : first + count ≤ 2 ^ 32
