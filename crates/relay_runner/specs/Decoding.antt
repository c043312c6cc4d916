-- What the sinks of a code decode of a window that was carried.
use Rattle.std.specs.Prelude.{◌≡◌, ◌<◌, ◌≤◌, ◌+◌, ◌*◌, ◌^◌, ℕ, true, All, List, [], Option, Some, drop, length, slice_get, slice_index_or, take}
use Rattle.generation_frame.specs.Blocks.{most_blocks, row_bytes}
use Rattle.node_program.specs.declared.code.Code.{Code}
use Rattle.sink_decoder.specs.Receiving.{IsBegun, Receiver, decoded, is_whole}
use Rattle.relay_runner.specs.Running.{HasCarried, Running}

-- room for the most blocks of a window, for each of some sinks
abbrev pub AreRooms : Code → List (List ℕ) → Type 0
AreRooms code rooms = All (λ room. length room ≡ most_blocks * (code.rate * row_bytes)) rooms

-- the block of a size at a place, of blocks that stand one after another
abbrev pub block_in : ℕ → List ℕ → ℕ → List ℕ
block_in size blocks place = take size (drop (place * size) blocks)

-- the receiver at the node of a sink, which is given by its place among the code's sinks
pub record StandsAt (code : Code) (sinks : List (Option Receiver)) (sink : ℕ) (receiver : Receiver) : Type 0 where
  pub node : ℕ
  pub at : slice_get code.net.sinks sink ≡ Some node
  pub found : slice_get sinks node ≡ Some (Some receiver)

-- a receiver of a rate that has begun so many generations from one on, of each of which all has come
pub record HasAll (rate first count : ℕ) (receiver : Receiver) : Type 0 where
  pub same_rate : receiver.plan.rate ≡ rate
  pub begun : (place : ℕ) → place < count → IsBegun receiver (first + place)
  pub whole : (place : ℕ) → place < count → is_whole receiver (first + place) ≡ true

-- a receiver stands at each sink, and has all of these generations
pub record CanDecode (code : Code) (sinks : List (Option Receiver)) (first count : ℕ) : Type 0 where
  pub few_blocks : count ≤ most_blocks
  pub last : first + count ≤ 2 ^ 32
  pub stands : (sink : ℕ) → sink < length code.net.sinks → (receiver : Receiver) × StandsAt code sinks sink receiver
  pub all : (sink : ℕ) (receiver : Receiver) → StandsAt code sinks sink receiver → HasAll code.rate first count receiver

-- these are the blocks that a sink decodes of so many generations from one on
abbrev pub AreDecoded : Code → List (Option Receiver) → ℕ → ℕ → ℕ → List ℕ → Type 0
AreDecoded code sinks first count sink blocks =
    (receiver : Receiver) → StandsAt code sinks sink receiver → (place : ℕ) → place < count
    → block_in (code.rate * row_bytes) blocks place ≡ decoded receiver (first + place)

-- a runner that has carried a window, and of which each sink has decoded the blocks of it
pub record HasDecoded (runner : Running) : Type 0 where
  pub carried : HasCarried runner
  pub blocks : (sink : ℕ) → sink < length runner.code.net.sinks
      → AreDecoded runner.code runner.sinks runner.first runner.count sink (slice_index_or runner.decoded sink [])

-- the runner that has decoded this, and is the same in all else
abbrev pub with_decoded : Running → List (List ℕ) → Running
with_decoded runner decoded =
    record {
      code = runner.code;
      pattern = runner.pattern;
      relays = runner.relays;
      sinks = runner.sinks;
      first = runner.first;
      count = runner.count;
      next = runner.next;
      decoded = decoded;
      has_failed = runner.has_failed;
    }
