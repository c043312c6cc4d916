-- Blocks that stand one after another, fed to a source.
use Rattle.std.specs.Prelude.{◌≡◌, ◌<◌, ◌*◌, ℕ, true, List, drop, map, take}
use Rattle.std.specs.List.{range_with_len}
use Rattle.coded_traffic.specs.CodeBlocks.{row_of}
use Rattle.coded_traffic.specs.Traffic.{Key, Window, block_at}
use Rattle.generation_frame.specs.Blocks.{piece_of_row, pieces}
use Rattle.relay_node.specs.Relay.{IsBegun, IsOut, IsSameWork, Relay, has_input, input_at, is_given}

-- the window of so many blocks of a size, which stand one after another
abbrev pub window_of : ℕ → ℕ → ℕ → List ℕ → Window
window_of first count size bytes =
    record { first = first; blocks = map (λ place. take size (drop (place * size) bytes)) (range_with_len 0 count) }

-- the blocks of a window were fed: all pieces of all their rows came
pub record AreFed (window : Window) (old new : Relay) : Type 0 where
  pub work : IsSameWork old new
  pub came : (generation row piece : ℕ) → IsBegun old generation → row < old.plan.rate → piece < pieces
      → has_input new generation row piece ≡ true
  pub bytes : (generation row piece : ℕ) → IsBegun old generation → row < old.plan.rate → piece < pieces
      → input_at new generation row piece ≡ piece_of_row (row_of (block_at window generation) row) piece
  pub given : (key : Key) → IsOut old key → is_given new key ≡ is_given old key
