-- The blocks of files of sevens.
use Rattle.std.specs.Prelude.{ℕ, List, map, take, length, replicate}
use Rattle.std.specs.Int.{from_be_bytes, w32}
use Rattle.generation_frame.specs.Blocks.{blocks_of}

-- the blocks of a file of so many sevens, at a rate
unfoldable pub blocks_of_sevens : ℕ → ℕ → List (List ℕ)
blocks_of_sevens count rate = blocks_of (replicate count 7) rate

-- the counts at the front of blocks
unfoldable pub counts : List (List ℕ) → List ℕ
counts blocks = map (λ block. from_be_bytes w32 (take 4 block)) blocks

-- the first bytes of blocks: the count, and two more
unfoldable pub fronts : List (List ℕ) → List (List ℕ)
fronts blocks = map (take 6) blocks

unfoldable pub lengths : List (List ℕ) → List ℕ
lengths blocks = map length blocks
