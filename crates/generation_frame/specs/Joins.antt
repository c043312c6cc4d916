-- How blocks are joined to a file: a block whose count is all that there is room for is followed by more, and one
-- with less is the last.
use Rattle.std.specs.Prelude.{ℕ, Bool, ◌==◌, ◌||◌, nat_lt, if◌then◌else◌, List}
use Rattle.generation_frame.specs.Blocks.{capacity, count_of}
use Rattle.generation_frame.specs.declared.joiner.Joined.{Joined}
use Rattle.generation_frame.specs.declared.joiner.Joined.TheVariants.{More, Last, BadCount, Ended}

-- what a joiner keeps: how many rows a block has, and whether the last block came
pub record Joining : Type 0 where
  pub rate : ℕ
  pub ended : Bool

-- what the next block has of the file
abbrev pub joined : Joining → List ℕ → Joined
joined joining block =
    if joining.ended then Ended
    else if nat_lt (capacity joining.rate) (count_of block) then BadCount (count_of block)
    else if count_of block == capacity joining.rate then More (count_of block)
    else Last (count_of block)

-- whether the last block has come then
abbrev pub ends : Joining → List ℕ → Bool
ends joining block = joining.ended || nat_lt (count_of block) (capacity joining.rate)
