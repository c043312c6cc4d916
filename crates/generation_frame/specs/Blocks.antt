-- The blocks of a file. A block is a count of four bytes, that many bytes of the file, and zeros.
use Rattle.std.specs.Prelude.{ℕ, ◌+◌, ◌-◌, ◌*◌, ◌/◌, min, nat_lt, filter, List, ◌++◌, length, map, take, drop, replicate}
use Rattle.std.specs.List.{range_with_len}
use Rattle.std.specs.Int.{to_be_bytes, from_be_bytes, w32}

-- the bytes of a row
abbrev pub row_bytes : ℕ
row_bytes = 1024

-- the pieces of a row, and their bytes
abbrev pub pieces : ℕ
pieces = 8

abbrev pub piece_bytes : ℕ
piece_bytes = 128

-- a piece of a row
abbrev pub piece_of_row : List ℕ → ℕ → List ℕ
piece_of_row row piece = take piece_bytes (drop (piece * piece_bytes) row)

-- the most rows of a block
abbrev pub most_rows : ℕ
most_rows = 32

-- the most blocks of a window, those that go through a code at a time
abbrev pub most_blocks : ℕ
most_blocks = 4

-- how many bytes of a file a block has room for
abbrev pub capacity : ℕ → ℕ
capacity rate = rate * row_bytes - 4

-- the block of these bytes
abbrev pub block_of : ℕ → List ℕ → List ℕ
block_of rate piece = to_be_bytes w32 (length piece) ++ piece ++ replicate (capacity rate - length piece) 0

abbrev pub block_count : List ℕ → ℕ → ℕ
block_count file rate = length file / capacity rate + 1

-- the bytes of a file that the block of a number has
abbrev pub piece_of : List ℕ → ℕ → ℕ → List ℕ
piece_of file rate generation = take (capacity rate) (drop (generation * capacity rate) file)

-- what the first generations of a file have of its bytes, without those that have none
abbrev pub pieces_before : List ℕ → ℕ → ℕ → List (List ℕ)
pieces_before file rate generations =
    filter (λ piece. nat_lt 0 (length piece)) (map (piece_of file rate) (range_with_len 0 generations))

-- a file, cut into what its generations have of it
abbrev pub pieces_of : List ℕ → ℕ → List (List ℕ)
pieces_of file rate = pieces_before file rate (block_count file rate)

-- those of whole blocks alone
abbrev pub whole_pieces_of : List ℕ → ℕ → List (List ℕ)
whole_pieces_of file rate = pieces_before file rate (length file / capacity rate)

-- the blocks of a file, each at its generation
abbrev pub blocks_of : List ℕ → ℕ → List (List ℕ)
blocks_of file rate = map (λ generation. block_of rate (piece_of file rate generation)) (range_with_len 0 (block_count file rate))

-- how many bytes of a file a block counts, and those bytes, as far as it has them
abbrev pub count_of : List ℕ → ℕ
count_of block = from_be_bytes w32 (take 4 block)

abbrev pub counted_bytes : List ℕ → List ℕ
counted_bytes block = take (min (count_of block) (length block - 4)) (drop 4 block)
