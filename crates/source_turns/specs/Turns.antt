-- What the blocks of a source become: turns of appends, one for each generation.
use Rattle.std.specs.Prelude.{◌≤◌, ◌+◌, ◌/◌, ℕ, Bool, if◌then◌else◌, List, length, map}
use Rattle.std.specs.List.{range_with_len}
use Rattle.generation_frame.specs.Blocks.{block_count, capacity, most_rows, piece_of}
use Rattle.lif_outside.specs.Events.{Event}
use Rattle.lif_outside.specs.FileCalls.{Written, appends_of, bytes_read}
use Rattle.lif_outside.specs.Streams.{have_ended}

-- The paths of the files that are filled, the rows of a block, and what the files get of a generation, by its piece of the source.
pub record Job : Type 0 where
  pub paths : List (List ℕ)
  pub rate : ℕ
  pub turn : ℕ → List ℕ → List Written
  pub some_rate : 1 ≤ rate
  pub low_rate : rate ≤ most_rows

-- the bytes of a block
abbrev pub size_of : Job → ℕ
size_of job = capacity job.rate

-- the turns of so many generations from one on, by bytes that are cut into their pieces
abbrev pub turns_from : Job → ℕ → ℕ → List ℕ → List (List Written)
turns_from job first count bytes =
    map (λ place. job.turn (first + place) (piece_of bytes job.rate place)) (range_with_len 0 count)

-- how many blocks some bytes of a source bring: whole ones, and where it ended the last
abbrev pub blocks_by : Bool → List ℕ → ℕ → ℕ
blocks_by ended bytes rate = if ended then block_count bytes rate else length bytes / capacity rate

-- the turns that the bytes of a source bring which were read so far, where it has ended or not
abbrev pub feed_turns : Job → Bool → List ℕ → List (List Written)
feed_turns job ended bytes = turns_from job 0 (blocks_by ended bytes job.rate) bytes

-- the appends that reads bring
abbrev pub feed_brought : Job → List Event → List Event
feed_brought job reads = appends_of (feed_turns job (have_ended reads) (bytes_read reads))
