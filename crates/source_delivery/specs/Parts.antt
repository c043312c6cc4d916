-- How the rows of a code's blocks are shared among the sources that are sent, and which files each sink has.
use Rattle.std.specs.Prelude.{◌*◌, ◌/◌, ◌%◌, ◌==◌, ◌&&◌, nat_lt, ℕ, Bool, true, List, drop, take, if◌then◌else◌}
use Rattle.generation_frame.specs.Blocks.{row_bytes}
use Rattle.source_delivery.specs.declared.parts.Parts.{Parts}
use Rattle.source_delivery.specs.declared.parts.Parts.TheVariants.{One, Two}

-- whether each source has some of the rows of a rate
abbrev pub is_split : Parts → ℕ → Bool
is_split One rate = true
is_split (Two rows) rate = nat_lt 0 rows && nat_lt rows rate

-- how many rows are those of the first of two sources
abbrev pub first_rows : Parts → ℕ
first_rows One = 0
first_rows (Two rows) = rows

-- how many files so many sinks have
abbrev pub files_of : Parts → ℕ → ℕ
files_of One sinks = sinks
files_of (Two rows) sinks = 2 * sinks

-- the sink of a file, by the file's place: of two files of each, one stands after the other
abbrev pub sink_of : Parts → ℕ → ℕ
sink_of One file = file
sink_of (Two rows) file = file / 2

-- of the rows of a block, those of the source of a file
abbrev pub rows_of : Parts → ℕ → List ℕ → List ℕ
rows_of One file block = block
rows_of (Two rows) file block = if file % 2 == 0 then take (rows * row_bytes) block else drop (rows * row_bytes) block
