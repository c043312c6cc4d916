-- A source whose bytes follow from their places.
use Rattle.std.specs.Prelude.{ℕ, ◌+◌, ◌*◌, ◌/◌, ◌%◌}

-- the byte at a place
abbrev pub source_byte : ℕ → ℕ
source_byte i = (167 * i + 13 * (i / 256) + 5) % 256
