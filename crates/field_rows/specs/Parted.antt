-- The order of lanes in which the bytes at even places and those at odd places stand apart.
use Rattle.std.specs.Prelude.{ℕ, ◌+◌, ◌*◌, ◌/◌, ◌%◌}

-- Of 32 numbers, those from 8 on and those from 16 on exchange_eights, eight each: so the bytes of two vectors of 32 are parted, and
-- joined again, with few instructions
abbrev pub exchange_eights : ℕ → ℕ
exchange_eights m = m % 8 + 8 * (m / 16) + 16 * (m / 8 % 2)

-- the place of the byte that a lane has: an even one in the lower half of the lanes, an odd one in the upper half
abbrev pub place_of_lane : ℕ → ℕ
place_of_lane i = 2 * exchange_eights (i % 32) + i / 32

-- the lane that has the byte of a place
abbrev pub lane_of_place : ℕ → ℕ
lane_of_place k = 32 * (k % 2) + exchange_eights (k / 2)
