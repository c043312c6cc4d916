-- Limits of what calls are told.
use Rattle.std.specs.Prelude.{ℕ, ◌^◌}

-- the last place of a file from which it is read
abbrev pub last_place : ℕ
last_place = 2 ^ 41
