-- The letters of names.
use Rattle.std.specs.Prelude.{ℕ, ◌≤◌}

-- a small letter of ASCII
abbrev pub IsLetter : ℕ → Type 0
IsLetter letter = (97 ≤ letter) × (letter ≤ 122)
