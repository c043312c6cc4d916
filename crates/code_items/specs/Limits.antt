-- The limits of code files.
use Rattle.std.specs.Prelude.{ℕ}

-- the greatest length of a code file, in bytes
abbrev pub code_limit : ℕ
code_limit = 268435456

-- so many links the patterns of a network may have together, that every code of it has a file within the limit
abbrev pub fitting_members : ℕ
fitting_members = 2101247
