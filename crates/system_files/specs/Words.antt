-- The words that a system gives.
use Rattle.std.specs.Prelude.{◌≡◌, ℕ, List, All, IsUtf8, ⊤, map, string_bytes}
use Rattle.system_files.specs.declared.words.Words.{Words}
use Rattle.system_files.specs.declared.words.Words.TheVariants.{Given, NotText, NoMemory}

-- what a program is given of these words: all of them, unchanged and in order, unless one isn't text, or there was no
-- memory
abbrev pub Gives : List (List ℕ) → Words → Type 0
Gives words (Given given) = map string_bytes given.items ≡ words
Gives words NotText = All IsUtf8 words → ⊥
Gives words NoMemory = ⊤
