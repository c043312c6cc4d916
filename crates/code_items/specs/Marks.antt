-- A table that says of each number below a limit whether it stands in a list.
use Rattle.std.specs.Prelude.{◌≡◌, ℕ, ◌<◌, Bool, false, List, [], ◌∷◌, ◌++◌, length, slice_index_or}
use Rattle.net_model.specs.Lists.{is_among}
use Rattle.net_model.specs.declared.Link.{Link}
use Rattle.code_items.specs.Reading.{tails_of}

pub record AreMarks (limit : ℕ) (numbers : List ℕ) (marks : List Bool) : Type 0 where
  pub size : length marks ≡ limit
  pub each : (n : ℕ) → n < limit → slice_index_or marks n false ≡ is_among numbers n

-- whatever the marks say, this tells it of a number
abbrev pub TellsMark : List Bool → ℕ → Bool → Type 0
TellsMark marks number is_marked =
    (limit : ℕ) (numbers : List ℕ) → AreMarks limit numbers marks
    → is_marked ≡ is_among numbers number

-- whatever the marks say, afterwards a number has come too
abbrev pub AddsMark : List Bool → List Bool → ℕ → Type 0
AddsMark old new number =
    (limit : ℕ) (numbers : List ℕ) → AreMarks limit numbers old
    → AreMarks limit (numbers ++ number ∷ []) new

-- the marks are those of the tails of the links
abbrev pub AreTailMarks : ℕ → List Link → List Bool → Type 0
AreTailMarks nodes links marks = AreMarks nodes (tails_of links) marks
