-- Files by their paths, and what stands at paths before and after calls.
use Rattle.std.specs.Prelude.{◌≡◌, ◌⊎◌, ℕ, List, [], ◌∷◌, Option, Some, take, Contains}

-- what each path holds, or that no file is there
abbrev pub Files : Type 0
Files = List ℕ → Option (List ℕ)

-- every path is as before
abbrev pub SameFiles : Files → Files → Type 0
SameFiles old new = (path : List ℕ) → new path ≡ old path

-- every path outside this list is as before
abbrev pub SameBut : List (List ℕ) → Files → Files → Type 0
SameBut paths old new = (path : List ℕ) → ¬ Contains paths path → new path ≡ old path

-- a file is there, and holds these bytes
abbrev pub Holds : List ℕ → Option (List ℕ) → Type 0
Holds bytes file = file ≡ Some bytes

-- a file is there, and holds a prefix of these bytes
abbrev pub HoldsPrefix : List ℕ → Option (List ℕ) → Type 0
HoldsPrefix bytes file = (kept : ℕ) × (file ≡ Some (take kept bytes))

-- what stands at a path is as before, or an empty file
abbrev pub IsSameOrEmpty : Option (List ℕ) → Option (List ℕ) → Type 0
IsSameOrEmpty old new = (new ≡ old) ⊎ (new ≡ Some [])

-- No path outside this list is changed, and of each path in it this holds: of the path, of what stood there, and of
-- what stands there.
pub record ChangesOnly (paths : List (List ℕ)) (P : List ℕ → Option (List ℕ) → Option (List ℕ) → Type 0) (old new : Files) : Type 0 where
  pub others : SameBut paths old new
  pub these : (path : List ℕ) → Contains paths path → P path (old path) (new path)

-- no path stands twice
abbrev pub AreDistinct : List (List ℕ) → Type 0
AreDistinct [] = Unit {0}
AreDistinct (path ∷ paths) = ¬ Contains paths path × AreDistinct paths
