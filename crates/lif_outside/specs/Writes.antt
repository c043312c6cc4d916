-- Files that are written whole, one after another.
use Rattle.std.specs.Prelude.{◌≡◌, ◌⊎◌, ℕ, List, [], ◌∷◌, All, map}
use Rattle.std.specs.List.{flat_map}
use Rattle.lif_outside.specs.Events.{Event, created, appended}
use Rattle.lif_outside.specs.Files.{Files, Holds, HoldsPrefix, SameBut}
use Rattle.lif_outside.specs.FileCalls.{Written}

-- the paths
abbrev pub paths_written : List Written → List (List ℕ)
paths_written files = map (λ file. file.0) files

-- each file is created and its bytes are appended, before the next one is
abbrev pub writes_of : List Written → List Event
writes_of files = flat_map (λ file. created file.0 ∷ appended file.0 file.1 ∷ []) files

-- no other path is changed, and each file holds its bytes
pub record WritesFiles (files : List Written) (old new : Files) : Type 0 where
  pub others : SameBut (paths_written files) old new
  pub these : All (λ file. Holds file.1 (new file.0)) files

-- no other path is changed, and each file is as before or holds a prefix of its bytes
pub record WritesPart (files : List Written) (old new : Files) : Type 0 where
  pub others : SameBut (paths_written files) old new
  pub these : All (λ file. (new file.0 ≡ old file.0) ⊎ HoldsPrefix file.1 (new file.0)) files
