-- Which files are kept open, and what a read or an append does to one of them.
use Rattle.std.specs.Prelude.{◌≡◌, ◌≢◌, ◌⊎◌, ℕ, List, Option, Some, None}
use Rattle.std.specs.HashMap.{get_by_text, hash_map_len}
use Rattle.std.specs.Io.KnownBytes.{Appends}
use Rattle.std.specs.declared.io.Read.{Ghosts as ReadGhosts}
use Rattle.std.specs.declared.io.Seek.{Ghosts as SeekGhosts}
use Rattle.system_files.specs.declared.handle.Handle.{Handle}
use Rattle.system_files.specs.declared.kept.KeptFiles.{KeptFiles}
use Rattle.system_files.specs.Handle.{file_of, GivesFrom}

module _ {F : Type 0} where
  -- the handle that is kept of a path
  abbrev pub handle_of : KeptFiles F → List ℕ → Option (Handle F)
  handle_of kept path = get_by_text kept.files path

  -- how many are kept
  abbrev pub count_of : KeptFiles F → ℕ
  count_of kept = hash_map_len kept.files

  -- each handle is as before, or closed
  abbrev pub OnlyCloses : KeptFiles F → KeptFiles F → Type 0
  OnlyCloses old new = (path : List ℕ) → (handle_of new path ≡ handle_of old path) ⊎ (handle_of new path ≡ None)

  module _ (path : List ℕ) where
    -- the handles of other paths are as before
    abbrev pub KeepsOthers : KeptFiles F → KeptFiles F → Type 0
    KeepsOthers old new = (other : List ℕ) → other ≢ path → handle_of new other ≡ handle_of old other

    -- the handles of other paths are as before, or closed
    abbrev pub OnlyClosesOthers : KeptFiles F → KeptFiles F → Type 0
    OnlyClosesOthers old new = (other : List ℕ) → other ≢ path → (handle_of new other ≡ handle_of old other) ⊎ (handle_of new other ≡ None)

    -- the file of a path is kept, and gave these bytes from a place on
    pub record GivesOn (seek : SeekGhosts F) (read : ReadGhosts F) (at room : ℕ) (bytes : List ℕ) (old new : KeptFiles F) : Type 0 where
      pub before : Handle F
      pub after : Handle F
      pub was : handle_of old path ≡ Some before
      pub is : handle_of new path ≡ Some after
      pub gave : GivesFrom seek read at room bytes before after

    -- the file of a path is kept, and gained these bytes
    pub record Gains (contents : F → Option (List ℕ)) (bytes : List ℕ) (old new : KeptFiles F) : Type 0 where
      pub before : Handle F
      pub after : Handle F
      pub was : handle_of old path ≡ Some before
      pub is : handle_of new path ≡ Some after
      pub gained : Appends (contents (file_of before)) (contents (file_of after)) bytes
