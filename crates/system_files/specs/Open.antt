-- Which files are open, and what a read, a create or an append does to them.
use Rattle.std.specs.Prelude.{◌≡◌, ◌⊎◌, ℕ, ◌+◌, List, Option, Some, None}
use Rattle.std.specs.Io.KnownBytes.{Appends}
use Rattle.std.specs.declared.io.Read.{Ghosts as ReadGhosts}
use Rattle.std.specs.declared.io.Seek.{Ghosts as SeekGhosts}
use Rattle.system_files.specs.declared.handle.Handle.{Handle}
use Rattle.system_files.specs.declared.kept.KeptFiles.{KeptFiles}
use Rattle.system_files.specs.declared.open.OpenFiles.{OpenFiles}
use Rattle.system_files.specs.Handle.{file_of, place_of, GivesFrom}
use Rattle.system_files.specs.Kept.{handle_of, count_of, OnlyCloses}

module _ {F : Type 0} where
  -- the files that are open for reads
  abbrev pub sources_of : OpenFiles F → KeptFiles F
  sources_of open_files = open_files.sources

  -- the files that are open for appends
  abbrev pub sinks_of : OpenFiles F → KeptFiles F
  sinks_of open_files = open_files.sinks

  -- how many are open
  abbrev pub open_count : OpenFiles F → ℕ
  open_count open_files = count_of (sinks_of open_files) + count_of (sources_of open_files)

  -- each file is as before, or closed
  abbrev pub OnlyClosesAny : OpenFiles F → OpenFiles F → Type 0
  OnlyClosesAny old new = OnlyCloses (sources_of old) (sources_of new) × OnlyCloses (sinks_of old) (sinks_of new)

  module _ (path : List ℕ) where
    -- A file gave these bytes from a place on: that which was open of the path, or one that was opened at its start
    -- for want of it. No other is open of the path.
    pub record GivesOrOpens (seek : SeekGhosts F) (read : ReadGhosts F) (at room : ℕ) (bytes : List ℕ) (old new : KeptFiles F) : Type 0 where
      pub before : Handle F
      pub after : Handle F
      pub was : (handle_of old path ≡ Some before) ⊎ ((handle_of old path ≡ None) × (place_of before ≡ 0))
      pub is : (handle_of new path ≡ Some after) ⊎ (handle_of new path ≡ None)
      pub gave : GivesFrom seek read at room bytes before after

    -- A file gained these bytes: that which was open of the path, or one that was opened for want of it. No other is
    -- open of the path.
    pub record GainsOrOpens (contents : F → Option (List ℕ)) (bytes : List ℕ) (old new : KeptFiles F) : Type 0 where
      pub before : Handle F
      pub after : Handle F
      pub was : (handle_of old path ≡ Some before) ⊎ (handle_of old path ≡ None)
      pub is : (handle_of new path ≡ Some after) ⊎ (handle_of new path ≡ None)
      pub gained : Appends (contents (file_of before)) (contents (file_of after)) bytes
