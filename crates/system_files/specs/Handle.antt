-- What an open file shows, and what a read from a place of it gives.
use Rattle.std.specs.Prelude.{◌≡◌, ℕ, ◌+◌, ◌<◌, Bool, List, Some, IfSome, length, drop}
use Rattle.std.specs.Io.KnownBytes.{Consumes, IsAtEnd, Keeps}
use Rattle.std.specs.declared.io.Read.{Ghosts as ReadGhosts}
use Rattle.std.specs.declared.io.Seek.{Ghosts as SeekGhosts}
use Rattle.system_files.specs.declared.handle.Handle.{Handle}

module _ {F : Type 0} where
  -- the file
  abbrev pub file_of : Handle F → F
  file_of handle = handle.file

  -- where reads go on
  abbrev pub place_of : Handle F → ℕ
  place_of handle = handle.at

  -- whether it stays open
  abbrev pub stays_of : Handle F → Bool
  stays_of handle = handle.stays

  -- A file was moved to a place, unless reads went on there already.
  pub record IsMoved (seek : SeekGhosts F) (at : ℕ) (old : Handle F) (moved : F) : Type 0 where
    pub still : place_of old ≡ at → moved ≡ file_of old
    pub there : IfSome (seek.stream_position (file_of old)) (λ was. was ≡ place_of old → seek.stream_position moved ≡ Some at)
    pub kept : Keeps (seek.stream_bytes (file_of old)) (seek.stream_bytes moved)

  module _ (seek : SeekGhosts F) (read : ReadGhosts F) where
    -- A file gave these bytes from a place on, where there was room for so many: all that it has from there on, or as
    -- many as there was room for. The next read goes on behind them.
    pub record GivesFrom (at room : ℕ) (bytes : List ℕ) (old new : Handle F) : Type 0 where
      pub moved : F
      pub there : IsMoved seek at old moved
      pub came : Consumes (read.remaining moved) (read.remaining (file_of new)) bytes
      pub all : length bytes < room → IsAtEnd (read.remaining (file_of new))
      pub on : place_of new ≡ at + length bytes

    -- what reads give is the stream from the position on
    abbrev pub ReadsStream : Type 0
    ReadsStream = (file : F) (at : ℕ) (held : List ℕ) → seek.stream_position file ≡ Some at → seek.stream_bytes file ≡ Some held → read.remaining file ≡ Some (drop at held)
