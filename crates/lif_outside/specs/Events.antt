-- Calls on a store with their answers, and what they do to the files.
use Rattle.std.specs.Prelude.{◌≡◌, ◌≢◌, ◌⊎◌, ◌≤◌, ◌<◌, ℕ, List, [], ◌∷◌, ◌++◌, Option, Some, Result, Ok, Err, unwrap_or, length, take, drop, Bool, true, false}
use Rattle.lif_outside.specs.declared.Failed.{Failed}
use Rattle.lif_outside.specs.Files.{Files}

-- A call on a store, with its answer.
pub data Event : Type 0 where
  -- of a file from a place on, as many bytes as there is room for were asked for, and these came
  read : (path : List ℕ) → (at : ℕ) → (room : ℕ) → (bytes : List ℕ) → Event
  read_failed : (path : List ℕ) → (at : ℕ) → (room : ℕ) → Event
  created : (path : List ℕ) → Event
  create_failed : (path : List ℕ) → Event
  appended : (path : List ℕ) → (bytes : List ℕ) → Event
  append_failed : (path : List ℕ) → (bytes : List ℕ) → Event

-- The event of a call by its answer. The bytes that a read gave stand at the front of its buffer.
abbrev pub read_event : List ℕ → ℕ → ℕ → Result ℕ Failed → List ℕ → Event
read_event path at room (Ok count) buffer = read path at room (take count buffer)
read_event path at room (Err why) buffer = read_failed path at room

abbrev pub create_event : List ℕ → Result Unit Failed → Event
create_event path (Ok done) = created path
create_event path (Err why) = create_failed path

abbrev pub append_event : List ℕ → List ℕ → Result Unit Failed → Event
append_event path bytes (Ok done) = appended path bytes
append_event path bytes (Err why) = append_failed path bytes

-- the path that a call was given
abbrev pub path_of : Event → List ℕ
path_of (read path at room bytes) = path
path_of (read_failed path at room) = path
path_of (created path) = path
path_of (create_failed path) = path
path_of (appended path bytes) = path
path_of (append_failed path bytes) = path

-- a read that failed
abbrev pub is_failed_read : Event → Bool
is_failed_read (read_failed path at room) = true
is_failed_read event = false

-- a create or an append that failed
abbrev pub is_failed_write : Event → Bool
is_failed_write (create_failed path) = true
is_failed_write (append_failed path bytes) = true
is_failed_write event = false

-- A file gave these bytes to a read from a place on, with this much room. Nothing comes only at the file's end.
pub record Gives (file : Option (List ℕ)) (at room : ℕ) (bytes : List ℕ) : Type 0 where
  pub content : List ℕ
  pub found : file ≡ Some content
  pub part : bytes ≡ take (length bytes) (drop at content)
  pub ended : bytes ≡ [] → 0 < room → length content ≤ at

-- What a call does to what stands at its path. A failed create has left it as it was or empty, and a failed append
-- has left it as it was or added a prefix.
abbrev pub Changes : Event → Option (List ℕ) → Option (List ℕ) → Type 0
Changes (read path at room bytes) old new = Gives old at room bytes × (new ≡ old)
Changes (read_failed path at room) old new = new ≡ old
Changes (created path) old new = new ≡ Some []
Changes (create_failed path) old new = (new ≡ old) ⊎ (new ≡ Some [])
Changes (appended path bytes) old new = new ≡ Some (unwrap_or old [] ++ bytes)
Changes (append_failed path bytes) old new = (new ≡ old) ⊎ ((kept : ℕ) × (new ≡ Some (unwrap_or old [] ++ take kept bytes)))

-- a call, seen at a path: another path stays as it is
pub record HappensAt (path : List ℕ) (event : Event) (old new : Option (List ℕ)) : Type 0 where
  pub here : path_of event ≡ path → Changes event old new
  pub elsewhere : path_of event ≢ path → new ≡ old

-- calls, one after another, seen at a path
abbrev pub HappenAt : List ℕ → List Event → Option (List ℕ) → Option (List ℕ) → Type 0
HappenAt path [] old new = new ≡ old
HappenAt path (event ∷ events) old new = (mid : Option (List ℕ)) × HappensAt path event old mid × HappenAt path events mid new

-- the files change as these calls say, and each read gave what its file held
abbrev pub Follow : List Event → Files → Files → Type 0
Follow events old new = (path : List ℕ) → HappenAt path events (old path) (new path)
