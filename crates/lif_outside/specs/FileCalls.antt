-- Calls on files one after another: reads of a whole file, and appends to files.
use Rattle.std.specs.Prelude.{◌≡◌, ◌<◌, ◌≤◌, ◌+◌, ℕ, List, [], ◌∷◌, ◌++◌, length, map, if◌then◌else◌, Contains}
use Rattle.std.specs.List.{flat_map}
use Rattle.std.specs.Str.{bytes_eq}
use Rattle.lif_outside.specs.Events.{Event, read, read_failed, created, create_failed, appended, append_failed}
use Rattle.lif_outside.specs.Sequences.{Stops}

-- The calls are reads of a path from a place on, each from where the one before ended, and each gave something.
abbrev pub AreReadsFrom : ℕ → List ℕ → List Event → Type 0
AreReadsFrom at path [] = Unit {0}
AreReadsFrom at path (read other place room bytes ∷ events) =
    (other ≡ path) × (place ≡ at) × (0 < length bytes) × AreReadsFrom (at + length bytes) path events
AreReadsFrom at path (event ∷ events) = ⊥

-- what the reads gave, in order
abbrev pub bytes_read : List Event → List ℕ
bytes_read [] = []
bytes_read (read path at room bytes ∷ events) = bytes ++ bytes_read events
bytes_read (event ∷ events) = bytes_read events

-- The file of a path was read from its start until a read gave nothing, and these bytes came, within a limit.
pub record ReadsWhole (path : List ℕ) (limit : ℕ) (bytes : List ℕ) (events : List Event) : Type 0 where
  pub front : List Event
  pub reads : AreReadsFrom 0 path front
  pub gave : bytes_read front ≡ bytes
  pub room : ℕ
  pub some_room : 0 < room
  pub ended : events ≡ front ++ read path (length bytes) room [] ∷ []
  pub short : length bytes ≤ limit

-- The file of a path was read from its start until a read failed, within a limit.
pub record ReadsToFault (path : List ℕ) (limit : ℕ) (events : List Event) : Type 0 where
  pub front : List Event
  pub reads : AreReadsFrom 0 path front
  pub room : ℕ
  pub failed : events ≡ front ++ read_failed path (length (bytes_read front)) room ∷ []
  pub short : length (bytes_read front) ≤ limit

-- The file of a path was read from its start until the byte past a limit came.
pub record ReadsPastLimit (path : List ℕ) (limit : ℕ) (events : List Event) : Type 0 where
  pub reads : AreReadsFrom 0 path events
  pub long : length (bytes_read events) ≡ limit + 1

-- The file of a path was read from its start, at most to the byte past a limit, as far as there was memory. At least
-- one byte came.
pub record ReadsSome (path : List ℕ) (limit : ℕ) (events : List Event) : Type 0 where
  pub reads : AreReadsFrom 0 path events
  pub some : 0 < length (bytes_read events)
  pub short : length (bytes_read events) ≤ limit + 1

-- a call, had it failed
abbrev pub failed_of : Event → Event
failed_of (read path at room bytes) = read_failed path at room
failed_of (created path) = create_failed path
failed_of (appended path bytes) = append_failed path bytes
failed_of event = event

-- the calls are these up to one, and that one failed
abbrev pub StopsWithin : List Event → List Event → Type 0
StopsWithin these events = Stops failed_of these events

-- each of these paths is created, in order
abbrev pub creates_of : List (List ℕ) → List Event
creates_of paths = map created paths

-- a path, and bytes for its file
abbrev pub Written : Type 0
Written = List ℕ × List ℕ

-- turn by turn, and in each turn part by part, each path gets its bytes
abbrev pub appends_of : List (List Written) → List Event
appends_of turns = flat_map (λ turn. map (λ (part : Written). appended part.0 part.1) turn) turns

-- the calls are appends to some of these paths, all done
abbrev pub AreAppendsTo : List (List ℕ) → List Event → Type 0
AreAppendsTo paths [] = Unit {0}
AreAppendsTo paths (appended path bytes ∷ events) = Contains paths path × AreAppendsTo paths events
AreAppendsTo paths (event ∷ events) = ⊥

-- what was appended to a path, in order
abbrev pub bytes_appended : List ℕ → List Event → List ℕ
bytes_appended path [] = []
bytes_appended path (appended other bytes ∷ events) = (if bytes_eq other path then bytes else []) ++ bytes_appended path events
bytes_appended path (event ∷ events) = bytes_appended path events
