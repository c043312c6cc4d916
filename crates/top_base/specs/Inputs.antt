-- An input of a command: a file that is read whole within a limit, and whose bytes are something or are refused.
use Rattle.std.specs.Prelude.{◌≡◌, ◌⊎◌, ◌≤◌, ◌<◌, ℕ, Bool, true, false, List, length, Option, Result, Ok, Err}
use Rattle.lif_outside.specs.Events.{Event}
use Rattle.lif_outside.specs.Files.{Holds}
use Rattle.lif_outside.specs.FileCalls.{ReadsWhole, ReadsToFault, ReadsPastLimit, ReadsSome}
use Rattle.top_base.specs.Lines.{out_of_memory_line, read_fault_line, too_long_line}
use Rattle.top_base.specs.declared.outcome.Outcome.{Outcome}
use Rattle.top_base.specs.declared.status.Status.{Status}
use Rattle.top_base.specs.declared.status.Status.TheVariants.{NetRefused, CodeRefused, CheckFailed, StreamRefused, ReadFault, TooLong, OutOfMemory}

-- whether a status refuses the bytes of an input
abbrev pub is_refusal : Status → Bool
is_refusal (NetRefused why) = true
is_refusal (CodeRefused why) = true
is_refusal (CheckFailed demand row column found) = true
is_refusal (StreamRefused link why) = true
is_refusal status = false

-- whether a status says that an input couldn't be had
abbrev pub is_lost : Status → Bool
is_lost ReadFault = true
is_lost TooLong = true
is_lost OutOfMemory = true
is_lost status = is_refusal status

-- there was no memory
pub record IsNoMemory (outcome : Outcome) : Type 0 where
  pub status : outcome.status ≡ OutOfMemory
  pub line : outcome.line ≡ out_of_memory_line

-- a file was read, to its end or as far as there was memory
abbrev pub ReadsAny : List ℕ → ℕ → List Event → Type 0
ReadsAny path limit calls = ReadsSome path limit calls ⊎ ((bytes : List ℕ) × ReadsWhole path limit bytes calls)

-- a path holds a file that is longer than a limit
abbrev pub HoldsLong : ℕ → Option (List ℕ) → Type 0
HoldsLong limit file = (bytes : List ℕ) × Holds bytes file × (limit < length bytes)

-- a path holds a file of these bytes, within a limit
pub record HoldsShort (limit : ℕ) (bytes : List ℕ) (file : Option (List ℕ)) : Type 0 where
  pub held : Holds bytes file
  pub short : length bytes ≤ limit

-- An input is told by its limit, by what its bytes are, and by what refuses them, with a status and a line.
module _ {X : Type 0} (limit : ℕ) (Is : List ℕ → X → Type 0) (Refuses : List ℕ → Status → List ℕ → Type 0) where
  -- the calls of an input that can't be had, by the status and the line
  abbrev pub Loses : List ℕ → Status → List ℕ → List Event → Type 0
  Loses path ReadFault line calls = ReadsToFault path limit calls × (line ≡ read_fault_line)
  Loses path TooLong line calls = ReadsPastLimit path limit calls × (line ≡ too_long_line)
  Loses path OutOfMemory line calls = ReadsAny path limit calls × (line ≡ out_of_memory_line)
  Loses path status line calls = (bytes : List ℕ) × ReadsWhole path limit bytes calls × Refuses bytes status line

  -- the calls by which an input was had from a path, or couldn't be
  abbrev pub Reads : List ℕ → Result X Outcome → List Event → Type 0
  Reads path (Ok x) calls = (bytes : List ℕ) × ReadsWhole path limit bytes calls × Is bytes x
  Reads path (Err outcome) calls = Loses path outcome.status outcome.line calls

  -- a path holds no such input, which makes this the status and the line
  abbrev pub HoldsNone : Option (List ℕ) → Status → List ℕ → Type 0
  HoldsNone file TooLong line = HoldsLong limit file × (line ≡ too_long_line)
  HoldsNone file status line = (bytes : List ℕ) × HoldsShort limit bytes file × Refuses bytes status line

  -- what a path holds: such an input, or what makes this the outcome
  abbrev pub HoldsInput : Option (List ℕ) → Result X Outcome → Type 0
  HoldsInput file (Ok x) = (bytes : List ℕ) × HoldsShort limit bytes file × Is bytes x
  HoldsInput file (Err outcome) = HoldsNone file outcome.status outcome.line
