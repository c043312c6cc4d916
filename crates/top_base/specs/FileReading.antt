-- Whole files, read within a limit.
use Rattle.std.specs.Prelude.{◌≡◌, ◌<◌, ◌≤◌, ◌+◌, ℕ, Bool, true, false, List, [], ◌∷◌, ◌++◌, length, take, Result, Ok, Err}
use Rattle.lif_outside.specs.Events.{Event, read, read_failed}
use Rattle.lif_outside.specs.declared.Failed.{Failed}
use Rattle.lif_outside.specs.FileCalls.{ReadsToFault, ReadsPastLimit, ReadsSome}
use Rattle.top_base.specs.declared.reading.FileRefusal.{FileRefusal}
use Rattle.top_base.specs.declared.reading.FileRefusal.TheVariants as refused
use Rattle.top_base.specs.Lines.{read_fault_line, too_long_line, out_of_memory_line}
use Rattle.top_base.specs.declared.outcome.Outcome.{Outcome}
use Rattle.top_base.specs.declared.status.Status.TheVariants.{ReadFault, TooLong, OutOfMemory}

-- what a file that can't be had makes of the command
abbrev pub outcome_of : FileRefusal → Outcome
outcome_of refused.Fault = record { status = ReadFault; line = read_fault_line }
outcome_of refused.TooLong = record { status = TooLong; line = too_long_line }
outcome_of refused.OutOfMemory = record { status = OutOfMemory; line = out_of_memory_line }

-- the reads of a file that can't be had
abbrev pub StopsReading : List ℕ → ℕ → FileRefusal → List Event → Type 0
StopsReading path limit refused.Fault calls = ReadsToFault path limit calls
StopsReading path limit refused.TooLong calls = ReadsPastLimit path limit calls
StopsReading path limit refused.OutOfMemory calls = ReadsSome path limit calls

-- One read of a path from a place on, into a chunk: so many bytes came, or it failed.
abbrev pub ReadsNext : List ℕ → ℕ → List ℕ → Result ℕ Failed → List Event → Type 0
ReadsNext path at chunk (Ok count) calls = (room : ℕ) × (0 < room) × (calls ≡ read path at room (take count chunk) ∷ [])
ReadsNext path at chunk (Err failed) calls = (room : ℕ) × (calls ≡ read_failed path at room ∷ [])

-- One read more behind the front of a file, and the front with what came. It answers whether anything came.
abbrev pub ReadsMore : List ℕ → ℕ → List ℕ → List ℕ → Result Bool FileRefusal → List Event → Type 0
ReadsMore path limit old new (Ok true) calls =
    (room : ℕ) × (came : List ℕ) × (calls ≡ read path (length old) room came ∷ []) × (0 < length came) × (new ≡ old ++ came)
ReadsMore path limit old new (Ok false) calls =
    (room : ℕ) × (0 < room) × (calls ≡ read path (length old) room [] ∷ []) × (new ≡ old)
ReadsMore path limit old new (Err refused.Fault) calls = (room : ℕ) × (calls ≡ read_failed path (length old) room ∷ [])
ReadsMore path limit old new (Err refused.TooLong) calls = ⊥
ReadsMore path limit old new (Err refused.OutOfMemory) calls =
    (room : ℕ) × (came : List ℕ) × (calls ≡ read path (length old) room came ∷ []) × (0 < length came) × (length old + length came ≤ limit + 1)
