-- How a command ends, whatever it does. It runs to an outcome, and says the outcome's line.
use Rattle.std.specs.Prelude.{◌≡◌, ◌⊎◌, ℕ, Bool, true, false, List, [], ◌++◌, take}
use Rattle.lif_outside.specs.Calls.{Calls, Deeds, MakesNone, Outside}
use Rattle.lif_outside.specs.Counts.{Rose}
use Rattle.lif_outside.specs.Puts.{Put, SaysAll, SaysPart}
use Rattle.lif_outside.specs.Told.{Becomes}
use Rattle.top_base.specs.Lines.{link_fault_line, out_of_memory_line, read_fault_line, write_fault_line}
use Rattle.top_base.specs.declared.outcome.Outcome.{Outcome}
use Rattle.top_base.specs.declared.status.Status.{Status}
use Rattle.top_base.specs.declared.status.Status.TheVariants.{Done, LinkFault, NetRefused, NotDecoding, OutOfMemory, ReadFault, WriteFault}
use Rattle.top_base.specs.declared.status.NetWhy.TheVariants.{Cycle}

-- The status where the line couldn't be said to its end: a command that is done has a write fault then, and a refusal
-- stands.
abbrev pub status_unsaid : Status → Status
status_unsaid Done = WriteFault
status_unsaid status = status

-- the outcome's line was put, all of it or as far as it could be, and this is the status
abbrev pub SaysOutcome : Outcome → Status → List Put → Type 0
SaysOutcome outcome status puts =
    ((status ≡ outcome.status) × SaysAll outcome.line puts)
    ⊎ ((status ≡ status_unsaid outcome.status) × SaysPart outcome.line puts)

-- The calls are those of some outcome, and its line was put.
pub record Concludes (Runs : Outcome → Calls → Type 0) (status : Status) (deeds : Deeds) : Type 0 where
  pub outcome : Outcome
  pub runs : Runs outcome deeds.calls
  pub says : SaysOutcome outcome status deeds.puts

-- no call is made, and this is the outcome
abbrev pub EndsAtOnce : Outcome → Outcome → Calls → Type 0
EndsAtOnce expected outcome calls = (outcome ≡ expected) × MakesNone calls

-- these bytes were added to what is said
abbrev pub Adds : List ℕ → Outside → Outside → Type 0
Adds bytes before after = Becomes before.said after.said (λ old new. new ≡ old ++ bytes)

-- the count of what is said rose, and a prefix of these bytes was added
pub record AddsPart (bytes : List ℕ) (before after : Outside) : Type 0 where
  pub rose : Rose before.say_faults after.say_faults
  pub added : Becomes before.said after.said (λ old new. (kept : ℕ) × (new ≡ old ++ take kept bytes))

-- the outcome's line was added to what is said, or a prefix of it, and this is the status
abbrev pub AddsOutcome : Outcome → Status → Outside → Outside → Type 0
AddsOutcome outcome status before after =
    ((status ≡ outcome.status) × Adds outcome.line before after)
    ⊎ ((status ≡ status_unsaid outcome.status) × AddsPart outcome.line before after)

-- whether a status says that a call failed
abbrev pub is_fault : Status → Bool
is_fault ReadFault = true
is_fault WriteFault = true
is_fault LinkFault = true
is_fault status = false

-- whether a status comes of what the inputs are alone: it is that of no fault, and not of want of memory
abbrev pub is_of_inputs : Status → Bool
is_of_inputs ReadFault = false
is_of_inputs WriteFault = false
is_of_inputs LinkFault = false
is_of_inputs OutOfMemory = false
is_of_inputs status = true

-- the line of a fault, or of want of memory
abbrev pub fault_line : Status → List ℕ
fault_line ReadFault = read_fault_line
fault_line WriteFault = write_fault_line
fault_line LinkFault = link_fault_line
fault_line status = out_of_memory_line

-- the count of what is said didn't rise
abbrev pub SaysWell : Outside → Outside → Type 0
SaysWell before after = ¬ Rose before.say_faults after.say_faults

-- A status, whichever cycle of a network it shows, or block of a demand that doesn't decode.
abbrev pub any_witness : Status → Status
any_witness (NetRefused (Cycle links)) = NetRefused (Cycle [])
any_witness (NotDecoding demand block) = NotDecoding demand []
any_witness status = status

-- two statuses are one, whichever of these they show
abbrev pub AreAlike : Status → Status → Type 0
AreAlike one other = any_witness one ≡ any_witness other
