-- A code's file that is read, whether the code is accepted or not.
use Rattle.std.specs.Prelude.{◌≡◌, ◌⊎◌, ℕ, List, Result, Err}
use Rattle.lif_outside.specs.Events.{Event}
use Rattle.code_file.specs.Items.{IsFileOf}
use Rattle.code_file.specs.Limits.{code_limit}
use Rattle.code_file.specs.Reading.{contents_of}
use Rattle.code_file.specs.declared.CodeRefusal.{CodeRefusal}
use Rattle.code_file.specs.declared.CodeRefusal.TheVariants as refused
use Rattle.node_program.specs.declared.code.Code.{Code}
use Rattle.top_base.specs.Inputs.{IsNoMemory, Reads}
use Rattle.top_base.specs.Lines.{code_refused_line, out_of_memory_line}
use Rattle.top_base.specs.declared.outcome.Outcome.{Outcome}
use Rattle.top_base.specs.declared.status.Status.{Status}
use Rattle.top_base.specs.declared.status.Status.TheVariants.{CodeRefused, OutOfMemory}

-- what a refused file of a code, or of a draft, makes of the command
abbrev pub outcome_of_refusal : CodeRefusal → Outcome
outcome_of_refusal refused.OutOfMemory = record { status = OutOfMemory; line = out_of_memory_line }
outcome_of_refusal why = record { status = CodeRefused why; line = code_refused_line why }

-- what bytes say is a refusal, with this status and line
abbrev pub IsRefused : {X : Type 0} → Result X CodeRefusal → Status → List ℕ → Type 0
IsRefused said (CodeRefused why) line = (said ≡ Err why) × (line ≡ code_refused_line why)
IsRefused said status line = ⊥

-- the bytes are no code's file, with this status and line
abbrev pub RefusesFile : List ℕ → Status → List ℕ → Type 0
RefusesFile bytes status line = IsRefused (contents_of bytes) status line

-- the bytes are no code's file, and this is the outcome, or there was no memory
abbrev pub RefusesFileOrLosesIt : List ℕ → Outcome → Type 0
RefusesFileOrLosesIt bytes outcome = RefusesFile bytes outcome.status outcome.line ⊎ IsNoMemory outcome

-- the calls by which a code was had from a path, or couldn't be
abbrev pub ReadsFile : List ℕ → Result Code Outcome → List Event → Type 0
ReadsFile path result calls = Reads code_limit IsFileOf RefusesFile path result calls
