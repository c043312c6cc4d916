-- A code that is read and checked, as every command does that is given one.
use Rattle.std.specs.Prelude.{◌≡◌, ◌⊎◌, ℕ, List, Option, Result}
use Rattle.lif_outside.specs.Events.{Event}
use Rattle.lif_outside.specs.Files.{Holds}
use Rattle.code_checker.specs.Checking.{FailsFirst}
use Rattle.code_file.specs.Items.{IsFileOf}
use Rattle.code_file.specs.Limits.{code_limit}
use Rattle.cut_bound.specs.Cuts.{IsWithinCuts}
use Rattle.node_program.specs.Decoding.{IsAccepted}
use Rattle.node_program.specs.declared.code.Code.{Code}
use Rattle.top_base.specs.Inputs.{HoldsInput, IsNoMemory, Reads}
use Rattle.top_base.specs.CodeFiles.{RefusesFile}
use Rattle.top_base.specs.Lines.{check_failed_line}
use Rattle.top_base.specs.declared.outcome.Outcome.{Outcome}
use Rattle.top_base.specs.declared.status.Status.{Status}
use Rattle.top_base.specs.declared.status.Status.TheVariants.{CodeRefused, CheckFailed}

-- The bytes are a file of this code, and it is accepted. So its rate is at most the number of links of each cut of each demand, which
-- asks for nothing more: it holds of every accepted code.
pub record IsCodeOf (bytes : List ℕ) (code : Code) : Type 0 where
  pub spelled : IsFileOf bytes code
  pub accepted : IsAccepted code
  pub within_cuts : IsWithinCuts code.net code.rate

-- the bytes are the file of a code that isn't accepted
abbrev pub RefusesUnaccepted : List ℕ → Status → List ℕ → Type 0
RefusesUnaccepted bytes (CheckFailed demand row column found) line =
    (code : Code) × IsFileOf bytes code × FailsFirst code demand row column found × (line ≡ check_failed_line code.net demand row column found)
RefusesUnaccepted bytes status line = ⊥

-- the bytes are refused as those of an accepted code
abbrev pub RefusesCode : List ℕ → Status → List ℕ → Type 0
RefusesCode bytes (CodeRefused why) line = RefusesFile bytes (CodeRefused why) line
RefusesCode bytes status line = RefusesUnaccepted bytes status line

-- the bytes are refused, and this is the outcome, or there was no memory
abbrev pub RefusesCodeOrLosesIt : List ℕ → Outcome → Type 0
RefusesCodeOrLosesIt bytes outcome = RefusesCode bytes outcome.status outcome.line ⊎ IsNoMemory outcome

-- the calls by which an accepted code was had from a path, or couldn't be
abbrev pub ReadsCode : List ℕ → Result Code Outcome → List Event → Type 0
ReadsCode path result calls = Reads code_limit IsCodeOf RefusesCode path result calls

-- what a path holds: an accepted code, or what makes this the outcome
abbrev pub HoldsCode : Option (List ℕ) → Result Code Outcome → Type 0
HoldsCode file result = HoldsInput code_limit IsCodeOf RefusesCode file result

-- a path holds a file of this code
abbrev pub HoldsFileOf : Code → Option (List ℕ) → Type 0
HoldsFileOf code file = (bytes : List ℕ) × Holds bytes file × IsFileOf bytes code
