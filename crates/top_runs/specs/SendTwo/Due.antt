-- Which outcome of `sendtwo` is due of an accepted code, memory and faults aside.
use Rattle.std.specs.Prelude.{◌≡◌, ◌⊎◌, ℕ, List, Contains, Option, Some, IsSome, IsNone}
use Rattle.lif_outside.specs.Calls.{Outside}
use Rattle.lif_outside.specs.Counts.{Rose}
use Rattle.lif_outside.specs.Files.{Files}
use Rattle.node_program.specs.declared.code.Code.{Code}
use Rattle.top_base.specs.Accepting.{HoldsFileOf}
use Rattle.top_base.specs.Inputs.{HoldsLong, HoldsShort}
use Rattle.top_base.specs.Lines.{bad_split_line, same_path_line, too_long_line, unknown_pattern_line}
use Rattle.top_base.specs.Words.{SendTwo, source_limit}
use Rattle.top_base.specs.declared.outcome.Outcome.{Outcome}
use Rattle.top_base.specs.declared.status.Status.{Status}
use Rattle.top_base.specs.declared.status.Status.TheVariants.{BadSplit, Done, SamePath, TooLong, UnknownPattern}
use Rattle.top_runs.specs.SendTwo.Given.{IsClear, IsFit, line_of_sent, outputs_of, pattern_of, shared_of}

-- by what the paths of the sources hold, by the status and the line
abbrev pub DueWith : SendTwo → Code → Option (List ℕ) → Option (List ℕ) → Status → List ℕ → Type 0
DueWith send code first second UnknownPattern line = IsNone (pattern_of send code) × (line ≡ unknown_pattern_line send.pattern)
DueWith send code first second (BadSplit rate) line =
    IsSome (pattern_of send code) × ¬ IsFit send code × (rate ≡ code.rate) × (line ≡ bad_split_line code.rate)
DueWith send code first second SamePath line =
    (path : List ℕ) × IsSome (pattern_of send code) × IsFit send code × (shared_of send code ≡ Some path) × (line ≡ same_path_line path)
DueWith send code first second TooLong line = IsClear send code × (HoldsLong source_limit first ⊎ HoldsLong source_limit second) × (line ≡ too_long_line)
DueWith send code first second Done line =
    IsClear send code
    × ((one : List ℕ) × (two : List ℕ) × HoldsShort source_limit one first × HoldsShort source_limit two second × (line ≡ line_of_sent send code one two))
DueWith send code first second status line = ⊥

abbrev pub DueOf : SendTwo → Code → Files → Outcome → Type 0
DueOf send code files outcome = DueWith send code (files send.first) (files send.second) outcome.status outcome.line

-- which status is owed: that of what is due
abbrev pub OwedOf : SendTwo → Code → Files → Status → Type 0
OwedOf send code files status = (line : List ℕ) × DueWith send code (files send.first) (files send.second) status line

-- no count of faults of the command's own paths rose, and not that of the links
pub record NoFault (send : SendTwo) (before after : Outside) : Type 0 where
  pub code_read : ¬ Rose (before.read_faults send.code) (after.read_faults send.code)
  pub first_read : ¬ Rose (before.read_faults send.first) (after.read_faults send.first)
  pub second_read : ¬ Rose (before.read_faults send.second) (after.read_faults send.second)
  pub outputs_written : (files : Files) (code : Code) (path : List ℕ) → before.files ≡ Some files → HoldsFileOf code (files send.code) → Contains (outputs_of send code) path
      → ¬ Rose (before.write_faults path) (after.write_faults path)
  pub links_worked : ¬ Rose before.link_faults after.link_faults
