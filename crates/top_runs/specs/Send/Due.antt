-- Which outcome of `send` is due of an accepted code, memory and faults aside.
use Rattle.std.specs.Prelude.{◌≡◌, ℕ, List, Contains, Option, Some, IsSome, IsNone}
use Rattle.lif_outside.specs.Calls.{Outside}
use Rattle.lif_outside.specs.Counts.{Rose}
use Rattle.lif_outside.specs.Files.{Files}
use Rattle.node_program.specs.declared.code.Code.{Code}
use Rattle.top_base.specs.Accepting.{HoldsFileOf}
use Rattle.top_base.specs.Inputs.{HoldsLong, HoldsShort}
use Rattle.top_base.specs.Lines.{same_path_line, too_long_line, unknown_pattern_line}
use Rattle.top_base.specs.Words.{Send, source_limit}
use Rattle.top_base.specs.declared.outcome.Outcome.{Outcome}
use Rattle.top_base.specs.declared.status.Status.{Status}
use Rattle.top_base.specs.declared.status.Status.TheVariants.{Done, SamePath, TooLong, UnknownPattern}
use Rattle.top_runs.specs.Send.Given.{IsClear, line_of_sent, outputs_of, pattern_of, shared_of}

-- by what the path of the source holds, by the status and the line
abbrev pub DueWith : Send → Code → Option (List ℕ) → Status → List ℕ → Type 0
DueWith send code file UnknownPattern line = IsNone (pattern_of send code) × (line ≡ unknown_pattern_line send.pattern)
DueWith send code file SamePath line =
    (path : List ℕ) × IsSome (pattern_of send code) × (shared_of send code ≡ Some path) × (line ≡ same_path_line path)
DueWith send code file TooLong line = IsClear send code × HoldsLong source_limit file × (line ≡ too_long_line)
DueWith send code file Done line =
    IsClear send code × ((source : List ℕ) × HoldsShort source_limit source file × (line ≡ line_of_sent code source))
DueWith send code file status line = ⊥

abbrev pub DueOf : Send → Code → Files → Outcome → Type 0
DueOf send code files outcome = DueWith send code (files send.source) outcome.status outcome.line

-- which status is owed: that of what is due
abbrev pub OwedOf : Send → Code → Files → Status → Type 0
OwedOf send code files status = (line : List ℕ) × DueWith send code (files send.source) status line

-- no count of faults of the command's own paths rose, and not that of the links
pub record NoFault (send : Send) (before after : Outside) : Type 0 where
  pub code_read : ¬ Rose (before.read_faults send.code) (after.read_faults send.code)
  pub source_read : ¬ Rose (before.read_faults send.source) (after.read_faults send.source)
  pub outputs_written : (files : Files) (code : Code) (path : List ℕ) → before.files ≡ Some files → HoldsFileOf code (files send.code) → Contains (outputs_of send code) path
      → ¬ Rose (before.write_faults path) (after.write_faults path)
  pub links_worked : ¬ Rose before.link_faults after.link_faults
