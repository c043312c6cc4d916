-- What one call of `blind` delivers: the source, to each sink that has the rank of the code.
use Rattle.std.specs.Prelude.{◌≡◌, ◌≤◌, ℕ, List, None, Ok, Some, length, map}
use Rattle.code_file.specs.Items.{IsFileOf}
use Rattle.code_file.specs.Limits.{code_limit}
use Rattle.command_steps.specs.Steps.{Comes}
use Rattle.lif_outside.specs.Calls.{Outside}
use Rattle.lif_outside.specs.FileCalls.{Written}
use Rattle.lif_outside.specs.Files.{Files, Holds}
use Rattle.lif_outside.specs.Told.{Told}
use Rattle.lif_outside.specs.Writes.{WritesFiles, WritesPart}
use Rattle.node_program.specs.declared.code.Code.{Code}
use Rattle.top_base.specs.CodeFiles.{RefusesFile}
use Rattle.top_base.specs.Inputs.{HoldsInput}
use Rattle.top_base.specs.Words.{Blind, source_limit}
use Rattle.top_base.specs.declared.status.Status.{Status}
use Rattle.top_base.specs.declared.status.Status.TheVariants.{Done}
use Rattle.top_blind.specs.Blind.{blind_command, declined, outputs_in}

-- the path of the code holds a code, the words name links and share no path, and the path of the source holds this
pub record IsBlindGiven (given : Blind) (code : Code) (source : List ℕ) (files : Files) : Type 0 where
  pub code_held : HoldsInput code_limit IsFileOf RefusesFile (files given.code) (Ok code)
  pub clear : declined given code ≡ None
  pub source_held : Holds source (files given.source)

-- the source, for each sink that has the rank of the code where the links fail
abbrev pub copies : Blind → Code → List ℕ → List Written
copies given code source = map (λ path. (path, source)) (outputs_in given code)

-- Then each of these files is the source where the command is done, and holds a prefix of it or is as before whatever came; no
-- other file is changed; and the command is done where its calls do not fail.
pub record Delivers (given : Blind) (code : Code) (source : List ℕ) (files : Files) (status : Status) (before after : Outside) : Type 0 where
  pub delivered : status ≡ Done → Told after.files (WritesFiles (copies given code source) files)
  pub prefixes : Told after.files (WritesPart (copies given code source) files)
  pub comes : length source ≤ source_limit → Comes (blind_command given) status before after

abbrev pub BlindDelivers : Blind → Status → Outside → Outside → Type 0
BlindDelivers given status before after =
    (code : Code) (source : List ℕ) (files : Files) → before.files ≡ Some files → IsBlindGiven given code source files → Delivers given code source files status before after
