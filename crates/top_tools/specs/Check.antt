-- The command `check`.
use Rattle.std.specs.Prelude.{◌≡◌, ℕ, List}
use Rattle.node_program.specs.declared.code.Code.{Code}
use Rattle.code_file.specs.Limits.{code_limit}
use Rattle.top_base.specs.Accepting.{IsCodeOf, RefusesCode}
use Rattle.top_base.specs.Inspecting.{OwesDone, inspects}
use Rattle.top_base.specs.Lines.{accepted_line}
use Rattle.top_base.specs.Performs.{Behaviour}
use Rattle.top_base.specs.declared.outcome.Outcome.{Outcome}
use Rattle.top_base.specs.declared.status.Status.TheVariants.{Done}

-- the outcome for an accepted code: it is said to be one
abbrev pub IsChecked : Code → Outcome → Type 0
IsChecked code outcome = outcome ≡ record { status = Done; line = accepted_line code }

-- what the command does: CODE is read
abbrev pub check_command : List ℕ → Behaviour
check_command path = inspects code_limit IsCodeOf RefusesCode IsChecked OwesDone path
