-- The command `migrate`.
use Rattle.std.specs.Prelude.{ℕ, List, [], ◌∷◌}
use Rattle.code_file.specs.Items.{IsFileOf}
use Rattle.code_file.specs.Limits.{code_limit}
use Rattle.lif_outside.specs.FileCalls.{Written}
use Rattle.node_program.specs.declared.code.Code.{Code}
use Rattle.top_base.specs.CodeFiles.{RefusesFile}
use Rattle.top_base.specs.Lines.{migrated_line}
use Rattle.top_base.specs.Making.{makes_files}
use Rattle.top_base.specs.Performs.{Behaviour}
use Rattle.top_base.specs.Words.{Migrate}
use Rattle.top_tools.specs.CodeWriting.{CanWrite, DeclinesLong, IsWritten}

-- what is written and said of a code, whether it is accepted or not
abbrev pub IsMigrated : Migrate → Code → List Written → List ℕ → Type 0
IsMigrated given code = IsWritten given.new (migrated_line code) code

-- a code that is written anew: its file is within the limit
abbrev pub CanMigrate : Code → List ℕ → Type 0
CanMigrate code = CanWrite (migrated_line code) code

-- what the command does: OLD is read, and NEW is made of it
abbrev pub migrate_command : Migrate → Behaviour
migrate_command given =
    makes_files code_limit IsFileOf RefusesFile (IsMigrated given) CanMigrate DeclinesLong given.old (given.new ∷ [])
