-- Files that are written whole, and a code's file that is, with a line that is said of them.
use Rattle.std.specs.Prelude.{◌≡◌, ◌≤◌, ◌<◌, ℕ, List, [], ◌∷◌, length}
use Rattle.code_file.specs.Items.{IsFileOf, bytes_of}
use Rattle.code_file.specs.Limits.{code_limit}
use Rattle.lif_outside.specs.Events.{Event}
use Rattle.lif_outside.specs.FileCalls.{StopsWithin, Written}
use Rattle.lif_outside.specs.Sequences.{Are}
use Rattle.lif_outside.specs.Writes.{writes_of}
use Rattle.node_program.specs.declared.code.Code.{Code}
use Rattle.top_base.specs.CodeFiles.{RefusesFile}
use Rattle.top_base.specs.Lines.{too_long_line, write_fault_line}
use Rattle.top_base.specs.Making.{RunsMaking}
use Rattle.top_base.specs.declared.status.Status.{Status}
use Rattle.top_base.specs.declared.status.Status.TheVariants.{Done, TooLong, WriteFault}

-- the calls by which files are written, one after another, by the status and the line, where this is said of them
abbrev pub WritesAll : List Written → List ℕ → Status → List ℕ → List Event → Type 0
WritesAll files said Done line calls = (line ≡ said) × Are (writes_of files) calls
WritesAll files said WriteFault line calls = (line ≡ write_fault_line) × StopsWithin (writes_of files) calls
WritesAll files said status line calls = ⊥

-- what is written and said of a code: its file, which is within the limit of code files
pub record IsWritten (path said : List ℕ) (code : Code) (files : List Written) (line : List ℕ) : Type 0 where
  pub within : length (bytes_of code) ≤ code_limit
  pub files_are : files ≡ (path, bytes_of code) ∷ []
  pub line_is : line ≡ said

-- a code whose file is within the limit
pub record CanWrite (said : List ℕ) (code : Code) (line : List ℕ) : Type 0 where
  pub within : length (bytes_of code) ≤ code_limit
  pub line_is : line ≡ said

-- one whose file isn't, by the status and the line
abbrev pub DeclinesLong : Code → Status → List ℕ → Type 0
DeclinesLong code TooLong line = (code_limit < length (bytes_of code)) × (line ≡ too_long_line)
DeclinesLong code status line = ⊥

-- the calls by which it is written, by the status and the line
abbrev pub WritesCode : List ℕ → List ℕ → Code → Status → List ℕ → List Event → Type 0
WritesCode path said = RunsMaking code_limit IsFileOf RefusesFile (IsWritten path said) (CanWrite said) DeclinesLong
