-- Commands that read one input and write files whole that they make of it. They refuse paths that are shared before
-- they read.
use Rattle.std.specs.Prelude.{◌≡◌, ℕ, List, [], ◌∷◌, Contains, Ok, Option, None, Some}
use Rattle.lif_outside.specs.Calls.{Calls, Outside}
use Rattle.lif_outside.specs.Counts.{Rose}
use Rattle.lif_outside.specs.Events.{Event}
use Rattle.lif_outside.specs.Files.{Files}
use Rattle.lif_outside.specs.FileCalls.{StopsWithin, Written}
use Rattle.lif_outside.specs.Sequences.{Are}
use Rattle.lif_outside.specs.Told.{Becomes, Told}
use Rattle.lif_outside.specs.Writes.{WritesFiles, WritesPart, writes_of}
use Rattle.top_base.specs.Acting.{Due, LeavesUnread, Owed, Runs}
use Rattle.top_base.specs.Inputs.{HoldsInput}
use Rattle.top_base.specs.Lines.{out_of_memory_line, same_path_line, write_fault_line}
use Rattle.top_base.specs.Paths.{shared_path}
use Rattle.top_base.specs.Performs.{Behaviour, at_once, by_files}
use Rattle.top_base.specs.declared.outcome.Outcome.{Outcome}
use Rattle.top_base.specs.declared.status.Status.{Status}
use Rattle.top_base.specs.declared.status.Status.TheVariants.{Done, OutOfMemory, SamePath, WriteFault}

-- a path is shared, and it is said
abbrev pub shares : List ℕ → Outcome
shares path = record { status = SamePath; line = same_path_line path }

-- Such a command is told by its input; by the files that it makes of what was read, with the line that is said of them; by
-- what it can make files of, with that line; and by what else it declines, with a status and a line.
module _ {X : Type 0} (limit : ℕ) (Is : List ℕ → X → Type 0) (Refuses : List ℕ → Status → List ℕ → Type 0)
    (Makes : X → List Written → List ℕ → Type 0) (CanMake : X → List ℕ → Type 0) (Declines : X → Status → List ℕ → Type 0) where
  -- the calls after the input was read, by the status and the line: the files are created and written, one after another
  abbrev pub RunsMaking : X → Status → List ℕ → List Event → Type 0
  RunsMaking x Done line calls = (files : List Written) × Makes x files line × Are (writes_of files) calls
  RunsMaking x WriteFault line calls =
      (files : List Written) × (said : List ℕ) × Makes x files said × StopsWithin (writes_of files) calls × (line ≡ write_fault_line)
  RunsMaking x OutOfMemory line calls = (calls ≡ []) × (line ≡ out_of_memory_line)
  RunsMaking x status line calls = Declines x status line × (calls ≡ [])

  abbrev pub Writes : X → Outcome → Calls → Type 0
  Writes x outcome calls = RunsMaking x outcome.status outcome.line calls.on_store × (calls.on_links ≡ [])

  -- what is due of what was read
  abbrev pub DueMaking : X → Status → List ℕ → Type 0
  DueMaking x Done line = CanMake x line
  DueMaking x status line = Declines x status line

  abbrev pub DueOf : X → Files → Outcome → Type 0
  DueOf x files outcome = DueMaking x outcome.status outcome.line

  -- and what is owed: the status of what is due
  abbrev pub OwedOf : X → Files → Status → Type 0
  OwedOf x files status = (line : List ℕ) × DueMaking x status line

  module _ (path : List ℕ) (outputs : List (List ℕ)) where
    -- each file holds what was made of the input
    pub record LeavesMade (line : List ℕ) (before after : Outside) : Type 0 where
      pub input : X
      pub held : Told before.files (λ files. HoldsInput limit Is Refuses (files path) (Ok input))
      pub files : List Written
      pub made : Makes input files line
      pub left : Becomes before.files after.files (WritesFiles files)

    -- a file couldn't be created or written, and its count rose; each is as before, or holds a prefix of what it was to hold
    pub record LeavesPart (before after : Outside) : Type 0 where
      pub input : X
      pub held : Told before.files (λ files. HoldsInput limit Is Refuses (files path) (Ok input))
      pub files : List Written
      pub said : List ℕ
      pub made : Makes input files said
      pub output : List ℕ
      pub is_output : Contains outputs output
      pub rose : Rose (before.write_faults output) (after.write_faults output)
      pub left : Becomes before.files after.files (WritesPart files)

    -- what is left by the status and the line
    abbrev pub ChangesMaking : Status → List ℕ → Outside → Outside → Type 0
    ChangesMaking Done line before after = LeavesMade line before after
    ChangesMaking WriteFault line before after = LeavesPart before after
    ChangesMaking status line before after = LeavesUnread path status before after

    -- no count of faults of the input or of an output rose
    pub record WorksWell (before after : Outside) : Type 0 where
      pub input_read : ¬ Rose (before.read_faults path) (after.read_faults path)
      pub outputs_written : (output : List ℕ) → Contains outputs output → ¬ Rose (before.write_faults output) (after.write_faults output)

    -- where a path is shared, and where none is
    abbrev pub makes_by : Option (List ℕ) → Behaviour
    makes_by (Some shared) = at_once (shares shared)
    makes_by None = record {
      runs = Runs limit Is Refuses Writes path;
      changes = λ outcome. ChangesMaking outcome.status outcome.line;
      due = by_files (Owed limit Is Refuses OwedOf path) (Due limit Is Refuses DueOf path);
      no_fault = WorksWell;
    }

    abbrev pub makes_files : Behaviour
    makes_files = makes_by (shared_path (path ∷ []) outputs)
