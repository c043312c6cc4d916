-- Files that are created first, and then filled while a source is read.
use Rattle.std.specs.Prelude.{◌≡◌, ℕ, Bool, true, List, [], unwrap_or}
use Rattle.lif_outside.specs.Calls.{Outside}
use Rattle.lif_outside.specs.Counts.{Rose}
use Rattle.lif_outside.specs.Events.{Event}
use Rattle.lif_outside.specs.Files.{Files}
use Rattle.lif_outside.specs.FileCalls.{ReadsPastLimit, ReadsToFault, ReadsWhole, StopsWithin, Written, appends_of, bytes_read}
use Rattle.lif_outside.specs.Sequences.{Are, IsFrontOf}
use Rattle.lif_outside.specs.Streams.{Streams, have_ended}
use Rattle.lif_outside.specs.Told.{Becomes, Told}
use Rattle.lif_outside.specs.Writes.{WritesFiles, WritesPart}
use Rattle.command_steps.specs.Filling.{Fills, RaisesNone, RaisesOne, StopsFilling, files_by}
use Rattle.top_base.specs.Inputs.{HoldsLong, HoldsShort, ReadsAny}
use Rattle.top_base.specs.Lines.{out_of_memory_line, read_fault_line, too_long_line, write_fault_line}
use Rattle.top_base.specs.Performs.{Behaviour, LeavesAll, by_files}
use Rattle.top_base.specs.declared.status.Status.{Status}
use Rattle.top_base.specs.declared.status.Status.TheVariants.{Done, OutOfMemory, ReadFault, TooLong, WriteFault}

-- Such a command is told by its source's path and limit, by its outputs, by the turns that the bytes of a source bring which were
-- read so far, where it has ended or not, and by the line that is said of a source.
module _ (path : List ℕ) (limit : ℕ) (paths : List (List ℕ)) (turns : Bool → List ℕ → List (List Written)) (line : List ℕ → List ℕ) where
  -- the appends that reads bring
  abbrev pub brought : List Event → List Event
  brought reads = appends_of (turns (have_ended reads) (bytes_read reads))

  -- the source was read to its end, within the limit, and all that it brings was appended
  pub record FeedsAll (said : List ℕ) (calls : List Event) : Type 0 where
    pub source : List ℕ
    pub line_is : said ≡ line source
    pub fed : Fills paths (Streams brought (ReadsWhole path limit source) Are) calls

  -- the calls, by the status and what is said
  abbrev pub RunsFeeding : Status → List ℕ → List Event → Type 0
  RunsFeeding Done said calls = FeedsAll said calls
  RunsFeeding ReadFault said calls = (said ≡ read_fault_line) × Fills paths (Streams brought (ReadsToFault path limit) IsFrontOf) calls
  RunsFeeding TooLong said calls = (said ≡ too_long_line) × Fills paths (Streams brought (ReadsPastLimit path limit) IsFrontOf) calls
  RunsFeeding WriteFault said calls = (said ≡ write_fault_line) × StopsFilling paths (Streams brought (ReadsAny path limit) StopsWithin) calls
  RunsFeeding OutOfMemory said calls = (said ≡ out_of_memory_line) × (calls ≡ [])
  RunsFeeding status said calls = ⊥

  -- the path held a source within the limit, and each file holds what it brings
  pub record FeedsFiles (old new : Files) : Type 0 where
    pub source : List ℕ
    pub held : HoldsShort limit source (old path)
    pub left : WritesFiles (files_by paths (turns true source)) old new

  -- each file is as before, or holds a prefix of what the file of the source brings
  abbrev pub FeedsPart : Files → Files → Type 0
  FeedsPart old new = WritesPart (files_by paths (turns true (unwrap_or (old path) []))) old new

  abbrev pub LeavesPart : Outside → Outside → Type 0
  LeavesPart before after = Becomes before.files after.files FeedsPart

  abbrev pub ChangesFeeding : Status → Outside → Outside → Type 0
  ChangesFeeding Done before after = Becomes before.files after.files FeedsFiles
  ChangesFeeding ReadFault before after = Rose (before.read_faults path) (after.read_faults path) × LeavesPart before after
  ChangesFeeding TooLong before after = Told before.files (λ files. HoldsLong limit (files path)) × LeavesPart before after
  ChangesFeeding WriteFault before after = RaisesOne paths before after × LeavesPart before after
  ChangesFeeding OutOfMemory before after = LeavesAll before after
  ChangesFeeding status before after = ⊥

  -- what is due of what the path of the source holds
  abbrev pub DueFeeding : Status → List ℕ → Files → Type 0
  DueFeeding Done said files = (source : List ℕ) × HoldsShort limit source (files path) × (said ≡ line source)
  DueFeeding TooLong said files = HoldsLong limit (files path) × (said ≡ too_long_line)
  DueFeeding status said files = ⊥

  -- no count of faults of the source or of the outputs rose
  pub record FeedsWell (before after : Outside) : Type 0 where
    pub source : ¬ Rose (before.read_faults path) (after.read_faults path)
    pub outputs : RaisesNone paths before after

  -- Files at these paths are created in order, and then filled as the source is read.
  abbrev pub feeds : Behaviour
  feeds = record {
    runs = λ outcome calls. RunsFeeding outcome.status outcome.line calls.on_store × (calls.on_links ≡ []);
    changes = λ outcome. ChangesFeeding outcome.status;
    due = by_files (λ files status. (said : List ℕ) × DueFeeding status said files) (λ files outcome. DueFeeding outcome.status outcome.line files);
    no_fault = FeedsWell;
  }
