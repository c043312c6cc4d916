-- A source that is fed: its file is read while its blocks become turns.
use Rattle.std.specs.Prelude.{◌≡◌, ◌≤◌, ◌*◌, ℕ, List, drop, length, Result, Ok, Err}
use Rattle.command_steps.specs.Filling.{Fills, StopsFilling}
use Rattle.generation_frame.specs.Blocks.{block_count}
use Rattle.lif_outside.specs.Events.{Event}
use Rattle.lif_outside.specs.FileCalls.{ReadsPastLimit, ReadsToFault, ReadsWhole, StopsWithin}
use Rattle.lif_outside.specs.Sequences.{Are, IsFrontOf}
use Rattle.lif_outside.specs.Streams.{Streams}
use Rattle.source_turns.specs.Turns.{Job, feed_brought}
use Rattle.source_turns.specs.declared.feeding.Fed.{Fed}
use Rattle.source_turns.specs.declared.feeding.FeedFault.{FeedFault}
use Rattle.source_turns.specs.declared.feeding.FeedFault.TheVariants as fault
use Rattle.top_base.specs.Inputs.{ReadsAny}
use Rattle.top_base.specs.Lines.{read_fault_line, too_long_line, write_fault_line}
use Rattle.top_base.specs.declared.outcome.Outcome.{Outcome}
use Rattle.top_base.specs.declared.status.Status.TheVariants.{ReadFault, TooLong, WriteFault}

-- what is left of bytes behind so many whole blocks
pub record IsLeft (size blocks : ℕ) (bytes left : List ℕ) : Type 0 where
  pub whole : blocks * size ≤ length bytes
  pub left_is : left ≡ drop (blocks * size) bytes

-- The calls of a source that is fed, by how it ended.
abbrev pub Feeds : Job → List ℕ → ℕ → Result Fed FeedFault → List Event → Type 0
Feeds job path limit (Ok fed) calls =
    (source : List ℕ) × (fed.bytes ≡ length source) × (fed.generations ≡ block_count source job.rate)
    × Fills job.paths (Streams (feed_brought job) (ReadsWhole path limit source) Are) calls
Feeds job path limit (Err fault.Read) calls = Fills job.paths (Streams (feed_brought job) (ReadsToFault path limit) IsFrontOf) calls
Feeds job path limit (Err fault.TooLong) calls = Fills job.paths (Streams (feed_brought job) (ReadsPastLimit path limit) IsFrontOf) calls
Feeds job path limit (Err fault.Write) calls = StopsFilling job.paths (Streams (feed_brought job) (ReadsAny path limit) StopsWithin) calls

-- what a source that wasn't fed to its end makes of the command
abbrev pub outcome_by : FeedFault → Outcome
outcome_by fault.Read = record { status = ReadFault; line = read_fault_line }
outcome_by fault.TooLong = record { status = TooLong; line = too_long_line }
outcome_by fault.Write = record { status = WriteFault; line = write_fault_line }
