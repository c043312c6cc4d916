-- The calls of `send`, by its outcome. This holds of every store and of all links.
use Rattle.std.specs.Prelude.{◌≡◌, ◌⊎◌, ℕ, Bool, List, Some, IsSome, IsNone}
use Rattle.generation_frame.specs.Blocks.{block_count}
use Rattle.lif_outside.specs.Calls.{Calls, MakesNone}
use Rattle.lif_outside.specs.Events.{Event}
use Rattle.lif_outside.specs.Moves.{Move}
use Rattle.lif_outside.specs.FileCalls.{ReadsPastLimit, ReadsToFault, ReadsWhole, StopsWithin}
use Rattle.lif_outside.specs.Sequences.{Are, IsFrontOf}
use Rattle.node_program.specs.declared.code.Code.{Code}
use Rattle.top_base.specs.Inputs.{ReadsAny}
use Rattle.top_base.specs.Lines.{link_fault_line, out_of_memory_line, read_fault_line, same_path_line, too_long_line, unknown_pattern_line, write_fault_line}
use Rattle.top_base.specs.Words.{Send, source_limit}
use Rattle.top_base.specs.declared.outcome.Outcome.{Outcome}
use Rattle.top_base.specs.declared.status.Status.{Status}
use Rattle.top_base.specs.declared.status.Status.TheVariants.{Done, LinkFault, OutOfMemory, ReadFault, SamePath, TooLong, UnknownPattern, WriteFault}
use Rattle.source_delivery.specs.Carried.{Breaks}
use Rattle.source_delivery.specs.Streaming.{AtRest, file_feed}
use Rattle.top_runs.specs.Send.Given.{IsClear, line_of_sent, pattern_in, pattern_of, sending_of, shared_of}
use Rattle.top_runs.specs.Sending.{Carries, LacksMemory, StopsAtCreate}

-- SRC was read, carried and delivered, or not to its end
pub record CarriesSource (faithful : Bool) (send : Send) (code : Code) (P : List Event → Type 0) (Q : List Event → List Event → Type 0)
    (R : (ℕ → List ℕ) → ℕ → ℕ → List Move → Type 0) (calls : Calls) : Type 0 where
  pub clear : IsClear send code
  pub carries : Carries faithful (sending_of send code) code (file_feed code.rate) P Q R calls

-- it was read to its end, and all blocks were carried and delivered
pub record Sent (faithful : Bool) (send : Send) (code : Code) (source : List ℕ) (calls : Calls) : Type 0 where
  pub delivered : CarriesSource faithful send code (ReadsWhole send.source source_limit source) Are AtRest calls
  pub all : delivered.carries.carried ≡ block_count source code.rate

-- a create failed
pub record StopsCreating (send : Send) (code : Code) (calls : Calls) : Type 0 where
  pub clear : IsClear send code
  pub stops : StopsAtCreate (sending_of send code) code calls

-- the calls after an accepted code was read, by the status and the line
abbrev pub RunsCode : Bool → Send → Code → Status → List ℕ → Calls → Type 0
RunsCode faithful send code Done line calls = (source : List ℕ) × (line ≡ line_of_sent code source) × Sent faithful send code source calls
RunsCode faithful send code UnknownPattern line calls =
    IsNone (pattern_of send code) × (line ≡ unknown_pattern_line send.pattern) × MakesNone calls
RunsCode faithful send code SamePath line calls =
    (path : List ℕ) × IsSome (pattern_of send code) × (shared_of send code ≡ Some path) × (line ≡ same_path_line path) × MakesNone calls
RunsCode faithful send code ReadFault line calls =
    CarriesSource faithful send code (ReadsToFault send.source source_limit) IsFrontOf AtRest calls × (line ≡ read_fault_line)
RunsCode faithful send code TooLong line calls =
    CarriesSource faithful send code (ReadsPastLimit send.source source_limit) IsFrontOf AtRest calls × (line ≡ too_long_line)
RunsCode faithful send code LinkFault line calls =
    CarriesSource faithful send code (ReadsAny send.source source_limit) IsFrontOf (Breaks faithful code (pattern_in send code)) calls × (line ≡ link_fault_line)
RunsCode faithful send code WriteFault line calls =
    (StopsCreating send code calls ⊎ CarriesSource faithful send code (ReadsAny send.source source_limit) StopsWithin AtRest calls)
    × (line ≡ write_fault_line)
RunsCode faithful send code OutOfMemory line calls = LacksMemory send.seed code calls × (line ≡ out_of_memory_line)
RunsCode faithful send code status line calls = ⊥

-- the calls of an outcome after an accepted code was read, by links that are faithful or not
abbrev pub Sends : Bool → Send → Code → Outcome → Calls → Type 0
Sends faithful send code outcome calls = RunsCode faithful send code outcome.status outcome.line calls
