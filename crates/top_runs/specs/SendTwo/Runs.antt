-- The calls of `sendtwo`, by its outcome. This holds of every store and of all links.
use Rattle.std.specs.Prelude.{◌≡◌, ◌⊎◌, ℕ, Bool, List, Some, IsSome, IsNone}
use Rattle.lif_outside.specs.Calls.{Calls, MakesNone}
use Rattle.lif_outside.specs.Events.{Event}
use Rattle.lif_outside.specs.Moves.{Move, pairs_put}
use Rattle.lif_outside.specs.FileCalls.{ReadsPastLimit, ReadsToFault, ReadsWhole, StopsWithin, bytes_read}
use Rattle.lif_outside.specs.Sequences.{Are, IsFrontOf}
use Rattle.lif_outside.specs.Streams.{reads_in}
use Rattle.node_program.specs.declared.code.Code.{Code}
use Rattle.source_delivery.specs.Carried.{Breaks}
use Rattle.source_delivery.specs.Streaming.{AtRest}
use Rattle.source_delivery.specs.Twin.{PutsApart, ReadsBoth, ReadsSoFar, marked, twin_feed, unmarked}
use Rattle.top_base.specs.Lines.{bad_split_line, link_fault_line, out_of_memory_line, read_fault_line, same_path_line, too_long_line, unknown_pattern_line, write_fault_line}
use Rattle.top_base.specs.Words.{SendTwo, source_limit}
use Rattle.top_base.specs.declared.outcome.Outcome.{Outcome}
use Rattle.top_base.specs.declared.status.Status.{Status}
use Rattle.top_base.specs.declared.status.Status.TheVariants.{BadSplit, Done, LinkFault, OutOfMemory, ReadFault, SamePath, TooLong, UnknownPattern, WriteFault}
use Rattle.top_runs.specs.SendTwo.Given.{IsClear, IsFit, count_of, first_of, line_of_sent, pattern_in, pattern_of, second_of, sending_of, shared_of}
use Rattle.top_runs.specs.Sending.{Carries, LacksMemory, StopsAtCreate}

-- The sources were read in turn, carried and delivered, or not to their ends: P holds of the reads of SRC1, Q of those of SRC2, D of the
-- appends that are due and of those that were made, and R of the calls on the links after the blocks that were carried.
pub record CarriesBoth (faithful : Bool) (send : SendTwo) (code : Code) (P Q : List Event → Type 0) (D : List Event → List Event → Type 0)
    (R : (ℕ → List ℕ) → ℕ → ℕ → List Move → Type 0) (calls : Calls) : Type 0 where
  pub clear : IsClear send code
  pub marks : List Bool
  pub carries : Carries faithful (sending_of send code) code (twin_feed (first_of send).rate (second_of send code).rate marks)
      (ReadsBoth (first_of send).rate (second_of send code).rate P Q marks) D R calls
  -- what is put on a link that carries one row alone is of the source that has the row
  pub apart : PutsApart code (first_of send).rate (second_of send code).rate (bytes_read (marked marks (reads_in carries.on_store.later)))
      (bytes_read (unmarked marks (reads_in carries.on_store.later)))
      ((twin_feed (first_of send).rate (second_of send code).rate marks).brought (reads_in carries.on_store.later)) (pairs_put calls.on_links)

-- both were read to their ends, and all blocks were carried and delivered
pub record SentBoth (faithful : Bool) (send : SendTwo) (code : Code) (one two : List ℕ) (calls : Calls) : Type 0 where
  pub delivered : CarriesBoth faithful send code (ReadsWhole send.first source_limit one) (ReadsWhole send.second source_limit two) Are AtRest calls
  pub all : delivered.carries.carried ≡ count_of send code one two

-- a create failed
pub record StopsCreating (send : SendTwo) (code : Code) (calls : Calls) : Type 0 where
  pub clear : IsClear send code
  pub stops : StopsAtCreate (sending_of send code) code calls

-- the reads of each source so far
abbrev pub FirstSoFar : SendTwo → List Event → Type 0
FirstSoFar send = ReadsSoFar (first_of send) source_limit

abbrev pub SecondSoFar : SendTwo → Code → List Event → Type 0
SecondSoFar send code = ReadsSoFar (second_of send code) source_limit

-- the calls after an accepted code was read, by the status and the line
abbrev pub RunsCode : Bool → SendTwo → Code → Status → List ℕ → Calls → Type 0
RunsCode faithful send code Done line calls =
    (one : List ℕ) × (two : List ℕ) × (line ≡ line_of_sent send code one two) × SentBoth faithful send code one two calls
RunsCode faithful send code UnknownPattern line calls =
    IsNone (pattern_of send code) × (line ≡ unknown_pattern_line send.pattern) × MakesNone calls
RunsCode faithful send code (BadSplit rate) line calls =
    IsSome (pattern_of send code) × ¬ IsFit send code × (rate ≡ code.rate) × (line ≡ bad_split_line code.rate) × MakesNone calls
RunsCode faithful send code SamePath line calls =
    (path : List ℕ) × IsSome (pattern_of send code) × IsFit send code × (shared_of send code ≡ Some path) × (line ≡ same_path_line path)
    × MakesNone calls
RunsCode faithful send code ReadFault line calls =
    (CarriesBoth faithful send code (ReadsToFault send.first source_limit) (SecondSoFar send code) IsFrontOf AtRest calls
    ⊎ CarriesBoth faithful send code (FirstSoFar send) (ReadsToFault send.second source_limit) IsFrontOf AtRest calls)
    × (line ≡ read_fault_line)
RunsCode faithful send code TooLong line calls =
    (CarriesBoth faithful send code (ReadsPastLimit send.first source_limit) (SecondSoFar send code) IsFrontOf AtRest calls
    ⊎ CarriesBoth faithful send code (FirstSoFar send) (ReadsPastLimit send.second source_limit) IsFrontOf AtRest calls)
    × (line ≡ too_long_line)
RunsCode faithful send code LinkFault line calls =
    CarriesBoth faithful send code (FirstSoFar send) (SecondSoFar send code) IsFrontOf (Breaks faithful code (pattern_in send code)) calls
    × (line ≡ link_fault_line)
RunsCode faithful send code WriteFault line calls =
    (StopsCreating send code calls ⊎ CarriesBoth faithful send code (FirstSoFar send) (SecondSoFar send code) StopsWithin AtRest calls)
    × (line ≡ write_fault_line)
RunsCode faithful send code OutOfMemory line calls = LacksMemory send.seed code calls × (line ≡ out_of_memory_line)
RunsCode faithful send code status line calls = ⊥

-- the calls of an outcome after an accepted code was read, by links that are faithful or not
abbrev pub SendsTwo : Bool → SendTwo → Code → Outcome → Calls → Type 0
SendsTwo faithful send code outcome calls = RunsCode faithful send code outcome.status outcome.line calls
