-- How two sources are streamed through one code: they are read in turn, and each block has rows of the one and then of the other.
use Rattle.std.specs.Prelude.{◌≡◌, ◌⊎◌, ◌<◌, ◌+◌, ◌*◌, ◌/◌, ℕ, Bool, true, false, IsTrue, if◌then◌else◌, max, min, not, List, [], ◌∷◌, ◌++◌, length, map, slice_get, Some}
use Rattle.coded_traffic.specs.RowLinks.{AreOfRow, CarriesRow}
use Rattle.generation_frame.specs.Blocks.{block_count, capacity}
use Rattle.lif_outside.specs.Calls.{Calls}
use Rattle.lif_outside.specs.Events.{Event}
use Rattle.lif_outside.specs.Moves.{Move}
use Rattle.lif_outside.specs.FileCalls.{ReadsWhole, StopsWithin, bytes_read}
use Rattle.lif_outside.specs.Sequences.{Are, IsFrontOf}
use Rattle.lif_outside.specs.Streams.{have_ended, reads_in}
use Rattle.lif_outside.specs.declared.links.Flight.{Flight}
use Rattle.node_program.specs.declared.code.Code.{Code}
use Rattle.source_delivery.specs.Carried.{Breaks, file_block}
use Rattle.source_delivery.specs.Delivering.{calls_join}
use Rattle.source_delivery.specs.Reading.{AreReads, HasRead, HaveEnded, Source, StopsReads}
use Rattle.source_delivery.specs.Streaming.{AtRest, Feed, IsStreamed, StreamsSource}
use Rattle.source_delivery.specs.Turns.{Outputs}
use Rattle.source_delivery.specs.declared.delivery.SourceDelivery.{SourceDelivery}
use Rattle.source_delivery.specs.declared.delivery.DeliveryFault.TheVariants as fault
use Rattle.source_delivery.specs.declared.parts.Parts.TheVariants.{Two}
use Rattle.source_delivery.specs.declared.reader.SourceReader.{SourceReader}
use Rattle.source_delivery.specs.declared.twin.TwinCounts.{TwinCounts}
use Rattle.source_delivery.specs.declared.streaming.StreamFault.{StreamFault}
use Rattle.source_delivery.specs.declared.streaming.StreamFault.TheVariants as stream

-- the block of a generation: that of the first file, and then that of the second; behind a file's end it is of nothing
abbrev pub twin_block : ℕ → ℕ → List ℕ → List ℕ → ℕ → List ℕ
twin_block first_rate second_rate first second generation = file_block first first_rate generation ++ file_block second second_rate generation

-- how many blocks two files have: those of the one that has more
abbrev pub twin_count : ℕ → ℕ → List ℕ → List ℕ → ℕ
twin_count first_rate second_rate first second = max (block_count first first_rate) (block_count second second_rate)

-- the reads with a mark
abbrev pub marked : List Bool → List Event → List Event
marked [] reads = []
marked (mark ∷ marks) [] = []
marked (true ∷ marks) (event ∷ reads) = event ∷ marked marks reads
marked (false ∷ marks) (event ∷ reads) = marked marks reads

-- those of the second source are the ones without
abbrev pub unmarked : List Bool → List Event → List Event
unmarked marks reads = marked (map not marks) reads

-- How many blocks the reads of two sources bring: those that are whole in each that hasn't ended, and all once both have.
abbrev pub twin_brought : ℕ → ℕ → List Event → List Event → ℕ
twin_brought first_rate second_rate first second =
    if have_ended first
    then if have_ended second
    then twin_count first_rate second_rate (bytes_read first) (bytes_read second)
    else length (bytes_read second) / capacity second_rate
    else if have_ended second
    then length (bytes_read first) / capacity first_rate
    else min (length (bytes_read first) / capacity first_rate) (length (bytes_read second) / capacity second_rate)

abbrev pub twin_feed : ℕ → ℕ → List Bool → Feed
twin_feed first_rate second_rate marks = record {
  block = λ reads. twin_block first_rate second_rate (bytes_read (marked marks reads)) (bytes_read (unmarked marks reads));
  brought = λ reads. twin_brought first_rate second_rate (marked marks reads) (unmarked marks reads);
}

-- Of each generation the first source is read first: where a read of the second begins in one, the first has ended or has brought it.
abbrev pub AreInTurn : ℕ → ℕ → List Bool → List Event → Type 0
AreInTurn first_rate second_rate marks reads = (front : List Event) (next : Event) (rest : List Event) → reads ≡ front ++ next ∷ rest
    → slice_get marks (length front) ≡ Some false
    → IsTrue (have_ended (marked marks front))
    ⊎ (length (bytes_read (unmarked marks front)) / capacity second_rate < length (bytes_read (marked marks front)) / capacity first_rate)

-- two sources were read in turn: P holds of the reads of the first, which are marked, and Q of those of the second
pub record ReadsBoth (first_rate second_rate : ℕ) (P Q : List Event → Type 0) (marks : List Bool) (reads : List Event) : Type 0 where
  pub as_many : length marks ≡ length reads
  pub of_first : P (marked marks reads)
  pub of_second : Q (unmarked marks reads)
  pub in_turn : AreInTurn first_rate second_rate marks reads

-- Two sources were read in turn, the first blocks that they bring were carried, and what came was delivered, each file getting what its
-- source's rows count.
pub record StreamsTwin (faithful : Bool) (code : Code) (pattern : ℕ) (outputs : Outputs) (first second : Source) (P Q : List Event → Type 0)
    (D : List Event → List Event → Type 0) (R : (ℕ → List ℕ) → ℕ → ℕ → List Move → Type 0) (calls : Calls) : Type 0 where
  pub marks : List Bool
  pub streams : StreamsSource faithful code pattern outputs (twin_feed first.rate second.rate marks) (ReadsBoth first.rate second.rate P Q marks) D R calls

-- Of pairs that were put, those of a link that carries one row alone are of one source: of a row of its blocks, and of no other's.
pub record PutsApart (code : Code) (first_rate second_rate : ℕ) (one two : List ℕ) (blocks : ℕ) (pairs : List Flight) : Type 0 where
  pub of_first : (link row : ℕ) → CarriesRow code link row → row < first_rate → AreOfRow (file_block one first_rate) blocks row link pairs
  pub of_second : (link row : ℕ) → CarriesRow code link (first_rate + row) → AreOfRow (file_block two second_rate) blocks row link pairs

-- the reads of a source so far, perhaps none
abbrev pub ReadsSoFar : Source → ℕ → List Event → Type 0
ReadsSoFar source limit reads = (ended : Bool) × AreReads source.path limit ended reads

-- how much of two sources was sent
pub record AreTwinCounts (code : Code) (first_rate second_rate : ℕ) (one two : List ℕ) (counts : TwinCounts) : Type 0 where
  pub first_bytes : counts.first ≡ length one
  pub second_bytes : counts.second ≡ length two
  pub generations : counts.generations ≡ twin_count first_rate second_rate one two
  pub sinks : counts.sinks ≡ length code.net.sinks

-- two sources were read to their ends, and all blocks were carried and delivered
pub record StreamsBoth (faithful : Bool) (code : Code) (pattern : ℕ) (outputs : Outputs) (first second : Source) (limit : ℕ) (counts : TwinCounts)
    (calls : Calls) : Type 0 where
  pub one : List ℕ
  pub two : List ℕ
  pub counts_are : AreTwinCounts code first.rate second.rate one two counts
  pub twin : StreamsTwin faithful code pattern outputs first second (ReadsWhole first.path limit one) (ReadsWhole second.path limit two) Are AtRest calls
  pub all : twin.streams.carried ≡ twin_count first.rate second.rate one two

-- not all was: the first source or the second couldn't be read, or what was read wasn't delivered
abbrev pub StopsTwin : Bool → Code → ℕ → Outputs → Source → Source → ℕ → StreamFault → Calls → Type 0
StopsTwin faithful code pattern outputs first second limit (stream.Sinks fault.Links) calls =
    StreamsTwin faithful code pattern outputs first second (ReadsSoFar first limit) (ReadsSoFar second limit) IsFrontOf (Breaks faithful code pattern) calls
StopsTwin faithful code pattern outputs first second limit (stream.Sinks fault.Write) calls =
    StreamsTwin faithful code pattern outputs first second (ReadsSoFar first limit) (ReadsSoFar second limit) StopsWithin AtRest calls
StopsTwin faithful code pattern outputs first second limit why calls =
    StreamsTwin faithful code pattern outputs first second (StopsReads first.path limit why) (ReadsSoFar second limit) IsFrontOf AtRest calls
    ⊎ StreamsTwin faithful code pattern outputs first second (ReadsSoFar first limit) (StopsReads second.path limit why) IsFrontOf AtRest calls

-- ---- on the way

-- the readers of two sources that are sent by a delivery: their rates are those of its parts, and each has room for a window
pub record AreSources {F : Type 0} (delivery : SourceDelivery F) (first second : SourceReader) : Type 0 where
  pub parts : delivery.parts ≡ Two first.rate
  pub rates : first.rate + second.rate ≡ delivery.runner.code.rate
  pub first_room : length first.bytes.items ≡ delivery.window * capacity first.rate
  pub second_room : length second.bytes.items ≡ delivery.window * capacity second.rate

-- Two sources on their way: they were read in turn, each as far as its reader says, and the first blocks were carried and delivered.
pub record IsFedTwin (faithful : Bool) (code : Code) (pattern : ℕ) (outputs : Outputs) (one two : Source) (limit carried : ℕ) (first second : SourceReader)
    (calls : Calls) : Type 0 where
  pub marks : List Bool
  pub reads : ReadsBoth one.rate two.rate (HasRead one limit carried first) (HasRead two limit carried second) marks (reads_in calls.on_store)
  pub streamed : IsStreamed faithful code pattern outputs (twin_feed one.rate two.rate marks)
      (twin_block one.rate two.rate (bytes_read (marked marks (reads_in calls.on_store))) (bytes_read (unmarked marks (reads_in calls.on_store))))
      carried calls

-- and once both have ended, these blocks are all
pub record IsOnTwin (faithful : Bool) (code : Code) (pattern : ℕ) (outputs : Outputs) (one two : Source) (limit carried : ℕ) (first second : SourceReader)
    (calls : Calls) : Type 0 where
  pub fed : IsFedTwin faithful code pattern outputs one two limit carried first second calls
  pub all : HaveEnded first second
      → carried ≡ twin_count one.rate two.rate (bytes_read (marked fed.marks (reads_in calls.on_store))) (bytes_read (unmarked fed.marks (reads_in calls.on_store)))

-- more was carried, whatever was before
abbrev pub GoesOnTwin : Bool → Code → ℕ → Outputs → Source → Source → ℕ → ℕ → ℕ → SourceReader → SourceReader → SourceReader → SourceReader → Calls → Type 0
GoesOnTwin faithful code pattern outputs one two limit carried now first second first_now second_now calls =
    (before : Calls) → IsOnTwin faithful code pattern outputs one two limit carried first second before
    → IsOnTwin faithful code pattern outputs one two limit now first_now second_now (calls_join before calls)

-- or it stopped
abbrev pub EndsTwin : Bool → Code → ℕ → Outputs → Source → Source → ℕ → ℕ → SourceReader → SourceReader → StreamFault → Calls → Type 0
EndsTwin faithful code pattern outputs one two limit carried first second why calls =
    (before : Calls) → IsOnTwin faithful code pattern outputs one two limit carried first second before
    → StopsTwin faithful code pattern outputs one two limit why (calls_join before calls)
