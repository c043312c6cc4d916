-- How a source is streamed: its file is read, its blocks are carried over the links as they come, and what comes of them is delivered.
use Rattle.std.specs.Prelude.{◌≡◌, ◌≤◌, ◌/◌, ◌∷◌, ◌++◌, ℕ, Bool, if◌then◌else◌, min, length, List}
use Rattle.generation_frame.specs.Blocks.{block_count, capacity}
use Rattle.generation_frame.specs.declared.frame.Packet.{Packet}
use Rattle.lif_outside.specs.Calls.{Calls}
use Rattle.lif_outside.specs.Events.{Event}
use Rattle.lif_outside.specs.Moves.{Move}
use Rattle.lif_outside.specs.FileCalls.{ReadsPastLimit, ReadsToFault, ReadsWhole, StopsWithin, appends_of, bytes_read}
use Rattle.lif_outside.specs.Sequences.{Are, IsFrontOf}
use Rattle.lif_outside.specs.Streams.{Streams, have_ended, reads_in, writes_in}
use Rattle.node_program.specs.declared.code.Code.{Code}
use Rattle.top_base.specs.Inputs.{ReadsAny}
use Rattle.source_delivery.specs.Carried.{AreCarried, Breaks, CarriesFirst, IsOver, blocks_in, file_block, packets_given}
use Rattle.source_delivery.specs.Delivery.{AreCounts}
use Rattle.source_delivery.specs.Turns.{Outputs, turns_before}
use Rattle.source_delivery.specs.declared.delivery.DeliveryFault.TheVariants as fault
use Rattle.source_delivery.specs.declared.delivery.SentCounts.{SentCounts}
use Rattle.source_delivery.specs.declared.streaming.StreamFault.{StreamFault}
use Rattle.source_delivery.specs.declared.streaming.StreamFault.TheVariants as stream

-- how many blocks reads of a source bring: one comes when it is whole, or when the source ended
abbrev pub blocks_brought : List Event → ℕ → ℕ
blocks_brought reads rate =
    if have_ended reads then block_count (bytes_read reads) rate else length (bytes_read reads) / capacity rate

-- which blocks reads bring, by their generations, and how many
pub record Feed : Type 0 where
  pub block : List Event → ℕ → List ℕ
  pub brought : List Event → ℕ

-- those of one file at a rate
abbrev pub file_feed : ℕ → Feed
file_feed rate = record { block = λ reads. file_block (bytes_read reads) rate; brought = λ reads. blocks_brought reads rate }

-- What these files get of what was read: generation by generation, of the blocks that were carried, and of each sink by sink, what
-- the sink decodes of the packets that came.
abbrev pub deliveries_to : Outputs → Code → ℕ → Feed → List Packet → ℕ → List Event → List Event
deliveries_to outputs code pattern feed came carried reads =
    appends_of (turns_before outputs code pattern came (min carried (feed.brought reads)))

-- the calls on the links are over with the blocks carried
abbrev pub AtRest : (ℕ → List ℕ) → ℕ → ℕ → List Move → Type 0
AtRest block blocks = IsOver

-- Sources were read, the first blocks that they bring were carried over the links, and what came was delivered to these files: P holds
-- of the reads, Q of the appends that are due and of those that were made, and R of the calls on the links after these blocks.
pub record StreamsSource (faithful : Bool) (code : Code) (pattern : ℕ) (outputs : Outputs) (feed : Feed) (P : List Event → Type 0)
    (Q : List Event → List Event → Type 0) (R : (ℕ → List ℕ) → ℕ → ℕ → List Move → Type 0) (calls : Calls) : Type 0 where
  pub carried : ℕ
  pub on_store : Streams (deliveries_to outputs code pattern feed (packets_given calls.on_links) carried) P Q calls.on_store
  pub on_links : CarriesFirst faithful code pattern (feed.block (reads_in calls.on_store)) (feed.brought (reads_in calls.on_store))
      (R (feed.block (reads_in calls.on_store)) (feed.brought (reads_in calls.on_store))) carried calls.on_links

-- Before each call the writes so far are the first of those that are due of what was read.
abbrev pub InTime : Outputs → Code → ℕ → Feed → List Packet → ℕ → List Event → Type 0
InTime outputs code pattern feed came carried events = (front : List Event) (next : Event) (rest : List Event) → events ≡ front ++ next ∷ rest
    → IsFrontOf (deliveries_to outputs code pattern feed came carried (reads_in front)) (writes_in front)

-- What was delivered so far of what was read: the first blocks were carried, what came of them was appended, and each append in time.
pub record IsStreamed (faithful : Bool) (code : Code) (pattern : ℕ) (outputs : Outputs) (feed : Feed) (block : ℕ → List ℕ) (carried : ℕ)
    (calls : Calls) : Type 0 where
  pub on_links : AreCarried faithful code pattern 0 (blocks_in block 0 carried) calls.on_links
  pub writes : writes_in calls.on_store ≡ appends_of (turns_before outputs code pattern (packets_given calls.on_links) carried)
  pub in_time : InTime outputs code pattern feed (packets_given calls.on_links) carried calls.on_store
  pub brought : carried ≤ feed.brought (reads_in calls.on_store)

-- the file of a path was read to its end, and all of its blocks were carried and delivered
pub record StreamsAll (faithful : Bool) (code : Code) (pattern : ℕ) (outputs : Outputs) (path : List ℕ) (limit : ℕ)
    (counts : SentCounts) (calls : Calls) : Type 0 where
  pub source : List ℕ
  pub counts_are : AreCounts code source counts
  pub streams : StreamsSource faithful code pattern outputs (file_feed code.rate) (ReadsWhole path limit source) Are AtRest calls
  pub all : streams.carried ≡ block_count source code.rate

-- not all was
abbrev pub StopsStreaming : Bool → Code → ℕ → Outputs → List ℕ → ℕ → StreamFault → Calls → Type 0
StopsStreaming faithful code pattern outputs path limit stream.Read calls =
    StreamsSource faithful code pattern outputs (file_feed code.rate) (ReadsToFault path limit) IsFrontOf AtRest calls
StopsStreaming faithful code pattern outputs path limit stream.TooLong calls =
    StreamsSource faithful code pattern outputs (file_feed code.rate) (ReadsPastLimit path limit) IsFrontOf AtRest calls
StopsStreaming faithful code pattern outputs path limit (stream.Sinks fault.Links) calls =
    StreamsSource faithful code pattern outputs (file_feed code.rate) (ReadsAny path limit) IsFrontOf (Breaks faithful code pattern) calls
StopsStreaming faithful code pattern outputs path limit (stream.Sinks fault.Write) calls =
    StreamsSource faithful code pattern outputs (file_feed code.rate) (ReadsAny path limit) StopsWithin AtRest calls
