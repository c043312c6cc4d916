-- How sources are sent through an accepted code: the calls on the store and on the links, and what the sinks' files get. This holds of
-- every store and of all links.
use Rattle.std.specs.Prelude.{◌≡◌, ◌⊎◌, ℕ, Bool, List, [], ◌∷◌, flat_map}
use Rattle.std.specs.List.{range_with_len}
use Rattle.coded_traffic.specs.Traffic.{room_for}
use Rattle.generation_frame.specs.declared.frame.Packet.{Packet}
use Rattle.lif_outside.specs.Calls.{Calls}
use Rattle.lif_outside.specs.Events.{Event}
use Rattle.lif_outside.specs.Moves.{Move, open_refused, opened}
use Rattle.lif_outside.specs.FileCalls.{StopsWithin, creates_of}
use Rattle.lif_outside.specs.Sequences.{Are, Then}
use Rattle.lif_outside.specs.Streams.{Streams, reads_in}
use Rattle.node_program.specs.declared.code.Code.{Code}
use Rattle.source_delivery.specs.Carried.{CarriesFirst, packets_given}
use Rattle.source_delivery.specs.Streaming.{Feed, deliveries_to}
use Rattle.source_delivery.specs.Turns.{Outputs, received_at}
use Rattle.source_delivery.specs.declared.parts.Parts.{Parts}
use Rattle.top_base.specs.Lines.{link_fault_line, read_fault_line, too_long_line, write_fault_line}
use Rattle.top_base.specs.declared.outcome.Outcome.{Outcome}
use Rattle.top_base.specs.declared.status.Status.TheVariants.{LinkFault, ReadFault, TooLong, WriteFault}
use Rattle.source_delivery.specs.declared.delivery.DeliveryFault.TheVariants as fault
use Rattle.source_delivery.specs.declared.streaming.StreamFault.{StreamFault}
use Rattle.source_delivery.specs.declared.streaming.StreamFault.TheVariants as stream

-- the number of the pattern that holds, the number that the links are opened with, and the sinks' files
pub record Sending : Type 0 where
  pub pattern : ℕ
  pub seed : ℕ
  pub outputs : Outputs

-- what a sink's file gets of the first generations, by its place: block by block, what the sink decodes of the packets that came
abbrev pub received_by : Parts → Code → ℕ → List Packet → ℕ → ℕ → List ℕ
received_by parts code pattern came generations file =
    flat_map (λ generation. received_at parts code pattern came generation file) (range_with_len 0 generations)

-- calls on the links alone, and calls behind the one that opened the links
abbrev pub link_calls : List Move → Calls
link_calls moves = record { on_store = []; on_links = moves }

abbrev pub behind_open : ℕ → Code → Calls → Calls
behind_open seed code calls = record calls { on_links = opened seed (room_for code) ∷ calls.on_links }

-- each sink's file was created, and of the calls on the store after that this holds
abbrev pub AfterCreates : List (List ℕ) → (List Event → Type 0) → List Event → Type 0
AfterCreates paths P calls = Then (Are (creates_of paths)) P calls

-- The links were opened with the seed, and the files created; then the sources were read, the first blocks that they bring were carried
-- over the links, and what came was delivered: P holds of the reads, Q of the appends that are due and of those that were made, and
-- R of the calls on the links after these blocks.
pub record Carries (faithful : Bool) (sending : Sending) (code : Code) (feed : Feed) (P : List Event → Type 0) (Q : List Event → List Event → Type 0)
    (R : (ℕ → List ℕ) → ℕ → ℕ → List Move → Type 0) (calls : Calls) : Type 0 where
  pub carried : ℕ
  pub on_store : AfterCreates sending.outputs.paths
      (Streams (deliveries_to sending.outputs code sending.pattern feed (packets_given calls.on_links) carried) P Q) calls.on_store
  pub on_links : Then (Are (opened sending.seed (room_for code) ∷ []))
      (CarriesFirst faithful code sending.pattern (feed.block (reads_in on_store.later)) (feed.brought (reads_in on_store.later))
      (R (feed.block (reads_in on_store.later)) (feed.brought (reads_in on_store.later))) carried)
      calls.on_links

-- a create failed, once the links were opened
pub record StopsAtCreate (sending : Sending) (code : Code) (calls : Calls) : Type 0 where
  pub on_links : calls.on_links ≡ opened sending.seed (room_for code) ∷ []
  pub on_store : StopsWithin (creates_of sending.outputs.paths) calls.on_store

-- nothing was created; the links weren't called, or refused to be opened
pub record LacksMemory (seed : ℕ) (code : Code) (calls : Calls) : Type 0 where
  pub on_store : calls.on_store ≡ []
  pub on_links : (calls.on_links ≡ []) ⊎ (calls.on_links ≡ open_refused seed (room_for code) ∷ [])

-- what a source that was not streamed to its end makes of the command
abbrev pub outcome_of : StreamFault → Outcome
outcome_of stream.Read = record { status = ReadFault; line = read_fault_line }
outcome_of stream.TooLong = record { status = TooLong; line = too_long_line }
outcome_of (stream.Sinks fault.Links) = record { status = LinkFault; line = link_fault_line }
outcome_of (stream.Sinks fault.Write) = record { status = WriteFault; line = write_fault_line }
