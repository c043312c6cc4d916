-- How a delivery goes on: a window of blocks of the source is carried over the links, and then each sink's file gets what came.
use Rattle.std.specs.Prelude.{◌≡◌, ◌<◌, ◌≤◌, ◌+◌, ◌*◌, ℕ, Bool, false, List, [], ◌++◌, drop, length, take}
use Rattle.std.specs.List.{AllByRecursion, concat}
use Rattle.coded_traffic.specs.Traffic.{room_for}
use Rattle.generation_frame.specs.Blocks.{block_count, capacity, row_bytes}
use Rattle.lif_outside.specs.Calls.{Calls}
use Rattle.lif_outside.specs.Events.{Event}
use Rattle.lif_outside.specs.FileCalls.{StopsWithin, appends_of}
use Rattle.lif_outside.specs.Sequences.{Are}
use Rattle.lif_outside.specs.declared.links.Flight.{Flight}
use Rattle.node_program.specs.declared.code.Code.{Code}
use Rattle.relay_runner.specs.Carried.{IsStopped, packets_given}
use Rattle.relay_runner.specs.Running.{HasCarried, Running}
use Rattle.source_delivery.specs.Carried.{AreCarried, Breaks, Delivers, IsOver, blocks_from, file_block}
use Rattle.source_delivery.specs.Turns.{Outputs, turns_from}
use Rattle.source_delivery.specs.declared.delivery.DeliveryFault.{DeliveryFault}
use Rattle.source_delivery.specs.declared.delivery.DeliveryFault.TheVariants as fault

-- a runner that can carry a block under a pattern of its code, over links with this room, on which this flies
pub record CanCarry (runner : Running) (flying : List Flight) (room : ℕ) : Type 0 where
  pub known : runner.pattern < length runner.code.net.patterns
  pub works : runner.has_failed ≡ false
  pub quiet : flying ≡ []
  pub has_room : room_for runner.code ≤ room

-- it has carried so many blocks more
pub record HasMoved (blocks : ℕ) (old new : Running) : Type 0 where
  pub code : new.code ≡ old.code
  pub pattern : new.pattern ≡ old.pattern
  pub first : new.first ≡ old.next
  pub count : new.count ≡ blocks
  pub next : new.next ≡ old.next + blocks
  pub carried : HasCarried new

-- it works on as before, and has carried no fewer blocks
pub record HasGoneOn (old new : Running) : Type 0 where
  pub code : new.code ≡ old.code
  pub pattern : new.pattern ≡ old.pattern
  pub more : old.next ≤ new.next

-- so many blocks of a code stand one after another from the beginning of a room on
pub record StandIn (code : Code) (count : ℕ) (blocks : List (List ℕ)) (room : List ℕ) : Type 0 where
  pub as_many : length blocks ≡ count
  pub sized : AllByRecursion (λ (block : List ℕ). length block ≡ code.rate * row_bytes) blocks
  pub stand : take (count * (code.rate * row_bytes)) room ≡ concat blocks

-- Blocks were carried that are numbered from a generation on, and what came of them delivered to these files: Q holds of the
-- appends that are due and of those that were made.
pub record DeliversBlocks (faithful : Bool) (code : Code) (pattern : ℕ) (outputs : Outputs) (first : ℕ) (blocks : List (List ℕ))
    (Q : List Event → List Event → Type 0) (calls : Calls) : Type 0 where
  pub on_links : AreCarried faithful code pattern first blocks calls.on_links
  pub on_store : Q (appends_of (turns_from outputs code pattern (packets_given calls.on_links) first (length blocks))) calls.on_store

-- a call on the links failed before they were carried, and nothing was delivered
pub record BreaksBlocks (faithful : Bool) (code : Code) (pattern first : ℕ) (blocks : List (List ℕ)) (calls : Calls) : Type 0 where
  pub on_links : IsStopped faithful code pattern (record { first = first; blocks = blocks }) calls.on_links
  pub on_store : calls.on_store ≡ []

-- blocks weren't delivered to all files
abbrev pub InterruptsBlocks : Bool → Code → ℕ → Outputs → ℕ → List (List ℕ) → DeliveryFault → Calls → Type 0
InterruptsBlocks faithful code pattern outputs first blocks fault.Links calls = BreaksBlocks faithful code pattern first blocks calls
InterruptsBlocks faithful code pattern outputs first blocks fault.Write calls =
    DeliversBlocks faithful code pattern outputs first blocks StopsWithin calls

-- calls on both objects, and then more
abbrev pub calls_join : Calls → Calls → Calls
calls_join front later = record { on_store = front.on_store ++ later.on_store; on_links = front.on_links ++ later.on_links }

-- what is left of some bytes behind so many whole blocks of a rate
pub record IsBehind (rate blocks : ℕ) (bytes left : List ℕ) : Type 0 where
  pub whole : blocks * capacity rate ≤ length bytes
  pub left_is : left ≡ drop (blocks * capacity rate) bytes

-- Of some bytes the first blocks were delivered, numbered from a generation on, and the next ones weren't to all files.
pub record InterruptsBytes (faithful : Bool) (code : Code) (pattern : ℕ) (outputs : Outputs) (first : ℕ) (bytes : List ℕ) (blocks : ℕ)
    (why : DeliveryFault) (calls : Calls) : Type 0 where
  pub before : ℕ
  pub more : ℕ
  pub within : before + more ≤ blocks
  pub front : Calls
  pub later : Calls
  pub joined : calls ≡ calls_join front later
  pub delivered : DeliversBlocks faithful code pattern outputs first (blocks_from bytes code.rate 0 before) Are front
  pub interrupted : InterruptsBlocks faithful code pattern outputs (first + before) (blocks_from bytes code.rate before more) why later

-- so many blocks of a source were carried and delivered
pub record DeliversSome (faithful : Bool) (code : Code) (pattern : ℕ) (outputs : Outputs) (source : List ℕ) (generations : ℕ)
    (calls : Calls) : Type 0 where
  pub delivered : Delivers faithful code pattern outputs (file_block source code.rate) (block_count source code.rate) IsOver Are calls
  pub number : delivered.carried ≡ generations

-- not all were
abbrev pub Interrupts : Bool → Code → ℕ → Outputs → List ℕ → DeliveryFault → Calls → Type 0
Interrupts faithful code pattern outputs source fault.Links calls =
    Delivers faithful code pattern outputs (file_block source code.rate) (block_count source code.rate)
    (Breaks faithful code pattern (file_block source code.rate) (block_count source code.rate)) Are calls
Interrupts faithful code pattern outputs source fault.Write calls =
    Delivers faithful code pattern outputs (file_block source code.rate) (block_count source code.rate) IsOver StopsWithin calls
