-- A runner: a code at work under a pattern, window after window.
use Rattle.std.specs.Prelude.{◌≡◌, ◌<◌, ◌≤◌, ◌+◌, ◌*◌, ◌/◌, ◌^◌, ℕ, All, Bool, List, [], Option, length}
use Rattle.coded_traffic.specs.CodeBlocks.{IsBlockOf}
use Rattle.coded_traffic.specs.Traffic.{Window}
use Rattle.generation_frame.specs.Blocks.{most_blocks, row_bytes}
use Rattle.lif_outside.specs.declared.links.Flight.{Flight}
use Rattle.node_program.specs.declared.code.Code.{Code}
use Rattle.node_stations.specs.Fed.{window_of}
use Rattle.relay_core.specs.Core.{Delivery, IsRun, RelayState, opening}
use Rattle.relay_node.specs.Relay.{Relay}
use Rattle.sink_decoder.specs.Receiving.{Receiver}
use Rattle.relay_runner.specs.Ready.{AreReady}
use Rattle.relay_runner.specs.Showing.{IsShown}

-- A runner: its code and pattern, the nodes and the sinks at them, the window that it carried last, by its first number and its
-- count, the number of the next generation, what each of the code's sinks decoded, and whether a call has failed.
pub record Running : Type 0 where
  pub code : Code
  pub pattern : ℕ
  pub relays : List Relay
  pub sinks : List (Option Receiver)
  pub first : ℕ
  pub count : ℕ
  pub next : ℕ
  pub decoded : List (List ℕ)
  pub has_failed : Bool

-- numbered blocks of a code that are a window
pub record IsWindow (code : Code) (window : Window) : Type 0 where
  pub blocks : All (IsBlockOf code) window.blocks
  pub few_blocks : length window.blocks ≤ most_blocks
  pub last : window.first + length window.blocks ≤ 2 ^ 32

-- how many blocks of a code these bytes are, and the window that they are from a number on
abbrev pub count_in : Code → List ℕ → ℕ
count_in code blocks = length blocks / (code.rate * row_bytes)

abbrev pub window_from : Code → ℕ → List ℕ → Window
window_from code first blocks = window_of first (count_in code blocks) (code.rate * row_bytes) blocks

-- bytes that are whole blocks of a window, of which the last has a number of 32 bits
pub record AreBlocks (code : Code) (first : ℕ) (blocks : List ℕ) : Type 0 where
  pub some_blocks : 1 ≤ count_in code blocks
  pub few_blocks : count_in code blocks ≤ most_blocks
  pub whole : length blocks ≡ count_in code blocks * (code.rate * row_bytes)
  pub last : first + count_in code blocks ≤ 2 ^ 32

-- nodes and sinks that have begun a window, of which the source was fed the blocks
pub record Starts (code : Code) (pattern : ℕ) (window : Window) (relays : List Relay) (sinks : List (Option Receiver)) : Type 0 where
  pub pattern_is : pattern < length code.net.patterns
  pub is_window : IsWindow code window
  pub ready : AreReady code pattern window relays sinks

-- a runner whose nodes and sinks have begun the window of its first number and its count
pub record CanStart (runner : Running) : Type 0 where
  pub window : Window
  pub same_first : runner.first ≡ window.first
  pub same_count : runner.count ≡ length window.blocks
  pub starts : Starts runner.code runner.pattern window runner.relays runner.sinks

-- nodes, sinks and links that stand at a state of the core, which a run of the window has reached
pub record IsRunning (code : Code) (pattern : ℕ) (window : Window) (run : List Delivery) (relays : List Relay) (sinks : List (Option Receiver)) (flying : List Flight) (state : RelayState) : Type 0 where
  pub pattern_is : pattern < length code.net.patterns
  pub is_window : IsWindow code window
  pub is_run : IsRun code pattern run (opening code pattern window) state
  pub shown : IsShown code pattern window relays sinks flying state

-- they stand at some state of some window
pub record StandAt (code : Code) (pattern : ℕ) (relays : List Relay) (sinks : List (Option Receiver)) (flying : List Flight) : Type 0 where
  pub window : Window
  pub run : List Delivery
  pub state : RelayState
  pub running : IsRunning code pattern window run relays sinks flying state

-- a runner that has carried a window: it stands at a state where nothing flies
pub record HasCarried (runner : Running) : Type 0 where
  pub window : Window
  pub run : List Delivery
  pub state : RelayState
  pub same_first : runner.first ≡ window.first
  pub same_count : runner.count ≡ length window.blocks
  pub running : IsRunning runner.code runner.pattern window run runner.relays runner.sinks [] state
