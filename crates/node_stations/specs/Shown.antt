-- Nodes and sinks at work, beside what is held and what was sent in a state of the core.
use Rattle.std.specs.Prelude.{◌≡◌, ◌≢◌, ◌<◌, ◌≤◌, ◌+◌, ℕ, true, false, Contains, List, [], ◌∷◌, Some, length, slice_get}
use Rattle.coded_traffic.specs.Traffic.{Key, Window}
use Rattle.generation_frame.specs.Blocks.{pieces}
use Rattle.generation_frame.specs.declared.frame.Packet.{Packet}
use Rattle.node_plans.specs.Plans.{ins_of, plan_of}
use Rattle.node_program.specs.declared.code.Code.{Code}
use Rattle.relay_core.specs.Core.{has_key, payload_of}
use Rattle.relay_node.specs.Relay.{Gives, IsBegun, IsOut, Relay, TakesTraffic, has_input, input_at, is_given}
use Rattle.sink_decoder.specs.Receiving.{Receiver, has_piece, payload_at, sink_plan_of, wants}

-- a node of a code works on a window
pub record WorksOn (code : Code) (pattern node : ℕ) (window : Window) (relay : Relay) : Type 0 where
  pub plan : relay.plan ≡ plan_of code pattern node
  pub first : relay.first ≡ window.first
  pub count : relay.count ≡ length window.blocks

-- a key of a packet that can come to a node: of a live link into it, a generation of the window and a piece
pub record IsInto (code : Code) (pattern node : ℕ) (window : Window) (key : Key) : Type 0 where
  pub into : Contains (ins_of code pattern node) key.link
  pub begun : window.first ≤ key.generation
  pub numbered : key.generation < window.first + length window.blocks
  pub of_piece : key.piece < pieces

-- what came to the node is what is held on the links into it
pub record ShowsHeld (code : Code) (pattern node : ℕ) (window : Window) (relay : Relay) (held : List Packet) : Type 0 where
  pub works : WorksOn code pattern node window relay
  pub has : (key : Key) → IsInto code pattern node window key
      → has_input relay key.generation key.link key.piece ≡ has_key key held
  pub bytes : (key : Key) → IsInto code pattern node window key → has_key key held ≡ true
      → input_at relay key.generation key.link key.piece ≡ payload_of held key

-- what it gave is what was sent on the links out of it
abbrev pub ShowsSent : Relay → List Packet → Type 0
ShowsSent relay sent = (key : Key) → IsOut relay key → is_given relay key ≡ has_key key sent

-- packets that a node gives, one after another
abbrev pub GivesEach : Relay → List Packet → Relay → Type 0
GivesEach old [] new = new ≡ old
GivesEach old (packet ∷ packets) new = (mid : Relay) × Gives packet old mid × GivesEach mid packets new

-- The source of a code that was fed all blocks of a window, and gave nothing yet.
pub record IsFedAll (code : Code) (pattern : ℕ) (window : Window) (relay : Relay) : Type 0 where
  pub takes : TakesTraffic code pattern code.net.source window relay
  pub fed : (generation row piece : ℕ) → IsBegun relay generation → row < code.rate → piece < pieces
      → has_input relay generation row piece ≡ true
  pub not_given : (key : Key) → IsOut relay key → is_given relay key ≡ false

-- a key of a packet that a sink of a demand takes in: of a link that it wants, a generation of the window and a piece
pub record IsWanted (code : Code) (demand : ℕ) (window : Window) (key : Key) : Type 0 where
  pub wanted : wants (sink_plan_of code demand) key.link ≡ true
  pub begun : window.first ≤ key.generation
  pub numbered : key.generation < window.first + length window.blocks
  pub of_piece : key.piece < pieces

-- what came to the sink of a demand is what is held on the links that it wants
pub record ShowsSink (code : Code) (demand : ℕ) (window : Window) (sink : Receiver) (held : List Packet) : Type 0 where
  pub plan : sink.plan ≡ sink_plan_of code demand
  pub first : sink.first ≡ window.first
  pub count : sink.count ≡ length window.blocks
  pub has : (key : Key) → IsWanted code demand window key
      → has_piece sink key.generation key.link key.piece ≡ has_key key held
  pub bytes : (key : Key) → IsWanted code demand window key → has_key key held ≡ true
      → payload_at sink key.generation key.link key.piece ≡ payload_of held key

-- All nodes show what is held and what was sent.
pub record Shows (code : Code) (pattern : ℕ) (window : Window) (relays : List Relay) (held sent : List Packet) : Type 0 where
  pub count : length relays ≡ length code.net.nodes
  pub shows : (node : ℕ) (relay : Relay) → slice_get relays node ≡ Some relay → ShowsHeld code pattern node window relay held
  pub shown : (node : ℕ) (relay : Relay) → slice_get relays node ≡ Some relay → ShowsSent relay sent

-- one of some nodes, or of what stands at them, is another
pub record IsReplaced {X : Type 0} (node : ℕ) (new : X) (before after : List X) : Type 0 where
  pub count : length after ≡ length before
  pub at : slice_get after node ≡ Some new
  pub others : (other : ℕ) → other ≢ node → slice_get after other ≡ slice_get before other
