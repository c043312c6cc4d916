-- What each call of a node does, by the error that it answers, if it answers one: then nothing changed.
use Rattle.std.specs.Prelude.{◌≡◌, ◌⊎◌, ℕ, true, false, List, Option, Some, None, Result, Ok, Err}
use Rattle.coded_traffic.specs.Traffic.{Key, Window, key_of, packet_of}
use Rattle.generation_frame.specs.Frames.{accepted, frame_of, packet_in}
use Rattle.generation_frame.specs.declared.frame.Accepted.{Accepted}
use Rattle.generation_frame.specs.declared.frame.Accepted.TheVariants.{Known, New}
use Rattle.generation_frame.specs.declared.frame.Packet.{Packet}
use Rattle.node_plans.specs.Plans.{plan_of}
use Rattle.node_program.specs.declared.code.Code.{Code}
use Rattle.relay_node.specs.Relay.{Gains, Gives, HasNothing, IsDue, IsFed, Relay, TakesTraffic, has_input}
use Rattle.open_nodes.specs.Errors.{IsError, error_in, feed_error, is_frame_long, node_error, node_frame_error, window_error}
use Rattle.open_nodes.specs.declared.call_error.CallError.{CallError}
use Rattle.open_nodes.specs.declared.call_error.CallError.TheVariants.{BadLength, NoLink, NothingDue}

-- the node of a number, before any generation
pub record IsOpenedNode (code : Code) (pattern node : ℕ) (relay : Relay) : Type 0 where
  pub clear : node_error code pattern node ≡ None
  pub plan : relay.plan ≡ plan_of code pattern node
  pub first : relay.first ≡ 0
  pub count : relay.count ≡ 0
  pub nothing : HasNothing relay

-- it was opened, or the error that is due came
abbrev pub OpensNode : Code → ℕ → ℕ → Result Relay CallError → Type 0
OpensNode code pattern node (Ok relay) = IsOpenedNode code pattern node relay
OpensNode code pattern node (Err why) = IsError (node_error code pattern node) why

-- a window is begun: what came and what was given is forgotten
pub record BeginsNode (first count : ℕ) (old new : Relay) (error : Option CallError) : Type 0 where
  pub due : error ≡ window_error first count
  pub same_plan : error ≡ None → new.plan ≡ old.plan
  pub from_first : error ≡ None → new.first ≡ first
  pub has_count : error ≡ None → new.count ≡ count
  pub nothing : error ≡ None → HasNothing new
  pub same : (why : CallError) → error ≡ Some why → new ≡ old

-- a block is fed
pub record FeedsNode (generation : ℕ) (block : List ℕ) (old new : Relay) (error : Option CallError) : Type 0 where
  pub due : error ≡ feed_error old generation block
  pub fed : error ≡ None → IsFed generation block old new
  pub same : (why : CallError) → error ≡ Some why → new ≡ old

-- a frame is taken in, unless its piece has come before
pub record AcceptsFrame (frame : List ℕ) (old new : Relay) (result : Result Accepted CallError) : Type 0 where
  pub due : error_in result ≡ node_frame_error old frame
  pub value : (answer : Accepted) → result ≡ Ok answer
      → answer ≡ accepted (has_input old (packet_in frame).generation (packet_in frame).link (packet_in frame).piece)
  pub gains : result ≡ Ok New → Gains (packet_in frame) old new
  pub known : result ≡ Ok Known → new ≡ old
  pub same : (why : CallError) → result ≡ Err why → new ≡ old

-- A frame is that of the least packet that is due, which was given. Where what came is the rows and the traffic of blocks
-- through a code, it is a packet of that traffic.
pub record GivesFrame (frame : List ℕ) (old new : Relay) : Type 0 where
  pub packet : Packet
  pub of_packet : frame ≡ frame_of packet
  pub gives : Gives packet old new
  pub traffic : (code : Code) (pattern node : ℕ) (window : Window) → TakesTraffic code pattern node window old
      → packet ≡ packet_of code pattern window (key_of packet)

-- nothing is due
abbrev pub HasNoneDue : Relay → Type 0
HasNoneDue relay = (key : Key) → IsDue relay key → ⊥

-- the next frame is written, where there is room for one and one is due
pub record WritesNext (old_frame new_frame : List ℕ) (old new : Relay) (error : Option CallError) : Type 0 where
  pub given : error ≡ None → (is_frame_long old_frame ≡ true) × GivesFrame new_frame old new
  pub errors : (why : CallError) → error ≡ Some why
      → ((why ≡ BadLength) × (is_frame_long old_frame ≡ false))
      ⊎ (why ≡ NothingDue) × (is_frame_long old_frame ≡ true) × HasNoneDue old
  pub same : (why : CallError) → error ≡ Some why → new ≡ old
  pub kept : (why : CallError) → error ≡ Some why → new_frame ≡ old_frame

-- the link at a place among some
abbrev pub link_or_error : Option ℕ → Result ℕ CallError
link_or_error (Some link) = Ok link
link_or_error None = Err NoLink
