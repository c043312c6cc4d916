-- What each call of a sink does, by the error that it answers, if it answers one: then nothing changed.
use Rattle.std.specs.Prelude.{◌≡◌, ◌<◌, ℕ, Bool, List, length, Option, Some, None, Result, Ok, Err, if◌then◌else◌}
use Rattle.coded_traffic.specs.Traffic.{Window, block_at}
use Rattle.failure_patterns.specs.Demands.{number_of}
use Rattle.generation_frame.specs.Frames.{accepted, packet_in}
use Rattle.generation_frame.specs.declared.frame.Accepted.{Accepted}
use Rattle.generation_frame.specs.declared.frame.Accepted.TheVariants.{Known, New}
use Rattle.net_model.specs.Demands.{demand_count}
use Rattle.node_program.specs.Decoding.{IsAccepted}
use Rattle.node_program.specs.declared.code.Code.{Code}
use Rattle.sink_decoder.specs.Receiving.{Gains, HasNothing, Receiver, TakesTraffic, decoded, has_piece, is_begun, is_whole, sink_plan_of}
use Rattle.open_nodes.specs.Errors.{IsError, block_error, error_in, sink_error, sink_frame_error, window_error}
use Rattle.open_nodes.specs.declared.call_error.CallError.{CallError}
use Rattle.open_nodes.specs.declared.call_error.CallError.TheVariants.{NotBegun}

-- the sink of a number under a pattern, before any generation
pub record IsOpenedSink (code : Code) (pattern sink : ℕ) (receiver : Receiver) : Type 0 where
  pub clear : sink_error code pattern sink ≡ None
  pub plan : receiver.plan ≡ sink_plan_of code (number_of code.net (record { sink = sink; pattern = pattern }))
  pub first : receiver.first ≡ 0
  pub count : receiver.count ≡ 0

-- it was opened, or the error that is due came
abbrev pub OpensSink : Code → ℕ → ℕ → Result Receiver CallError → Type 0
OpensSink code pattern sink (Ok receiver) = IsOpenedSink code pattern sink receiver
OpensSink code pattern sink (Err why) = IsError (sink_error code pattern sink) why

-- a window is begun: what came is forgotten
pub record BeginsSink (first count : ℕ) (old new : Receiver) (error : Option CallError) : Type 0 where
  pub due : error ≡ window_error first count
  pub same_plan : error ≡ None → new.plan ≡ old.plan
  pub from_first : error ≡ None → new.first ≡ first
  pub has_count : error ≡ None → new.count ≡ count
  pub nothing : error ≡ None → HasNothing new
  pub same : (why : CallError) → error ≡ Some why → new ≡ old

-- a frame is taken in, unless its piece has come before
pub record TakesFrame (frame : List ℕ) (old new : Receiver) (result : Result Accepted CallError) : Type 0 where
  pub due : error_in result ≡ sink_frame_error old frame
  pub value : (answer : Accepted) → result ≡ Ok answer
      → answer ≡ accepted (has_piece old (packet_in frame).generation (packet_in frame).link (packet_in frame).piece)
  pub gains : result ≡ Ok New
      → Gains (packet_in frame).generation (packet_in frame).link (packet_in frame).piece (packet_in frame).payload old new
  pub known : result ≡ Ok Known → new ≡ old
  pub same : (why : CallError) → result ≡ Err why → new ≡ old

-- whether all of a generation has come, where it was begun
abbrev pub whole_or_error : Receiver → ℕ → Result Bool CallError
whole_or_error sink generation = if is_begun sink generation then Ok (is_whole sink generation) else Err NotBegun

-- The block of a generation is written, as the decoder makes it of what came. Where what came is the traffic of blocks
-- through an accepted code, it is the block of that generation.
pub record IsBlockWritten (generation : ℕ) (sink : Receiver) (block : List ℕ) : Type 0 where
  pub value : block ≡ decoded sink generation
  pub traffic : (code : Code) (demand : ℕ) (window : Window) → IsAccepted code → demand < demand_count code.net
      → TakesTraffic code demand window sink → block ≡ block_at window generation

pub record WritesBlock (generation : ℕ) (sink : Receiver) (old new : List ℕ) (error : Option CallError) : Type 0 where
  pub due : error ≡ block_error sink generation (length old)
  pub written : error ≡ None → IsBlockWritten generation sink new
  pub same : (why : CallError) → error ≡ Some why → new ≡ old
