-- Which error is due to a call, by what it is given: the first look that fails, in the order that stands here.
use Rattle.std.specs.Prelude.{◌≡◌, ◌+◌, ◌-◌, ◌*◌, ◌%◌, ◌^◌, ◌==◌, ◌&&◌, ℕ, Bool, nat_le, nat_lt, not, List, length, Option, Some, None, Result, Ok, Err, if◌then◌else◌}
use Rattle.generation_frame.specs.Blocks.{most_blocks, most_rows, row_bytes}
use Rattle.generation_frame.specs.Frames.{frame_read}
use Rattle.generation_frame.specs.declared.frame.FrameRefusal.{FrameRefusal}
use Rattle.generation_frame.specs.declared.frame.Packet.{Packet}
use Rattle.net_model.specs.Lists.{is_among}
use Rattle.node_program.specs.declared.code.Code.{Code}
use Rattle.relay_node.specs.Relay.{Relay, has_rows, is_begun}
use Rattle.sink_decoder.specs.Receiving.{Receiver, is_whole, wants}
use Rattle.sink_decoder.specs.Receiving as sinks
use Rattle.open_nodes.specs.declared.call_error.CallError.{CallError}
use Rattle.open_nodes.specs.declared.call_error.CallError.TheVariants.{NoMemory, NoPattern, NoNode, NoSink, BadWindow, NotBegun, NotSource, Fed, BadLength, BadFrame, OtherLink, NotWhole}

-- the error that a result is, if it is one
abbrev pub error_in : {X : Type 0} → Result X CallError → Option CallError
error_in (Ok x) = None
error_in (Err why) = Some why

-- where no look fails the call may yet want memory
abbrev pub IsError : Option CallError → CallError → Type 0
IsError (Some due) why = why ≡ due
IsError None why = why ≡ NoMemory

-- bytes are as many as those of a frame
abbrev pub is_frame_long : List ℕ → Bool
is_frame_long frame = length frame == 140

-- 1 to 4 generations, whose numbers are below 2^32
abbrev pub is_window : ℕ → ℕ → Bool
is_window first count = nat_le 1 count && nat_le count most_blocks && nat_le (first + count) (2 ^ 32)

abbrev pub window_error : ℕ → ℕ → Option CallError
window_error first count = if is_window first count then None else Some BadWindow

-- a node of a code under a pattern
abbrev pub node_error : Code → ℕ → ℕ → Option CallError
node_error code pattern node =
    if not (nat_lt pattern (length code.net.patterns)) then Some NoPattern
    else if not (nat_lt node (length code.net.nodes)) then Some NoNode
    else None

-- a sink of a code under a pattern
abbrev pub sink_error : Code → ℕ → ℕ → Option CallError
sink_error code pattern sink =
    if not (nat_lt pattern (length code.net.patterns)) then Some NoPattern
    else if not (nat_lt sink (length code.net.sinks)) then Some NoSink
    else None

-- a block that is fed to a node
abbrev pub feed_error : Relay → ℕ → List ℕ → Option CallError
feed_error relay generation block =
    if not relay.plan.is_source then Some NotSource
    else if not (is_begun relay generation) then Some NotBegun
    else if not (length block == relay.plan.rate * row_bytes) then Some BadLength
    else if has_rows relay generation then Some Fed
    else None

-- the packet of the bytes of a frame
abbrev pub packet_or_error : Result Packet FrameRefusal → Result Packet CallError
packet_or_error (Ok packet) = Ok packet
packet_or_error (Err why) = Err BadFrame

abbrev pub frame_packet : List ℕ → Result Packet CallError
frame_packet frame = if is_frame_long frame then packet_or_error (frame_read frame) else Err BadLength

-- a packet that came, by which links are taken in and which generations were begun
abbrev pub packet_error : (ℕ → Bool) → (ℕ → Bool) → Packet → Option CallError
packet_error is_taken is_begun packet =
    if not (is_taken packet.link) then Some OtherLink
    else if not (is_begun packet.generation) then Some NotBegun
    else None

-- the bytes of a frame that came
abbrev pub frame_error : (Packet → Option CallError) → Result Packet CallError → Option CallError
frame_error due (Ok packet) = due packet
frame_error due (Err why) = Some why

-- a frame that comes to a node, and one that comes to a sink
abbrev pub node_frame_error : Relay → List ℕ → Option CallError
node_frame_error relay frame = frame_error (packet_error (is_among relay.plan.ins) (is_begun relay)) (frame_packet frame)

abbrev pub sink_frame_error : Receiver → List ℕ → Option CallError
sink_frame_error sink frame = frame_error (packet_error (wants sink.plan) (sinks.is_begun sink)) (frame_packet frame)

-- a block that is asked of a sink, by how many bytes it is to be written into
abbrev pub block_error : Receiver → ℕ → ℕ → Option CallError
block_error sink generation room =
    if not (sinks.is_begun sink generation) then Some NotBegun
    else if not (room == sink.plan.rate * row_bytes) then Some BadLength
    else if not (is_whole sink generation) then Some NotWhole
    else None

-- a block of so many bytes is of 1 to 32 rows, and has room for so many of a source
abbrev pub has_room : ℕ → ℕ → Bool
has_room bytes room =
    (room % row_bytes == 0) && nat_le row_bytes room && nat_le room (most_rows * row_bytes) && nat_le bytes (room - 4)

abbrev pub cut_error : ℕ → ℕ → Option CallError
cut_error bytes room = if has_room bytes room then None else Some BadLength
