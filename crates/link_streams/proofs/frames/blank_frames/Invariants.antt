use Rattle.std.specs.Prelude.{replicate}
use Rattle.generation_frame.specs.Blocks.{piece_bytes}
use Rattle.generation_frame.specs.Frames.{frame_of}
use Rattle.link_streams.proofs.FrameLaws.{AreWritten}
use Rattle.link_streams.proofs.frames.blank_frames.Given as goal

abbrev pub invariant-loop-piece : goal.invariant-loop-piece
invariant-loop-piece l =
    AreWritten (λ piece. frame_of (record { link = l.link; generation = 0; piece = piece; payload = replicate piece_bytes 0 })) l.piece l.frames
