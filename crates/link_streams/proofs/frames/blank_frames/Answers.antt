use Rattle.std.proofs.Common.{◌+◌, ℕ, List, arith, refl, replicate, subst, sym}
use Rattle.std.proofs.lemmas.List.{length-replicate}
use Rattle.generation_frame.specs.Blocks.{piece_bytes}
use Rattle.generation_frame.specs.Frames.{frame_of}
use Rattle.generation_frame.specs.declared.frame.Packet.{Packet}
use Rattle.link_streams.proofs.FrameLaws.{AreWritten, length-frame_of, written_more}
use Rattle.link_streams.proofs.frames.blank_frames.Goals as goal

pub loop-piece-preserved : goal.loop-piece-preserved
loop-piece-preserved c =
    let packet : ℕ → Packet = λ piece. record { link = c.args.link; generation = 0; piece = piece; payload = replicate piece_bytes 0 } in
    let frame : ℕ → List ℕ = λ piece. frame_of (packet piece) in
    let piece = c.loop-piece.piece in
    let Are : List ℕ → Type 0 = AreWritten frame (piece + 1) in
    subst Are (sym c.put_frame.ensures.value)
    (written_more frame piece c.loop-piece.frames (packet piece) c.loop-piece.invariant (omega arith) refl refl
    (length-frame_of (packet piece) (length-replicate {A = ℕ} piece_bytes 0)))
