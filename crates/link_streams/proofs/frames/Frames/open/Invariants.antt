use Rattle.std.specs.Prelude.{◌≡◌, map, replicate, take}
use Rattle.generation_frame.specs.Blocks.{piece_bytes}
use Rattle.link_streams.specs.Filled.{frames_of}
use Rattle.link_streams.proofs.frames.Frames.open.Given as goal

abbrev pub invariant-loop-link : goal.invariant-loop-link
invariant-loop-link l = l.bytes.items ≡ map (λ link. frames_of link 0 (λ piece. replicate piece_bytes 0)) (take l.link-index l.links)
