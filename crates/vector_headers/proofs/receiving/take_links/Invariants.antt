use Rattle.std.proofs.Common.{◌≡◌, ◌<◌, ℕ, Some, length, take}
use Rattle.std.specs.Prelude.{reverse}
use Rattle.coded_traffic.specs.CodeBlocks.{IsBlockOf}
use Rattle.vector_headers.specs.Fabric.{Carried}
use Rattle.vector_headers.specs.Receiving.{IsReceived}
use Rattle.vector_headers.proofs.receiving.take_links.Given as goal

-- the links so far brought all pieces
abbrev pub invariant-loop-link : goal.invariant-loop-link
invariant-loop-link g l =
    record {
      field : l.blind.field ≡ l.initial.blind.field;
      rate : l.blind.rate ≡ l.initial.blind.rate;
      frame : length l.frame ≡ length l.initial.frame;
      vector : length l.vector ≡ length l.initial.vector;
      received : (one : Carried) → l.fabric.carried ≡ Some one → (piece : ℕ) → piece < 8
          → IsReceived l.fabric.code l.fabric.failed one (reverse (take l.link-index l.ins)) piece l.blind;
      block : 0 < l.link-index → (one : Carried) → l.fabric.carried ≡ Some one → IsBlockOf l.fabric.code one.block;
    }
