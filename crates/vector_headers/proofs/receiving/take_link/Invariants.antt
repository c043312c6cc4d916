use Rattle.std.proofs.Common.{◌≡◌, ◌<◌, ◌≤◌, ◌∷◌, ℕ, List, Some, length}
use Rattle.coded_traffic.specs.CodeBlocks.{IsBlockOf}
use Rattle.vector_headers.specs.Fabric.{Carried}
use Rattle.vector_headers.specs.Receiving.{IsReceived}
use Rattle.vector_headers.specs.Rows.{rows_of_piece}
use Rattle.vector_headers.proofs.receiving.take_link.Given as goal

-- the link brought the pieces so far, and the others are as before
abbrev pub invariant-loop-piece : goal.invariant-loop-piece
invariant-loop-piece g l =
    record {
      field : l.blind.field ≡ l.initial.blind.field;
      rate : l.blind.rate ≡ l.initial.blind.rate;
      frame : length l.frame ≡ length l.initial.frame;
      vector : length l.vector ≡ length l.initial.vector;
      received : (one : Carried) → l.fabric.carried ≡ Some one → (links : List ℕ) → (piece : ℕ) → piece < l.piece
          → IsReceived l.fabric.code l.fabric.failed one links piece l.initial.blind
          → IsReceived l.fabric.code l.fabric.failed one (l.link ∷ links) piece l.blind;
      rest : (piece : ℕ) → l.piece ≤ piece → rows_of_piece l.blind piece ≡ rows_of_piece l.initial.blind piece;
      block : 0 < l.piece → (one : Carried) → l.fabric.carried ≡ Some one → IsBlockOf l.fabric.code one.block;
    }
