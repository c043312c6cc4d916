use Rattle.std.proofs.Common.{◌≡◌, take}
use Rattle.std.specs.Prelude.{reverse}
use Rattle.vector_headers.specs.Ranks.{AreAccepted}
use Rattle.vector_headers.specs.Receiving.{vectors_over}
use Rattle.vector_headers.specs.Rows.{rows_of_piece}
use Rattle.vector_headers.proofs.receiving.rank_into.Given as goal

-- the vectors of the links so far were accepted
abbrev pub invariant-loop-link : goal.invariant-loop-link
invariant-loop-link g l =
    record {
      field : l.blind.field ≡ l.initial.blind.field;
      rate : l.blind.rate ≡ l.initial.blind.rate;
      accepted : AreAccepted l.fabric.code.field l.fabric.code.rate (vectors_over l.fabric.code l.fabric.failed (reverse (take l.link-index l.ins))) (rows_of_piece l.blind 0);
    }
