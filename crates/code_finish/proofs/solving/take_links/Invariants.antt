use Rattle.std.proofs.Common.{◌≡◌, ℕ}
use Rattle.std.specs.Prelude.{filter, reverse}
use Rattle.std.specs.List.{range_with_len}
use Rattle.node_program.specs.Code.{leads_into}
use Rattle.code_finish.specs.Solved.{AreVectorsUnder, vectors_under}
use Rattle.code_finish.specs.Taken.{AreTaken}
use Rattle.code_finish.proofs.solving.take_links.Given as goal

-- the links so far that lead into the node were taken in
abbrev pub invariant-loop-link : goal.invariant-loop-link
invariant-loop-link g l =
    record {
      field : l.taken.field ≡ l.fn.taken.field;
      rate : l.taken.rate ≡ l.fn.taken.rate;
      taken : (pattern : ℕ) → AreVectorsUnder l.draft pattern l.vectors
          → AreTaken l.draft.field l.draft.rate (vectors_under l.draft pattern) (reverse (filter (leads_into l.draft.net.links l.node) (range_with_len 0 l.link))) l.taken.links.items l.taken.span.rows;
    }
