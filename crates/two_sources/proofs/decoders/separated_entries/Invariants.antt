use Rattle.std.proofs.Common.{◌≡◌, take}
use Rattle.std.specs.List.{concat}
use Rattle.linear_algebra.specs.Matrices.{rows_of, times_rows}
use Rattle.two_sources.specs.Separated.{first_vectors}
use Rattle.two_sources.proofs.decoders.separated_entries.Given as goal

-- the rows of the links so far are made
abbrev pub invariant-loop-link : goal.invariant-loop-link
invariant-loop-link l =
    l.product.items
    ≡ concat (take l.link (times_rows l.code.field l.code.rate (first_vectors l.code) (rows_of l.code.rate l.code.rate l.entries)))
