use Rattle.std.proofs.Common.{◌≡◌, take}
use Rattle.linear_algebra.specs.Elements.{elements_of}
use Rattle.link_rows.specs.Vectors.{widened}
use Rattle.two_sources.proofs.decoders.row_of.Given as goal

-- the elements so far stand in their places
abbrev pub invariant-loop-place : goal.invariant-loop-place
invariant-loop-place l = elements_of l.field l.row ≡ widened l.field (take l.place l.elements)
