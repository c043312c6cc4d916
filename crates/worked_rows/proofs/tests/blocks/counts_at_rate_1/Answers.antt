-- The blocks compute.
use Rattle.std.proofs.Common.{refl}
use Rattle.worked_rows.specs.Sevens.{blocks_of_sevens, counts}
use Rattle.worked_rows.proofs.tests.blocks.counts_at_rate_1.Goals as goal

pub returns : goal.returns
unfolding blocks_of_sevens counts
returns c = record { empty = refl; one = refl; almost_full = refl; full = refl; more = refl }
