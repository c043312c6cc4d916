-- The blocks compute.
use Rattle.std.proofs.Common.{refl}
use Rattle.worked_rows.specs.Sevens.{blocks_of_sevens, fronts}
use Rattle.worked_rows.proofs.tests.blocks.fronts_of_blocks.Goals as goal

pub returns : goal.returns
unfolding blocks_of_sevens fronts
returns c = record { rate_1 = refl; rate_2 = refl }
