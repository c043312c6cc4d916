use Rattle.std.proofs.Common.{◌+◌, ◌%◌, arith}
use Rattle.field_rows.proofs.LookUps.{picked}
use Rattle.field_rows.proofs.lanes.crossed.Goals as goal

pub returns : goal.returns
returns c = picked (λ j. (j + 32) % 64) c.args.lanes c.fits-lanes.0 (λ i l. omega arith)
