use Rattle.std.proofs.Common.{refl, arith}
use Rattle.field_rows.specs.Parted.{lane_of_place}
use Rattle.field_rows.proofs.LookUps.{picked}
use Rattle.field_rows.proofs.lanes.joined.Goals as goal

pub returns : goal.returns
returns c = record { count = refl; lanes = picked lane_of_place c.args.lanes c.fits-lanes.0 (λ i l. omega arith) }
