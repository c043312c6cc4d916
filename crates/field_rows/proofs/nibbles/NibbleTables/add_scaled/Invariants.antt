use Rattle.std.proofs.Common.{◌≤◌, ◌-◌, length}
use Rattle.field_rows.specs.Added.{IsAddedBelow, of_byte}
use Rattle.gf_tables.specs.Product.{octet_product}
use Rattle.field_rows.proofs.nibbles.NibbleTables.add_scaled.Given as goal

abbrev pub invariant-loop-at : goal.invariant-loop-at
invariant-loop-at g l = record {
  within : l.at ≤ length l.from;
  added : IsAddedBelow (of_byte (octet_product g.T.Generates.POLY l.self) l.from) l.at l.fn.into l.into;
}

abbrev pub decreases-loop-at : goal.decreases-loop-at
decreases-loop-at g l = length l.from - l.at

abbrev pub invariant-loop-place : goal.invariant-loop-place
invariant-loop-place g l = IsAddedBelow (of_byte (octet_product g.T.Generates.POLY l.self) l.from) l.place l.fn.into l.into
