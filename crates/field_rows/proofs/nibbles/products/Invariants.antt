use Rattle.std.proofs.Common.{◌≡◌, ◌<◌, ◌*◌, ℕ, length, slice_index}
use Rattle.gf_tables.specs.Product.{octet_product}
use Rattle.field_rows.proofs.nibbles.products.Given as goal

abbrev pub invariant-loop-nibble : goal.invariant-loop-nibble
invariant-loop-nibble g l = record {
  count : length l.table ≡ 16;
  at : (k : ℕ) → k < l.nibble → slice_index l.table k ≡ octet_product g.T.Generates.POLY l.multiplier (k * l.step);
}
