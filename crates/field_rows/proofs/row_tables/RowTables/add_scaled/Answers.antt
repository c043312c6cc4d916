use Rattle.std.proofs.Common.{◌≡◌, ◌<◌, ◌/◌, ◌%◌, refl, arith, length}
use Rattle.gf_tables.specs.Product.{product}
use Rattle.field_rows.proofs.PairProducts.{pairs_added}
use Rattle.field_rows.proofs.PlainSums.{row_added, row_kept}
use Rattle.field_rows.proofs.row_tables.RowTables.add_scaled.Goals as goal

pub returns-then-by-eq0-clause-sum : goal.returns-then-by-eq0-clause-sum
returns-then-by-eq0-clause-sum c = rw c.if-by-eq0.true (row_kept c.args.field c.args.into.now c.args.from.now c.requires.same_length c.requires.whole)

pub returns-then-by-eq1-clause-sum : goal.returns-then-by-eq1-clause-sum
returns-then-by-eq1-clause-sum c =
    rw c.if-by-eq1.true
    (row_added c.args.field c.args.into.now c.args.from.now c.add_row.new.into c.requires.same_length c.add_row.ensures (λ k. (c.type_inv.from k).fits) (λ k. (c.type_inv.into k).fits))

pub returns-in-Eight-clause-sum : goal.returns-in-Eight-clause-sum
unfolding product
returns-in-Eight-clause-sum c =
    let below : c.args.by < 256 = rw c.in-Eight.is at c.requires.element in
    rw (c.in-Eight.is, c.add_scaled.ensures, c.of_octet.ensures) refl

pub returns-in-Nine-clause-sum : goal.returns-in-Nine-clause-sum
unfolding product
returns-in-Nine-clause-sum c =
    let below : c.args.by < 256 = rw c.in-Nine.is at c.requires.element in
    rw (c.in-Nine.is, c.add_scaled-in-Nine.ensures, c.of_octet-in-Nine.ensures) refl

pub returns-in-Sixteen-clause-sum : goal.returns-in-Sixteen-clause-sum
returns-in-Sixteen-clause-sum c =
    let from = c.args.from.now in
    let below : c.args.by < 65536 = rw c.in-Sixteen.is at c.requires.element in
    let even : length from % 2 ≡ 0 = rw c.in-Sixteen.is at c.requires.whole in
    let added = rw (c.of_pair.ensures.low, c.of_pair.ensures.high) at c.add_scaled-in-Sixteen.ensures in
    rw c.in-Sixteen.is (pairs_added c.args.by (length from / 2) c.args.into.now from c.add_scaled-in-Sixteen.new.into below
    (λ k. (c.type_inv.from k).fits) (λ k. (c.type_inv.into k).fits) c.requires.same_length (omega arith) added)
