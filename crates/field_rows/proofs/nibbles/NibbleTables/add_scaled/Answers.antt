use Rattle.std.proofs.Common.{ℕ, arith}
use Rattle.field_rows.specs.Added.{of_byte}
use Rattle.field_rows.specs.Halves.{by_lane}
use Rattle.gf_tables.specs.Product.{octet_product}
use Rattle.field_rows.proofs.Added.{added_all, added_block, lanes_of_block}
use Rattle.field_rows.proofs.nibbles.NibbleTables.add_scaled.Goals as goal

pub loop-at-preserved : goal.loop-at-preserved
loop-at-preserved g c =
    let times : ℕ → ℕ = octet_product g.T.Generates.POLY c.args.self.now in
    let from = c.args.from.now in
    let at = c.loop-at.at in
    let tables = c.lanes-tables.result in
    let each =
    lanes_of_block times (by_lane tables.low tables.high) from c.look_up.result at c.lanes-tables.ensures.lower c.lanes-tables.ensures.upper (λ k. (c.type_inv.from k).fits)
    c.look_up.ensures.lanes
    in
    record {
      within = omega arith;
      added = rw c.add_at.ensures (added_block (of_byte times from) at c.args.into.now c.loop-at.into c.look_up.result c.loop-at.invariant.added c.look_up.ensures.count each (omega arith));
    }

pub returns : goal.returns
returns g c =
    added_all (octet_product g.T.Generates.POLY c.args.self.now) c.loop-place.place c.args.into.now c.args.from.now c.loop-place.into c.loop-place.invariant c.requires c.loop-place-test.false
