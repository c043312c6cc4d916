use Rattle.std.proofs.Common.{◌≡◌, ◌+◌, ◌<◌, ℕ, get_or, arith, ◌∙◌, ap, bit_xor}
use Rattle.std.proofs.lemmas.Simd.{get_or-zip2}
use Rattle.gf_tables.specs.Product.{pair_constant}
use Rattle.field_rows.specs.Halves.{by_lane}
use Rattle.field_rows.specs.PairSums.{times, pair_sum_of}
use Rattle.field_rows.specs.Parted.{lane_of_place}
use Rattle.field_rows.proofs.Added.{added_block}
use Rattle.field_rows.proofs.PairLanes.{AreTables, given_at, lane_below}
use Rattle.field_rows.proofs.pairs.PairTables.add_scaled.Goals as goal

pub loop-at-preserved : goal.loop-at-preserved
loop-at-preserved c =
    let at = c.loop-at.at in
    let from = c.args.from.now in
    let bytes = c.parted-bytes.result in
    let low = c.args.self.now.low.now in
    let high = c.args.self.now.high.now in
    let straight = by_lane c.lanes-straight.result.low c.lanes-straight.result.high in
    let crosswise = by_lane c.lanes-crosswise.result.low c.lanes-crosswise.result.high in
    let tables : AreTables (times low) (times high) (times (bit_xor low high)) (times (times pair_constant high)) straight crosswise = record {
      both_lower = λ i byte l m. c.lanes-straight.ensures.lower i byte l m ∙ ap (λ x. times x byte) c.args.self.now.sum;
      low_upper = λ i byte h l m. c.lanes-straight.ensures.upper i byte h l m;
      high_lower = λ i byte l m. c.lanes-crosswise.ensures.lower i byte l m;
      wrapped_upper = λ i byte h l m. c.lanes-crosswise.ensures.upper i byte h l m ∙ ap (λ x. times x byte) c.args.self.now.product;
    } in
    let each : (j : ℕ) → j < 64 → get_or c.joined.result j 0 ≡ pair_sum_of low high from (at + j) =
    λ j l.
    let lane = lane_of_place j in
    let below : lane < 64 = lane_below j l in
    c.joined.ensures.lanes j l
    ∙ get_or-zip2 bit_xor c.look_up.result c.look_up-in-loop-at.result lane 0 0 0 (omega (arith, c.look_up.ensures.count, below)) (omega (arith, c.look_up-in-loop-at.ensures.count, below))
    ∙ rw (c.look_up.ensures.lanes lane below, c.look_up-in-loop-at.ensures.lanes lane below, c.crossed.ensures lane below)
    (given_at (times low) (times high) (times (bit_xor low high)) (times (times pair_constant high)) straight crosswise tables from bytes at c.loop-at.invariant.even (λ k. (c.type_inv.from k).fits) c.parted-bytes.ensures j l)
    in
    record {
      even = omega (arith, c.loop-at.invariant.even);
      within = omega arith;
      added = rw c.add_at.ensures (added_block (pair_sum_of low high from) at c.args.into.now c.loop-at.into c.joined.result c.loop-at.invariant.added c.joined.ensures.count each (omega arith));
    }
