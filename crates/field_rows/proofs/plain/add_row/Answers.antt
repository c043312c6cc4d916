use Rattle.std.proofs.Common.{arith, ap, ◌∙◌, bit_xor}
use Rattle.std.proofs.lemmas.List.{map-id}
use Rattle.std.proofs.lemmas.Simd.{get_or-chunk, length-chunk}
use Rattle.std.specs.Simd.Lanes.{chunk, zip2}
use Rattle.field_rows.specs.Added.{of_byte}
use Rattle.field_rows.proofs.Added.{added_all, added_block}
use Rattle.field_rows.proofs.plain.add_row.Goals as goal

pub loop-at-preserved : goal.loop-at-preserved
loop-at-preserved c =
    let from = c.args.from.now in
    let at = c.loop-at.at in
    record {
      within = omega arith;
      added = rw c.add_at.ensures (added_block (of_byte (λ byte. byte) from) at c.args.into.now c.loop-at.into (chunk at 64 from) c.loop-at.invariant.added (length-chunk at 64 from (omega arith)) (λ j below. get_or-chunk at 64 from j 0 below) (omega arith));
    }

pub returns : goal.returns
returns c =
    added_all (λ byte. byte) c.loop-place.place c.args.into.now c.args.from.now c.loop-place.into c.loop-place.invariant c.requires c.loop-place-test.false
    ∙ ap (zip2 bit_xor c.args.into.now) (map-id c.args.from.now)
