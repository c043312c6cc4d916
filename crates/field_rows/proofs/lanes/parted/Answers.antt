use Rattle.std.proofs.Common.{◌<◌, ℕ, ◌∙◌, arith}
use Rattle.std.proofs.lemmas.Simd.{length-chunk, get_or-chunk}
use Rattle.std.specs.Simd.Lanes.{chunk}
use Rattle.field_rows.specs.Parted.{place_of_lane}
use Rattle.field_rows.proofs.LookUps.{picked}
use Rattle.field_rows.proofs.lanes.parted.Goals as goal

place_below : (i : ℕ) → i < 64 → place_of_lane i < 64
place_below i l = omega arith

pub returns : goal.returns
returns c = λ i l.
    let at = c.args.at in
    let from = c.args.from.now in
    picked place_of_lane (chunk at 64 from) (length-chunk at 64 from c.requires) place_below i l ∙ get_or-chunk at 64 from (place_of_lane i) 0 (place_below i l)
