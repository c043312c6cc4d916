use Rattle.std.proofs.Common.{◌≡◌, arith, length, take}
use Rattle.std.proofs.lemmas.Result.{IfOk-weaker}
use Rattle.link_rows.proofs.WideLaws.{AreVectorRows-units, rows_in-units}
use Rattle.link_rows.proofs.vectors.vector_rows.Goals as goal

pub returns : goal.returns
returns c =
    let coding = c.args.coding in
    let bytes = c.unit_rows-block.result in
    let many : length bytes ≡ 32 = omega arith in
    let same = rows_in-units coding.draft bytes many c.unit_rows-block.ensures in
    IfOk-weaker c.of.result _ _
    (λ rows are failed table. AreVectorRows-units coding.draft (take coding.rate bytes) same failed (length coding.net.now.links) rows (are failed table))
    c.of.ensures
