use Rattle.std.proofs.Common.{◌∙◌, ◌≡◌, ◌-◌, length, drop, arith}
use Rattle.std.proofs.lemmas.List.{length-drop, take_all}
use Rattle.vector_headers.proofs.blind.put_payload.Goals as goal

pub returns-clause-value : goal.returns-clause-value
returns-clause-value c =
    let whole : length c.args.row.now ≡ 192 = c.told-row in
    let rest : length (drop 64 c.args.row.now) ≡ length c.args.row.now - 64 = length-drop 64 c.args.row.now in
    c.copy_from_slice.ensures.after ∙ take_all 128 (drop 64 c.args.row.now) (omega (arith, whole, rest))
