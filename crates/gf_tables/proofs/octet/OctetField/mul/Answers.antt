use Rattle.std.proofs.Common.{arith, ◌<◌, ◌+◌, ◌∙◌, ap, slice_index}
use Rattle.gf_tables.specs.PowersLaws.{product_by_places}
use Rattle.gf_tables.proofs.octet.OctetField.mul.Goals as goal

pub returns-clause-value : goal.returns-clause-value
returns-clause-value g c =
    let t = g.T.Generates in
    let tables = g.met.T.Generates.tables in
    let a = c.args.self in
    let b = c.args.other in
    let a_byte : a < 256 = omega arith in
    let b_byte : b < 256 = omega arith in
    let there = c.place.result + c.place-2.result in
    c.of_byte.ensures ∙ ap (λ xs. slice_index xs there) c.long_powers.ensures
    ∙ rw (c.place.ensures.place, c.place-2.ensures.place)
    (product_by_places t.POLY t.GEN t.EXP t.LOG tables a b a_byte b_byte)
