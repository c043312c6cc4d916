use Rattle.std.proofs.Common.{◌∙◌, ap, slice_index}
use Rattle.gf_tables.specs.PowersLaws.{long_power}
use Rattle.gf_tables.proofs.octet.Octet.power.Goals as goal

pub returns : goal.returns
returns g c =
    let t = g.T.Generates in
    let tables = g.met.T.Generates.tables in
    let k = c.args.exponent in
    c.of_byte.ensures ∙ ap (λ xs. slice_index xs k) c.long_powers.ensures
    ∙ long_power t.POLY t.GEN t.EXP t.LOG tables k c.requires
