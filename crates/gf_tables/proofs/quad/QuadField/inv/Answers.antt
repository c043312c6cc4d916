-- The norm of a pair that is not zero is not zero.
use Rattle.gf_tables.specs.PairLaws.{norm_nonzero}
use Rattle.gf_tables.proofs.quad.QuadField.inv.Goals as goal

pub inv-divisor-requires : goal.inv-divisor-requires
inv-divisor-requires g c =
    let inner = g.met.F.Field in
    let over = g.met.F.NoRoot in
    rw c.norm.ensures (norm_nonzero inner.field g.F.PartialEq.eq inner.equal (inner.element_of_number g.F.NoRoot.C over.constant) over.no_root c.args.self c.number.ensures.element c.requires)
