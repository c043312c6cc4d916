use Rattle.std.proofs.Common.{arith, ap, ◌∙◌}
use Rattle.std.proofs.lemmas.Nat.{and_mask}
use Rattle.gf_tables.specs.Product.{octet_product}
use Rattle.field_rows.proofs.Halves.{product_by_halves}
use Rattle.field_rows.proofs.nibbles.NibbleTables.times.Goals as goal

pub returns : goal.returns
returns g c =
    let byte = c.args.byte in
    let poly = g.T.Generates.POLY in
    let inside = c.self.inside in
    rw (and_mask byte 4)
    (product_by_halves poly inside.multiplier g.met.T.Generates.tables.degree inside.low inside.high c.self.invariant.0 c.self.invariant.1 byte (omega arith)
    ∙ ap (λ a. octet_product poly a byte) c.self.view_is)
