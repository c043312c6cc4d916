use Rattle.std.proofs.Common.{◌≡◌, ◌+◌, ◌*◌, ◌/◌, ◌%◌, ◌∙◌, ap, arith}
use Rattle.gf_tables.specs.Product.{octet_product}
use Rattle.field_rows.proofs.Halves.{product_by_halves}
use Rattle.field_rows.proofs.nibbles.NibbleTables.lanes.Goals as goal

pub returns : goal.returns
returns g c =
    let poly = g.T.Generates.POLY in
    let degree = g.met.T.Generates.tables.degree in
    let lower = c.self.inside in
    let upper = c.upper.inside in
    record {
      lower = λ i byte l m.
          let p : 32 * (i / 32) + byte % 16 ≡ byte % 16 = omega arith in
          let q : 32 * (i / 32) + byte / 16 ≡ byte / 16 = omega arith in
          rw (p, q, c.twice_each.ensures.lower (byte % 16) (omega arith), c.twice_each-2.ensures.lower (byte / 16) (omega arith))
          (product_by_halves poly lower.multiplier degree lower.low lower.high c.self.invariant.0 c.self.invariant.1 byte m ∙ ap (λ a. octet_product poly a byte) c.self.view_is);
      upper = λ i byte h l m.
          let p : 32 * (i / 32) + byte % 16 ≡ 32 + byte % 16 = omega arith in
          let q : 32 * (i / 32) + byte / 16 ≡ 32 + byte / 16 = omega arith in
          rw (p, q, c.twice_each.ensures.upper (byte % 16) (omega arith), c.twice_each-2.ensures.upper (byte / 16) (omega arith))
          (product_by_halves poly upper.multiplier degree upper.low upper.high c.upper.invariant.0 c.upper.invariant.1 byte m ∙ ap (λ a. octet_product poly a byte) c.upper.view_is);
    }
