-- A product of pairs by that of their sums, or with zero.
use Rattle.std.proofs.Common.{◌≡◌, ◌∙◌, sym}
use Rattle.gf_tables.specs.PairLaws.{equal_pairs, pair_mul-by_sums, pair_mul_zero, pair_zero_mul}
use Rattle.gf_tables.specs.Pairs.{pair}
use Rattle.gf_tables.proofs.quad.QuadField.mul.Goals as goal
use Rattle.gf_tables.proofs.quad.QuadField.mul.Goals.{then-eq-via-then-eq, then-eq-via-else-eq+then-eq-2}

pub returns-then-eq-clause-value : goal.returns-then-eq-clause-value
returns-then-eq-clause-value g c =
    let inner = g.met.F.Field in
    let root = inner.element_of_number g.F.NoRoot.C g.met.F.NoRoot.constant in
    let eq = g.F.PartialEq.eq in
    elim c.then-eq.branch [
      | then-eq-via-then-eq w ↦
          let is_zero : c.args.self ≡ pair g.F.Field.zero g.F.Field.zero = (equal_pairs eq inner.equal c.args.self c.zero.result).0 (sym c.eq.ensures ∙ w.if-eq.true) ∙ c.zero.ensures.value in
          rw is_zero (c.zero-then-eq.ensures.value ∙ sym (pair_zero_mul inner.field eq inner.equal root c.args.other c.number-2.ensures.element))
      | then-eq-via-else-eq+then-eq-2 w ↦
          let is_zero : c.args.other ≡ pair g.F.Field.zero g.F.Field.zero = (equal_pairs eq inner.equal c.args.other w.zero-else-eq.result).0 (sym w.eq-else-eq.ensures ∙ w.if-eq-2.true) ∙ w.zero-else-eq.ensures.value in
          rw is_zero (c.zero-then-eq.ensures.value ∙ sym (pair_mul_zero inner.field eq inner.equal root c.args.self c.number.ensures.element))
    ]

pub returns-clause-value : goal.returns-clause-value
returns-clause-value g c =
    let inner = g.met.F.Field in
    let root = inner.element_of_number g.F.NoRoot.C g.met.F.NoRoot.constant in
    let by_sums = pair_mul-by_sums inner.field g.F.PartialEq.eq inner.equal root c.args.self c.args.other c.number.ensures.element c.number-2.ensures.element in
    rw (c.add-3.ensures.value, c.add-4.ensures.value, c.mul-low.ensures.value, c.mul-sums.ensures.value, c.mul-top.ensures.value, c.mul.ensures.value, c.of_number.ensures.value, c.C.ensures, c.add.ensures.value, c.add-2.ensures.value) (sym by_sums)
