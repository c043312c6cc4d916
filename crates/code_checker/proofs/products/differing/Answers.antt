use Rattle.std.proofs.Common.{◌≡◌, ℕ, List, ap, below_more, slice_index, sym, ◌∙◌}
use Rattle.std.proofs.lemmas.Bool.Decides.{Decides-eqb}
use Rattle.std.proofs.lemmas.Slice.Eq.{slice_eq-Decides}
use Rattle.linear_algebra.specs.Elements.{elements_of}
use Rattle.linear_algebra.specs.Rows.{unit_row}
use Rattle.code_checker.proofs.ProductSteps.{unit_entry}
use Rattle.code_checker.proofs.products.differing.Goals as goal

pub returns-then-eq-clause-none : goal.returns-then-eq-clause-none
returns-then-eq-clause-none c =
    let same : c.args.product.now ≡ c.unit_row-unit.result = (slice_eq-Decides Decides-eqb _ _ _ c.eq.ensures).0 c.if-eq.true in
    λ j below.
    ap (λ (bytes : List ℕ). slice_index (elements_of c.args.field bytes) j) same
    ∙ unit_entry c.args.field c.args.rate c.args.row j c.unit_row-unit.result c.requires.rate below c.unit_row-unit.ensures

pub returns-then-found-expected-clause-some : goal.returns-then-found-expected-clause-some
returns-then-found-expected-clause-some c =
    let column = c.loop-column.column in
    let unit = unit_entry c.args.field c.args.rate c.args.row column c.unit_row-unit.result c.requires.rate c.loop-column-test.true c.unit_row-unit.ensures in
    record {
      in_column = c.loop-column-test.true;
      value = c.element_at-found.ensures.value;
      differs = λ same. c.if-found-expected.true (same ∙ sym (c.element_at-expected.ensures.value ∙ unit));
      before = c.loop-column.invariant;
    }

pub loop-column-preserved : goal.loop-column-preserved
loop-column-preserved c =
    let column = c.loop-column.column in
    let unit = unit_entry c.args.field c.args.rate c.args.row column c.unit_row-unit.result c.requires.rate c.loop-column-test.true c.unit_row-unit.ensures in
    let Same : ℕ → Type 0 = λ j. slice_index (elements_of c.args.field c.args.product.now) j ≡ slice_index (unit_row c.args.rate c.args.row) j in
    below_more Same column c.loop-column.invariant
    (sym c.element_at-found.ensures.value ∙ c.if-found-expected.false ∙ c.element_at-expected.ensures.value ∙ unit)
