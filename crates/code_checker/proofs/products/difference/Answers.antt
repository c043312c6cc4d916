use Rattle.std.proofs.Common.{◌≡◌, ◌<◌, ℕ, refl, slice_index, subst}
use Rattle.std.specs.Prelude.{Option, IfNone, IfSome}
use Rattle.linear_algebra.specs.Elements.{elements_of}
use Rattle.linear_algebra.specs.Rows.{unit_row}
use Rattle.code_checker.proofs.ProductSteps.{identity_all, identity_differs, identity_more, identity_none}
use Rattle.code_checker.specs.Checking.{DiffersAt}
use Rattle.code_checker.proofs.products.difference.Goals as goal

pub loop-row-init : goal.loop-row-init
loop-row-init c = identity_none c.args.code.now c.args.demand

pub loop-row-preserved : goal.loop-row-preserved
loop-row-preserved c =
    let code = c.args.code.now in
    let row = c.loop-row.row in
    let bytes = c.product_row-product.result in
    let Same : Type 0 = (j : ℕ) → j < code.rate → slice_index (elements_of code.field bytes) j ≡ slice_index (unit_row code.rate row) j in
    let If : Option (ℕ × ℕ) → Type 0 = λ entry. IfNone entry Same in
    identity_more code c.args.demand c.requires.demand row c.loop-row-test.true c.loop-row.invariant bytes c.product_row-product.ensures
    (subst If c.in_default.is c.differing.ensures.none)

pub returns-in-Some-clause-some : goal.returns-in-Some-clause-some
returns-in-Some-clause-some c =
    let code = c.args.code.now in
    let row = c.loop-row.row in
    let bytes = c.product_row-product.result in
    let If : Option (ℕ × ℕ) → Type 0 = λ found. IfSome found (λ entry. DiffersAt code.rate row (elements_of code.field bytes) entry.0 entry.1) in (
      refl,
      identity_differs code c.args.demand c.requires.demand row c.loop-row-test.true c.loop-row.invariant bytes c.product_row-product.ensures
          c.in-Some.column c.in-Some.found (subst If c.in-Some.is c.differing.ensures.some),
    )

pub returns-clause-none : goal.returns-clause-none
returns-clause-none c = identity_all c.args.code.now c.args.demand c.requires.demand c.loop-row.row c.loop-row-test.false c.loop-row.invariant
