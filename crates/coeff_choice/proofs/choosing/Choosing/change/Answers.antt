use Rattle.std.proofs.Common.{◌≡◌, ◌≢◌, ◌<◌, ◌≤◌, length, get_or, set, take, arith, ap, ◌∙◌}
use Rattle.std.proofs.lemmas.List.{with_items_is, length-set, length-take-le, get_or-set_same, get_or-set_other, get_or-take}
use Rattle.coeff_choice.specs.Choosing.{scaled_plus_unit}
use Rattle.coeff_choice.proofs.ChoosingLaws.{length-scaled_plus_unit, choosing-changed}
use Rattle.field_vectors.specs.Grid.{entry_of}
use Rattle.coeff_choice.proofs.choosing.Choosing.change.Goals as goal

pub returns-clause-after : goal.returns-clause-after
returns-clause-after g c =
    let F = g.F.Field in
    let table = c.args.table.now in
    let row = c.args.row in
    let place = c.args.place in
    let old = c.args.self.now in
    let s = c.requires.before in
    let n = c.allowed_number-number.result in
    let by = c.of_number-by.result in
    let changed = c.scale_plus_unit.ensures.value ∙ ap (scaled_plus_unit F.zero F.one F.add F.mul by place) c.as_mut_slice-2.ensures.value in
    let coefficients_len = ap length changed ∙ length-scaled_plus_unit F.zero F.one F.add F.mul old.coefficients.items by place in
    let coefficients_is = with_items_is old.coefficients c.scale_plus_unit.new.coefficients (omega (arith, coefficients_len, old.coefficients.ok.0)) in
    let followed = c.update_products.new.products in
    let products = set followed row c.at.result in
    let products_len : length products ≡ length old.products.items =
    length-set followed row c.at.result ∙ c.update_products.auto.products ∙ ap length c.as_mut_slice-products.ensures.value
    in
    let products_is = with_items_is old.products products (omega (arith, products_len, old.products.ok.0)) in
    let marks = c.allowed_number-number.new.marks in
    let marks_len : length marks ≡ length old.marks.items = c.allowed_number-number.auto.marks ∙ ap length c.as_mut_slice.ensures.value in
    let marks_is = with_items_is old.marks marks (omega (arith, marks_len, old.marks.ok.0)) in
    let short = length-take-le row old.products.items (omega (arith, s.each_row)) in
    let before = ap (take row) c.as_mut_slice-products.ensures.value in
    let small : n ≤ row = omega (arith, c.allowed_number-number.ensures.below, ap length before, short) in
    choosing-changed g.met.F.Field.field g.met.F.Field.numbering table c.at.ensures.kept row place n by old.coefficients.items old.products.items old.marks.items _ _ _ s
    c.requires.row c.requires.column c.requires.nonzero c.requires.is_zero (omega arith) c.of_number-by.ensures.value
    (λ r below e.
    let inside : r < length (take row c.as_mut_slice-products.result.now) = omega (arith, ap length before, short) in
    c.allowed_number-number.ensures.allowed r inside
    (ap (λ x. F.number (F.mul (entry_of F.zero table r place) (F.inv x))) (ap (λ xs. get_or xs r F.zero) before ∙ get_or-take row old.products.items r F.zero below) ∙ e))
    (coefficients_is ∙ changed)
    (ap length products_is ∙ products_len)
    (λ r below.
    let other : r ≢ row = omega arith in
    ap (λ xs. get_or xs r F.zero) products_is ∙ get_or-set_other followed row r c.at.result F.zero other ∙ c.update_products.ensures.value r below
    ∙ ap (λ xs. F.add (F.mul by (get_or xs r F.zero)) (entry_of F.zero table r place)) c.as_mut_slice-products.ensures.value)
    (let within : row < length followed = omega (arith, c.requires.row, s.each_row, products_len, length-set followed row c.at.result) in
    ap (λ xs. get_or xs row F.zero) products_is ∙ get_or-set_same followed row c.at.result F.zero within ∙ c.at.ensures.value)
    (ap length marks_is ∙ marks_len)
