use Rattle.std.proofs.Common.{◌≡◌, ◌<◌, ◌++◌, ◌∷◌, ◌∙◌, ℕ, List, [], ap, arith, get_or, length, sym, take}
use Rattle.std.proofs.lemmas.List.{append_assoc, take_more}
use Rattle.std.proofs.lemmas.List.Elements.{All-from_get_or, All-take}
use Rattle.field_rows.proofs.BytesLaws.{whole_bytes}
use Rattle.field_rows.specs.Widths.{width_in}
use Rattle.gf_tables.specs.Product.{size_of}
use Rattle.gf_tables.specs.declared.kind.FieldKind.{FieldKind}
use Rattle.linear_algebra.proofs.ElementsLaws.{elements_of-AreElements, length-elements_of}
use Rattle.linear_algebra.specs.Elements.{elements_of}
use Rattle.linear_algebra.specs.Rows.{AreElements}
use Rattle.field_rows.proofs.elements.push_elements.Goals as goal

-- the first elements of bytes are elements
first_elements : (field : FieldKind) (bytes : List ℕ) (count : ℕ) → ((k : ℕ) → get_or bytes k 0 < 256) → AreElements field (take count (elements_of field bytes))
first_elements field bytes count fits =
    All-take (λ element. element < size_of field) count (elements_of field bytes)
    (elements_of-AreElements field bytes (All-from_get_or (λ byte. byte < 256) bytes 0 (λ k inside. fits k)))

pub loop-place-preserved : goal.loop-place-preserved
loop-place-preserved c =
    let field = c.args.field in
    let bytes = c.args.row.now in
    let row = elements_of field bytes in
    let first = c.args.elements.now.items in
    let place = c.loop-place.place in
    let long : length row ≡ width_in field (length bytes) =
    length-elements_of field (width_in field (length bytes)) bytes (whole_bytes field (length bytes) c.requires.whole) in
    let inside : place < length row = omega arith in
    c.in_ok-push.ensures.items
    ∙ ap (λ (before : List ℕ). before ++ c.element_at.result ∷ []) c.loop-place.invariant
    ∙ ap (λ (last : ℕ). (first ++ take place row) ++ last ∷ []) c.element_at.ensures.value
    ∙ append_assoc first (take place row) (get_or row place 0 ∷ [])
    ∙ ap (λ (added : List ℕ). first ++ added) (sym (take_more row place 0 inside))

pub returns-clause-pushed : goal.returns-clause-pushed
returns-clause-pushed c =
    let last : c.loop-place.place ≡ c.args.count = omega arith in
    c.loop-place.invariant ∙ ap (λ (n : ℕ). c.args.elements.now.items ++ take n (elements_of c.args.field c.args.row.now)) last

pub returns-clause-elements : goal.returns-clause-elements
returns-clause-elements c = first_elements c.args.field c.args.row.now c.args.count (λ k. omega (arith, c.type_inv.row k))

pub returns-in_err-push-clause-elements : goal.returns-in_err-push-clause-elements
returns-in_err-push-clause-elements c = first_elements c.args.field c.args.row.now c.args.count (λ k. omega (arith, c.type_inv.row k))
