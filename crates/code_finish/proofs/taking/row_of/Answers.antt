use Rattle.std.proofs.Common.{◌≡◌, ◌*◌, ◌/◌, ◌-◌, ◌++◌, ◌∙◌, List, ℕ, ap, arith, length, set, take}
use Rattle.std.proofs.Math.Path.{ap₂}
use Rattle.std.proofs.lemmas.List.{drop-replicate}
use Rattle.field_rows.proofs.ElementLaws.{zero_row-set}
use Rattle.gf_tables.specs.Product.{bytes_of_element}
use Rattle.linear_algebra.proofs.ElementsLaws.{elements_of-append, elements_of-take, elements_of-zero_row}
use Rattle.linear_algebra.specs.Elements.{elements_of}
use Rattle.linear_algebra.specs.Rows.{unit_row, zero_row}
use Rattle.code_finish.proofs.TakingLaws.{half_bytes}
use Rattle.code_finish.proofs.taking.row_of.Goals as goal

pub returns : goal.returns
returns g c =
    let field = c.args.field in
    let vector = c.args.vector.now in
    let bytes = g.row.W in
    let place = c.args.place in
    let half = half_bytes field bytes c.requires.bytes in
    let rest : bytes - bytes / 2 ≡ bytes_of_element field * 32 = omega (arith, c.requires.bytes, half) in
    let front : c.copy_from_slice.new.self ≡ take (bytes_of_element field * 32) vector =
    c.copy_from_slice.ensures.after ∙ ap (λ n. take n vector) half in
    let zeros : elements_of field c.split_at_mut-front.result.1.now ≡ zero_row 32 =
    ap (elements_of field) (c.split_at_mut-front.ensures.back ∙ drop-replicate (bytes / 2) bytes 0 ∙ ap zero_row rest) ∙ elements_of-zero_row field 32 in
    let behind : elements_of field c.put_element.new.row ≡ unit_row 32 place =
    c.put_element.ensures ∙ ap (λ xs. set xs place 1) zeros ∙ zero_row-set field 32 place c.requires.place in
    let long : length c.copy_from_slice.new.self ≡ bytes_of_element field * 32 = c.copy_from_slice.ensures.len ∙ c.split_at_mut-front.ensures.front_len ∙ half in
    elements_of-append field 32 c.copy_from_slice.new.self c.put_element.new.row long
    ∙ ap₂ (λ (xs ys : List ℕ). xs ++ ys) (ap (elements_of field) front ∙ elements_of-take field 32 vector) behind
