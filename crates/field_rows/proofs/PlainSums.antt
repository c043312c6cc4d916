-- Zero times a row adds nothing, and one time a row is the row itself.
use Rattle.std.proofs.Common.{◌≡◌, ℕ, ◌<◌, ◌/◌, ◌%◌, List, length, get_or, sym, ap, ◌∙◌, arith, bit_xor}
use Rattle.std.specs.Simd.Lanes.{zip2}
use Rattle.std.proofs.lemmas.List.Elements.{All-from_get_or}
use Rattle.std.proofs.lemmas.Simd.{get_or-zip2}
use Rattle.gf_tables.specs.Product.{bytes_of_element}
use Rattle.gf_tables.specs.declared.kind.FieldKind.{FieldKind}
use Rattle.linear_algebra.proofs.RowLaws.{add_rows-zero_row, scale_row-one, scale_row-zero}
use Rattle.linear_algebra.specs.Elements.{AreBytes, elements_of}
use Rattle.linear_algebra.specs.Rows.{add_rows, scale_row, zero_row}
use Rattle.field_rows.proofs.BytesLaws.{elements_of-AreElements, elements_of-add_rows, length-elements_of, whole_bytes}
use Rattle.field_rows.proofs.PairProducts.{byte_before}

-- where each byte has been added, one time each element has been added
pub row_added : (field : FieldKind) (old from new : List ℕ) → length old ≡ length from → new ≡ zip2 bit_xor old from
    → ((k : ℕ) → get_or from k 0 < 256) → ((k : ℕ) → get_or new k 0 < 256)
    → elements_of field new ≡ add_rows (elements_of field old) (scale_row field 1 (elements_of field from))
row_added field old from new same is from_bytes new_bytes =
    let bytes_from : AreBytes from = All-from_get_or (λ byte. byte < 256) from 0 (λ k below. from_bytes k) in
    let bytes_old : AreBytes old =
    All-from_get_or (λ byte. byte < 256) old 0 (λ k below.
    byte_before (get_or old k 0) (get_or new k 0) (get_or from k 0)
    (ap (λ bytes. get_or bytes k 0) is ∙ get_or-zip2 bit_xor old from k 0 0 0 below (omega (arith, same, below)))
    (new_bytes k) (from_bytes k))
    in
    rw (is, scale_row-one field (elements_of field from) (elements_of-AreElements field from bytes_from))
    (elements_of-add_rows field old from bytes_old bytes_from)

-- zero times another row of whole elements adds nothing
pub row_kept : (field : FieldKind) (row from : List ℕ) → length row ≡ length from → length from % bytes_of_element field ≡ 0
    → elements_of field row ≡ add_rows (elements_of field row) (scale_row field 0 (elements_of field from))
row_kept field row from same whole =
    let count = length from / bytes_of_element field in
    let size = whole_bytes field (length from) whole in
    let long : length (elements_of field row) ≡ count = length-elements_of field count row (same ∙ size) in
    let long_from : length (elements_of field from) ≡ count = length-elements_of field count from size in
    let zeros : scale_row field 0 (elements_of field from) ≡ zero_row (length (elements_of field row)) =
    scale_row-zero field (elements_of field from) ∙ ap zero_row (long_from ∙ sym long) in
    sym (ap (add_rows (elements_of field row)) zeros ∙ add_rows-zero_row (elements_of field row))
