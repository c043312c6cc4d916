-- Laws of rows of elements as bytes. The length of bytes is whole where it is a multiple of the bytes of an element.
use Rattle.std.specs.Prelude.{◌≡◌, ℕ, zero, suc, ◌+◌, ◌*◌, ◌/◌, ◌%◌, List, [], ◌∷◌, length, replicate, get_or}
use Rattle.std.proofs.Common.{arith, refl, ap, ◌∙◌}
use Rattle.gf_tables.specs.Product.{bytes_of_element, bytes_of_width, width_of}
use Rattle.gf_tables.specs.declared.kind.FieldKind.{FieldKind}
use Rattle.gf_tables.specs.declared.kind.FieldKind.TheVariants.{Sixteen}
use Rattle.gf_tables.specs.declared.kind.Width.TheVariants.{One, Two}
use Rattle.linear_algebra.specs.Elements.{AreBytes}
use Rattle.linear_algebra.proofs.ElementsLaws.{bytes_of_row-elements_of}
use Rattle.field_rows.specs.Bytes.{pairs_of, elements_of, bytes_of_elements}
-- elements of bytes: how many they are, that they are elements, that they are those of parts and of joined bytes, of a sum and of zeros
pub use Rattle.linear_algebra.proofs.ElementsLaws.{length-elements_of, elements_of-AreElements, elements_of-IsRow, elements_of-take, elements_of-drop, elements_of-append, elements_of-add_rows, elements_of-zero_row}
-- the bytes of elements give back the elements
pub use Rattle.linear_algebra.proofs.ElementsLaws.{elements_of-bytes_of_row as elements_of-bytes_of_elements}
-- bytes of elements: how many they are, that they are bytes, that they are those of parts and of joined rows, of a sum and of zeros
pub use Rattle.linear_algebra.proofs.ElementsLaws.{length-bytes_of_row as length-bytes_of_elements, bytes_of_row-AreBytes as bytes_of_elements-AreBytes}
pub use Rattle.linear_algebra.proofs.ElementsLaws.{bytes_of_row-take as bytes_of_elements-take, bytes_of_row-drop as bytes_of_elements-drop, bytes_of_row-append as bytes_of_elements-append}
pub use Rattle.linear_algebra.proofs.ElementsLaws.{bytes_of_row-add_rows as bytes_of_elements-add_rows, bytes_of_row-zero_row as bytes_of_elements-zero_row}

-- a whole number of bytes is that of so many elements
pub whole_bytes : (field : FieldKind) (n : ℕ) → n % bytes_of_element field ≡ 0 → n ≡ bytes_of_element field * (n / bytes_of_element field)
whole_bytes field =
    elim (width_of field) as (λ width. (n : ℕ) → n % bytes_of_width width ≡ 0 → n ≡ bytes_of_width width * (n / bytes_of_width width)) [
      | One ↦ λ n whole. omega arith
      | Two ↦ λ n whole. omega arith
    ]

-- zeros of whole length are elements that are zeros
pub elements_of-zeros : (field : FieldKind) (n : ℕ) → n % bytes_of_element field ≡ 0 → elements_of field (replicate n 0) ≡ replicate (n / bytes_of_element field) 0
elements_of-zeros field n whole = ap (λ m. elements_of field (replicate m 0)) (whole_bytes field n whole) ∙ elements_of-zero_row field (n / bytes_of_element field)

-- half as many numbers as bytes
pub length-pairs_of : (n : ℕ) (bytes : List ℕ) → length bytes ≡ 2 * n → length (pairs_of bytes) ≡ n
length-pairs_of n bytes even = length-elements_of Sixteen n bytes even

-- the elements of bytes of whole length give back the bytes
pub bytes_of_elements-elements_of : (field : FieldKind) (bytes : List ℕ) → AreBytes bytes → length bytes % bytes_of_element field ≡ 0 → bytes_of_elements field (elements_of field bytes) ≡ bytes
bytes_of_elements-elements_of field bytes h whole = bytes_of_row-elements_of field (length bytes / bytes_of_element field) bytes h (whole_bytes field (length bytes) whole)

-- the number at a place, from its two bytes
pub get_or-pairs_of : (n j : ℕ) (bytes : List ℕ) → length bytes ≡ 2 * n → get_or (pairs_of bytes) j 0 ≡ 256 * get_or bytes (2 * j) 0 + get_or bytes (2 * j + 1) 0
get_or-pairs_of n j [] even = refl
get_or-pairs_of n j (high ∷ []) even = absurd (omega arith)
get_or-pairs_of zero j (high ∷ low ∷ bytes) even = absurd (omega arith)
get_or-pairs_of (suc n) zero (high ∷ low ∷ bytes) even = refl
get_or-pairs_of (suc n) (suc j) (high ∷ low ∷ bytes) even =
    let first : 2 * suc j ≡ suc (suc (2 * j)) = omega arith in
    let second : 2 * suc j + 1 ≡ suc (suc (2 * j + 1)) = omega arith in
    rw (second, first) (get_or-pairs_of n j bytes (omega arith))
