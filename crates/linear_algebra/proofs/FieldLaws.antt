-- Laws of sums and products of element numbers, beside those of the field itself.
use Rattle.std.specs.Prelude.{◌≡◌, ◌<◌, ℕ, bit_xor}
use Rattle.std.proofs.Common.{refl, ◌∙◌}
use Rattle.gf_tables.proofs.KindField.{kind_field, product_zero}
use Rattle.gf_tables.specs.Product.{product, size_of}
use Rattle.gf_tables.specs.declared.kind.FieldKind.{FieldKind}

-- an element times 0
pub product-zero : (field : FieldKind) (a : ℕ) → a < size_of field → product field a 0 ≡ 0
product-zero field a below =
    let laws = kind_field field in
    laws.mul_comm a 0 below laws.zero_element ∙ product_zero field a

-- a sum of elements times an element
pub product-xor : (field : FieldKind) (a b x : ℕ) → a < size_of field → b < size_of field → x < size_of field
    → product field (bit_xor a b) x ≡ bit_xor (product field a x) (product field b x)
product-xor field a b x below_a below_b below =
    let laws = kind_field field in
    rw (
      laws.mul_comm (bit_xor a b) x (laws.add_element a b below_a below_b) below,
      laws.mul_add x a b below below_a below_b,
      laws.mul_comm x a below below_a,
      laws.mul_comm x b below below_b,
    ) refl
