-- Which kind a field is of.
use Rattle.std.specs.Prelude.{◌≡◌, ◌<◌, ℕ}
use Rattle.gf_tables.specs.declared.kind.FieldKind.{FieldKind}
use Rattle.gf_tables.specs.Product.{product, size_of, bytes_of_element, mark_of}

-- a field of this size, these bytes an element, this mark and this product of numbers is of the kind
pub record IsOfKind (kind : FieldKind) (field_size field_bytes field_mark : ℕ) (field_product : ℕ → ℕ → ℕ) : Type 0 where
  pub size : field_size ≡ size_of kind
  pub bytes : field_bytes ≡ bytes_of_element kind
  pub mark : field_mark ≡ mark_of kind
  pub product_at : (a b : ℕ) → a < field_size → b < field_size → field_product a b ≡ product kind a b
