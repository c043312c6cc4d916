-- Tables of products with the multiples of a step.
use Rattle.std.specs.Prelude.{◌≡◌, ◌<◌, ℕ, ◌*◌, List, slice_index}
use Rattle.gf_tables.specs.Product.{octet_product}

-- place k of the table is the product of a with k times the step
pub record AreProducts (poly a step : ℕ) (table : List ℕ) : Type 0 where
  pub at : (k : ℕ) → k < 16 → slice_index table k ≡ octet_product poly a (k * step)
