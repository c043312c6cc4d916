-- Matrices of the global coding vectors of a code's links.
use Rattle.std.specs.Prelude.{◌≡◌, ℕ, ◌<◌, ◌≤◌, length, replicate}
use Rattle.field_vectors.specs.Grid.{Grid, row_of}
use Rattle.linear_algebra.specs.Elements.{numbers}
use Rattle.node_program.specs.CodeValue.{vector_in}
use Rattle.node_program.specs.declared.code.Code.{Code}

-- row e has the numbers of link e's vector under a pattern
pub record AreVectors {F : Type 0} (number : F → ℕ) (code : Code) (pattern : ℕ) (m : Grid F) : Type 0 where
  pub columns : m.columns ≡ code.rate
  pub rows : length m.rows ≡ length code.net.links
  pub vector : (e : ℕ) → e < length code.net.links → numbers number (row_of m e) ≡ vector_in code pattern e

-- the rows of the links before one have the numbers of their vectors, and the others are zeros
pub record AreVectorsBefore {F : Type 0} (number : F → ℕ) (zero : F) (code : Code) (pattern link : ℕ) (m : Grid F) : Type 0 where
  pub columns : m.columns ≡ code.rate
  pub rows : length m.rows ≡ length code.net.links
  pub vector : (e : ℕ) → e < link → e < length code.net.links → numbers number (row_of m e) ≡ vector_in code pattern e
  pub zeros : (e : ℕ) → link ≤ e → e < length code.net.links → row_of m e ≡ replicate code.rate zero
