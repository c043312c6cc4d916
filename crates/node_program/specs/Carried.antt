-- What a link carries, by the vectors of the links that it reads.
use Rattle.std.specs.Prelude.{◌≡◌, ◌≢◌, ◌*◌, ℕ, Bool, true, false, List, length, map}
use Rattle.field_vectors.specs.Grid.{Grid, row_of}
use Rattle.gf_tables.specs.declared.kind.FieldKind.{FieldKind}
use Rattle.linear_algebra.specs.Elements.{numbers}
use Rattle.linear_algebra.specs.Rows.{combination, unit_row}
use Rattle.node_program.specs.declared.Operand.{Operand}

-- the vector that an operand of a link has: the unit vector of its row, where the link leaves the source, else that of
-- its link
abbrev pub source_vector : Bool → ℕ → (ℕ → List ℕ) → ℕ → List ℕ
source_vector true rate vector_of from = unit_row rate from
source_vector false rate vector_of from = vector_of from

-- the rows of a matrix of elements, by the numbers of the elements
abbrev pub numbers_at : {A : Type 0} → (A → ℕ) → Grid A → ℕ → List ℕ
numbers_at number m row = numbers number (row_of m row)

-- one row of a matrix becomes the sum of the operands' vectors, each times its coefficient; all others stay
pub record IsCarried {A : Type 0} (field : FieldKind) (number : A → ℕ) (leaves : Bool) (operands : List Operand) (link : ℕ) (old new : Grid A) : Type 0 where
  pub columns : new.columns ≡ old.columns
  pub height : length new.rows ≡ length old.rows
  pub own : numbers_at number new link
      ≡ combination field old.columns (map (λ operand. operand.times) operands) (map (λ operand. source_vector leaves old.columns (numbers_at number old) operand.from) operands)
  pub others : (row : ℕ) → row ≢ link → row_of new row ≡ row_of old row

-- the steps in which a row is made of so many operands, by the columns: a step for each column of each operand's row, and
-- none where the link leaves the source
abbrev pub carry_steps : Bool → ℕ → ℕ → ℕ
carry_steps true operands columns = 0
carry_steps false operands columns = operands * columns
