-- Which demand of a code fails first, and where.
use Rattle.std.specs.Prelude.{◌≡◌, ◌≢◌, ℕ, ◌<◌, List, [], length, slice_index, slice_index_or}
use Rattle.failure_patterns.specs.First as demands
use Rattle.linear_algebra.specs.Matrices.{identity, times_rows}
use Rattle.linear_algebra.specs.Rows.{unit_row}
use Rattle.link_rows.specs.Vectors.{AreVectorRows}
use Rattle.net_model.specs.Demands.{demand_count}
use Rattle.net_model.specs.Failed.{failed_links}
use Rattle.node_program.specs.Decoding.{decoder_matrix, decoder_vectors}
use Rattle.node_program.specs.declared.code.Code.{Code}
use Rattle.code_checker.specs.declared.checked.CheckRefusal.{CheckRefusal}
use Rattle.code_checker.specs.declared.checked.CheckRefusal.TheVariants.{NotIdentity, OutOfMemory}

-- a demand's decoder times the vectors of its links
abbrev pub demand_product : Code → ℕ → List (List ℕ)
demand_product code demand = times_rows code.field code.rate (decoder_matrix code demand) (decoder_vectors code demand)

-- that product is the identity
abbrev pub IsIdentity : Code → ℕ → Type 0
IsIdentity code demand = demand_product code demand ≡ identity code.rate

-- the entry in a row and a column
abbrev pub entry_at : List (List ℕ) → ℕ → ℕ → ℕ
entry_at rows i j = slice_index (slice_index_or rows i []) j

-- the first entry, by rows, in which square rows differ from the identity
pub record DiffersFirst (size : ℕ) (rows : List (List ℕ)) (row column found : ℕ) : Type 0 where
  pub in_row : row < size
  pub in_column : column < size
  pub value : found ≡ entry_at rows row column
  pub differs : found ≢ entry_at (identity size) row column
  pub before : (j : ℕ) → j < column → entry_at rows row j ≡ entry_at (identity size) row j
  pub rows_before : (i j : ℕ) → i < row → j < size → entry_at rows i j ≡ entry_at (identity size) i j

-- the rows of a code's links are, as elements, their vectors under a pattern
abbrev pub AreVectorsIn : Code → ℕ → List (List ℕ) → Type 0
AreVectorsIn code pattern rows =
    AreVectorRows code.net code.field code.operands (failed_links code.net.patterns pattern) code.rate (length code.net.links) rows

-- the first column, of so many, in which a row differs from a row of the identity
pub record DiffersAt (width row : ℕ) (entries : List ℕ) (column found : ℕ) : Type 0 where
  pub in_column : column < width
  pub value : found ≡ slice_index entries column
  pub differs : found ≢ slice_index (unit_row width row) column
  pub before : (j : ℕ) → j < column → slice_index entries j ≡ slice_index (unit_row width row) j

-- of the demands from one number on and below another, the first whose product isn't the identity, and where it differs first
abbrev pub FailsFirstIn : Code → ℕ → ℕ → ℕ → ℕ → ℕ → ℕ → Type 0
FailsFirstIn code from to demand row column found =
    demands.FailsFirstIn (IsIdentity code) from to demand (DiffersFirst code.rate (demand_product code demand) row column found)

-- the first demand of all whose product isn't the identity, and where it differs first
abbrev pub FailsFirst : Code → ℕ → ℕ → ℕ → ℕ → Type 0
FailsFirst code demand row column found = FailsFirstIn code 0 (demand_count code.net) demand row column found

-- what a refusal says
abbrev pub IsRefusal : Code → CheckRefusal → Type 0
IsRefusal code (NotIdentity demand row column found) = FailsFirst code demand row column found
IsRefusal code OutOfMemory = Unit {0}
