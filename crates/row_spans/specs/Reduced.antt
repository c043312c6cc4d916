-- Rows by columns, as elimination leaves them.
use Rattle.std.specs.Prelude.{◌≡◌, ◌≢◌, ◌<◌, ◌≤◌, ◌%◌, ℕ, Bool, true, false, List, [], ◌∷◌, length, map, set, take, slice_index, slice_index_or}
use Rattle.gf_tables.specs.declared.kind.FieldKind.{FieldKind}
use Rattle.linear_algebra.specs.Rows.{add_rows, combination, scale_row, zero_row, AreRows, IsRow}
use Rattle.row_spans.specs.Spans.{HaveSameSums, IsSum, vectors}
use Rattle.field_rows.specs.Widths.{width_in}

-- the rows of the columns that are marked
abbrev pub kept : List Bool → List (List ℕ) → List (List ℕ)
kept [] rows = []
kept (mark ∷ marks) [] = []
kept (true ∷ marks) (row ∷ rows) = row ∷ kept marks rows
kept (false ∷ marks) (row ∷ rows) = kept marks rows

-- A row for each of the first columns. That of a marked column has one there, and each other row has zero there. The row of a column
-- that isn't marked is zeros.
pub record AreReduced (field : FieldKind) (width rate : ℕ) (marks : List Bool) (rows : List (List ℕ)) : Type 0 where
  pub narrow : rate ≤ width
  pub are : AreRows field width rows
  pub count : length rows ≡ rate
  pub columns : length marks ≡ rate
  pub one : (p : ℕ) → p < rate → slice_index_or marks p false ≡ true → slice_index (slice_index_or rows p []) p ≡ 1
  pub beside : (p q : ℕ) → p < rate → q < rate → slice_index_or marks p false ≡ true → q ≢ p → slice_index (slice_index_or rows q []) p ≡ 0
  pub unmarked : (p : ℕ) → p < rate → slice_index_or marks p false ≡ false → slice_index_or rows p [] ≡ zero_row width

-- a row, made zero at the marked columns
abbrev pub cleared : FieldKind → ℕ → ℕ → List (List ℕ) → List ℕ → List ℕ
cleared field width rate rows row = add_rows row (combination field width (take rate row) rows)

-- a row with one at a column that isn't marked, and zeros at those that are
pub record IsLead (field : FieldKind) (width rate : ℕ) (marks : List Bool) (column : ℕ) (lead : List ℕ) : Type 0 where
  pub is : IsRow field width lead
  pub within : column < rate
  pub unmarked : slice_index_or marks column false ≡ false
  pub one : slice_index lead column ≡ 1
  pub zeros : (p : ℕ) → p < rate → slice_index_or marks p false ≡ true → slice_index lead p ≡ 0

-- rows, made zero at a column by the row that leads there
abbrev pub cleared_by : FieldKind → ℕ → List ℕ → List (List ℕ) → List (List ℕ)
cleared_by field column lead rows = map (λ row. add_rows row (scale_row field (slice_index row column) lead)) rows

-- the same with that row as the column's own
abbrev pub with_lead : FieldKind → ℕ → List ℕ → List (List ℕ) → List (List ℕ)
with_lead field column lead rows = set (cleared_by field column lead rows) column lead

-- a row that leads at a new column is left of one that isn't a sum of the vectors
pub record IsNewLead (field : FieldKind) (width rate : ℕ) (marks : List Bool) (rows : List (List ℕ)) (row : List ℕ) (column : ℕ) (lead : List ℕ) : Type 0 where
  pub leads : IsLead field width rate marks column lead
  pub raises : ¬ IsSum field rate (vectors rate rows) (take rate row)
  pub sums : HaveSameSums field width (lead ∷ rows) (row ∷ rows)

-- what a span holds: rows of so many bytes that are reduced, and how many of them are kept
pub record IsHeld (field : FieldKind) (bytes rate rank : ℕ) (marks : List Bool) (rows : List (List ℕ)) : Type 0 where
  pub low_rate : rate ≤ 32
  pub long : 64 ≤ bytes
  pub short : bytes ≤ 4096
  pub even : bytes % 2 ≡ 0
  pub reduced : AreReduced field (width_in field bytes) rate marks rows
  pub rank_is : rank ≡ length (kept marks rows)
