-- Rows of a piece with the vectors that they came with, and the blocks that they admit.
use Rattle.std.specs.Prelude.{◌≡◌, ◌↔◌, ◌<◌, ℕ, List, [], length, map, slice_index_or}
use Rattle.std.specs.List.{AllByRecursion}
use Rattle.generation_frame.specs.Blocks.{piece_bytes, piece_of_row, pieces, row_bytes}
use Rattle.gf_tables.specs.declared.kind.FieldKind.{FieldKind}
use Rattle.linear_algebra.specs.Elements.{AreBytes, elements_of}
use Rattle.linear_algebra.specs.Rows.{combination, AreRows}
use Rattle.field_rows.specs.Widths.{width_in}

-- a row of a piece, as elements: a vector, and the payload that came with it
pub record CodedRow : Type 0 where
  pub vector : List ℕ
  pub payload : List ℕ

-- the vectors of rows
abbrev pub vectors_of : List CodedRow → List (List ℕ)
vectors_of rows = map (λ row. row.vector) rows

-- their payloads
abbrev pub payloads_of : List CodedRow → List (List ℕ)
payloads_of rows = map (λ row. row.payload) rows

-- the row of a vector and of bytes that came with it
abbrev pub row_of_bytes : FieldKind → List ℕ → List ℕ → CodedRow
row_of_bytes field vector bytes = record { vector = vector; payload = elements_of field bytes }

-- how many elements a payload has
abbrev pub payload_width : FieldKind → ℕ
payload_width field = width_in field piece_bytes

-- a sum of multiples of rows, their vectors and payloads alike
abbrev pub combination_of : FieldKind → ℕ → List ℕ → List CodedRow → CodedRow
combination_of field rate coefficients rows =
    record {
      vector = combination field rate coefficients (vectors_of rows);
      payload = combination field (payload_width field) coefficients (payloads_of rows);
    }

-- a row admits what a block has of a piece: its payload is the combination of the block's rows with the row's vector
abbrev pub Admits : FieldKind → List (List ℕ) → CodedRow → Type 0
Admits field block row = combination field (payload_width field) row.vector block ≡ row.payload

-- what a block of so many rows has of a piece
pub record IsPieceOfBlock (field : FieldKind) (rate : ℕ) (block : List (List ℕ)) : Type 0 where
  pub count : length block ≡ rate
  pub rows : AreRows field (payload_width field) block

-- two lists of rows admit the same of blocks
abbrev pub AdmitTheSame : FieldKind → ℕ → List CodedRow → List CodedRow → Type 0
AdmitTheSame field rate rows others =
    (block : List (List ℕ)) → IsPieceOfBlock field rate block → AllByRecursion (Admits field block) rows ↔ AllByRecursion (Admits field block) others

-- what is kept: of each piece rows whose vectors have as many elements as the rate
pub record Holding : Type 0 where
  pub field : FieldKind
  pub rate : ℕ
  pub pieces : List (List CodedRow)

-- the rows kept of a piece
abbrev pub rows_of_piece : Holding → ℕ → List CodedRow
rows_of_piece holding piece = slice_index_or holding.pieces piece []

-- what a block has of a piece, as elements
abbrev pub piece_of_block : FieldKind → List (List ℕ) → ℕ → List (List ℕ)
piece_of_block field block piece = map (λ row. elements_of field (piece_of_row row piece)) block

-- a row of a block, as bytes
pub record IsBlockRow (row : List ℕ) : Type 0 where
  pub count : length row ≡ row_bytes
  pub bytes : AreBytes row

-- the rows of a block, as bytes, so many as the rate, which the rows kept of all pieces admit
pub record IsAdmitted (holding : Holding) (block : List (List ℕ)) : Type 0 where
  pub count : length block ≡ holding.rate
  pub rows : AllByRecursion IsBlockRow block
  pub admitted : (piece : ℕ) → piece < pieces → AllByRecursion (Admits holding.field (piece_of_block holding.field block piece)) (rows_of_piece holding piece)

-- as many rows are kept of each piece as the rate
abbrev pub IsWhole : Holding → Type 0
IsWhole holding = (piece : ℕ) → piece < pieces → length (rows_of_piece holding piece) ≡ holding.rate
