-- How the rows of each piece are held, by a span of rows of 192 bytes: 64 for the vector, with zeros behind it, and the
-- payload.
use Rattle.std.specs.Prelude.{◌≡◌, ◌≤◌, ◌-◌, ◌↔◌, ℕ, suc, Bool, true, false, List, [], ◌∷◌, ◌++◌, All, replicate, length, map, take, drop}
use Rattle.generation_frame.specs.Blocks.{pieces}
use Rattle.gf_tables.specs.Product.{bytes_of_element}
use Rattle.gf_tables.specs.declared.kind.FieldKind.{FieldKind}
use Rattle.linear_algebra.specs.Elements.{bytes_of_numbers}
use Rattle.linear_algebra.specs.Rows.{AreRows}
use Rattle.row_spans.specs.Spans.{HaveSameSums, IsSum, Span}
use Rattle.field_rows.specs.Widths.{width_in}
use Rattle.vector_headers.specs.Heads.{width_of_bytes}
use Rattle.vector_headers.specs.Rows.{AdmitTheSame, CodedRow, Holding, rows_of_piece, vectors_of}
use Rattle.vector_headers.specs.declared.blind.Gain.{Gain}
use Rattle.vector_headers.specs.declared.blind.Gain.TheVariants.{Raised, Same}

-- the bytes of a held row, and those for its vector
abbrev pub held_bytes : ℕ
held_bytes = 192

abbrev pub vector_bytes : ℕ
vector_bytes = 64

-- the vector and the payload of a held row
abbrev pub coded : FieldKind → ℕ → List ℕ → CodedRow
coded field rate row = record { vector = take rate row; payload = drop (width_in field vector_bytes) row }

-- what the spans of all pieces hold
abbrev pub holding_of : FieldKind → ℕ → List Span → Holding
holding_of field rate spans =
    record {
      field = field;
      rate = rate;
      pieces = map (λ span. map (coded field rate) span.rows) spans;
    }

-- the span of a piece
pub record IsHeldSpan (field : FieldKind) (rate : ℕ) (span : Span) : Type 0 where
  pub same_field : span.field ≡ field
  pub same_rate : span.rate ≡ rate
  pub are : AreRows field (width_in field held_bytes) span.rows

-- the spans of all pieces
pub record AreHeldSpans (bytes : ℕ) (field : FieldKind) (rate : ℕ) (spans : List Span) : Type 0 where
  pub wide : bytes ≡ bytes_of_element field
  pub some_rate : 1 ≤ rate
  pub low_rate : rate ≤ 32
  pub count : length spans ≡ pieces
  pub each : All (IsHeldSpan field rate) spans

-- the spans of all pieces, with no rows
abbrev pub opened : FieldKind → ℕ → List Span
opened field rate = replicate pieces (record { field = field; rate = rate; rows = [] })

-- a span without its rows
abbrev pub emptied : Span → Span
emptied span = record { field = span.field; rate = span.rate; rows = [] }

-- the bytes of a held row
abbrev pub held_row : ℕ → List ℕ → List ℕ → List ℕ
held_row bytes vector payload =
    let made = bytes_of_numbers (width_of_bytes bytes) vector in
    (made ++ replicate (vector_bytes - length made) 0) ++ payload

-- the rows of a span
abbrev pub coded_rows : Span → List CodedRow
coded_rows span = map (coded span.field span.rate) span.rows

-- what a row brings, by whether it raised the rank
abbrev pub gain_of : Bool → Gain
gain_of true = Raised
gain_of false = Same

-- a row came to those kept of its piece
pub record IsTaken (field : FieldKind) (rate : ℕ) (old new : List CodedRow) (row : CodedRow) (gain : Gain) : Type 0 where
  pub raised : gain ≡ Raised ↔ ¬ IsSum field rate (vectors_of old) row.vector
  pub spans : HaveSameSums field rate (vectors_of new) (row.vector ∷ vectors_of old)
  pub count : gain ≡ Raised → length new ≡ suc (length old)
  pub admits : gain ≡ Raised → AdmitTheSame field rate new (row ∷ old)

-- a span shows what is held of a piece
pub record Shows (holding : Holding) (piece : ℕ) (span : Span) : Type 0 where
  pub same_field : span.field ≡ holding.field
  pub same_rate : span.rate ≡ holding.rate
  pub low_rate : span.rate ≤ 32
  pub are : AreRows span.field (width_in span.field held_bytes) span.rows
  pub shown : coded_rows span ≡ rows_of_piece holding piece
