-- Laws of blocks. A block is a matrix with as many rows as the rate, and the block of the unit vectors is the identity.
use Rattle.std.specs.Prelude.{◌≡◌, ℕ, zero, suc, ◌<◌, ◌==◌, List, [], ◌∷◌, length, map, if◌then◌else◌}
use Rattle.std.proofs.Common.{refl, sym, ◌∙◌, subst, arith}
use Rattle.std.proofs.lemmas.List.{length-map}
use Rattle.std.proofs.lemmas.List.FromFn.{length-map-range_with_len, get_or-map-range_with_len}
use Rattle.std.proofs.lemmas.Option.{unwrap_or-slice_get}
use Rattle.gf_tables.specs.Product.{size_of}
use Rattle.gf_tables.specs.declared.kind.FieldKind.{FieldKind}
use Rattle.linear_algebra.specs.Matrices.{identity, add_blocks}
use Rattle.linear_algebra.proofs.MatrixLaws.{identity-AreRows, length-identity, add_blocks-AreRows, length-add_blocks}
use Rattle.linear_algebra.proofs.RowLaws.{AreRows-from_All, AreRows-widths, AreRows-elements, AreRows-map-scale_row, length-add_rows, length-scale_row}
use Rattle.linear_algebra.specs.Rows.{scale_row, unit_row, AreRows}
use Rattle.node_program.specs.Decoding.{IsBlock}
use Rattle.node_program.specs.Value.{width_of, row_at}

-- a block is a matrix
pub AreRows-block : {field : FieldKind} {rate : ℕ} {block : List (List ℕ)} → IsBlock field rate block → AreRows field (width_of block) block
AreRows-block {field} {rate} {block} is = AreRows-from_All field (width_of block) block is.widths is.elements

-- a matrix of a width is a block
pub IsBlock-rows : (field : FieldKind) (rate width : ℕ) (rows : List (List ℕ)) → length rows ≡ rate → width_of rows ≡ width → AreRows field width rows → IsBlock field rate rows
IsBlock-rows field rate width rows same wide h =
    let Fits : ℕ → Type 0 = λ n. AreRows field n rows in
    let fits : AreRows field (width_of rows) rows = subst Fits (sym wide) h in
    record {
      rows = same;
      widths = AreRows-widths field (width_of rows) rows fits;
      elements = AreRows-elements field (width_of rows) rows fits;
    }

-- the width of the identity
pub width_of-identity : (size : ℕ) → width_of (identity size) ≡ size
width_of-identity zero = refl
width_of-identity (suc size) = length-map-range_with_len (λ j. if 0 == j then 1 else 0) 0 (suc size)

-- the identity is a block
pub IsBlock-identity : (field : FieldKind) (rate : ℕ) → IsBlock field rate (identity rate)
IsBlock-identity field rate = IsBlock-rows field rate rate (identity rate) (length-identity rate) (width_of-identity rate) (identity-AreRows field rate)

-- a row of the identity
pub row_at-identity : (size i : ℕ) → i < size → row_at (identity size) i ≡ unit_row size i
row_at-identity size i below =
    unwrap_or-slice_get (identity size) i [] ∙ get_or-map-range_with_len (unit_row size) 0 size i i [] below (omega arith)

-- the width of sums of rows
pub width_of-add_blocks : (rows others : List (List ℕ)) → length rows ≡ length others → width_of rows ≡ width_of others
    → width_of (add_blocks rows others) ≡ width_of others
width_of-add_blocks [] [] same wide = refl
width_of-add_blocks [] (other ∷ others) same wide = absurd (omega arith)
width_of-add_blocks (row ∷ rows) [] same wide = absurd (omega arith)
width_of-add_blocks (row ∷ rows) (other ∷ others) same wide = length-add_rows row other wide

-- the sums of the rows of two blocks of one width are a block
pub IsBlock-add_blocks : {field : FieldKind} {rate : ℕ} {block other : List (List ℕ)} → IsBlock field rate block → IsBlock field rate other
    → width_of block ≡ width_of other → IsBlock field rate (add_blocks block other)
IsBlock-add_blocks {field} {rate} {block} {other} is is_other wide =
    let same : length block ≡ length other = is.rows ∙ sym is_other.rows in
    let Fits : ℕ → Type 0 = λ width. AreRows field width block in
    IsBlock-rows field rate (width_of other) (add_blocks block other)
    (length-add_blocks block other same ∙ is_other.rows)
    (width_of-add_blocks block other same wide)
    (add_blocks-AreRows field (width_of other) block other (subst Fits wide (AreRows-block is)) (AreRows-block is_other))

-- the width of multiples of rows
pub width_of-map-scale_row : (field : FieldKind) (times : ℕ) (rows : List (List ℕ)) → width_of (map (scale_row field times) rows) ≡ width_of rows
width_of-map-scale_row field times [] = refl
width_of-map-scale_row field times (row ∷ rows) = length-scale_row field times row

-- the multiples of the rows of a block by one element are a block
pub IsBlock-map-scale_row : {field : FieldKind} {rate : ℕ} {block : List (List ℕ)} → IsBlock field rate block
    → (times : ℕ) → times < size_of field → IsBlock field rate (map (scale_row field times) block)
IsBlock-map-scale_row {field} {rate} {block} is times below =
    IsBlock-rows field rate (width_of block) (map (scale_row field times) block)
    (length-map block (scale_row field times) ∙ is.rows)
    (width_of-map-scale_row field times block)
    (AreRows-map-scale_row field (width_of block) times block below (AreRows-block is))
