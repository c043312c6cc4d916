-- Laws of the rows of elements that the bytes of a block are.
use Rattle.std.specs.Prelude.{◌≡◌, ℕ, ◌<◌, ◌≤◌, List, [], ◌∷◌, length, map}
use Rattle.std.specs.List.{All, concat}
use Rattle.std.proofs.Common.{arith, refl, sym, ap, ◌∙◌, subst, get_or}
use Rattle.std.proofs.lemmas.List.{length-map, get_or-map}
use Rattle.std.proofs.lemmas.List.Elements.{All-from_get_or, All-head, All-tail, recursion_from_All}
use Rattle.std.proofs.lemmas.Option.{unwrap_or-slice_get}
use Rattle.field_rows.specs.Bytes.{elements_of, bytes_of_elements}
use Rattle.gf_tables.specs.declared.kind.FieldKind.{FieldKind}
use Rattle.linear_algebra.proofs.EntryLaws.{get_or-rows_of, concat-rows_of}
use Rattle.linear_algebra.specs.Matrices.{rows_of}
use Rattle.linear_algebra.proofs.MatrixLaws.{length-rows_of}
use Rattle.linear_algebra.specs.Rows.{AreRows, IsRow}
use Rattle.node_program.proofs.BlockLaws.{IsBlock-rows}
use Rattle.node_program.specs.Decoding.{IsBlock}
use Rattle.node_program.specs.Value.{row_at, width_of}
use Rattle.node_program.specs.declared.code.Code.{Code}
use Rattle.generation_frame.specs.Blocks.{row_bytes}
use Rattle.coded_traffic.specs.CodeBlocks.{block_elements, row_width, elements_at, IsBlockOf}
use Rattle.coded_traffic.proofs.RowLaws.{row_lies_within, row_of-back, elements_at-IsRow}

-- as many rows of elements as the rate
pub length-block_elements : (code : Code) (block : List ℕ) → length (block_elements code block) ≡ code.rate
length-block_elements code block =
    length-map (rows_of code.rate row_bytes block) (elements_of code.field) ∙ length-rows_of code.rate row_bytes block

-- a row of elements of a block
pub get_or-block_elements : (code : Code) (block : List ℕ) (i : ℕ) → i < code.rate → get_or (block_elements code block) i [] ≡ elements_at code.field block i
get_or-block_elements code block i below =
    let within : i < length (rows_of code.rate row_bytes block) = omega (arith, below, length-rows_of code.rate row_bytes block) in
    get_or-map (elements_of code.field) (rows_of code.rate row_bytes block) i [] [] within
    ∙ ap (elements_of code.field) (get_or-rows_of code.rate row_bytes i block below)

-- the same, as operands name it
pub row_at-block_elements : (code : Code) (block : List ℕ) (i : ℕ) → i < code.rate → row_at (block_elements code block) i ≡ elements_at code.field block i
row_at-block_elements code block i below = unwrap_or-slice_get (block_elements code block) i [] ∙ get_or-block_elements code block i below

-- the rows of elements of a block have one width
pub AreRows-block_elements : (code : Code) (block : List ℕ) → IsBlockOf code block → AreRows code.field (row_width code.field) (block_elements code block)
AreRows-block_elements code block is =
    let Row : List ℕ → Type 0 = IsRow code.field (row_width code.field) in
    recursion_from_All Row (block_elements code block) (All-from_get_or Row (block_elements code block) [] (λ i within.
    let below : i < code.rate = omega (arith, within, length-block_elements code block) in
    subst Row (sym (get_or-block_elements code block i below))
    (elements_at-IsRow code.field block i is.bytes (row_lies_within block code.rate i is.size below))))

-- the width of rows of one width
width_of-rows : (field : FieldKind) (width : ℕ) (rows : List (List ℕ)) → 1 ≤ length rows → AreRows field width rows → width_of rows ≡ width
width_of-rows field width [] some h = absurd (omega arith)
width_of-rows field width (row ∷ rows) some h = h.0.width

-- which is the width of a row
pub width_of-block_elements : (code : Code) (block : List ℕ) → IsBlockOf code block → width_of (block_elements code block) ≡ row_width code.field
width_of-block_elements code block is =
    width_of-rows code.field (row_width code.field) (block_elements code block)
    (omega (arith, length-block_elements code block, code.code.draft.some_rate)) (AreRows-block_elements code block is)

-- the bytes of a block are rows of elements of one width
pub IsBlock-block_elements : (code : Code) (block : List ℕ) → IsBlockOf code block → IsBlock code.field code.rate (block_elements code block)
IsBlock-block_elements code block is =
    IsBlock-rows code.field code.rate (row_width code.field) (block_elements code block) (length-block_elements code block)
    (width_of-block_elements code block is) (AreRows-block_elements code block is)

-- rows of bytes that their elements give back
each_back : (field : FieldKind) (rows : List (List ℕ)) → All (λ row. bytes_of_elements field (elements_of field row) ≡ row) rows
    → map (bytes_of_elements field) (map (elements_of field) rows) ≡ rows
each_back field [] back = refl
each_back field (row ∷ rows) back =
    let Back : List ℕ → Type 0 = λ row. bytes_of_elements field (elements_of field row) ≡ row in
    rw (All-head Back row rows back, each_back field rows (All-tail Back row rows back)) refl

-- the rows of elements of a block give back its bytes
pub bytes_of-block_elements : (code : Code) (block : List ℕ) → IsBlockOf code block → concat (map (bytes_of_elements code.field) (block_elements code block)) ≡ block
bytes_of-block_elements code block is =
    let Back : List ℕ → Type 0 = λ row. bytes_of_elements code.field (elements_of code.field row) ≡ row in
    let back : All Back (rows_of code.rate row_bytes block) = All-from_get_or Back (rows_of code.rate row_bytes block) [] (λ i within.
    let below : i < code.rate = omega (arith, within, length-rows_of code.rate row_bytes block) in
    subst Back (sym (get_or-rows_of code.rate row_bytes i block below))
    (row_of-back code.field block i is.bytes (row_lies_within block code.rate i is.size below))) in
    ap (λ (rows : List (List ℕ)). concat rows) (each_back code.field (rows_of code.rate row_bytes block) back) ∙ concat-rows_of code.rate row_bytes block is.size
