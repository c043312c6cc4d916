-- Laws of sums of the rows that are held for links.
use Rattle.std.specs.Prelude.{◌≡◌, ◌<◌, ◌≤◌, ◌+◌, ◌*◌, ◌/◌, ℕ, Bool, true, false, List, [], ◌∷◌, ◌++◌, length, map, take, drop, if◌then◌else◌}
use Rattle.std.specs.List.{concat, range_with_len}
use Rattle.std.proofs.Common.{arith, refl, sym, ap, ◌∙◌, get_or, add-one}
use Rattle.std.proofs.lemmas.List.{append-nil, length-replicate, length-take-le}
use Rattle.std.proofs.lemmas.Slice.{take-put_mid}
use borrow.Rule.Slice.PartMut.{put_mid}
use Rattle.std.proofs.lemmas.List.Folds.{concat-append}
use Rattle.std.proofs.lemmas.List.FromFn.{get_or-map-range_with_len, length-map-range_with_len, map-range_with_len_more}
use Rattle.std.proofs.lemmas.Simd.{map-map}
use Rattle.gf_tables.specs.Product.{bytes_of_element, bytes_of_width, size_of, width_of}
use Rattle.gf_tables.specs.declared.kind.FieldKind.{FieldKind}
use Rattle.gf_tables.specs.declared.kind.Width.TheVariants.{One, Two}
use Rattle.linear_algebra.proofs.CombinationLaws.{combination-take_more}
use Rattle.linear_algebra.proofs.ElementsLaws.{bytes_of_row-append, elements_of-append, length-elements_of}
use Rattle.linear_algebra.proofs.RowLaws.{add_rows-zero_row, scale_row-zero_row}
use Rattle.linear_algebra.specs.Elements.{bytes_of_numbers, bytes_of_row, elements_of}
use Rattle.linear_algebra.specs.Matrices.{matrix_times}
use Rattle.linear_algebra.specs.Rows.{add_rows, combination, scale_row, zero_row}
use Rattle.generation_frame.specs.Blocks.{row_bytes}
use Rattle.held_rows.specs.Held.{Held, row_of}
use Rattle.coded_traffic.proofs.RowLaws.{row_bytes-row_width}
use Rattle.coded_traffic.specs.CodeBlocks.{row_width}
use Rattle.sink_decoder.specs.Sums.{value_held, values_held}

-- the sum of the rows of the links before a place
abbrev pub sum_before : FieldKind → List ℕ → List Bool → Held → ℕ → List ℕ
sum_before field coefficients live held place =
    combination field (row_width field) (take place coefficients) (take place (values_held field live held))

module _ (field : FieldKind) (coefficients : List ℕ) (live : List Bool) (held : Held) (place : ℕ) (below : place < length coefficients) (within : place < length live) where
  -- what counts for the link at a place
  here : get_or (values_held field live held) place [] ≡ value_held field live held place
  here = get_or-map-range_with_len (value_held field live held) 0 (length live) place place [] within (omega arith)

  -- the sum of one more row
  more : length (value_held field live held place) ≡ row_width field
      → sum_before field coefficients live held (place + 1)
      ≡ add_rows (sum_before field coefficients live held place) (scale_row field (get_or coefficients place 0) (value_held field live held place))
  more long =
      let values = values_held field live held in
      let among : place < length values = omega (arith, within, length-map-range_with_len (value_held field live held) 0 (length live)) in
      ap (sum_before field coefficients live held) (add-one place)
      ∙ combination-take_more field (row_width field) place coefficients values below among (ap (length {A = ℕ}) here ∙ long)
      ∙ ap (λ (row : List ℕ). add_rows (sum_before field coefficients live held place) (scale_row field (get_or coefficients place 0) row)) here

  -- the row of a live link was added
  pub sum_before-live : (row into now : List ℕ) → get_or live place false ≡ true → row ≡ row_of held place → length row ≡ row_bytes
      → elements_of field now ≡ add_rows (elements_of field into) (scale_row field (get_or coefficients place 0) (elements_of field row))
      → elements_of field into ≡ sum_before field coefficients live held place
      → elements_of field now ≡ sum_before field coefficients live held (place + 1)
  sum_before-live row into now is_live is long made so_far =
      let value : value_held field live held place ≡ elements_of field row =
      ap (λ (test : Bool). if test then elements_of field (row_of held place) else zero_row (row_width field)) is_live ∙ ap (elements_of field) (sym is) in
      made
      ∙ ap (λ (sum : List ℕ). add_rows sum (scale_row field (get_or coefficients place 0) (elements_of field row))) so_far
      ∙ ap (λ (added : List ℕ). add_rows (sum_before field coefficients live held place) (scale_row field (get_or coefficients place 0) added)) (sym value)
      ∙ sym (more (ap (length {A = ℕ}) value ∙ length-elements_of field (row_width field) row (long ∙ row_bytes-row_width field)))

  -- a link that isn't live adds nothing
  pub sum_before-dead : (into : List ℕ) → get_or live place false ≡ false → get_or coefficients place 0 < size_of field → length into ≡ row_bytes
      → elements_of field into ≡ sum_before field coefficients live held place
      → elements_of field into ≡ sum_before field coefficients live held (place + 1)
  sum_before-dead into dead small long so_far =
      let width = row_width field in
      let before = sum_before field coefficients live held place in
      let wide : length before ≡ width = ap (length {A = ℕ}) (sym so_far) ∙ length-elements_of field width into (long ∙ row_bytes-row_width field) in
      let value : value_held field live held place ≡ zero_row width =
      ap (λ (test : Bool). if test then elements_of field (row_of held place) else zero_row width) dead in
      let nothing : scale_row field (get_or coefficients place 0) (value_held field live held place) ≡ zero_row (length before) =
      ap (scale_row field (get_or coefficients place 0)) value ∙ scale_row-zero_row field (get_or coefficients place 0) width small ∙ ap zero_row (sym wide) in
      let long_value : length (value_held field live held place) ≡ width = ap (length {A = ℕ}) value ∙ length-replicate width 0 in
      so_far ∙ sym (more long_value ∙ ap (add_rows before) nothing ∙ add_rows-zero_row before)

module _ (field : FieldKind) (rate : ℕ) (entries : List ℕ) (values : List (List ℕ)) where
  -- one row that a matrix makes
  abbrev pub row_made : ℕ → List ℕ
  row_made i = combination field (row_width field) (take rate (drop (i * rate) entries)) values

  -- the first rows, one after another
  abbrev pub rows_before : ℕ → List ℕ
  rows_before i = concat (map row_made (range_with_len 0 i))

  pub rows_before-more : (i : ℕ) → rows_before (i + 1) ≡ rows_before i ++ row_made i
  rows_before-more i =
      ap (λ (rows : List (List ℕ)). concat rows) (map-range_with_len_more row_made 0 i i (omega arith))
      ∙ concat-append (map row_made (range_with_len 0 i)) (row_made i ∷ [])
      ∙ ap (λ (row : List ℕ). rows_before i ++ row) (append-nil (row_made i))

  -- all rows
  pub rows_before-all : rows_before rate ≡ concat (matrix_times field (row_width field) rate entries values)
  rows_before-all =
      ap (λ (rows : List (List ℕ)). concat rows)
      (sym (map-map (λ (c : List ℕ). combination field (row_width field) c values) (λ i. take rate (drop (i * rate) entries)) (range_with_len 0 rate)))

-- so many rows of bytes are so many rows of elements
pub whole_rows : (field : FieldKind) (i : ℕ) → i * row_bytes ≡ bytes_of_element field * (i * row_width field)
whole_rows field i =
    elim (width_of field) as (λ width. i * row_bytes ≡ bytes_of_width width * (i * (row_bytes / bytes_of_width width))) [
      | One ↦ omega arith
      | Two ↦ omega arith
    ]

-- the elements of rows of which one more was written
pub elements_of-written : (field : FieldKind) (i k : ℕ) (rows row : List ℕ) → i * row_bytes ≤ length rows → length row ≡ row_bytes
    → elements_of field (take ((i + 1) * row_bytes) (put_mid (i * row_bytes) k rows row)) ≡ elements_of field (take (i * row_bytes) rows) ++ elements_of field row
elements_of-written field i k rows row within wide =
    ap (elements_of field) (take-put_mid (i * row_bytes) k rows row ((i + 1) * row_bytes) (omega (arith, wide)) within)
    ∙ elements_of-append field (i * row_width field) (take (i * row_bytes) rows) row (length-take-le (i * row_bytes) rows within ∙ whole_rows field i)

-- the bytes of rows, one after another
pub bytes_of_row-concat : (field : FieldKind) (rows : List (List ℕ)) → bytes_of_row field (concat rows) ≡ concat (map (bytes_of_row field) rows)
bytes_of_row-concat field [] = elim (width_of field) as (λ width. bytes_of_numbers width [] ≡ []) [ One ↦ refl | Two ↦ refl ]
bytes_of_row-concat field (row ∷ rows) = bytes_of_row-append field row (concat rows) ∙ ap (λ (rest : List ℕ). bytes_of_row field row ++ rest) (bytes_of_row-concat field rows)
