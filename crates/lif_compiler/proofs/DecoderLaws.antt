-- Laws of the decoder of a basis: its matrix times the vectors of its links is the identity, and it gives back every
-- block.
use Rattle.std.specs.Prelude.{◌≡◌, ℕ, zero, suc, ◌*◌, ◌<◌, ◌==◌, bit_xor, Some, List, [], ◌∷◌, length, map, slice_get, slice_index, slice_index_or, if◌then◌else◌}
use Rattle.std.specs.Int.Bits.{xor_assoc, xor_self, xor_zero_r}
use Rattle.std.specs.List.{All, range_with_len, swap}
use Rattle.std.specs.List.Sorted.{IsPermutation}
use Rattle.std.proofs.Common.{refl, sym, ap, ◌∙◌, arith, get_or, set, length-set, get_or-set_same, get_or-set_other, inl, inr}
use Rattle.std.proofs.lemmas.Bool.{cases_eq}
use Rattle.std.proofs.lemmas.List.{length-map, get_or-map, ext_get_or}
use Rattle.std.proofs.lemmas.List.Edits.{swap_is}
use Rattle.std.proofs.lemmas.List.Elements.{All-map, All-weaker, recursion_from_All}
use Rattle.std.proofs.lemmas.List.FromFn.{fill_by_all, get_or-range_with_len, get_or-map-range_with_len, length-map-range_with_len, length-range_with_len}
use Rattle.std.proofs.lemmas.List.Sorted.{All-permutation, IsPermutation-keeps, length_permutation}
use Rattle.std.proofs.lemmas.Nat.{xor_comm}
use Rattle.std.proofs.lemmas.Simd.{map-map}
use Rattle.gf_tables.specs.Product.{product}
use Rattle.gf_tables.specs.declared.kind.FieldKind.{FieldKind}
use Rattle.net_model.specs.Demands.{demand_count, pattern_of_demand}
use Rattle.linear_algebra.proofs.EntryLaws.{rows_of-AreRows, slice_index-rows_of}
use Rattle.linear_algebra.specs.Matrices.{column, identity, rows_of, times_rows}
use Rattle.linear_algebra.proofs.MatrixLaws.{length-column, length-rows_of, times_rows-columns}
use Rattle.linear_algebra.proofs.RowLaws.{AreRows-get_or}
use Rattle.linear_algebra.specs.Rows.{AreElements, AreRows, IsRow, dot, unit_row}
use Rattle.node_program.specs.CodeValue.{vector_in}
use Rattle.node_program.specs.Decoding.{IsAccepted, decoder_matrix, decoder_vectors}
use Rattle.node_program.proofs.DecodingLaws.{IsAccepted-identity, decoder_of_demand}
use Rattle.node_program.specs.declared.Decoder.{Decoder}
use Rattle.node_program.specs.declared.code.Code.{Code}
use Rattle.lif_compiler.specs.Decoders.{AreInverse, AreInverseEntries, IsBasisDecoder}

-- a summand and a later one change places
xor-outer : (a b c : ℕ) → bit_xor (bit_xor a b) c ≡ bit_xor (bit_xor c b) a
xor-outer a b c = xor_assoc a b c ∙ xor_comm a (bit_xor b c) ∙ ap (λ n. bit_xor n a) (xor_comm b c)

-- sums that are equal with one more summand are equal
xor-cancel : (a b c : ℕ) → bit_xor a c ≡ bit_xor b c → a ≡ b
xor-cancel a b c same =
    let without : (n : ℕ) → bit_xor (bit_xor n c) c ≡ n = λ n. xor_assoc n c c ∙ ap (bit_xor n) (xor_self c) ∙ xor_zero_r n in
    sym (without a) ∙ ap (λ n. bit_xor n c) same ∙ without b

module _ (field : FieldKind) (f g : ℕ → ℕ) where
  -- the sum of the products of what two functions give for each item of a list
  abbrev total : List ℕ → ℕ
  total xs = dot field (map f xs) (map g xs)

  -- one of the products
  abbrev summand : ℕ → ℕ
  summand x = product field (f x) (g x)

  -- with another item at one place
  total-set : (xs : List ℕ) (i v : ℕ) → i < length xs → bit_xor (total (set xs i v)) (summand (get_or xs i 0)) ≡ bit_xor (total xs) (summand v)
  total-set [] i v below = absurd (omega arith)
  total-set (x ∷ xs) zero v below = xor-outer (summand v) (total xs) (summand x)
  total-set (x ∷ xs) (suc i) v below =
      xor_assoc (summand x) (total (set xs i v)) (summand (get_or xs i 0))
      ∙ ap (bit_xor (summand x)) (total-set xs i v (omega arith))
      ∙ sym (xor_assoc (summand x) (total xs) (summand v))

  -- with two items in each other's place
  total-swap : (xs : List ℕ) (i j : ℕ) → i < length xs → j < length xs → total (swap xs i j) ≡ total xs
  total-swap xs i j below inside =
      let moved = set xs i (get_or xs j 0) in
      let there : get_or moved j 0 ≡ get_or xs j 0 = elim (cases_eq j i) [
        | inl here ↦ ap (λ k. get_or moved k 0) here ∙ get_or-set_same xs i (get_or xs j 0) 0 below
        | inr apart ↦ get_or-set_other xs i j (get_or xs j 0) 0 apart
      ] in
      let within : j < length moved = omega (arith, length-set xs i (get_or xs j 0)) in
      ap total (sym (swap_is xs i j 0 below inside))
      ∙ xor-cancel (total (set moved j (get_or xs i 0))) (total xs) (summand (get_or xs j 0))
      (ap (λ k. bit_xor (total (set moved j (get_or xs i 0))) (summand k)) (sym there)
      ∙ total-set moved j (get_or xs i 0) within
      ∙ total-set xs i (get_or xs j 0) below)

  -- with the items in another order
  total-permutation : (xs ys : List ℕ) → IsPermutation xs ys → total ys ≡ total xs
  total-permutation xs ys permuted =
      IsPermutation-keeps xs (λ zs. total zs ≡ total xs) refl (λ zs i j below inside same. total-swap zs i j below inside ∙ same) ys permuted

-- there are as many links as paths
path_count : {rate : ℕ} {inverses : List (List ℕ)} {paths entries : List ℕ} → AreInverseEntries rate inverses paths entries → length paths ≡ rate
path_count {rate} {inverses} {paths} made = length_permutation (range_with_len 0 rate) paths made.each_path ∙ length-range_with_len 0 rate

module _ {field : FieldKind} {rate : ℕ} {vectors inverses : List (List ℕ)} {paths entries : List ℕ}
    (basis : AreInverse field rate vectors inverses) (made : AreInverseEntries rate inverses paths entries)
    (entry_count : length entries ≡ rate * rate) (elements : AreElements field entries) where
  -- the matrix
  abbrev matrix : List (List ℕ)
  matrix = rows_of rate rate entries

  -- the vectors of the links
  abbrev link_vectors : List (List ℕ)
  link_vectors = map (λ k. slice_index_or vectors k []) paths

  -- each link lies on a path
  each_below : All (λ k. k < rate) paths
  each_below =
      All-permutation (λ k. k < rate) (range_with_len 0 rate) paths made.each_path
      (λ k d within. let below : k < rate = omega (arith, length-range_with_len 0 rate) in omega (arith, get_or-range_with_len 0 rate k d below))

  -- the matrix is one of elements
  matrix_rows : AreRows field rate matrix
  matrix_rows = rows_of-AreRows field rate rate entries (omega arith) elements

  -- so are the vectors
  link_rows : AreRows field rate link_vectors
  link_rows =
      recursion_from_All (IsRow field rate) link_vectors
      (All-map (IsRow field rate) (λ k. slice_index_or vectors k []) paths
      (All-weaker (λ k. k < rate) (λ k. IsRow field rate (slice_index_or vectors k []))
      (λ k below. AreRows-get_or field rate k vectors (omega (arith, basis.vectors_high)) basis.vector_rows) paths each_below))

  -- a row of the matrix has a place of the inverse vector of each link's path
  matrix_row : (i : ℕ) → i < rate → get_or matrix i [] ≡ map (λ k. slice_index (slice_index_or inverses k []) i) paths
  matrix_row i below =
      let high : i < length matrix = omega (arith, length-rows_of rate rate entries) in
      let wide = (AreRows-get_or field rate i matrix high matrix_rows).width in
      let long = length-map paths (λ k. slice_index (slice_index_or inverses k []) i) in
      ext_get_or 0 (get_or matrix i []) (map (λ k. slice_index (slice_index_or inverses k []) i) paths) (wide ∙ sym (long ∙ path_count made))
      (λ j within.
      let inside : j < rate = omega (arith, wide) in
      slice_index-rows_of rate rate i j entries below inside
      ∙ made.entry i j below inside
      ∙ sym (get_or-map (λ k. slice_index (slice_index_or inverses k []) i) paths j 0 0 (omega (arith, path_count made))))

  -- the values that rows have at one place, by the numbers of the rows
  column_by_number : (rows : List (List ℕ)) (i : ℕ) → length rows ≡ rate → column i rows ≡ map (λ k. slice_index (slice_index_or rows k []) i) (range_with_len 0 rate)
  column_by_number rows i high =
      fill_by_all (λ k. slice_index (slice_index_or rows k []) i) (column i rows) rate 0 (length-column i rows ∙ high)
      (λ k below. get_or-map (λ row. slice_index row i) rows k [] 0 (omega (arith, high)))

  -- an entry of the product
  entry_of_product : (i j : ℕ) → i < rate → j < rate → dot field (get_or matrix i []) (column j link_vectors) ≡ (if i == j then 1 else 0)
  entry_of_product i j below inside =
      let inverse_entry : ℕ → ℕ = λ k. slice_index (slice_index_or inverses k []) i in
      let vector_entry : ℕ → ℕ = λ k. slice_index (slice_index_or vectors k []) j in
      ap (λ row. dot field row (column j link_vectors)) (matrix_row i below)
      ∙ ap (dot field (map inverse_entry paths)) (map-map (λ (row : List ℕ). slice_index row j) (λ (k : ℕ). slice_index_or vectors k []) paths)
      ∙ total-permutation field inverse_entry vector_entry (range_with_len 0 rate) paths made.each_path
      ∙ ap (λ row. dot field row (map vector_entry (range_with_len 0 rate))) (sym (column_by_number inverses i basis.inverses_high))
      ∙ ap (dot field (column i inverses)) (sym (column_by_number vectors j basis.vectors_high))
      ∙ basis.spans i j below inside

  -- the matrix of such entries, times the vectors of the links, is the identity
  pub times_rows-inverse : times_rows field rate (rows_of rate rate entries) (map (λ k. slice_index_or vectors k []) paths) ≡ identity rate
  times_rows-inverse =
      let row : List ℕ → List ℕ = λ coefficients. map (λ j. dot field coefficients (column j link_vectors)) (range_with_len 0 rate) in
      times_rows-columns field rate rate matrix link_vectors matrix_rows link_rows
      ∙ fill_by_all (unit_row rate) (map row matrix) rate [] (length-map matrix row ∙ length-rows_of rate rate entries)
      (λ i below.
      get_or-map row matrix i [] [] (omega (arith, length-rows_of rate rate entries))
      ∙ fill_by_all (λ j. if i == j then 1 else 0) (row (get_or matrix i [])) rate 0
      (length-map-range_with_len (λ j. dot field (get_or matrix i []) (column j link_vectors)) 0 rate)
      (λ j inside.
      get_or-map-range_with_len (λ j. dot field (get_or matrix i []) (column j link_vectors)) 0 rate j j 0 inside (omega arith)
      ∙ entry_of_product i j below inside))

-- a code whose decoders come from bases is accepted
pub IsAccepted-bases : (code : Code)
    → ((demand : ℕ) (decoder : Decoder) → demand < demand_count code.net → slice_get code.decoders demand ≡ Some decoder
    → IsBasisDecoder code.net code.rate code.field code.operands demand decoder)
    → IsAccepted code
IsAccepted-bases code each = (IsAccepted-identity code).1 (λ demand within.
    let found = decoder_of_demand code.code demand within in
    let links = found.0.links in
    let from = each demand found.0 within found.1 in
    let carried : ℕ → List ℕ = vector_in code (pattern_of_demand code.net demand) in
    let of_path : ℕ → List ℕ = λ k. slice_index_or from.vectors k [] in
    let matrix : decoder_matrix code demand ≡ rows_of code.rate code.rate found.0.entries = rw found.1 refl in
    let vectors : decoder_vectors code demand ≡ map carried links = rw found.1 refl in
    let count = found.2.link_count in
    let many = path_count from.entries in
    let long = length-map links carried in
    let same : map carried links ≡ map of_path from.paths =
    ext_get_or [] (map carried links) (map of_path from.paths) (long ∙ count ∙ sym (length-map from.paths of_path ∙ many))
    (λ j below.
    get_or-map carried links j 0 [] (omega (arith, long))
    ∙ from.vector j (omega (arith, long, count))
    ∙ sym (get_or-map of_path from.paths j 0 [] (omega (arith, long, count, many)))) in
    ap (λ (rows : List (List ℕ)). times_rows code.field code.rate rows (decoder_vectors code demand)) matrix
    ∙ ap (times_rows code.field code.rate (rows_of code.rate code.rate found.0.entries)) (vectors ∙ same)
    ∙ times_rows-inverse from.basis from.entries found.2.entry_count found.2.elements)
