-- The butterfly decodes every block, and the changed butterfly doesn't.
use Rattle.std.proofs.Common.{◌≡◌, ◌<◌, ℕ, zero, suc, List, [], ◌∷◌, length, slice_index, refl, sym, ap, ◌∙◌, arith}
use Rattle.std.specs.List.{All}
use Rattle.std.proofs.lemmas.List.Elements.{All-nil, All-cons, All-head, All-tail}
use Rattle.gf_tables.specs.Product.{shift, repeated_shift, sum_of_shifts, octet_product, product}
use Rattle.gf_tables.specs.declared.kind.FieldKind.TheVariants.{Eight}
use Rattle.linear_algebra.specs.Rows.{add_rows, combination}
use Rattle.linear_algebra.proofs.CombinationLaws.{combination-one}
use Rattle.linear_algebra.proofs.RowLaws.{scale_row-one, scale_row-zero, add_rows-zero_row, add_rows-comm, add_rows-twice, add_rows-elements, length-add_rows, zero_row-zero_row}
use Rattle.node_program.specs.Decoding.{IsBlock, IsAccepted, decoding_of}
use Rattle.node_program.specs.Value.{row_at, value_within}
use Rattle.test_support.specs.Butterfly.{butterfly, changed_butterfly}

abbrev AreElements : List ℕ → Type 0
AreElements row = All (λ element. element < 256) row

-- a combination of two rows with the coefficients 1 and 1
combination-both : (width : ℕ) (x y : List ℕ) → length y ≡ width → AreElements x → AreElements y
    → combination Eight width (1 ∷ 1 ∷ []) (x ∷ y ∷ []) ≡ add_rows x y
combination-both width x y wide h k =
    rw (scale_row-one Eight x h, scale_row-one Eight y k, ← wide) (ap (add_rows x) (add_rows-zero_row y))

-- a combination of two rows with the coefficients 1 and 0
combination-first : (width : ℕ) (x y : List ℕ) → length x ≡ width → length y ≡ width → AreElements x
    → combination Eight width (1 ∷ 0 ∷ []) (x ∷ y ∷ []) ≡ x
combination-first width x y wide_x wide_y h =
    rw (scale_row-one Eight x h, scale_row-zero Eight y, wide_y, zero_row-zero_row width, ← wide_x) (add_rows-zero_row x)

-- two rows of one length, of elements
module _ (x y : List ℕ) (same : length y ≡ length x) (h : AreElements x) (k : AreElements y) where
  sum_length : length (add_rows x y) ≡ length x
  sum_length = length-add_rows x y (sym same) ∙ same

  sum_elements : AreElements (add_rows x y)
  sum_elements = add_rows-elements Eight x y h k

  -- the first sink
  first_decoded : decoding_of butterfly 0 (x ∷ y ∷ []) ≡ x ∷ y ∷ []
  unfolding butterfly value_within
  first_decoded =
      let one_x = combination-one Eight (length x) x refl h in
      let one_y = combination-one Eight (length x) y same k in
      let one_sum = combination-one Eight (length x) (add_rows x y) sum_length sum_elements in
      let sum = combination-both (length x) x y same h k in
      let first = combination-first (length x) x (add_rows x y) refl sum_length h in
      let second = combination-both (length x) x (add_rows x y) sum_length h sum_elements in
      rw (one_x, one_x, one_y, one_y, sum, one_sum, first, second, add_rows-twice x y (sym same)) refl

  -- the second sink
  second_decoded : decoding_of butterfly 1 (x ∷ y ∷ []) ≡ x ∷ y ∷ []
  unfolding butterfly value_within
  second_decoded =
      let one_x = combination-one Eight (length x) x refl h in
      let one_y = combination-one Eight (length x) y same k in
      let one_sum = combination-one Eight (length x) (add_rows x y) sum_length sum_elements in
      let sum = combination-both (length x) x y same h k in
      let first = combination-both (length x) y (add_rows x y) sum_length k sum_elements in
      let second = combination-first (length x) y (add_rows x y) same sum_length k in
      rw (one_x, one_x, one_y, one_y, sum, one_sum, first, second, add_rows-comm x y, add_rows-twice y x same) refl

-- what a block of two rows has
record AreRows (x y : List ℕ) : Type 0 where
  same : length y ≡ length x
  first : AreElements x
  second : AreElements y

rows_of : (x y : List ℕ) → IsBlock Eight 2 (x ∷ y ∷ []) → AreRows x y
rows_of x y is =
    let IsWide : List ℕ → Type 0 = λ row. length row ≡ length x in
    record {
      same = All-head IsWide y [] (All-tail IsWide x (y ∷ []) is.widths);
      first = All-head AreElements x (y ∷ []) is.elements;
      second = All-head AreElements y [] (All-tail AreElements x (y ∷ []) is.elements);
    }

-- each sink, on each block
decoded_block : (demand : ℕ) → demand < 2 → (block : List (List ℕ)) → IsBlock Eight 2 block → decoding_of butterfly demand block ≡ block
decoded_block demand below [] is = absurd (omega (arith, is.rows))
decoded_block demand below (x ∷ []) is = absurd (omega (arith, is.rows))
decoded_block demand below (x ∷ y ∷ z ∷ rows) is = absurd (omega (arith, is.rows))
decoded_block zero below (x ∷ y ∷ []) is = let r = rows_of x y is in first_decoded x y r.same r.first r.second
decoded_block (suc zero) below (x ∷ y ∷ []) is = let r = rows_of x y is in second_decoded x y r.same r.first r.second
decoded_block (suc (suc demand)) below (x ∷ y ∷ []) is = absurd (omega arith)

pub butterfly_accepted : IsAccepted butterfly
unfolding butterfly
butterfly_accepted = decoded_block

-- a block that the changed butterfly doesn't give back to the second sink
abbrev block : List (List ℕ)
block = (0 ∷ []) ∷ (1 ∷ []) ∷ []

block_is : IsBlock Eight 2 block
block_is =
    let IsWide : List ℕ → Type 0 = λ row. length row ≡ 1 in
    let IsElement : ℕ → Type 0 = λ element. element < 256 in
    let nil = All-nil IsElement in
    record {
      rows = refl;
      widths = All-cons IsWide (0 ∷ []) ((1 ∷ []) ∷ []) refl (All-cons IsWide (1 ∷ []) [] refl (All-nil IsWide));
      elements =
          All-cons AreElements (0 ∷ []) ((1 ∷ []) ∷ []) (All-cons IsElement 0 [] (omega arith) nil)
          (All-cons AreElements (1 ∷ []) [] (All-cons IsElement 1 [] (omega arith) nil) (All-nil AreElements));
    }

-- its first row comes back as 3
changed_decoded : decoding_of changed_butterfly 1 block ≡ (3 ∷ []) ∷ (1 ∷ []) ∷ []
unfolding changed_butterfly value_within product octet_product sum_of_shifts repeated_shift shift
changed_decoded = refl

pub changed_butterfly_refused : IsAccepted changed_butterfly → ⊥
unfolding changed_butterfly
changed_butterfly_refused accepted =
    let back : decoding_of changed_butterfly 1 block ≡ block = accepted 1 (omega arith) block block_is in
    let e : ◌≡◌ {A = ℕ} 3 0 = ap (λ (rows : List (List ℕ)). slice_index (row_at rows 0) 0) (sym changed_decoded ∙ back) in
    omega arith
