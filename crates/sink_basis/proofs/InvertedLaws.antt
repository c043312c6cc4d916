-- Laws of the inverse vectors as the inverse of the matrix of vectors: the vectors of a basis send only zero to zero, also
-- after one of them is replaced, and the columns of their inverse are the inverse vectors.
use Rattle.std.specs.Prelude.{◌≡◌, ◌≢◌, ◌==◌, ℕ, ◌<◌, List, [], All, length, map, get_or, replicate, if◌then◌else◌}
use Rattle.std.proofs.Common.{arith, refl, sym, ap, ◌∙◌, inl, inr}
use Rattle.std.specs.List.{range_with_len}
use Rattle.std.proofs.lemmas.Bool.{cases_eq, eq-eqb, ne_eqb}
use Rattle.std.proofs.lemmas.List.{ext_get_or, get_or-map, get_or-replicate, get_or_default, length-map, length-replicate}
use Rattle.std.proofs.lemmas.List.Elements.{All-from_get_or, All-replicate}
use Rattle.std.proofs.lemmas.List.FromFn.{get_or-map-range_with_len, length-map-range_with_len}
use Rattle.item_list.proofs.Maps.{same_made}
use Rattle.gf_tables.specs.Field.{IsField}
use Rattle.field_vectors.specs.Difference.{identity_entry, product_entry}
use Rattle.field_vectors.proofs.DifferenceLaws.{get_or-column_of, length-column_of}
use Rattle.field_vectors.proofs.DotOfLaws.{dot_of-comm, dot_of-element, dot_of-rows, dot_of-unit_of, dot_of-zeros, get_or-unit_of}
use Rattle.field_vectors.specs.Elements.{column_of, dot_of, identity_of, multiple_of, plus_multiple, product_of, row_product, unit_of}
use Rattle.field_vectors.proofs.ElementsLaws.{length-multiple_of, length-plus_multiple, multiple_of-elements, plus_multiple-elements}
use Rattle.field_vectors.specs.Grid.{Grid, IsMatrix, row_of, with_row}
use Rattle.field_vectors.proofs.GridLaws.{length-row_of, row_of-elements, with_row-IsMatrix}
use Rattle.field_vectors.specs.Inverse.{IsInverse, OnlyZeroToZero}
use Rattle.field_vectors.proofs.InverseLaws.{column_of-elements}
use Rattle.sink_basis.specs.Basis.{IsBasis}
use Rattle.sink_basis.specs.Renewal.{IsRenewed, IsTransposed}
use Rattle.sink_basis.proofs.BasisLaws.{renewed-IsBasis}

-- an entry of a product that is the identity
product-entry : {A : Type 0} (nought one : A) (add mul : A → A → A) (size : ℕ) (a b : Grid A) (i j : ℕ) → length a.rows ≡ size → product_of nought add mul size a.rows b.rows ≡ identity_of nought one size
    → i < size → j < size → product_entry nought add mul a b i j ≡ identity_entry nought one i j
product-entry {A} nought one add mul size a b i j tall is below inside =
    let row : List A → List A = row_product nought add mul size b.rows in
    let here : i < length a.rows = omega (arith, tall) in
    sym (get_or-map-range_with_len (product_entry nought add mul a b i) 0 size j j nought inside (omega arith))
    ∙ sym (ap (λ (r : List A). get_or r j nought) (get_or-map row a.rows i [] [] here))
    ∙ ap (λ (rows : List (List A)). get_or (get_or rows i []) j nought) is
    ∙ ap (λ (r : List A). get_or r j nought) (get_or-map-range_with_len (unit_of nought one size) 0 size i i [] below (omega arith))
    ∙ get_or-unit_of nought one size i j inside

module _ {A : Type 0} {P : A → Type 0} {nought one : A} {add mul : A → A → A} {inv : A → A} (F : IsField P nought one add mul inv) where
  -- the vectors of a basis send only zero to zero
  basis-regular : (size : ℕ) (vectors inverses : Grid A) → IsBasis nought one add mul size vectors inverses → IsMatrix P vectors → IsMatrix P inverses → OnlyZeroToZero P nought add mul vectors
  basis-regular size vectors inverses basis kept old block elements whole sent i d within =
      let long : length block ≡ size = whole ∙ basis.vectors_high in
      let inside : i < size = omega (arith, long) in
      let place = column_of nought i inverses.rows in
      let p = column_of-elements nought inverses i old (omega (arith, basis.inverses_wide)) in
      let product : List A → A = dot_of nought add mul block in
      let zeros = replicate size nought in
      let none : map product vectors.rows ≡ zeros =
      ext_get_or nought (map product vectors.rows) zeros (length-map vectors.rows product ∙ basis.vectors_high ∙ sym (length-replicate size nought))
      (λ k short.
      let under : k < length vectors.rows = omega (arith, length-map vectors.rows product) in
      get_or-map product vectors.rows k [] nought under ∙ dot_of-comm F block (row_of vectors k) elements (row_of-elements vectors k kept under) ∙ sent k [] under
      ∙ sym (get_or-replicate size k nought nought (omega (arith, basis.vectors_high))))
      in
      let same : All (λ (r : List A). length r ≡ length block) vectors.rows = λ k e under. omega (arith, kept.widths k e under, basis.vectors_wide, long) in
      let entry : ℕ → A = λ r. dot_of nought add mul (column_of nought r vectors.rows) place in
      let units : map entry (range_with_len 0 size) ≡ unit_of nought one size i =
      same_made entry (identity_entry nought one i) size nought
      (λ r short. dot_of-comm F (column_of nought r vectors.rows) place (column_of-elements nought vectors r kept (omega (arith, basis.vectors_wide))) p ∙ basis.spans i r inside short)
      in
      get_or_default block i d nought within ∙ sym (dot_of-unit_of F block size i elements inside) ∙ ap product (sym units) ∙ ap (λ n. product (map entry (range_with_len 0 n))) (sym long)
      ∙ sym (dot_of-rows F block vectors.rows place elements same kept.elements p) ∙ ap (λ xs. dot_of nought add mul xs place) none
      ∙ dot_of-comm F zeros place (All-replicate P size nought F.zero_element) p ∙ dot_of-zeros F place size p

  module _ (size path : ℕ) (v : List A) (vectors inverses : Grid A) (basis : IsBasis nought one add mul size vectors inverses) (kept : IsMatrix P vectors) (old : IsMatrix P inverses)
      (elements : All P v) (below : path < size) (wide : length v ≡ size) (nonzero : dot_of nought add mul v (row_of inverses path) ≢ nought) where
    -- the product of the vector and an inverse
    abbrev part : ℕ → A
    part k = dot_of nought add mul v (row_of inverses k)

    -- the inverse of the path, divided by its product
    abbrev own : List A
    own = multiple_of mul (inv (part path)) (row_of inverses path)

    -- the inverses after the vector is replaced
    abbrev inverse : ℕ → List A
    inverse k = if k == path then own else plus_multiple add mul (row_of inverses k) (part k) own

    abbrev renewed : Grid A
    renewed = record { columns = inverses.columns; rows = map inverse (range_with_len 0 (length inverses.rows)) }

    high : path < length inverses.rows
    high = omega (arith, basis.inverses_high)

    row-at : (k : ℕ) → k < length inverses.rows → row_of renewed k ≡ inverse k
    row-at k under = get_or-map-range_with_len inverse 0 (length inverses.rows) k k [] under (omega arith)

    row-own : row_of renewed path ≡ own
    row-own = row-at path high ∙ ap (λ test. if test then own else plus_multiple add mul (row_of inverses path) (part path) own) (eq-eqb path path refl)

    row-other : (k : ℕ) → k < length inverses.rows → k ≢ path → row_of renewed k ≡ plus_multiple add mul (row_of inverses k) (part k) own
    row-other k under apart = row-at k under ∙ ap (λ test. if test then own else plus_multiple add mul (row_of inverses k) (part k) own) (ne_eqb k path apart)

    -- they are rows of elements
    part-element : (k : ℕ) → k < length inverses.rows → P (part k)
    part-element k under = dot_of-element F v (row_of inverses k) elements (row_of-elements inverses k old under)

    own-elements : All P own
    own-elements = multiple_of-elements P mul F.mul_element (inv (part path)) (row_of inverses path) (F.inv_element (part path) (part-element path high) nonzero) (row_of-elements inverses path old high)

    own-wide : length own ≡ inverses.columns
    own-wide = length-multiple_of mul (inv (part path)) (row_of inverses path) ∙ length-row_of inverses path old high

    record IsGood (row : List A) : Type 0 where
      width : length row ≡ inverses.columns
      all : All P row

    good : (k : ℕ) → k < length inverses.rows → IsGood (row_of renewed k)
    good k under = elim (cases_eq k path) [
      | inl same ↦
          (let is = ap (row_of renewed) same ∙ row-own in
          rw is (record { width = own-wide; all = own-elements }))
      | inr apart ↦
          (let is = row-other k under apart in
          let long = length-row_of inverses k old under in
          rw is (record {
            width = length-plus_multiple add mul (row_of inverses k) (part k) own (long ∙ sym own-wide) ∙ long;
            all = plus_multiple-elements P add mul F.add_element F.mul_element (row_of inverses k) (part k) own (row_of-elements inverses k old under) (part-element k under) own-elements;
          }))
    ]

    high_still : length renewed.rows ≡ length inverses.rows
    high_still = length-map-range_with_len inverse 0 (length inverses.rows)

    renewed-kept : IsMatrix P renewed
    renewed-kept = record {
      widths = All-from_get_or (λ (row : List A). length row ≡ inverses.columns) renewed.rows [] (λ k under. (good k (omega (arith, high_still))).width);
      elements = All-from_get_or (All P) renewed.rows [] (λ k under. (good k (omega (arith, high_still))).all);
    }

    renewed-IsRenewed : IsRenewed P nought add mul inv path v inverses renewed
    renewed-IsRenewed = record {
      columns = refl;
      height = high_still;
      kept = renewed-kept;
      own = row-own;
      other = λ k under apart. row-other k under apart ∙ ap (plus_multiple add mul (row_of inverses k) (part k)) (sym row-own);
    }

    -- the vectors, after one is replaced, send only zero to zero
    pub replaced-regular : OnlyZeroToZero P nought add mul (with_row vectors path v)
    replaced-regular =
        basis-regular size (with_row vectors path v) renewed (renewed-IsBasis F size path v vectors inverses renewed basis kept old elements below wide nonzero renewed-IsRenewed)
        (with_row-IsMatrix vectors path v kept (wide ∙ sym basis.vectors_wide) elements) renewed-kept

  -- the columns of the inverse of a matrix are the inverse vectors of its rows
  pub inverted-IsBasis : (vectors inverse inverses : Grid A) → vectors.columns ≡ length vectors.rows → IsInverse nought one add mul vectors inverse → IsMatrix P inverse → IsTransposed P nought inverse inverses
      → IsBasis nought one add mul (length vectors.rows) vectors inverses
  inverted-IsBasis vectors inverse inverses square is kept turned =
      let size = length vectors.rows in
      let tall : length inverses.rows ≡ size = turned.height ∙ is.columns in
      let row : (k : ℕ) → k < size → row_of inverses k ≡ column_of nought k inverse.rows = λ k below. turned.row k (omega (arith, is.columns)) in
      let turned_back : (i : ℕ) → i < size → column_of nought i inverses.rows ≡ row_of inverse i =
      λ i below.
      let under : i < length inverse.rows = omega (arith, is.height) in
      let long = length-row_of inverse i kept under in
      ext_get_or nought (column_of nought i inverses.rows) (row_of inverse i) (length-column_of nought inverses.rows i ∙ tall ∙ sym (long ∙ is.columns))
      (λ k short.
      let inside : k < size = omega (arith, length-column_of nought inverses.rows i, tall) in
      get_or-column_of nought inverses.rows k i (omega (arith, tall)) ∙ ap (λ (r : List A). get_or r i nought) (row k inside) ∙ get_or-column_of nought inverse.rows i k under)
      in
      record {
        vectors_high = refl;
        vectors_wide = square;
        inverses_high = tall;
        inverses_wide = turned.columns ∙ is.height;
        dual = λ j k below inside. ap (dot_of nought add mul (row_of vectors j)) (row k inside) ∙ product-entry nought one add mul size vectors inverse j k refl is.right below inside;
        spans = λ i j below inside. ap (λ (r : List A). dot_of nought add mul r (column_of nought j vectors.rows)) (turned_back i below) ∙ product-entry nought one add mul size inverse vectors i j is.height is.left below inside;
      }
