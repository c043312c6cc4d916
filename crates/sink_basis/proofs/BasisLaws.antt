-- Laws of bases: the unit vectors are one, and what becomes of one when a vector is replaced (Jaggi et al. 2005).
use Rattle.std.specs.Prelude.{◌≡◌, ◌≢◌, ℕ, ◌<◌, List, [], All, length, map, get_or, set}
use Rattle.std.proofs.Common.{arith, sym, ap, ◌∙◌, subst, inl, inr}
use Rattle.std.proofs.Math.Path.{ap₂}
use Rattle.std.specs.List.{range_with_len}
use Rattle.std.proofs.lemmas.Bool.{cases_eq}
use Rattle.std.proofs.lemmas.List.{length-set, length-map, map-set, get_or-map, get_or-set_same, get_or-set_other, ext_get_or}
use Rattle.std.proofs.lemmas.List.Elements.{All-map, All-get_or, All-set}
use Rattle.std.proofs.lemmas.List.FromFn.{length-map-range_with_len, get_or-map-range_with_len, fill_by_all}
use Rattle.item_list.proofs.Maps.{same_made}
use Rattle.gf_tables.specs.Field.{IsField, IsNumbering}
use Rattle.field_vectors.specs.Difference.{identity_entry}
use Rattle.field_vectors.proofs.DifferenceLaws.{get_or-column_of, length-column_of}
use Rattle.field_vectors.proofs.DotOfLaws.{identity_entry-comm, identity_entry-on, identity_entry-off, identity_entry-element, get_or-unit_of, add-nought, mul-nought, mul-one, dot_of-element, dot_of-comm, dot_of-plus_multiple, dot_of-multiple_of, dot_of-set, dot_of-rows, dot_of-unit_of}
use Rattle.field_vectors.specs.Elements.{dot_of, column_of, plus_multiple, unit_of, identity_of}
use Rattle.field_vectors.proofs.ElementsLaws.{length-plus_multiple, get_or-plus_multiple, get_or-multiple_of, plus_multiple-elements}
use Rattle.field_vectors.specs.Grid.{AreMatrices, Grid, row_of, with_row, IsMatrix}
use Rattle.field_vectors.proofs.GridLaws.{IsMatrix-map, length-row_of, row_of-elements, row_of-with_row, row_of-with_other}
use Rattle.field_vectors.proofs.InverseLaws.{column_of-elements, unit_of-unit_of}
use Rattle.sink_basis.specs.Basis.{IsBasis, IsNumbered}
use Rattle.sink_basis.specs.Renewal.{IsRenewed}

-- a row of the identity
identity-row : {A : Type 0} (nought one : A) (m : Grid A) (size i : ℕ) → m.rows ≡ identity_of nought one size → i < size → row_of m i ≡ unit_of nought one size i
identity-row nought one m size i made below =
    ap (λ rows. get_or rows i []) made ∙ get_or-map-range_with_len (unit_of nought one size) 0 size i i [] below (omega arith)

-- a column of the identity
identity-column : {A : Type 0} (nought one : A) (m : Grid A) (size j : ℕ) → m.rows ≡ identity_of nought one size → j < size → column_of nought j m.rows ≡ unit_of nought one size j
identity-column nought one m size j made below =
    let tall : length m.rows ≡ size = ap length made ∙ length-map-range_with_len (unit_of nought one size) 0 size in
    fill_by_all (identity_entry nought one j) (column_of nought j m.rows) size nought (length-column_of nought m.rows j ∙ tall)
    (λ k within.
    let inside : k < length m.rows = omega arith in
    get_or-column_of nought m.rows k j inside ∙ ap (λ row. get_or row j nought) (identity-row nought one m size k made within) ∙ get_or-unit_of nought one size k j below
    ∙ identity_entry-comm nought one k j)

-- a row that is put into a matrix of elements has elements
pub put-elements : {A : Type 0} (P : A → Type 0) (m new : Grid A) (i : ℕ) (row : List A) → new ≡ with_row m i row → IsMatrix P new → i < length m.rows → All P row
put-elements {A} P m new i row is kept below =
    let tall : i < length new.rows = omega (arith, ap (λ (n : Grid A). length n.rows) is, length-set m.rows i row) in
    subst (All P) (ap (λ (n : Grid A). row_of n i) is ∙ row_of-with_row m i row below) (row_of-elements new i kept tall)

module _ {A : Type 0} {P : A → Type 0} {nought one : A} {add mul : A → A → A} {inv : A → A} (F : IsField P nought one add mul inv) where
  -- the unit vectors are a basis, with themselves as its inverse vectors
  pub identity-IsBasis : (vectors inverses : Grid A) (size : ℕ) → vectors.columns ≡ size → inverses.columns ≡ size → vectors.rows ≡ identity_of nought one size → inverses.rows ≡ identity_of nought one size
      → IsBasis nought one add mul size vectors inverses
  identity-IsBasis vectors inverses size wide narrow made same = record {
    vectors_high = ap length made ∙ length-map-range_with_len (unit_of nought one size) 0 size;
    vectors_wide = wide;
    inverses_high = ap length same ∙ length-map-range_with_len (unit_of nought one size) 0 size;
    inverses_wide = narrow;
    dual = λ j k below inside.
        ap₂ (dot_of nought add mul) (identity-row nought one vectors size j made below) (identity-row nought one inverses size k same inside) ∙ unit_of-unit_of F size j k below;
    spans = λ i j below inside.
        ap₂ (dot_of nought add mul) (identity-column nought one inverses size i same below) (identity-column nought one vectors size j made inside) ∙ unit_of-unit_of F size i j below;
  }

  module _ (size path : ℕ) (v : List A) (vectors inverses new : Grid A) (basis : IsBasis nought one add mul size vectors inverses) (kept : IsMatrix P vectors) (old : IsMatrix P inverses)
      (elements : All P v) (below : path < size) (wide : length v ≡ size) (nonzero : dot_of nought add mul v (row_of inverses path) ≢ nought) (renewed : IsRenewed P nought add mul inv path v inverses new) where
    -- an old vector, an old inverse, and the product of the new vector and an old inverse
    abbrev vector : ℕ → List A
    vector j = row_of vectors j

    abbrev inverse : ℕ → List A
    inverse k = row_of inverses k

    abbrev part : ℕ → A
    part k = dot_of nought add mul v (inverse k)

    -- what the path's inverse is multiplied by
    abbrev by : A
    by = inv (part path)

    vector-elements : (j : ℕ) → j < size → All P (vector j)
    vector-elements j within = row_of-elements vectors j kept (omega (arith, basis.vectors_high))

    inverse-elements : (k : ℕ) → k < size → All P (inverse k)
    inverse-elements k within = row_of-elements inverses k old (omega (arith, basis.inverses_high))

    new-elements : (k : ℕ) → k < size → All P (row_of new k)
    new-elements k within = row_of-elements new k renewed.kept (omega (arith, basis.inverses_high, renewed.height))

    part-element : (k : ℕ) → k < size → P (part k)
    part-element k within = dot_of-element F v (inverse k) elements (inverse-elements k within)

    by-element : P by
    by-element = F.inv_element (part path) (part-element path below) nonzero

    divided : mul by (part path) ≡ one
    divided = F.mul_comm by (part path) by-element (part-element path below) ∙ F.mul_inv (part path) (part-element path below) nonzero

    -- the product of a vector and the new inverse of the path
    own-dot : (x : List A) → All P x → dot_of nought add mul x (row_of new path) ≡ mul by (dot_of nought add mul x (inverse path))
    own-dot x p =
        let a = inverse path in
        let q = inverse-elements path below in
        dot_of-comm F x (row_of new path) p (new-elements path below) ∙ ap (λ row. dot_of nought add mul row x) renewed.own ∙ dot_of-multiple_of F by a x by-element q p
        ∙ ap (mul by) (dot_of-comm F a x q p)

    -- and each other new inverse
    other-dot : (x : List A) (k : ℕ) → All P x → k < size → k ≢ path
        → dot_of nought add mul x (row_of new k) ≡ add (dot_of nought add mul x (inverse k)) (mul (part k) (mul by (dot_of nought add mul x (inverse path))))
    other-dot x k p within apart =
        let a = inverse k in
        let q = inverse-elements k within in
        let b = row_of new path in
        let r = new-elements path below in
        let inside : k < length inverses.rows = omega (arith, basis.inverses_high) in
        let same : length a ≡ length b =
        omega (arith, length-row_of inverses k old inside, length-row_of new path renewed.kept (omega (arith, basis.inverses_high, renewed.height)), renewed.columns) in
        dot_of-comm F x (row_of new k) p (new-elements k within) ∙ ap (λ row. dot_of nought add mul row x) (renewed.other k inside apart)
        ∙ dot_of-plus_multiple F a (part k) b x q (part-element k within) r p same
        ∙ ap₂ (λ s t. add s (mul (part k) t)) (dot_of-comm F a x q p) (dot_of-comm F b x r p ∙ own-dot x p)

    -- the new vectors and the new inverses
    new-dual : (j k : ℕ) → j < size → k < size → dot_of nought add mul (row_of (with_row vectors path v) j) (row_of new k) ≡ identity_entry nought one j k
    new-dual j k within inside =
        elim (cases_eq j path) [
          | inl here ↦
              (let at : row_of (with_row vectors path v) j ≡ v = ap (row_of (with_row vectors path v)) here ∙ row_of-with_row vectors path v (omega (arith, basis.vectors_high)) in
              elim (cases_eq k path) [
                | inl same ↦ ap₂ (λ x i. dot_of nought add mul x (row_of new i)) at same ∙ own-dot v elements ∙ divided ∙ sym (identity_entry-on nought one path) ∙ ap₂ (identity_entry nought one) (sym here) (sym same)
                | inr apart ↦
                    (let c = part-element k inside in
                    ap (λ x. dot_of nought add mul x (row_of new k)) at ∙ other-dot v k elements inside apart ∙ ap (λ t. add (part k) (mul (part k) t)) divided
                    ∙ ap (add (part k)) (mul-one F (part k) c) ∙ F.add_self (part k) c ∙ sym (identity_entry-off nought one j k (λ e. apart (sym e ∙ here))))
              ])
          | inr there ↦
              (let at : row_of (with_row vectors path v) j ≡ vector j = row_of-with_other vectors path j v there in
              let p = vector-elements j within in
              let none : mul by (dot_of nought add mul (vector j) (inverse path)) ≡ nought =
              ap (mul by) (basis.dual j path within below ∙ identity_entry-off nought one j path there) ∙ mul-nought F by by-element in
              elim (cases_eq k path) [
                | inl same ↦ ap₂ (λ x i. dot_of nought add mul x (row_of new i)) at same ∙ own-dot (vector j) p ∙ none ∙ sym (identity_entry-off nought one j k (λ e. there (e ∙ same)))
                | inr apart ↦
                    (let d = identity_entry-element F j k in
                    ap (λ x. dot_of nought add mul x (row_of new k)) at ∙ other-dot (vector j) k p inside apart
                    ∙ ap₂ (λ s t. add s (mul (part k) t)) (basis.dual j k within inside) none
                    ∙ ap (add (identity_entry nought one j k)) (mul-nought F (part k) (part-element k inside)) ∙ add-nought F (identity_entry nought one j k) d)
              ])
        ]

    -- a place of the new inverse of the path
    abbrev scaled : ℕ → A
    scaled i = mul by (get_or (inverse path) i nought)

    -- the products of the new vector and the old inverses
    abbrev parts : List A
    parts = map (dot_of nought add mul v) inverses.rows

    get_or-parts : (k : ℕ) → k < size → get_or parts k nought ≡ part k
    get_or-parts k within = get_or-map (dot_of nought add mul v) inverses.rows k [] nought (omega (arith, basis.inverses_high))

    length-parts : length parts ≡ size
    length-parts = length-map inverses.rows (dot_of nought add mul v) ∙ basis.inverses_high

    parts-elements : All P parts
    parts-elements = All-map P (dot_of nought add mul v) inverses.rows (λ k d inside. dot_of-element F v (get_or inverses.rows k d) elements (old.elements k d inside))

    -- a place of an old inverse
    place-element : (k i : ℕ) → k < size → i < size → P (get_or (inverse k) i nought)
    place-element k i within inside =
        let under : k < length inverses.rows = omega (arith, basis.inverses_high) in
        let long : i < length (inverse k) = omega (arith, length-row_of inverses k old under, basis.inverses_wide) in
        All-get_or P (inverse k) i nought long (inverse-elements k within)

    scaled-element : (i : ℕ) → i < size → P (scaled i)
    scaled-element i inside = F.mul_element by (get_or (inverse path) i nought) by-element (place-element path i below inside)

    -- a place of a new inverse
    own-place : (i : ℕ) → i < size → get_or (row_of new path) i nought ≡ scaled i
    own-place i inside =
        let under : path < length inverses.rows = omega (arith, basis.inverses_high) in
        let long : i < length (inverse path) = omega (arith, length-row_of inverses path old under, basis.inverses_wide) in
        ap (λ row. get_or row i nought) renewed.own ∙ get_or-multiple_of mul by (inverse path) i nought long

    other-place : (k i : ℕ) → k < size → i < size → k ≢ path → get_or (row_of new k) i nought ≡ add (get_or (inverse k) i nought) (mul (part k) (scaled i))
    other-place k i within inside apart =
        let under : k < length inverses.rows = omega (arith, basis.inverses_high) in
        let long : i < length (inverse k) = omega (arith, length-row_of inverses k old under, basis.inverses_wide) in
        let beside : i < length (row_of new path) =
        omega (arith, length-row_of new path renewed.kept (omega (arith, basis.inverses_high, renewed.height)), renewed.columns, basis.inverses_wide) in
        ap (λ row. get_or row i nought) (renewed.other k under apart) ∙ get_or-plus_multiple add mul (inverse k) (part k) (row_of new path) i nought long beside
        ∙ ap (λ x. add (get_or (inverse k) i nought) (mul (part k) x)) (own-place i inside)

    module _ (i j : ℕ) (inside : i < size) (within : j < size) where
      -- the old columns
      abbrev xs : List A
      xs = column_of nought i inverses.rows

      abbrev ys : List A
      ys = column_of nought j vectors.rows

      -- what the new column of the inverses is, but for the path's place
      abbrev added : List A
      added = plus_multiple add mul xs (scaled i) parts

      xs-elements : All P xs
      xs-elements = column_of-elements nought inverses i old (omega (arith, basis.inverses_wide))

      ys-elements : All P ys
      ys-elements = column_of-elements nought vectors j kept (omega (arith, basis.vectors_wide))

      length-xs : length xs ≡ size
      length-xs = length-column_of nought inverses.rows i ∙ basis.inverses_high

      length-ys : length ys ≡ size
      length-ys = length-column_of nought vectors.rows j ∙ basis.vectors_high

      length-added : length added ≡ size
      length-added = length-plus_multiple add mul xs (scaled i) parts (length-xs ∙ sym length-parts) ∙ length-xs

      added-elements : All P added
      added-elements = plus_multiple-elements P add mul F.add_element F.mul_element xs (scaled i) parts xs-elements (scaled-element i inside) parts-elements

      get_or-added : (k : ℕ) → k < size → get_or added k nought ≡ add (get_or (inverse k) i nought) (mul (scaled i) (part k))
      get_or-added k under =
          get_or-plus_multiple add mul xs (scaled i) parts k nought (omega (arith, length-xs)) (omega (arith, length-parts))
          ∙ ap₂ (λ x c. add x (mul (scaled i) c)) (get_or-column_of nought inverses.rows k i (omega (arith, basis.inverses_high))) (get_or-parts k under)

      -- the path's place of it is zero
      added-path : get_or added path nought ≡ nought
      added-path =
          let a = get_or (inverse path) i nought in
          let p = place-element path i below inside in
          let c = part-element path below in
          let back : mul (scaled i) (part path) ≡ a =
          F.mul_assoc by a (part path) by-element p c ∙ ap (mul by) (F.mul_comm a (part path) p c) ∙ sym (F.mul_assoc by (part path) a by-element c p)
          ∙ ap (λ x. mul x a) divided ∙ F.one_mul a p
          in
          get_or-added path below ∙ ap (add a) back ∙ F.add_self a p

      -- the new column of the inverses
      new-column : column_of nought i new.rows ≡ set added path (scaled i)
      new-column =
          let tall : length new.rows ≡ size = renewed.height ∙ basis.inverses_high in
          ext_get_or nought (column_of nought i new.rows) (set added path (scaled i)) (length-column_of nought new.rows i ∙ tall ∙ sym (length-set added path (scaled i) ∙ length-added))
          (λ k short.
          let under : k < length new.rows = omega (arith, length-column_of nought new.rows i) in
          let below_size : k < size = omega (arith, tall) in
          get_or-column_of nought new.rows k i under
          ∙ elim (cases_eq k path) as (λ _. get_or (row_of new k) i nought ≡ get_or (set added path (scaled i)) k nought) [
            | inl same ↦
                ap (λ r. get_or (row_of new r) i nought) same ∙ own-place i inside ∙ sym (get_or-set_same added path (scaled i) nought (omega (arith, length-added)))
                ∙ ap (λ r. get_or (set added path (scaled i)) r nought) (sym same)
            | inr apart ↦
                other-place k i below_size inside apart
                ∙ ap (add (get_or (inverse k) i nought)) (F.mul_comm (part k) (scaled i) (part-element k below_size) (scaled-element i inside))
                ∙ sym (get_or-set_other added path k (scaled i) nought apart ∙ get_or-added k below_size)
          ])

      -- the new vector is the sum of the old ones, each times its part
      recombined : dot_of nought add mul parts ys ≡ get_or v j nought
      recombined =
          let same : All (λ (r : List A). length r ≡ length v) inverses.rows = λ k d under. omega (arith, old.widths k d under, basis.inverses_wide, wide) in
          dot_of-rows F v inverses.rows ys elements same old.elements ys-elements
          ∙ ap (λ n. dot_of nought add mul v (map (λ r. dot_of nought add mul (column_of nought r inverses.rows) ys) (range_with_len 0 n))) wide
          ∙ ap (dot_of nought add mul v)
          (same_made (λ r. dot_of nought add mul (column_of nought r inverses.rows) ys) (identity_entry nought one j) size nought
          (λ r short. basis.spans r j short within ∙ identity_entry-comm nought one r j))
          ∙ dot_of-unit_of F v size j elements within

      -- the new inverses and the new vectors, by places
      new-spans : dot_of nought add mul (column_of nought i new.rows) (column_of nought j (with_row vectors path v).rows) ≡ identity_entry nought one i j
      new-spans =
          let y = get_or v j nought in
          let long : j < length v = omega (arith, wide) in
          let q = All-get_or P v j nought long elements in
          let w = scaled i in
          let p = scaled-element i inside in
          let m = F.mul_element w y p q in
          let E = identity_entry nought one i j in
          let e = identity_entry-element F i j in
          let here : path < length ys = omega (arith, length-ys) in
          let there : path < length added = omega (arith, length-added) in
          let before = get_or ys path nought in
          let b = All-get_or P ys path nought here ys-elements in
          let column : column_of nought j (with_row vectors path v).rows ≡ set ys path y = map-set (λ (row : List A). get_or row j nought) vectors.rows path v in
          let D = dot_of nought add mul (set added path w) (set ys path y) in
          let d = dot_of-element F (set added path w) (set ys path y) (All-set P added path w p added-elements) (All-set P ys path y q ys-elements) in
          let lost : mul (get_or added path nought) before ≡ nought =
          ap (λ x. mul x before) added-path ∙ F.mul_comm nought before F.zero_element b ∙ mul-nought F before b
          in
          let total : dot_of nought add mul added ys ≡ add E (mul w y) =
          dot_of-plus_multiple F xs w parts ys xs-elements p parts-elements ys-elements (length-xs ∙ sym length-parts)
          ∙ ap₂ (λ s t. add s (mul w t)) (basis.spans i j inside within) recombined
          in
          ap₂ (dot_of nought add mul) new-column column ∙ sym (add-nought F D d) ∙ ap (add D) (sym lost)
          ∙ dot_of-set F added ys path w y added-elements ys-elements p q there here
          ∙ ap (λ s. add s (mul w y)) total ∙ F.add_assoc E (mul w y) (mul w y) e m m ∙ ap (add E) (F.add_self (mul w y) m) ∙ add-nought F E e

    -- the new vectors are a basis, and these its inverse vectors
    pub renewed-IsBasis : IsBasis nought one add mul size (with_row vectors path v) new
    renewed-IsBasis = record {
      vectors_high = length-set vectors.rows path v ∙ basis.vectors_high;
      vectors_wide = basis.vectors_wide;
      inverses_high = renewed.height ∙ basis.inverses_high;
      inverses_wide = renewed.columns ∙ basis.inverses_wide;
      dual = new-dual;
      spans = new-spans;
    }

-- elements and their numbers
module _ {A : Type 0} {P : A → Type 0} {nought one : A} {add mul : A → A → A} {number : A → ℕ} {of_number : ℕ → A} {size : ℕ} {product : ℕ → ℕ → ℕ}
    (N : IsNumbering P nought one add mul number of_number size product) (vectors inverses : Grid A) where
  -- matrices of elements have entries that are the elements of their numbers
  pub AreMatrices-numbered : AreMatrices P vectors inverses → AreMatrices (IsNumbered number of_number size) vectors inverses
  AreMatrices-numbered h =
      let to : (x : A) → P x → IsNumbered number of_number size x = λ x p. (N.number_below x p, N.of_number_number x p) in
      (IsMatrix-map vectors to h.0, IsMatrix-map inverses to h.1)

  -- and the other way round
  pub numbered-AreMatrices : AreMatrices (IsNumbered number of_number size) vectors inverses → AreMatrices P vectors inverses
  numbered-AreMatrices h =
      let to : (x : A) → IsNumbered number of_number size x → P x = λ x p. subst P p.1 (N.element_of_number (number x) p.0) in
      (IsMatrix-map vectors to h.0, IsMatrix-map inverses to h.1)
