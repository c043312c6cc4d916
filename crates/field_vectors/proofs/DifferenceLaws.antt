-- Matrices and products, entry by entry.
use Rattle.std.specs.Prelude.{◌≡◌, ℕ, ◌<◌, List, [], map, length, get_or}
use Rattle.std.proofs.Common.{arith, ap, ◌∙◌}
use Rattle.std.specs.List.{range_with_len}
use Rattle.std.proofs.lemmas.List.{length-map, get_or-map}
use Rattle.std.proofs.lemmas.List.FromFn.{fill_by_all}
use Rattle.item_list.proofs.Maps.{same_made}
use Rattle.field_vectors.specs.Difference.{product_entry, identity_entry}
use Rattle.field_vectors.specs.Elements.{dot_of, column_of, row_product, product_of, unit_of, identity_of}
use Rattle.field_vectors.specs.Grid.{Grid, row_of}

-- a product whose entries are those of the identity is the identity
pub product_of-identity : {A : Type 0} (nought one : A) (add mul : A → A → A) (size : ℕ) (a b : Grid A) → length a.rows ≡ size → b.columns ≡ size
    → ((i j : ℕ) → i < size → j < size → product_entry nought add mul a b i j ≡ identity_entry nought one i j)
    → product_of nought add mul b.columns a.rows b.rows ≡ identity_of nought one size
product_of-identity {A} nought one add mul size a b tall wide agree =
    let made : List A → List A = row_product nought add mul b.columns b.rows in
    fill_by_all (unit_of nought one size) (map made a.rows) size [] (length-map a.rows made ∙ tall)
    (λ i below.
    let inside : i < length a.rows = omega arith in
    let row = row_of a i in
    get_or-map made a.rows i [] [] inside
    ∙ ap (λ n. map (λ j. dot_of nought add mul row (column_of nought j b.rows)) (range_with_len 0 n)) wide
    ∙ same_made (product_entry nought add mul a b i) (identity_entry nought one i) size nought (λ j within. agree i j below within))

-- a place of a column
pub get_or-column_of : {A : Type 0} (nought : A) (rows : List (List A)) (k j : ℕ) → k < length rows → get_or (column_of nought j rows) k nought ≡ get_or (get_or rows k []) j nought
get_or-column_of {A} nought rows k j below = get_or-map (λ (row : List A). get_or row j nought) rows k [] nought below

-- the length of a column
pub length-column_of : {A : Type 0} (nought : A) (rows : List (List A)) (j : ℕ) → length (column_of nought j rows) ≡ length rows
length-column_of {A} nought rows j = length-map rows (λ (row : List A). get_or row j nought)
