-- The steps of loops over products.
use Rattle.std.proofs.Common.{◌≡◌, ℕ, ◌+◌, ◌<◌, length, drop, ap, ◌∙◌, arith}
use Rattle.field_vectors.proofs.RowSteps.{dot_of-before}
use Rattle.field_vectors.proofs.DifferenceLaws.{get_or-column_of, length-column_of}
use Rattle.field_vectors.specs.Elements.{dot_of, column_of}
use Rattle.field_vectors.specs.Grid.{Grid, row_of, entry_of, IsMatrix}
use Rattle.field_vectors.proofs.GridLaws.{length-row_of}

-- the entry of a product from a place on, from that of the places behind it
pub product_entry-before : {A : Type 0} {P : A → Type 0} (nought : A) (add mul : A → A → A) (a b : Grid A) (i j k : ℕ) → IsMatrix P a → i < length a.rows → k < a.columns
    → a.columns ≡ length b.rows
    → dot_of nought add mul (drop k (row_of a i)) (drop k (column_of nought j b.rows))
    ≡ add (mul (entry_of nought a i k) (entry_of nought b k j)) (dot_of nought add mul (drop (k + 1) (row_of a i)) (drop (k + 1) (column_of nought j b.rows)))
product_entry-before nought add mul a b i j k h below within inner =
    let row = row_of a i in
    let column = column_of nought j b.rows in
    let wide : k < length row = omega (arith, length-row_of a i h below) in
    let tall : k < length column = omega (arith, length-column_of nought b.rows j) in
    let inside : k < length b.rows = omega arith in
    dot_of-before nought add mul k row column nought nought wide tall
    ∙ ap (λ y. add (mul (entry_of nought a i k) y) (dot_of nought add mul (drop (k + 1) row) (drop (k + 1) column))) (get_or-column_of nought b.rows k j inside)
