-- A row of elements that each of some rows sends to zero, where there are fewer rows than it has elements.
use Rattle.std.specs.Prelude.{◌≡◌, ℕ, zero, suc, List, [], ◌∷◌, ◌++◌, map}
use Rattle.std.specs.List.{AllByRecursion}
use Rattle.gf_tables.specs.Inverse.{inverse}
use Rattle.gf_tables.specs.Product.{product}
use Rattle.gf_tables.specs.declared.kind.FieldKind.{FieldKind}
use Rattle.linear_algebra.specs.Rows.{add_rows, scale_row, zero_row, dot, IsRow}

-- The rest of a row behind its first element, which a multiple of the row `first ∷ rest` takes away.
abbrev pub cleared : FieldKind → ℕ → List ℕ → List ℕ → List ℕ
cleared field first rest [] = []
cleared field first rest (x ∷ xs) = add_rows xs (scale_row field (product field x (inverse field first)) rest)

-- The hidden row of rows, where `passed` are the rests of those before them, whose first elements are zero. The first
-- row whose first element isn't zero gives the first element from the others, which are hidden from the cleared rows.
-- Where there is none, the first unit row is hidden.
unfoldable pub hidden_behind : FieldKind → ℕ → (List (List ℕ) → List ℕ) → List (List ℕ) → List (List ℕ) → List ℕ
hidden_behind field count others passed [] = 1 ∷ zero_row count
hidden_behind field count others passed ([] ∷ rows) = hidden_behind field count others passed rows
hidden_behind field count others passed ((zero ∷ rest) ∷ rows) = hidden_behind field count others (rest ∷ passed) rows
hidden_behind field count others passed ((suc x ∷ rest) ∷ rows) =
    let found = others (passed ++ map (cleared field (suc x) rest) rows) in
    product field (inverse field (suc x)) (dot field rest found) ∷ found

-- A row of so many elements, not all zero, whose product with each of the rows is zero, by elimination. It is one where
-- there are fewer rows than it has elements.
unfoldable pub hidden : FieldKind → ℕ → List (List ℕ) → List ℕ
hidden field zero rows = []
hidden field (suc count) rows = hidden_behind field count (hidden field count) [] rows

-- each product of a row with others is zero
abbrev pub IsZeroUnder : FieldKind → List (List ℕ) → List ℕ → Type 0
IsZeroUnder field others row = AllByRecursion (λ other. dot field other row ≡ 0) others

-- a row of so many elements, not all zero, whose product with each of the rows is zero
pub record IsHidden (field : FieldKind) (count : ℕ) (others : List (List ℕ)) (row : List ℕ) : Type 0 where
  pub elements : IsRow field count row
  pub nonzero : ¬ (row ≡ zero_row count)
  pub products : IsZeroUnder field others row
