-- The steps of loops that fill a matrix.
use Rattle.std.proofs.Common.{◌≡◌, ℕ, zero, suc, ◌+◌, ◌-◌, ◌<◌, ◌≤◌, List, [], ◌∷◌, ◌++◌, length, get_or, set, drop, replicate, arith, ap, ◌∙◌, sym, inl, inr, refl}
use Rattle.std.proofs.lemmas.Bool.{cases_eq}
use Rattle.std.proofs.lemmas.List.{length-set, set-set, get_or-set_same, get_or-set_other, set-append_right, drop-replicate, length-replicate, get_or-replicate}
use Rattle.std.proofs.lemmas.List.FromFn.{fill_by_all}
use Rattle.field_vectors.proofs.RowSteps.{joined_below, joined_below-more}
use Rattle.field_vectors.specs.Difference.{identity_entry}
use Rattle.field_vectors.proofs.DotOfLaws.{identity_entry-on, identity_entry-off}
use Rattle.field_vectors.specs.Elements.{unit_of}
use Rattle.field_vectors.proofs.GridLaws.{row_of-with_row}
use Rattle.field_vectors.specs.Grid.{Grid, row_of, with_row}

-- zeros with one among them are a unit row
pub zeros-set : {A : Type 0} (nought one : A) (n i : ℕ) → i < n → set (replicate n nought) i one ≡ unit_of nought one n i
zeros-set nought one n i below =
    let inside : i < length (replicate n nought) = omega (arith, length-replicate n nought) in
    fill_by_all (identity_entry nought one i) (set (replicate n nought) i one) n nought (length-set (replicate n nought) i one ∙ length-replicate n nought)
    (λ k within.
    elim (cases_eq k i) [
      | inl same ↦ ap (λ j. get_or (set (replicate n nought) i one) j nought) same ∙ get_or-set_same (replicate n nought) i one nought inside ∙ sym (identity_entry-on nought one i) ∙ ap (identity_entry nought one i) (sym same)
      | inr other ↦ get_or-set_other (replicate n nought) i k one nought other ∙ get_or-replicate n k nought nought within ∙ sym (identity_entry-off nought one i k (λ e. other (sym e)))
    ])

-- a row over the first places of another
joined_below-front : {A : Type 0} (k : ℕ) (xs ys : List A) → length ys ≡ k → k ≤ length xs → joined_below (λ x y. y) k xs ys ≡ ys ++ drop k xs
joined_below-front zero xs [] same within = refl
joined_below-front zero xs (y ∷ ys) same within = absurd (omega arith)
joined_below-front (suc k) [] ys same within = absurd (omega arith)
joined_below-front (suc k) (x ∷ xs) [] same within = absurd (omega arith)
joined_below-front (suc k) (x ∷ xs) (y ∷ ys) same within = ap (λ l. y ∷ l) (joined_below-front k xs ys (omega arith) (omega arith))

-- one place more
pub fill-more : {A : Type 0} (nought : A) (old now new : Grid A) (i j : ℕ) (row : List A) (value : A) → i < length old.rows → j < length (row_of old i) → j < length row
    → now ≡ with_row old i (joined_below (λ x y. y) j (row_of old i) row) → value ≡ get_or row j nought → new ≡ with_row now i (set (row_of now i) j value)
    → new ≡ with_row old i (joined_below (λ x y. y) (j + 1) (row_of old i) row)
fill-more {A} nought old now new i j row value below wide long before read written =
    let r = joined_below (λ x y. y) j (row_of old i) row in
    let make : List (List A) → Grid A = λ rows. record { columns = old.columns; rows = rows } in
    written
    ∙ ap (λ (m : Grid A). with_row m i (set (row_of m i) j value)) before
    ∙ ap make (ap (λ t. set (set old.rows i r) i (set t j value)) (row_of-with_row old i r below) ∙ set-set old.rows i r (set r j value))
    ∙ ap (λ t. with_row old i t) (ap (set r j) read ∙ joined_below-more (λ x y. y) j (row_of old i) row nought nought wide long)

-- all places, and one behind them
pub fill-all : {A : Type 0} (nought one : A) (old now new : Grid A) (i n place : ℕ) (row : List A) → i < length old.rows → i < n → length row ≡ n → place ≡ n + i
    → row_of old i ≡ replicate (n + n) nought → now ≡ with_row old i (joined_below (λ x y. y) n (row_of old i) row) → new ≡ with_row now i (set (row_of now i) place one)
    → new ≡ with_row old i (row ++ unit_of nought one n i)
fill-all {A} nought one old now new i n place row below inside long at zeros before written =
    let r = joined_below (λ x y. y) n (row_of old i) row in
    let make : List (List A) → Grid A = λ rows. record { columns = old.columns; rows = rows } in
    let wide : n ≤ length (row_of old i) = omega (arith, ap length zeros, length-replicate (n + n) nought) in
    let left : n + n - n ≡ n = omega arith in
    let offset : place - n ≡ i = omega arith in
    let behind = joined_below-front n (row_of old i) row long wide ∙ ap (λ l. row ++ l) (ap (drop n) zeros ∙ drop-replicate n (n + n) nought ∙ ap (λ k. replicate k nought) left) in
    written
    ∙ ap (λ (m : Grid A). with_row m i (set (row_of m i) place one)) before
    ∙ ap make (ap (λ t. set (set old.rows i r) i (set t place one)) (row_of-with_row old i r below) ∙ set-set old.rows i r (set r place one))
    ∙ ap (λ t. with_row old i t)
    (ap (λ t. set t place one) behind ∙ set-append_right row (replicate n nought) n place one long (omega arith) ∙ ap (λ k. row ++ set (replicate n nought) k one) offset
    ∙ ap (λ l. row ++ l) (zeros-set nought one n i inside))

-- rows below i are filled, and the others are zeros
pub record IsFilling {A : Type 0} (nought one : A) (a work : Grid A) (i : ℕ) : Type 0 where
  pub height : length work.rows ≡ length a.rows
  pub columns : work.columns ≡ length a.rows + length a.rows
  pub filled : (r : ℕ) → r < i → row_of work r ≡ row_of a r ++ unit_of nought one (length a.rows) r
  pub left : (r : ℕ) → i ≤ r → r < length a.rows → row_of work r ≡ replicate (length a.rows + length a.rows) nought

-- the rows below i hold the places of another matrix from its size on
pub record IsHalving {A : Type 0} (work half : Grid A) (i : ℕ) : Type 0 where
  pub height : length half.rows ≡ length work.rows
  pub columns : half.columns ≡ length work.rows
  pub row : (r : ℕ) → r < i → row_of half r ≡ drop (length work.rows) (row_of work r)
