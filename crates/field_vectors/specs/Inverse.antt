-- The inverse of a matrix, and blocks that a matrix sends to zero.
use Rattle.std.specs.Prelude.{◌≡◌, ◌≢◌, ℕ, ◌-◌, ◌<◌, List, ◌∷◌, ◌++◌, All, map, length, drop, replicate, slice_index_or}
use Rattle.std.specs.List.{range_with_len}
use Rattle.field_vectors.specs.Elements.{product_of, identity_of}
use Rattle.field_vectors.specs.Elimination.{SendsToZero}
use Rattle.field_vectors.specs.Grid.{Grid, row_of, entry_of, IsMatrix}

-- a matrix is the inverse of a square one, from both sides
pub record IsInverse {A : Type 0} (zero one : A) (add mul : A → A → A) (a inverse : Grid A) : Type 0 where
  pub height : length inverse.rows ≡ length a.rows
  pub columns : inverse.columns ≡ length a.rows
  pub left : product_of zero add mul (length a.rows) inverse.rows a.rows ≡ identity_of zero one (length a.rows)
  pub right : product_of zero add mul (length a.rows) a.rows inverse.rows ≡ identity_of zero one (length a.rows)

-- the block has an element that is not zero, and the matrix sends it to zero
pub record IsSentToZero {A : Type 0} (is_element : A → Type 0) (zero : A) (add mul : A → A → A) (a : Grid A) (block : List A) : Type 0 where
  pub size : length block ≡ length a.rows
  pub elements : All is_element block
  pub nonzero : (place : ℕ) × (place < length block) × (slice_index_or block place zero ≢ zero)
  pub to_zero : SendsToZero zero add mul a.rows block

-- each block of elements that the matrix sends to zero is zero
abbrev pub OnlyZeroToZero : {A : Type 0} → (A → Type 0) → A → (A → A → A) → (A → A → A) → Grid A → Type 0
OnlyZeroToZero {A} is_element zero add mul a =
    (block : List A) → All is_element block → length block ≡ length a.rows → SendsToZero zero add mul a.rows block → All (λ element. element ≡ zero) block

-- a matrix holds the places of another from its size on
pub record IsRightHalf {A : Type 0} (is_element : A → Type 0) (work half : Grid A) : Type 0 where
  pub height : length half.rows ≡ length work.rows
  pub columns : half.columns ≡ length work.rows
  pub kept : IsMatrix is_element half
  pub row : (i : ℕ) → i < length work.rows → row_of half i ≡ drop (length work.rows) (row_of work i)

-- what the columns before k combine to in column k, with one for column k itself
abbrev pub block_of : {A : Type 0} → A → A → Grid A → ℕ → List A
block_of zero one work k = map (λ i. entry_of zero work i k) (range_with_len 0 k) ++ (one ∷ replicate (length work.rows - k - 1) zero)
