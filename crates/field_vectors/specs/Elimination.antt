-- Elimination: steps between matrices that send the same blocks to zero, up to one whose first columns are those of the
-- identity.
use Rattle.std.specs.Prelude.{◌≡◌, ◌≢◌, ℕ, ◌+◌, ◌<◌, ◌≤◌, List, ◌++◌, All, length}
use Rattle.field_vectors.specs.Difference.{identity_entry}
use Rattle.field_vectors.specs.Elements.{dot_of, unit_of}
use Rattle.field_vectors.specs.Grid.{Grid, row_of, entry_of, IsMatrix}

-- the product of each row and the block is zero
abbrev pub SendsToZero : {A : Type 0} → A → (A → A → A) → (A → A → A) → List (List A) → List A → Type 0
SendsToZero zero add mul rows block = All (λ row. dot_of zero add mul row block ≡ zero) rows

-- a matrix of the same size, that sends the same blocks to zero
pub record IsStep {A : Type 0} (is_element : A → Type 0) (zero : A) (add mul : A → A → A) (old new : Grid A) : Type 0 where
  pub columns : new.columns ≡ old.columns
  pub height : length new.rows ≡ length old.rows
  pub kept : IsMatrix is_element new
  pub to : (block : List A) → All is_element block → SendsToZero zero add mul old.rows block → SendsToZero zero add mul new.rows block
  pub from : (block : List A) → All is_element block → SendsToZero zero add mul new.rows block → SendsToZero zero add mul old.rows block

-- the first k columns are those of the identity
pub record IsReduced {A : Type 0} (zero one : A) (m : Grid A) (k : ℕ) : Type 0 where
  pub entry : (i j : ℕ) → i < length m.rows → j < k → entry_of zero m i j ≡ identity_entry zero one i j

-- column k has zeros from row k on
pub record IsStuck {A : Type 0} (zero : A) (m : Grid A) (k : ℕ) : Type 0 where
  pub entry : (i : ℕ) → k ≤ i → i < length m.rows → entry_of zero m i k ≡ zero

-- row i is the first from row k on whose entry in column k is not zero
pub record IsPivot {A : Type 0} (zero : A) (m : Grid A) (k i : ℕ) : Type 0 where
  pub from : k ≤ i
  pub below : i < length m.rows
  pub value : entry_of zero m i k ≢ zero
  pub first : (r : ℕ) → k ≤ r → r < i → entry_of zero m r k ≡ zero

-- each row is that of a square matrix, and behind it the row of the identity
pub record IsBeside {A : Type 0} (is_element : A → Type 0) (zero one : A) (a work : Grid A) : Type 0 where
  pub kept : IsMatrix is_element work
  pub height : length work.rows ≡ length a.rows
  pub columns : work.columns ≡ length a.rows + length a.rows
  pub row : (i : ℕ) → i < length a.rows → row_of work i ≡ row_of a i ++ unit_of zero one (length a.rows) i
