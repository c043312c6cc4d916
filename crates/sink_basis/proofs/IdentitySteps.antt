-- The steps of the loop that makes the identity.
use Rattle.std.proofs.Common.{◌≡◌, ℕ, ◌+◌, ◌<◌, ◌≤◌, length, set, replicate, arith, sym, ap, ◌∙◌, inl, inr}
use Rattle.std.proofs.lemmas.Bool.{cases_eq}
use Rattle.std.proofs.lemmas.List.{length-set, length-replicate, get_or-replicate}
use Rattle.std.proofs.lemmas.List.FromFn.{fill_by_all}
use Rattle.field_vectors.proofs.FillSteps.{zeros-set}
use Rattle.field_vectors.specs.Elements.{unit_of, identity_of}
use Rattle.field_vectors.specs.Grid.{Grid, row_of, with_row, grid_of}
use Rattle.field_vectors.proofs.GridLaws.{row_of-with_row, row_of-with_other}

-- the rows below a limit are those of the identity, and the others are zeros
pub record IsIdentityBelow {A : Type 0} (nought one : A) (size : ℕ) (m : Grid A) (limit : ℕ) : Type 0 where
  pub columns : m.columns ≡ size
  pub height : length m.rows ≡ size
  pub before : (k : ℕ) → k < limit → row_of m k ≡ unit_of nought one size k
  pub behind : (k : ℕ) → limit ≤ k → k < size → row_of m k ≡ replicate size nought

-- at the start
pub identity-none : {A : Type 0} (nought one : A) (size : ℕ) (m : Grid A) → m ≡ grid_of size size nought → IsIdentityBelow nought one size m 0
identity-none nought one size m made = record {
  columns = ap (λ g. g.columns) made;
  height = ap (λ g. length g.rows) made ∙ length-replicate size (replicate size nought);
  before = λ k below. absurd (omega arith);
  behind = λ k past below. ap (λ g. row_of g k) made ∙ get_or-replicate size k (replicate size nought) _ below;
}

-- with one more row
pub identity-more : {A : Type 0} (nought one : A) (size : ℕ) (m new : Grid A) (i : ℕ) → i < size → IsIdentityBelow nought one size m i
    → new ≡ with_row m i (set (row_of m i) i one) → IsIdentityBelow nought one size new (i + 1)
identity-more nought one size m new i below h made =
    let row = set (row_of m i) i one in
    let inside : i < length m.rows = omega (arith, h.height) in
    let here : row ≡ unit_of nought one size i = ap (λ r. set r i one) (h.behind i (omega arith) below) ∙ zeros-set nought one size i below in
    record {
      columns = ap (λ g. g.columns) made ∙ h.columns;
      height = ap (λ g. length g.rows) made ∙ length-set m.rows i row ∙ h.height;
      before = λ k within.
          elim (cases_eq k i) [
            | inl same ↦ ap (row_of new) same ∙ ap (λ g. row_of g i) made ∙ row_of-with_row m i row inside ∙ here ∙ ap (unit_of nought one size) (sym same)
            | inr other ↦ ap (λ g. row_of g k) made ∙ row_of-with_other m i k row other ∙ h.before k (omega arith)
          ];
      behind = λ k past short.
          let other : k ≡ i → ⊥ = λ e. omega arith in
          ap (λ g. row_of g k) made ∙ row_of-with_other m i k row other ∙ h.behind k (omega arith) short;
    }

-- at the end
pub identity-all : {A : Type 0} (nought one : A) (size : ℕ) (m : Grid A) (i : ℕ) → size ≤ i → IsIdentityBelow nought one size m i → m.rows ≡ identity_of nought one size
identity-all nought one size m i all h = fill_by_all (unit_of nought one size) m.rows size _ h.height (λ k below. h.before k (omega arith))
