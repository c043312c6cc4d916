-- What the answer is whether a row is a sum of multiples of rows.
use Rattle.std.specs.Prelude.{◌≡◌, ℕ, true, false, List}
use Rattle.std.proofs.Common.{refl, inl, inr}
use Rattle.gf_tables.specs.declared.kind.FieldKind.{FieldKind}
use Rattle.row_spans.specs.Decided.{IsSum-decided, is_sum}
use Rattle.row_spans.specs.Spans.{IsSum}

-- the answer where a row is a sum
pub is_sum-true : (field : FieldKind) (width : ℕ) (rows : List (List ℕ)) (row : List ℕ) → IsSum field width rows row → is_sum field width rows row ≡ true
unfolding is_sum
is_sum-true field width rows row sum =
    elim (IsSum-decided field width rows row) as (λ d. (elim d [ inl s ↦ true | inr n ↦ false ]) ≡ true) [ inl s ↦ refl | inr n ↦ absurd (n sum) ]

-- and where it is none
pub is_sum-false : (field : FieldKind) (width : ℕ) (rows : List (List ℕ)) (row : List ℕ) → (¬ IsSum field width rows row) → is_sum field width rows row ≡ false
unfolding is_sum
is_sum-false field width rows row other =
    elim (IsSum-decided field width rows row) as (λ d. (elim d [ inl s ↦ true | inr n ↦ false ]) ≡ false) [ inl s ↦ absurd (other s) | inr n ↦ refl ]
