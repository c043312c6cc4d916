-- Whether a row is a sum of multiples of rows: that is decided, since lists of coefficients are finitely many.
use Rattle.std.specs.Prelude.{◌≡◌, ◌⊎◌, ◌<◌, ℕ, zero, suc, Bool, true, false, List, [], ◌∷◌, All, length, ◌==◌}
use Rattle.std.proofs.Common.{arith, refl, ap, inl, inr, below_more}
use Rattle.std.proofs.Math.Path.{ap₂}
use Rattle.std.proofs.lemmas.Bool.{eqb-true, eqb-false}
use Rattle.std.proofs.lemmas.List.Elements.{All-nil, All-cons, All-head, All-tail}
use Rattle.gf_tables.specs.Product.{size_of}
use Rattle.gf_tables.specs.declared.kind.FieldKind.{FieldKind}
use Rattle.linear_algebra.specs.Rows.{combination}
use Rattle.row_spans.specs.Spans.{IsSum}

-- of the numbers below one, some is so, or none is
below_decided : (P : ℕ → Type 0) → ((k : ℕ) → P k ⊎ (¬ P k)) → (n : ℕ) → ((k : ℕ) × (k < n) × P k) ⊎ (¬ ((k : ℕ) × (k < n) × P k))
below_decided P decide zero = inr (λ some. let below = some.1 in absurd (omega arith))
below_decided P decide (suc n) =
    elim (decide n) [
      | inl here ↦ inl (n, omega arith, here)
      | inr not_here ↦
          elim (below_decided P decide n) [
            | inl some ↦ let below = some.1 in inl (some.0, omega arith, some.2)
            | inr none ↦ inr (λ some. below_more (λ k. ¬ P k) n (λ k below is. none (k, below, is)) not_here some.0 (let below = some.1 in omega arith) some.2)
          ]
    ]

-- a list of so many numbers below one is so
record Some (size n : ℕ) (P : List ℕ → Type 0) : Type 0 where
  pub list : List ℕ
  pub each : All (λ x. x < size) list
  pub count : length list ≡ n
  pub is : P list

-- one more number before a list
some_cons : (size n : ℕ) (P : List ℕ → Type 0) (x : ℕ) → x < size → Some size n (λ xs. P (x ∷ xs)) → Some size (suc n) P
some_cons size n P x below some = record {
  list = x ∷ some.list;
  each = All-cons (λ x. x < size) x some.list below some.each;
  count = ap suc some.count;
  is = some.is;
}

-- of lists of no number there is one
none_empty : (size : ℕ) (P : List ℕ → Type 0) → (¬ P []) → (xs : List ℕ) → length xs ≡ 0 → ¬ P xs
none_empty size P not_here [] count = not_here
none_empty size P not_here (x ∷ xs) count = absurd (omega arith)

none_cons : (size n : ℕ) (P : List ℕ → Type 0) → (¬ ((x : ℕ) × (x < size) × Some size n (λ xs. P (x ∷ xs)))) → (xs : List ℕ) → All (λ x. x < size) xs → length xs ≡ suc n → ¬ P xs
none_cons size n P none [] each count = absurd (omega arith)
none_cons size n P none (x ∷ xs) each count = λ is.
    none (x, All-head (λ x. x < size) x xs each, record { list = xs; each = All-tail (λ x. x < size) x xs each; count = omega arith; is = is })

-- some list is so, or none is
list_decided : (size n : ℕ) (P : List ℕ → Type 0) → ((xs : List ℕ) → P xs ⊎ (¬ P xs)) → Some size n P ⊎ (¬ Some size n P)
list_decided size zero P decide =
    elim (decide []) [
      | inl here ↦ inl (record { list = []; each = All-nil (λ x. x < size); count = refl; is = here })
      | inr not_here ↦ inr (λ some. none_empty size P not_here some.list some.count some.is)
    ]
list_decided size (suc n) P decide =
    elim (below_decided (λ x. Some size n (λ xs. P (x ∷ xs))) (λ x. list_decided size n (λ xs. P (x ∷ xs)) (λ xs. decide (x ∷ xs))) size) [
      | inl some ↦ inl (some_cons size n P some.0 some.1 some.2)
      | inr none ↦ inr (λ some. none_cons size n P none some.list some.each some.count some.is)
    ]

-- numbers are the same or not
same_number : (x y : ℕ) → (x ≡ y) ⊎ (¬ (x ≡ y))
same_number x y =
    let at = λ (b : Bool) (is : (x == y) ≡ b). elim b as (λ b. ((x == y) ≡ b) → (x ≡ y) ⊎ (¬ (x ≡ y))) [
      | true ↦ λ e. inl (eqb-true x y e)
      | false ↦ λ e. inr (eqb-false x y e)
    ] in
    at (x == y) refl refl

-- lists are the same or not
same_list : (xs ys : List ℕ) → (xs ≡ ys) ⊎ (¬ (xs ≡ ys))
same_list [] [] = inl refl
same_list [] (y ∷ ys) = inr (λ e. cc)
same_list (x ∷ xs) [] = inr (λ e. cc)
same_list (x ∷ xs) (y ∷ ys) =
    elim (same_number x y) [
      | inl first ↦ elim (same_list xs ys) [ inl rest ↦ inl (ap₂ ◌∷◌ first rest) | inr other ↦ inr (λ e. other (cc)) ]
      | inr other ↦ inr (λ e. other (cc))
    ]

-- a row is a sum of multiples of rows, or it is none
pub IsSum-decided : (field : FieldKind) (width : ℕ) (rows : List (List ℕ)) (row : List ℕ) → IsSum field width rows row ⊎ (¬ IsSum field width rows row)
IsSum-decided field width rows row =
    elim (list_decided (size_of field) (length rows) (λ coefficients. combination field width coefficients rows ≡ row) (λ coefficients. same_list (combination field width coefficients rows) row)) [
      | inl some ↦ inl (record { coefficients = some.list; elements = some.each; count = some.count; sum = some.is })
      | inr none ↦ inr (λ is. none (record { list = is.coefficients; each = is.elements; count = is.count; is = is.sum }))
    ]

-- whether a row is a sum of multiples of rows
unfoldable pub is_sum : FieldKind → ℕ → List (List ℕ) → List ℕ → Bool
is_sum field width rows row = elim (IsSum-decided field width rows row) [ inl sum ↦ true | inr other ↦ false ]
