-- Laws of the steps of a renewal.
use Rattle.std.specs.Prelude.{◌≡◌, ◌≢◌, ◌<◌, ◌≤◌, ◌+◌, ◌*◌, ◌==◌, ◌&&◌, ℕ, zero, suc, Bool, true, false, not, cond, List, [], ◌∷◌, count_by, if◌then◌else◌, length, sum_by}
use Rattle.std.specs.List.{range_with_len}
use Rattle.std.proofs.Common.{refl, sym, ap, ◌∙◌, arith, subst, inl, inr}
use Rattle.std.proofs.lemmas.Bool.{cases_eq, eq-eqb}
use Rattle.std.proofs.lemmas.List.{map-id}
use Rattle.std.proofs.lemmas.List.FromFn.{length-range_with_len, sum_by-map-range_with_len_more}
use Rattle.std.proofs.lemmas.List.Sums.{count_by-le-length}
use Rattle.std.proofs.lemmas.Nat.{mul-le}
use Rattle.counted_steps.specs.Steps.{RoseBy, RoseByAtMost}
use Rattle.field_vectors.specs.Elements.{dot_of}
use Rattle.field_vectors.specs.Grid.{Grid, row_of}
use Rattle.sink_basis.specs.Renewal.{clear_steps, is_changed, others_changed}

-- what an item adds to a count
abbrev one : Bool → ℕ
one b = cond b 1 0

one-at_most : (b : Bool) → one b ≤ 1
one-at_most true = omega arith
one-at_most false = omega arith

-- how many numbers below one more pass a test
pub count_by-more : (test : ℕ → Bool) (n : ℕ) → count_by test (range_with_len 0 (n + 1)) ≡ count_by test (range_with_len 0 n) + cond (test n) 1 0
count_by-more test n =
    let f : ℕ → ℕ = λ k. cond (test k) 1 0 in
    sym (ap (sum_by f) (map-id (range_with_len 0 (n + 1)))) ∙ sum_by-map-range_with_len_more f (λ k. k) 0 n n (omega arith)
    ∙ ap (λ numbers. sum_by f numbers + f n) (map-id (range_with_len 0 n))

-- where a number fails a test, not all numbers pass it
pub count_by-but_one : (test : ℕ → Bool) (n out : ℕ) → out < n → test out ≡ false → count_by test (range_with_len 0 n) < n
count_by-but_one test zero out below fails = absurd (omega arith)
count_by-but_one test (suc n) out below fails =
    let next : suc n ≡ n + 1 = omega arith in
    let more = ap (λ m. count_by test (range_with_len 0 m)) next ∙ count_by-more test n in
    elim (cases_eq out n) [
      | inl same ↦
          (let none : one (test n) ≡ 0 = ap one (ap test (sym same) ∙ fails) in
          omega (arith, more, none, count_by-le-length test (range_with_len 0 n), length-range_with_len 0 n))
      | inr apart ↦ omega (arith, more, one-at_most (test n), count_by-but_one test n out (omega arith) fails)
    ]

module _ {A : Type 0} (number : A → ℕ) (nought : A) (add mul : A → A → A) (path : ℕ) (vector : List A) where
  -- how many of the rows below a limit change
  abbrev pub changed_below : Grid A → ℕ → ℕ
  changed_below m limit = count_by (is_changed number nought add mul path vector m) (range_with_len 0 limit)

  -- the path's row is none of them
  pub path-unchanged : (m : Grid A) → is_changed number nought add mul path vector m path ≡ false
  path-unchanged m = ap (λ (same : Bool). not same && not (number (dot_of nought add mul vector (row_of m path)) == 0)) (eq-eqb path path refl)

  -- so not all rows change
  pub others_changed-few : (m : Grid A) → path < length m.rows → others_changed number nought add mul path vector m < length m.rows
  others_changed-few m below = count_by-but_one (is_changed number nought add mul path vector m) (length m.rows) path below (path-unchanged m)

  -- the same rows change in a matrix that differs in the path's row alone
  pub others_changed-same : (m n : Grid A) → length n.rows ≡ length m.rows → ((k : ℕ) → k ≢ path → row_of n k ≡ row_of m k)
      → others_changed number nought add mul path vector n ≡ others_changed number nought add mul path vector m
  others_changed-same m n tall rows =
      let test : Grid A → ℕ → Bool = is_changed number nought add mul path vector in
      let same : (k : ℕ) → test n k ≡ test m k = λ k. elim (cases_eq k path) [
        | inl here ↦ ap (test n) here ∙ path-unchanged n ∙ sym (path-unchanged m) ∙ ap (test m) (sym here)
        | inr apart ↦ ap (λ (row : List A). not (k == path) && not (number (dot_of nought add mul vector row) == 0)) (rows k apart)
      ] in
      ap (λ rows. count_by (test n) (range_with_len 0 rows)) tall ∙ ap (λ (test : ℕ → Bool). count_by test (range_with_len 0 (length m.rows))) (λ i k. same k i)

  -- the steps of one more row
  pub row_steps : (m now : Grid A) (k : ℕ) → row_of now k ≡ row_of m k → now.columns ≡ m.columns
      → (k + changed_below m k) * m.columns + clear_steps number nought add mul path vector now k ≡ (k + 1 + changed_below m (k + 1)) * m.columns
  row_steps m now k rows wide =
      let before = changed_below m k in
      let width = m.columns in
      let test : List A → Bool = λ row. not (k == path) && not (number (dot_of nought add mul vector row) == 0) in
      let Turn : Bool → Type 0 = λ b. (k + before) * width + (if b then 2 * width else width) ≡ (k + 1 + (before + cond b 1 0)) * width in
      let turn : Turn (test (row_of m k)) = elim (test (row_of m k)) as Turn [ true ↦ omega arith | false ↦ omega arith ] in
      ap (λ (b : Bool). (k + before) * width + (if b then 2 * now.columns else now.columns)) (ap test rows) ∙ ap (λ width'. (k + before) * width + (if test (row_of m k) then 2 * width' else width')) wide
      ∙ turn ∙ ap (λ count. (k + 1 + count) * width) (sym (count_by-more (is_changed number nought add mul path vector m) k))

  -- the path's row takes none
  pub own_steps : (m : Grid A) (k : ℕ) → k ≡ path → (k + changed_below m k) * m.columns + m.columns ≡ (k + 1 + changed_below m (k + 1)) * m.columns
  own_steps m k same =
      let test = is_changed number nought add mul path vector m in
      let none : one (test k) ≡ 0 = ap one (ap test same ∙ path-unchanged m) in
      let as_many : changed_below m (k + 1) ≡ changed_below m k = omega (arith, count_by-more test k, none) in
      subst (λ count. (k + changed_below m k) * m.columns + m.columns ≡ (k + 1 + count) * m.columns) (sym as_many) (omega arith)

-- the steps of all rows but the path's
pub others_steps : (others changed rows width old new : ℕ) → others + 1 ≡ rows → new + width ≡ old + (rows + changed) * width → RoseBy ((others + changed) * width) old new
others_steps others changed rows width old new more last =
    let all : new + width ≡ old + (others + 1 + changed) * width = subst (λ rows. new + width ≡ old + (rows + changed) * width) (sym more) last in
    omega arith

-- the steps of the products, of the inverse, of the path's row and of the others
pub all_steps : (others changed changed' columns rows width old a b c new : ℕ) → others + 1 ≡ rows → changed' ≡ changed → width ≡ columns
    → RoseBy columns old a → RoseBy columns a b → RoseBy ((others + changed') * width) c new → RoseBy 1 b c → RoseBy (rows * columns + 1 + columns + changed * columns) old new
all_steps others changed changed' columns rows width old a b c new more same wide first second last third =
    let rest : new ≡ c + (others + changed) * columns = last ∙ ap (λ changed. c + (others + changed) * width) same ∙ ap (λ width. c + (others + changed) * width) wide in
    subst (λ rows. RoseBy (rows * columns + 1 + columns + changed * columns) old new) more (omega arith)

-- they are few, where there is an entry
pub few_steps : (changed columns rows old new : ℕ) → changed < rows → 0 < columns → RoseBy (rows * columns + 1 + columns + changed * columns) old new → RoseByAtMost (3 * (rows * columns)) old new
few_steps changed columns rows old new few some rose =
    let others = mul-le (changed + 1) columns rows columns (omega arith) (omega arith) in
    let entry = mul-le 1 1 rows columns (omega arith) some in
    record { not_below = omega (arith, rose); not_above = omega (arith, rose, others, entry) }

-- a product of no places is zero
pub dot_of-wide : {A : Type 0} (nought : A) (add mul : A → A → A) (x y : List A) → dot_of nought add mul x y ≢ nought → 0 < length x
dot_of-wide nought add mul [] y nonzero = absurd (nonzero refl)
dot_of-wide nought add mul (a ∷ x) y nonzero = omega arith
