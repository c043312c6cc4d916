-- Laws of the rows of the marked columns. They have the sums of all rows, and are as many as the marks.
use Rattle.std.specs.Prelude.{◌≡◌, ℕ, zero, suc, ◌<◌, ◌≤◌, Bool, true, false, List, [], ◌∷◌, length, replicate, set}
use Rattle.std.specs.List.{AllByRecursion}
use Rattle.std.proofs.Common.{arith, refl, sym, ap, ◌∙◌, get_or, subst}
use Rattle.gf_tables.specs.declared.kind.FieldKind.{FieldKind}
use Rattle.linear_algebra.specs.Rows.{AreRows, IsRow}
use Rattle.row_spans.proofs.SumLaws.{IsSum-zero_row, each_IsSum, same_sums}
use Rattle.row_spans.specs.Reduced.{kept, AreReduced}
use Rattle.row_spans.specs.Spans.{HaveSameSums, IsSum}

-- what holds of all rows holds of those that are kept
pub kept-all : (P : List ℕ → Type 0) (marks : List Bool) (rows : List (List ℕ)) → AllByRecursion P rows → AllByRecursion P (kept marks rows)
kept-all P [] rows each = tt
kept-all P (mark ∷ marks) [] each = tt
kept-all P (true ∷ marks) (row ∷ rows) each = (each.0, kept-all P marks rows each.1)
kept-all P (false ∷ marks) (row ∷ rows) each = kept-all P marks rows each.1

-- what holds of those that are kept, and of those that aren't, holds of all
pub all-kept : (P : List ℕ → Type 0) (marks : List Bool) (rows : List (List ℕ)) → length rows ≡ length marks → AllByRecursion P (kept marks rows)
    → ((p : ℕ) → p < length rows → get_or marks p false ≡ false → P (get_or rows p [])) → AllByRecursion P rows
all-kept P marks [] same each others = tt
all-kept P [] (row ∷ rows) same each others = absurd (omega arith)
all-kept P (true ∷ marks) (row ∷ rows) same each others =
    (each.0, all-kept P marks rows (omega arith) each.1 (λ p below none. others (suc p) (omega arith) none))
all-kept P (false ∷ marks) (row ∷ rows) same each others =
    (others 0 (omega arith) refl, all-kept P marks rows (omega arith) each (λ p below none. others (suc p) (omega arith) none))

-- no row is kept where no column is marked
pub kept-none : (n : ℕ) (rows : List (List ℕ)) → kept (replicate n false) rows ≡ []
kept-none zero rows = refl
kept-none (suc n) [] = refl
kept-none (suc n) (row ∷ rows) = kept-none n rows

-- no more rows are kept than there are
pub length-kept_most : (marks : List Bool) (rows : List (List ℕ)) → length (kept marks rows) ≤ length rows
length-kept_most [] rows = omega arith
length-kept_most (mark ∷ marks) [] = omega arith
length-kept_most (true ∷ marks) (row ∷ rows) = omega (arith, length-kept_most marks rows)
length-kept_most (false ∷ marks) (row ∷ rows) = omega (arith, length-kept_most marks rows)

-- as many of others are kept
length-kept_same : (marks : List Bool) (rows others : List (List ℕ)) → length others ≡ length rows → length (kept marks others) ≡ length (kept marks rows)
length-kept_same [] rows others same = refl
length-kept_same (mark ∷ marks) [] [] same = refl
length-kept_same (mark ∷ marks) [] (other ∷ others) same = absurd (omega arith)
length-kept_same (mark ∷ marks) (row ∷ rows) [] same = absurd (omega arith)
length-kept_same (true ∷ marks) (row ∷ rows) (other ∷ others) same = ap suc (length-kept_same marks rows others (omega arith))
length-kept_same (false ∷ marks) (row ∷ rows) (other ∷ others) same = length-kept_same marks rows others (omega arith)

-- one more row is kept where one more column is marked
pub length-kept_more : (marks : List Bool) (rows others : List (List ℕ)) (column : ℕ) → length rows ≡ length marks → length others ≡ length marks → column < length marks
    → get_or marks column false ≡ false → length (kept (set marks column true) others) ≡ suc (length (kept marks rows))
length-kept_more [] rows others column same also within none = absurd (omega arith)
length-kept_more (mark ∷ marks) [] others column same also within none = absurd (omega arith)
length-kept_more (mark ∷ marks) (row ∷ rows) [] column same also within none = absurd (omega arith)
length-kept_more (true ∷ marks) (row ∷ rows) (other ∷ others) zero same also within none = cc
length-kept_more (false ∷ marks) (row ∷ rows) (other ∷ others) zero same also within none = ap suc (length-kept_same marks rows others (omega arith))
length-kept_more (true ∷ marks) (row ∷ rows) (other ∷ others) (suc column) same also within none = ap suc (length-kept_more marks rows others column (omega arith) (omega arith) (omega arith) none)
length-kept_more (false ∷ marks) (row ∷ rows) (other ∷ others) (suc column) same also within none = length-kept_more marks rows others column (omega arith) (omega arith) (omega arith) none

-- where all rows are kept all columns are marked
pub marked_from_all : (marks : List Bool) (rows : List (List ℕ)) (p : ℕ) → length rows ≡ length marks → length (kept marks rows) ≡ length rows → p < length marks
    → get_or marks p false ≡ true
marked_from_all [] rows p same whole below = absurd (omega arith)
marked_from_all (mark ∷ marks) [] p same whole below = absurd (omega arith)
marked_from_all (false ∷ marks) (row ∷ rows) p same whole below = absurd (omega (arith, length-kept_most marks rows))
marked_from_all (true ∷ marks) (row ∷ rows) zero same whole below = refl
marked_from_all (true ∷ marks) (row ∷ rows) (suc p) same whole below = marked_from_all marks rows p (omega arith) (omega arith) (omega arith)

-- where all columns are marked all rows are kept
pub all_from_marked : (marks : List Bool) (rows : List (List ℕ)) → length rows ≡ length marks → ((p : ℕ) → p < length marks → get_or marks p false ≡ true)
    → length (kept marks rows) ≡ length rows
all_from_marked [] rows same marked = omega arith
all_from_marked (mark ∷ marks) [] same marked = refl
all_from_marked (true ∷ marks) (row ∷ rows) same marked = ap suc (all_from_marked marks rows (omega arith) (λ p below. marked (suc p) (omega arith)))
all_from_marked (false ∷ marks) (row ∷ rows) same marked =
    let no : false ≡ true = marked 0 (omega arith) in
    cc

module _ (field : FieldKind) (width rate : ℕ) (marks : List Bool) (rows : List (List ℕ)) (h : AreReduced field width rate marks rows) where
  -- rows that are kept
  pub AreRows-kept : AreRows field width (kept marks rows)
  AreRows-kept = kept-all (IsRow field width) marks rows h.are

  -- have the sums of all
  pub HaveSameSums-kept : HaveSameSums field width (kept marks rows) rows
  HaveSameSums-kept =
      let zeros = IsSum-zero_row field width (kept marks rows) AreRows-kept in
      let Kept : List ℕ → Type 0 = IsSum field width (kept marks rows) in
      same_sums field width (kept marks rows) rows AreRows-kept h.are (kept-all (IsSum field width rows) marks rows (each_IsSum field width rows h.are))
      (all-kept Kept marks rows (h.count ∙ sym h.columns) (each_IsSum field width (kept marks rows) AreRows-kept)
      (λ p below none. subst Kept (sym (h.unmarked p (omega (arith, h.count)) none)) zeros))
