-- As many rows are kept as is the rank of the vectors that came.
use Rattle.std.specs.Prelude.{◌≡◌, ◌+◌, ℕ, suc, true, false, List, [], ◌∷◌, length, if◌then◌else◌}
use Rattle.std.proofs.Common.{arith, refl, ap, ◌∙◌, inl, inr}
use Rattle.gf_tables.specs.declared.kind.FieldKind.{FieldKind}
use Rattle.linear_algebra.specs.Rows.{combination, scale_row, add_rows, AreElements}
use Rattle.linear_algebra.proofs.RowLaws.{AreElements-head, AreElements-tail, AreElements-cons}
use Rattle.row_spans.proofs.SumLaws.{HaveSameSums-same}
use Rattle.row_spans.proofs.DecidedLaws.{is_sum-false, is_sum-true}
use Rattle.row_spans.specs.Decided.{IsSum-decided, is_sum}
use Rattle.row_spans.specs.Spans.{HaveSameSums, IsSum}
use Rattle.vector_headers.specs.Ranks.{AreAccepted, IsAccepted, rank_of}
use Rattle.vector_headers.specs.Rows.{CodedRow, vectors_of}
use Rattle.vector_headers.specs.declared.blind.Gain.{Gain}
use Rattle.vector_headers.specs.declared.blind.Gain.TheVariants.{Raised, Same}

-- a sum with a row before others, where those have the sums of the first
sum_behind : (field : FieldKind) (width : ℕ) (first : List ℕ) (rows others : List (List ℕ)) → HaveSameSums field width rows others
    → (row coefficients : List ℕ) → AreElements field coefficients → length coefficients ≡ suc (length rows) → combination field width coefficients (first ∷ rows) ≡ row
    → IsSum field width (first ∷ others) row
sum_behind field width first rows others same row [] elements count sum = absurd (omega arith)
sum_behind field width first rows others same row (times ∷ coefficients) elements count sum =
    let rest = combination field width coefficients rows in
    let behind : IsSum field width rows rest = record { coefficients = coefficients; elements = AreElements-tail field times coefficients elements; count = omega arith; sum = refl } in
    let other = (same rest).0 behind in
    record {
      coefficients = times ∷ other.coefficients;
      elements = AreElements-cons field times other.coefficients (AreElements-head field times coefficients elements) other.elements;
      count = ap suc other.count;
      sum = ap (add_rows (scale_row field times first)) other.sum ∙ sum;
    }

-- a row before lists with the same sums
same_behind : (field : FieldKind) (width : ℕ) (first : List ℕ) (rows others : List (List ℕ)) → HaveSameSums field width rows others → HaveSameSums field width (first ∷ rows) (first ∷ others)
same_behind field width first rows others same row = (
  λ sum. sum_behind field width first rows others same row sum.coefficients sum.elements sum.count sum.sum,
  λ sum. sum_behind field width first others rows (λ row. ((same row).1, (same row).0)) row sum.coefficients sum.elements sum.count sum.sum,
)

-- what is kept of vectors that were accepted in turn: rows with their sums, as many as is their rank
pub record IsKept (field : FieldKind) (rate : ℕ) (vectors : List (List ℕ)) (rows : List CodedRow) : Type 0 where
  pub sums : HaveSameSums field rate (vectors_of rows) vectors
  pub count : length rows ≡ rank_of field rate vectors

module _ (field : FieldKind) (rate : ℕ) where
  -- one more row is kept, or none
  kept_count : (earlier : List (List ℕ)) (old new : List CodedRow) (vector : List ℕ) (gain : Gain) → IsKept field rate earlier old → IsAccepted field rate old new vector gain
      → length new ≡ (if is_sum field rate earlier vector then 0 else 1) + length old
  kept_count earlier old new vector Raised kept accepted =
      let raised = accepted.raised.0 refl in
      let count = accepted.count refl in
      let other : is_sum field rate earlier vector ≡ false = is_sum-false field rate earlier vector (λ sum. raised ((kept.sums vector).1 sum)) in
      rw other (omega arith)
  kept_count earlier old new vector Same kept accepted =
      let unchanged = accepted.same refl in
      let sum : is_sum field rate earlier vector ≡ true =
      elim (IsSum-decided field rate (vectors_of old) vector) [
        | inl is ↦ is_sum-true field rate earlier vector ((kept.sums vector).0 is)
        | inr other ↦ let wrong : Same ≡ Raised = accepted.raised.1 other in absurd (cc)
      ]
      in
      rw (sum, unchanged) (omega arith)

  -- the rows kept of vectors that were accepted in turn
  pub IsKept-accepted : (vectors : List (List ℕ)) (rows : List CodedRow) → AreAccepted field rate vectors rows → IsKept field rate vectors rows
  IsKept-accepted [] rows none = record {
    sums = rw none (HaveSameSums-same field rate []);
    count = ap length none;
  }
  IsKept-accepted (vector ∷ earlier) rows next =
      let old = next.0 in
      let accepted = next.3 in
      let kept = IsKept-accepted earlier old next.2 in
      let behind = same_behind field rate vector (vectors_of old) earlier kept.sums in
      record {
        sums = λ row. (λ sum. (behind row).0 ((accepted.spans row).0 sum), λ sum. (accepted.spans row).1 ((behind row).1 sum));
        count = kept_count earlier old rows vector next.1 kept accepted ∙ ap (λ n. (if is_sum field rate earlier vector then 0 else 1) + n) kept.count;
      }
