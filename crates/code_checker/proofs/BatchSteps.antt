-- How the first failures of batches are put together.
use Rattle.std.specs.Prelude.{◌≡◌, ℕ, ◌+◌, ◌<◌, ◌≤◌, Option, Some, None, List, [], ◌∷◌, ◌++◌, Result, Ok, length, slice_get}
use Rattle.std.specs.declared.alloc.AllocError.{AllocError}
use Rattle.std.proofs.Common.{arith, sym, ap, subst, ◌∙◌, inl, inr}
use Rattle.std.proofs.lemmas.Bool.{cases_lt}
use Rattle.std.proofs.lemmas.List.{length-append}
use Rattle.failure_patterns.proofs.BatchLaws.{AreThrough, batch_first, batch_last, batch_within, through_last, through_more, through_next, through_none}
use Rattle.failure_patterns.specs.Batches.{batch_start}
use Rattle.net_model.specs.Demands.{demand_count}
use Rattle.node_program.proofs.DecodingLaws.{IsAccepted-identity}
use Rattle.node_program.specs.Decoding.{IsAccepted}
use Rattle.node_program.specs.declared.code.Code.{Code}
use Rattle.code_checker.specs.First.{AreBatches, IsFirstIn}
use Rattle.code_checker.specs.declared.products.Failure.{Failure}

-- the first batches have no failure
pub record AreClearBatches (code : Code) (batches : ℕ) (made front rest : List (Result (Option Failure) AllocError)) (left : ℕ) : Type 0 where
  pub through : AreThrough batches made front rest left
  pub clear : IsFirstIn code 0 (batch_start (length front) batches (demand_count code.net)) None

module _ (code : Code) (batches : ℕ) (made : List (Result (Option Failure) AllocError)) where
  -- none is gone through yet
  pub clear_none : (rest : List (Result (Option Failure) AllocError)) (left : ℕ) → rest ≡ made → left ≡ batches → AreClearBatches code batches made [] rest left
  clear_none rest left same all = record {
    through = through_none batches made rest left same all;
    clear = λ demand on lower. absurd (omega (arith, lower, batch_first batches (demand_count code.net)));
  }

  module _ (each : AreBatches code batches made) (front rest further : List (Result (Option Failure) AllocError)) (left fewer : ℕ)
      (one : Result (Option Failure) AllocError) (are : AreClearBatches code batches made front rest left) (next : rest ≡ one ∷ further) where
    -- the first failure of the next batch
    of_next : (first : Option Failure) → one ≡ Ok first
        → IsFirstIn code (batch_start (length front) batches (demand_count code.net)) (batch_start (length front + 1) batches (demand_count code.net)) first
    of_next first good =
        let Found : Result (Option Failure) AllocError → Type 0 = λ r. slice_get made (length front) ≡ Some r in
        each (length front) first (subst Found good (through_next batches made front rest further left fewer one are.through next))

    -- where the next batch has none, it is gone through
    pub clear_more : fewer + 1 ≡ left → (first : Option Failure) → one ≡ Ok first → first ≡ None → AreClearBatches code batches made (front ++ one ∷ []) further fewer
    clear_more less first good none =
        let start : ℕ → ℕ = λ n. batch_start n batches (demand_count code.net) in
        let Of : Option Failure → Type 0 = IsFirstIn code (start (length front)) (start (length front + 1)) in
        let here : Of None = subst Of none (of_next first good) in
        let Clear : ℕ → Type 0 = λ n. IsFirstIn code 0 (start n) None in
        let longer : length (front ++ one ∷ []) ≡ length front + 1 = length-append front (one ∷ []) in
        record {
          through = through_more batches made front rest further left fewer one are.through next less;
          clear = subst Clear (sym longer) (λ demand on lower. elim (cases_lt demand (start (length front))) [
            | inl before ↦ are.clear demand on before
            | inr behind ↦ here demand behind lower
          ]);
        }

    -- where it has one, that is the first of all
    pub failure_found : fewer + 1 ≡ left → (first : Option Failure) (failure : Failure) → one ≡ Ok first → first ≡ Some failure → IsFirstIn code 0 (demand_count code.net) (Some failure)
    failure_found less first failure good found =
        let start : ℕ → ℕ = λ n. batch_start n batches (demand_count code.net) in
        let Of : Option Failure → Type 0 = IsFirstIn code (start (length front)) (start (length front + 1)) in
        let is : Of (Some failure) = subst Of found (of_next first good) in
        let most : length front + 1 ≤ batches = omega (arith, less, are.through.count) in
        record {
          from_on = omega arith;
          within = omega (arith, is.within, batch_within (length front + 1) batches (demand_count code.net) most);
          before = λ earlier on lower. elim (cases_lt earlier (start (length front))) [
            | inl before ↦ are.clear earlier on before
            | inr behind ↦ is.before earlier behind lower
          ];
          shown = is.shown;
        }

  -- after the last batch no demand fails
  pub clear_all : (front rest : List (Result (Option Failure) AllocError)) (left : ℕ) → 0 < batches → AreClearBatches code batches made front rest left → left ≡ 0
      → IsFirstIn code 0 (demand_count code.net) None
  clear_all front rest left some are none =
      let last : batch_start (length front) batches (demand_count code.net) ≡ demand_count code.net =
      ap (λ n. batch_start n batches (demand_count code.net)) (through_last batches made front rest left are.through none)
      ∙ batch_last batches (demand_count code.net) some in
      λ demand on lower. are.clear demand on (omega (arith, lower, last))

-- where no demand fails the code is accepted
pub accepted : (code : Code) → IsFirstIn code 0 (demand_count code.net) None → IsAccepted code
accepted code is = (IsAccepted-identity code).1 (λ demand within. is demand (omega arith) within)
