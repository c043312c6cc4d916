-- Rows that are taken in, piece by piece.
use Rattle.std.specs.Prelude.{◌≡◌, ◌≢◌, ◌<◌, ◌≤◌, ◌+◌, ℕ, true, false, List, length}
use Rattle.std.proofs.Common.{sym, subst, ◌∙◌, ap, arith, inl, inr}
use Rattle.std.proofs.lemmas.Bool.{cases_lt}
use Rattle.coded_traffic.specs.CodeBlocks.{row_of}
use Rattle.due_sums.specs.Waiting.{Gains, IsSameWork, Waiting, has_input, input_at}
use Rattle.generation_frame.specs.Blocks.{piece_of_row, pieces}
use Rattle.relay_node.specs.Feeding.{ArePiecesTaken, AreRowsTaken, IsSame}

same_work : (old mid new : Waiting) → IsSameWork old mid → IsSameWork mid new → IsSameWork old new
same_work old mid new one two = record { inputs = two.inputs ∙ one.inputs; sums = two.sums ∙ one.sums; generations = two.generations ∙ one.generations }

same_input : (old mid new : Waiting) (g i p : ℕ) → IsSame old mid g i p → IsSame mid new g i p → IsSame old new g i p
same_input old mid new g i p one two = record { has = two.has ∙ one.has; bytes = two.bytes ∙ one.bytes }

module _ (generation input piece : ℕ) (row payload : List ℕ) (old mid new : Waiting) (low : piece < pieces) (within : input < old.inputs)
    (taken : ArePiecesTaken generation input piece row old mid) (gains : Gains generation input piece payload mid new) where
  -- any other piece stays
  other : (g i p : ℕ) → i < old.inputs → p < pieces → ((g ≡ generation) × (i ≡ input) × (p ≡ piece) → ⊥) → IsSame mid new g i p
  other g i p inside small apart =
      let same = gains.other_inputs g i p (subst (λ n. i < n) (sym taken.work.inputs) inside) small apart in
      record { has = same.0; bytes = same.1 }

  other_piece : (p : ℕ) → p < pieces → p ≢ piece → IsSame mid new generation input p
  other_piece p small apart = other generation input p within small (λ equal. apart equal.2)

  -- one more piece
  pub pieces-next : payload ≡ piece_of_row row piece → ArePiecesTaken generation input (piece + 1) row old new
  pieces-next is =
      record {
        work = same_work old mid new taken.work gains.work;
        came = came;
        bytes = bytes;
        others = λ g i p inside small apart.
            same_input old mid new g i p
            (taken.others g i p inside small (λ equal. apart (equal.0, equal.1, omega (arith, equal.2))))
            (other g i p inside small (λ equal. apart (equal.0, equal.1, omega (arith, equal.2))));
        given = λ g s p inside small.
            gains.given g s p (omega (arith, inside, ap length taken.work.sums)) small ∙ taken.given g s p inside small;
      }
    where
      came : (p : ℕ) → p < piece + 1 → has_input new generation input p ≡ true
      came p below = elim (cases_lt p piece) [
        | inl before ↦ (other_piece p (omega (arith, before, low)) (omega (arith, before))).has ∙ taken.came p before
        | inr last ↦ let here : p ≡ piece = omega (arith, last, below) in ap (has_input new generation input) here ∙ gains.came
      ]

      bytes : (p : ℕ) → p < piece + 1 → input_at new generation input p ≡ piece_of_row row p
      bytes p below = elim (cases_lt p piece) [
        | inl before ↦ (other_piece p (omega (arith, before, low)) (omega (arith, before))).bytes ∙ taken.bytes p before
        | inr last ↦ let here : p ≡ piece = omega (arith, last, below) in ap (input_at new generation input) here ∙ gains.bytes ∙ is ∙ ap (piece_of_row row) (sym here)
      ]

  -- the pieces behind it have not come
  pub none-next : ((p : ℕ) → piece ≤ p → p < pieces → has_input mid generation input p ≡ false) → (p : ℕ) → piece + 1 ≤ p → p < pieces → has_input new generation input p ≡ false
  none-next none p behind small = (other_piece p small (omega (arith, behind))).has ∙ none p (omega (arith, behind)) small

module _ (generation count : ℕ) (block : List ℕ) (old mid new : Waiting) (within : count < old.inputs)
    (taken : AreRowsTaken generation count block old mid) (row_taken : ArePiecesTaken generation count pieces (row_of block count) mid new) where
  other_row : (row p : ℕ) → row < old.inputs → p < pieces → row ≢ count → IsSame mid new generation row p
  other_row row p inside small apart =
      row_taken.others generation row p (subst (λ n. row < n) (sym taken.work.inputs) inside) small (λ equal. apart equal.1)

  -- one more row
  pub rows-next : AreRowsTaken generation (count + 1) block old new
  rows-next =
      record {
        work = same_work old mid new taken.work row_taken.work;
        came = came;
        bytes = bytes;
        others = λ g i p inside small apart.
            same_input old mid new g i p
            (taken.others g i p inside small (λ equal. apart (equal.0, omega (arith, equal.1))))
            (row_taken.others g i p (subst (λ n. i < n) (sym taken.work.inputs) inside) small (λ equal. apart (equal.0, omega (arith, equal.1))));
        given = λ g s p inside small.
            row_taken.given g s p (omega (arith, inside, ap length taken.work.sums)) small ∙ taken.given g s p inside small;
      }
    where
      came : (row p : ℕ) → row < count + 1 → p < pieces → has_input new generation row p ≡ true
      came row p below small = elim (cases_lt row count) [
        | inl before ↦ (other_row row p (omega (arith, before, within)) small (omega (arith, before))).has ∙ taken.came row p before small
        | inr last ↦ let here : row ≡ count = omega (arith, last, below) in ap (λ r. has_input new generation r p) here ∙ row_taken.came p small
      ]

      bytes : (row p : ℕ) → row < count + 1 → p < pieces → input_at new generation row p ≡ piece_of_row (row_of block row) p
      bytes row p below small = elim (cases_lt row count) [
        | inl before ↦ (other_row row p (omega (arith, before, within)) small (omega (arith, before))).bytes ∙ taken.bytes row p before small
        | inr last ↦ let here : row ≡ count = omega (arith, last, below) in ap (λ r. input_at new generation r p) here ∙ row_taken.bytes p small ∙ ap (λ r. piece_of_row (row_of block r) p) (sym here)
      ]

  -- nothing has come of the rows behind it
  pub no_row-next : (rows : ℕ) → rows ≡ old.inputs → ((row p : ℕ) → count ≤ row → row < rows → p < pieces → has_input mid generation row p ≡ false)
      → (row p : ℕ) → count + 1 ≤ row → row < rows → p < pieces → has_input new generation row p ≡ false
  no_row-next rows all none row p behind inside small =
      (other_row row p (omega (arith, inside, all)) small (omega (arith, behind))).has ∙ none row p (omega (arith, behind)) inside small
