-- The steps of the loop that clears a column.
use Rattle.std.proofs.Common.{◌≡◌, ◌≢◌, ℕ, ◌+◌, ◌<◌, length, arith, ap, ◌∙◌, sym, inl, inr}
use Rattle.std.proofs.lemmas.Bool.{cases_eq}
use Rattle.gf_tables.specs.Field.{IsField}
use Rattle.field_vectors.specs.Elements.{plus_multiple}
use Rattle.field_vectors.specs.Elimination.{IsStep, IsReduced}
use Rattle.field_vectors.proofs.EliminationLaws.{step-then, step-add, reduced-add, entry-cleared, entry-other, entry_of-element}
use Rattle.field_vectors.specs.Grid.{Grid, row_of, entry_of, with_row}

-- column k has one on the diagonal, and zeros beside it in the rows below i
pub record IsClearing {A : Type 0} (P : A → Type 0) (nought one : A) (add mul : A → A → A) (old m : Grid A) (k i : ℕ) : Type 0 where
  pub step : IsStep P nought add mul old m
  pub reduced : IsReduced nought one m k
  pub unit : entry_of nought m k k ≡ one
  pub cleared : (r : ℕ) → r < i → r ≢ k → entry_of nought m r k ≡ nought

-- the row of the diagonal stays
pub clearing-skip : {A : Type 0} {P : A → Type 0} {nought one : A} {add mul : A → A → A} (old m : Grid A) (k i : ℕ) → IsClearing P nought one add mul old m k i → i ≡ k
    → IsClearing P nought one add mul old m k (i + 1)
clearing-skip old m k i h same = record {
  step = h.step;
  reduced = h.reduced;
  unit = h.unit;
  cleared = λ r below other. h.cleared r (omega arith) other;
}

-- another row is cleared
pub clearing-more : {A : Type 0} {P : A → Type 0} {nought one : A} {add mul : A → A → A} {inv : A → A} (F : IsField P nought one add mul inv) (old m : Grid A) (k i : ℕ)
    → IsClearing P nought one add mul old m k i → i ≢ k → i < length old.rows → k < length old.rows → k < old.columns
    → IsClearing P nought one add mul old (with_row m i (plus_multiple add mul (row_of m i) (entry_of nought m i k) (row_of m k))) k (i + 1)
clearing-more {nought = nought} {add = add} {mul = mul} F old m k i h other below under inside =
    let kept = h.step.kept in
    let below' : i < length m.rows = omega (arith, h.step.height) in
    let under' : k < length m.rows = omega (arith, h.step.height) in
    let inside' : k < m.columns = omega (arith, h.step.columns) in
    let element = entry_of-element F m i k kept below' inside' in
    let row = plus_multiple add mul (row_of m i) (entry_of nought m i k) (row_of m k) in
    record {
      step = step-then F old m (with_row m i row) h.step (step-add F m i (entry_of nought m i k) k kept below' under' other element);
      reduced = reduced-add F m k i (entry_of nought m i k) k kept h.reduced (omega arith) below' under' (omega arith) element;
      unit = entry-other F m i k k row (λ e. other (sym e)) ∙ h.unit;
      cleared = λ r within off.
          elim (cases_eq r i) [
            | inl same ↦ ap (λ n. entry_of nought (with_row m i row) n k) same ∙ entry-cleared F m i k kept below' under' inside' h.unit
            | inr apart ↦ (let before : r < i = omega arith in entry-other F m i r k row apart ∙ h.cleared r before off)
          ];
    }
