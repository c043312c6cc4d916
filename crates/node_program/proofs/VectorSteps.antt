-- How the rows of a code's vectors are made, one after another.
use Rattle.std.proofs.Common.{◌≡◌, ℕ, ◌+◌, ◌<◌, ◌≤◌, false, List, length, map, replicate, inl, inr, refl, sym, ap, ◌∙◌, subst, arith, Bool, true, if◌then◌else◌}
use Rattle.std.proofs.lemmas.Bool.{cases_lt}
use Rattle.item_list.proofs.Maps.{map-agree}
use Rattle.field_vectors.specs.Grid.{Grid, row_of}
use Rattle.field_vectors.proofs.NumberLaws.{numbers-zeros}
use Rattle.linear_algebra.specs.Elements.{numbers}
use Rattle.linear_algebra.specs.Rows.{combination, unit_row, zero_row}
use Rattle.net_model.specs.Failed.{failed_links, is_failed_in}
use Rattle.node_program.specs.Carried.{source_vector, numbers_at, IsCarried}
use Rattle.node_program.specs.CodeValue.{vector_in}
use Rattle.node_program.proofs.OperandLaws.{operands_of_draft}
use Rattle.node_program.specs.Operands.{IsOperand}
use Rattle.net_model.specs.Walks.{leaves_source}
use Rattle.node_program.specs.Value.{operands_at}
use Rattle.node_program.proofs.VectorLaws.{global_vector-equation}
use Rattle.node_program.specs.Vectors.{AreVectorsBefore}
use Rattle.node_program.specs.declared.Operand.{Operand}
use Rattle.node_program.specs.declared.code.Code.{Code}

-- a link whose row is its vector is added to those before it
one_more_before : {F : Type 0} (number : F → ℕ) (nil : F) (code : Code) (pattern link : ℕ) (m : Grid F)
    → m.columns ≡ code.rate → length m.rows ≡ length code.net.links
    → ((e : ℕ) → e < link → e < length code.net.links → numbers number (row_of m e) ≡ vector_in code pattern e)
    → numbers number (row_of m link) ≡ vector_in code pattern link
    → ((e : ℕ) → link + 1 ≤ e → e < length code.net.links → row_of m e ≡ replicate code.rate nil)
    → AreVectorsBefore number nil code pattern (link + 1) m
one_more_before {F} number nil code pattern link m wide many before here behind =
    record {
      columns = wide;
      rows = many;
      vector = λ e below within. elim (cases_lt e link) [
        | inl first ↦ before e first within
        | inr last ↦
            let same : link ≡ e = omega arith in
            let At : ℕ → Type 0 = λ n. numbers number (row_of m n) ≡ vector_in code pattern n in
            subst At same here
      ];
      zeros = behind;
    }

-- the vector of a failed link is zero
pub vector_of_failed : (code : Code) (pattern link : ℕ) → is_failed_in code.net.patterns pattern link ≡ true → vector_in code pattern link ≡ zero_row code.rate
vector_of_failed code pattern link fails =
    global_vector-equation code.code.draft (failed_links code.net.patterns pattern) link ∙ rw fails refl

-- a failed link's row is made already
pub failed_before : {F : Type 0} (number : F → ℕ) (nil : F) (code : Code) (pattern link : ℕ) (m : Grid F)
    → number nil ≡ 0 → link < length code.net.links
    → is_failed_in code.net.patterns pattern link ≡ true → AreVectorsBefore number nil code pattern link m
    → AreVectorsBefore number nil code pattern (link + 1) m
failed_before number nil code pattern link m none within fails is =
    one_more_before number nil code pattern link m is.columns is.rows is.vector
    (ap (numbers number) (is.zeros link (omega arith) within) ∙ numbers-zeros number nil none code.rate ∙ sym (vector_of_failed code pattern link fails))
    (λ e behind inside. is.zeros e (omega arith) inside)

-- the vector of an operand, by rows that are the vectors of the links
source_vector-agrees : (leaves : Bool) (rate from : ℕ) (rows vectors : ℕ → List ℕ) → (leaves ≡ false → rows from ≡ vectors from)
    → source_vector leaves rate rows from ≡ (if leaves then unit_row rate from else vectors from)
source_vector-agrees true rate from rows vectors same = refl
source_vector-agrees false rate from rows vectors same = same refl

-- what a link carries is its vector, where the rows before are vectors
carried_vector : {F : Type 0} (number : F → ℕ) (nil : F) (code : Code) (pattern link : ℕ) (old new : Grid F) → link < length code.net.links
    → is_failed_in code.net.patterns pattern link ≡ false → AreVectorsBefore number nil code pattern link old
    → IsCarried code.field number (leaves_source code.net link) (operands_at code.operands link) link old new
    → numbers number (row_of new link) ≡ vector_in code pattern link
carried_vector number nil code pattern link old new within whole before is =
    let operands = operands_at code.operands link in
    let leaves = leaves_source code.net link in
    let coefficients = map (λ operand. operand.times) operands in
    let read : ℕ → Operand → List ℕ = λ rate operand. source_vector leaves rate (numbers_at number old) operand.from in
    let vector : Operand → List ℕ = λ operand. if leaves then unit_row code.rate operand.from else vector_in code pattern operand.from in
    let agree : map (read code.rate) operands ≡ map vector operands =
    map-agree (read code.rate) vector (IsOperand code.net code.rate code.field link)
    (λ operand is_operand. source_vector-agrees leaves code.rate operand.from (numbers_at number old) (vector_in code pattern)
    (λ inner. before.vector operand.from (is_operand.earlier_link inner) (omega (arith, is_operand.earlier_link inner, within))))
    operands (operands_of_draft code.code.draft link) in
    let equation = global_vector-equation code.code.draft (failed_links code.net.patterns pattern) link in
    is.own
    ∙ ap (λ rate. combination code.field rate coefficients (map (read rate) operands)) before.columns
    ∙ ap (λ (rows : List (List ℕ)). combination code.field code.rate coefficients rows) agree
    ∙ sym (equation ∙ rw whole refl)

-- a link's row is made what it carries
pub carried_before : {F : Type 0} (number : F → ℕ) (nil : F) (code : Code) (pattern link : ℕ) (old new : Grid F) → link < length code.net.links
    → is_failed_in code.net.patterns pattern link ≡ false → AreVectorsBefore number nil code pattern link old
    → IsCarried code.field number (leaves_source code.net link) (operands_at code.operands link) link old new
    → AreVectorsBefore number nil code pattern (link + 1) new
carried_before number nil code pattern link old new within whole before is =
    one_more_before number nil code pattern link new (is.columns ∙ before.columns) (is.height ∙ before.rows)
    (λ e first inside. ap (numbers number) (is.others e (λ same. omega arith)) ∙ before.vector e first inside)
    (carried_vector number nil code pattern link old new within whole before is)
    (λ e behind inside. is.others e (λ same. omega arith) ∙ before.zeros e (omega arith) inside)
