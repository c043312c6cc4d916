-- How a link's row is made what the link carries, one operand after another.
use Rattle.std.proofs.Common.{◌≡◌, ◌≢◌, ℕ, suc, ◌+◌, ◌<◌, Bool, true, false, List, [], length, map, take, replicate, get_or, refl, sym, ap, ◌∙◌, subst, arith, slice_index, slice_set}
use Rattle.std.proofs.lemmas.List.{length-map, length-set, get_or-map, get_or-set_same, get_or-set_other, take-map}
use Rattle.counted_steps.specs.Steps.{RoseBy}
use Rattle.field_vectors.specs.Elements.{plus_multiple}
use Rattle.field_vectors.specs.Grid.{Grid, IsMatrix, entry_of, row_of, with_row}
use Rattle.field_vectors.proofs.NumberLaws.{numbers-plus_multiple, numbers-with_sum, numbers-zeros}
use Rattle.gf_tables.specs.Field.{IsField, IsNumbering}
use Rattle.gf_tables.specs.Kind.{IsOfKind}
use Rattle.gf_tables.specs.declared.kind.FieldKind.{FieldKind}
use Rattle.linear_algebra.proofs.CombinationLaws.{combination-take_more}
use Rattle.linear_algebra.specs.Elements.{numbers}
use Rattle.linear_algebra.proofs.RowLaws.{unit_row-IsRow}
use Rattle.linear_algebra.specs.Rows.{add_rows, scale_row, combination, unit_row}
use Rattle.node_program.specs.Carried.{source_vector, numbers_at, IsCarried, carry_steps}
use Rattle.node_program.specs.declared.Operand.{Operand}

-- a matrix with another row has as many columns
pub same_columns : {A : Type 0} (old m now : Grid A) (link : ℕ) (row : List A) → now ≡ with_row m link row → m.columns ≡ old.columns → now.columns ≡ old.columns
same_columns old m now link row written same = ap (λ m. m.columns) written ∙ same

-- and as many rows
pub same_height : {A : Type 0} (old m now : Grid A) (link : ℕ) (row : List A) → now ≡ with_row m link row → length m.rows ≡ length old.rows
    → length now.rows ≡ length old.rows
same_height old m now link row written same = ap (λ m. length m.rows) written ∙ length-set m.rows link row ∙ same

-- a row of zeros is the sum of no operands
pub carried_none : {A : Type 0} (field : FieldKind) (number : A → ℕ) (nil : A) (leaves : Bool) (link : ℕ) (m : Grid A) → number nil ≡ 0
    → row_of m link ≡ replicate m.columns nil → IsCarried field number leaves [] link m m
carried_none field number nil leaves link m none zeros =
    record {
      columns = refl;
      height = refl;
      own = ap (numbers number) zeros ∙ numbers-zeros number nil none m.columns;
      others = λ row apart. refl;
    }

-- no operand takes a step
pub steps_none : (leaves : Bool) (columns old : ℕ) → RoseBy (carry_steps leaves 0 columns) old old
steps_none true columns old = omega arith
steps_none false columns old = omega arith

-- nor does one more of a link that leaves the source
pub steps_same : (leaves : Bool) (k columns old now : ℕ) → leaves ≡ true → RoseBy (carry_steps leaves k columns) old now
    → RoseBy (carry_steps leaves (k + 1) columns) old now
steps_same true k columns old now leaving rose = rose
steps_same false k columns old now leaving rose = cc

-- one more of another link takes a step for each column
pub steps_more : (leaves : Bool) (k columns width old m now : ℕ) → leaves ≡ false → width ≡ columns → RoseBy (carry_steps leaves k columns) old m
    → RoseBy width m now → RoseBy (carry_steps leaves (k + 1) columns) old now
steps_more true k columns width old m now inner wide so_far rose = cc
steps_more false k columns width old m now inner wide so_far rose = grind arith

-- the sum over the first operands, with one more
sum_more : (field : FieldKind) (width k : ℕ) (vector : Operand → List ℕ) (operands : List Operand) (d : Operand) → k < length operands
    → length (vector (get_or operands k d)) ≡ width
    → combination field width (map (λ operand. operand.times) (take (suc k) operands)) (map vector (take (suc k) operands))
    ≡ add_rows (combination field width (map (λ operand. operand.times) (take k operands)) (map vector (take k operands)))
    (scale_row field (get_or operands k d).times (vector (get_or operands k d)))
sum_more field width k vector operands d more wide =
    let times : Operand → ℕ = λ operand. operand.times in
    let first : (n : ℕ) → combination field width (take n (map times operands)) (take n (map vector operands))
    ≡ combination field width (map times (take n operands)) (map vector (take n operands)) =
    λ n. rw (take-map times n operands, take-map vector n operands) refl in
    let coefficient : slice_index (map times operands) k ≡ (get_or operands k d).times = get_or-map times operands k d 0 more in
    let read : get_or (map vector operands) k [] ≡ vector (get_or operands k d) = get_or-map vector operands k d [] more in
    sym (first (suc k))
    ∙ combination-take_more field width k (map times operands) (map vector operands)
    (omega (arith, more, length-map operands times)) (omega (arith, more, length-map operands vector)) (ap length read ∙ wide)
    ∙ rw (coefficient, read) refl
    ∙ ap (λ (row : List ℕ). add_rows row (scale_row field (get_or operands k d).times (vector (get_or operands k d)))) (first k)

-- the row takes one more operand
carried_more : {A : Type 0} (field : FieldKind) (number : A → ℕ) (leaves : Bool) (link k : ℕ) (old m now : Grid A) (row : List A) (operands : List Operand) (d : Operand)
    → k < length operands → link < length old.rows
    → length (source_vector leaves old.columns (numbers_at number old) (get_or operands k d).from) ≡ old.columns
    → now ≡ with_row m link row
    → numbers number row ≡ add_rows (numbers_at number m link)
    (scale_row field (get_or operands k d).times (source_vector leaves old.columns (numbers_at number old) (get_or operands k d).from))
    → IsCarried field number leaves (take k operands) link old m → IsCarried field number leaves (take (k + 1) operands) link old now
carried_more {A} field number leaves link k old m now row operands d more within wide written added is =
    let vector : Operand → List ℕ = λ operand. source_vector leaves old.columns (numbers_at number old) operand.from in
    let Now : Grid A → Type 0 = IsCarried field number leaves (take (suc k) operands) link old in
    let Counted : ℕ → Type 0 = λ n. IsCarried field number leaves (take n operands) link old now in
    let next : suc k ≡ k + 1 = omega arith in
    let place : link < length m.rows = omega (arith, within, is.height) in
    let same : row_of (with_row m link row) link ≡ row = get_or-set_same m.rows link row [] place in
    let scaled = scale_row field (get_or operands k d).times (vector (get_or operands k d)) in
    subst Counted next (subst Now (sym written) (record {
      columns = is.columns;
      height = length-set m.rows link row ∙ is.height;
      own = ap (numbers number) same ∙ added ∙ ap (λ (own : List ℕ). add_rows own scaled) is.own
          ∙ sym (sum_more field old.columns k vector operands d more wide);
      others = λ other apart. get_or-set_other m.rows link other row [] apart ∙ is.others other apart;
    }))

module _ {F : Type 0} {is_element : F → Type 0} {nil one : F} {add mul : F → F → F} {inv : F → F} {number : F → ℕ} {of_number : ℕ → F} {size bytes mark : ℕ} {product : ℕ → ℕ → ℕ}
    (laws : IsField is_element nil one add mul inv) (numbering : IsNumbering is_element nil one add mul number of_number size product)
    (field : FieldKind) (of_kind : IsOfKind field size bytes mark product)
    (leaves : Bool) (link k : ℕ) (old m now : Grid F) (operands : List Operand) (d : Operand) (by : F)
    (more : k < length operands) (within : link < length old.rows) (below : (get_or operands k d).times < size)
    (times : by ≡ of_number (get_or operands k d).times) (element : is_element by) (matrix : IsMatrix is_element m)
    (is : IsCarried field number leaves (take k operands) link old m) where
  -- the number of the coefficient
  number_of_by : number by ≡ (get_or operands k d).times
  number_of_by = ap number times ∙ numbering.number_of_number (get_or operands k d).times below

  -- a row is as wide as in the beginning
  row_width : (row : ℕ) → row < length old.rows → length (row_of m row) ≡ old.columns
  row_width row inside = matrix.widths row [] (omega (arith, inside, is.height)) ∙ is.columns

  -- a row of the source is added
  pub source_added : (entry sum : F) → leaves ≡ true → (get_or operands k d).from < old.columns
      → entry ≡ entry_of nil m link (get_or operands k d).from → sum ≡ add entry by
      → now ≡ with_row m link (slice_set (row_of m link) (get_or operands k d).from sum)
      → IsCarried field number leaves (take (k + 1) operands) link old now
  source_added entry sum leaving inside entry_is sum_is written =
      let operand = get_or operands k d in
      let row = row_of m link in
      let wide = row_width link within in
      let vector : unit_row old.columns operand.from ≡ source_vector leaves old.columns (numbers_at number old) operand.from =
      ap (λ test. source_vector test old.columns (numbers_at number old) operand.from) (sym leaving) in
      let place : link < length m.rows = omega (arith, within, is.height) in
      carried_more field number leaves link k old m now (slice_set row operand.from sum) operands d more within
      (ap length (sym vector) ∙ (unit_row-IsRow field old.columns operand.from).width) written
      (ap (λ x. numbers number (slice_set row operand.from x)) (sum_is ∙ ap (λ x. add x by) entry_is)
      ∙ numbers-with_sum laws numbering field of_kind row by operand.from (omega (arith, inside, wide)) (matrix.elements link [] place) element
      ∙ ap (λ n. add_rows (numbers number row) (scale_row field n (unit_row (length row) operand.from))) number_of_by
      ∙ ap (λ n. add_rows (numbers number row) (scale_row field operand.times (unit_row n operand.from))) wide
      ∙ ap (λ (v : List ℕ). add_rows (numbers number row) (scale_row field operand.times v)) vector)
      is

  -- the row of another link is added
  pub link_added : leaves ≡ false → (get_or operands k d).from < length old.rows → (get_or operands k d).from ≢ link
      → now ≡ with_row m link (plus_multiple add mul (row_of m link) by (row_of m (get_or operands k d).from))
      → IsCarried field number leaves (take (k + 1) operands) link old now
  link_added inner inside apart written =
      let operand = get_or operands k d in
      let row = row_of m link in
      let other = row_of m operand.from in
      let vector : numbers number other ≡ source_vector leaves old.columns (numbers_at number old) operand.from =
      ap (numbers number) (is.others operand.from apart)
      ∙ ap (λ test. source_vector test old.columns (numbers_at number old) operand.from) (sym inner) in
      let place : link < length m.rows = omega (arith, within, is.height) in
      let there : operand.from < length m.rows = omega (arith, inside, is.height) in
      carried_more field number leaves link k old m now (plus_multiple add mul row by other) operands d more within
      (ap length (sym vector) ∙ length-map other number ∙ row_width operand.from inside) written
      (numbers-plus_multiple laws numbering field of_kind row by other (matrix.elements link [] place) element (matrix.elements operand.from [] there)
      ∙ ap (λ n. add_rows (numbers number row) (scale_row field n (numbers number other))) number_of_by
      ∙ ap (λ (v : List ℕ). add_rows (numbers number row) (scale_row field operand.times v)) vector)
      is
