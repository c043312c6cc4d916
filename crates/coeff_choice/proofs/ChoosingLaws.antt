-- Laws of the choice: marks leave a number over, and what a multiplier that is not forbidden makes.
use Rattle.std.specs.Prelude.{◌≡◌, ◌≢◌, ◌+◌, ◌<◌, ◌≤◌, ℕ, zero, suc, Bool, true, false, List, [], ◌∷◌, All, length, cond, count_by, get_or, set}
use Rattle.std.proofs.Common.{arith, refl, zero-add, sym, ap, subst, ◌∙◌}
use borrow.Author.Count.{below_more}
use Rattle.std.proofs.Math.Path.{ap₂}
use Rattle.std.proofs.lemmas.List.{length-set, get_or_past}
use Rattle.std.proofs.lemmas.List.Elements.{All-head, All-tail, All-get_or, All-set}
use Rattle.std.proofs.lemmas.List.Sums.{sum_by-cons}
use Rattle.gf_tables.specs.Field.{IsField, IsNumbering}
use Rattle.field_vectors.proofs.DotOfLaws.{mul-one, mul-nought, same_from_sum, dot_of-element, dot_of-multiple_of}
use Rattle.field_vectors.specs.Elements.{dot_of, multiple_of}
use Rattle.field_vectors.proofs.ElementsLaws.{length-multiple_of, multiple_of-elements}
use Rattle.field_vectors.specs.Grid.{Grid, row_of, entry_of, IsMatrix}
use Rattle.field_vectors.proofs.GridLaws.{length-row_of, row_of-elements}
use Rattle.coeff_choice.specs.Choosing.{IsChoosing, IsMarked, scaled_plus_unit, forbidden_at}

-- how many marks are set, with one that is set in front
count_by-set_mark : (marks : List Bool) → count_by (λ mark. mark) (true ∷ marks) ≡ 1 + count_by (λ mark. mark) marks
count_by-set_mark marks = sum_by-cons (λ mark. cond mark 1 0) true marks

-- and with one that is not
count_by-clear_mark : (marks : List Bool) → count_by (λ mark. mark) (false ∷ marks) ≡ count_by (λ mark. mark) marks
count_by-clear_mark marks = sum_by-cons (λ mark. cond mark 1 0) false marks ∙ zero-add (count_by (λ mark. mark) marks)

-- where fewer marks are set than there are, one is not
pub one_unmarked : (marks : List Bool) → count_by (λ mark. mark) marks < length marks → (n : ℕ) × (n < length marks) × (get_or marks n true ≡ false)
one_unmarked [] few = absurd (omega arith)
one_unmarked (false ∷ marks) few = (0, omega arith, refl)
one_unmarked (true ∷ marks) few =
    let rest = one_unmarked marks (omega (arith, count_by-set_mark marks)) in
    (suc rest.0, omega arith, rest.2)

-- a mark more is one more at most
pub count_by-mark : (marks : List Bool) (n : ℕ) → count_by (λ mark. mark) (set marks n true) ≤ count_by (λ mark. mark) marks + 1
count_by-mark [] n = omega arith
count_by-mark (true ∷ marks) zero = omega arith
count_by-mark (false ∷ marks) zero = omega (arith, count_by-set_mark marks, count_by-clear_mark marks)
count_by-mark (true ∷ marks) (suc n) = omega (arith, count_by-mark marks n, count_by-set_mark marks, count_by-set_mark (set marks n true))
count_by-mark (false ∷ marks) (suc n) = omega (arith, count_by-mark marks n, count_by-clear_mark marks, count_by-clear_mark (set marks n true))

-- a number that is marked stays so
pub mark_stays : (marks : List Bool) (n k : ℕ) → get_or marks k true ≡ true → get_or (set marks n true) k true ≡ true
mark_stays [] n k h = refl
mark_stays (mark ∷ marks) zero zero h = refl
mark_stays (mark ∷ marks) zero (suc k) h = h
mark_stays (mark ∷ marks) (suc n) zero h = h
mark_stays (mark ∷ marks) (suc n) (suc k) h = mark_stays marks n k h

-- a number is marked, or past the marks
pub mark_set : (marks : List Bool) (n : ℕ) → get_or (set marks n true) n true ≡ true
mark_set [] n = refl
mark_set (mark ∷ marks) zero = refl
mark_set (mark ∷ marks) (suc n) = mark_set marks n

-- the number for one row more is marked
pub marked-more : {A : Type 0} (nought : A) (mul : A → A → A) (inv : A → A) (number : A → ℕ) (table : Grid A) (place : ℕ) (products : List A) (count n : ℕ) (marks : List Bool)
    → IsMarked nought mul inv number table place products count marks → n ≡ number (forbidden_at nought mul inv table place products count)
    → IsMarked nought mul inv number table place products (count + 1) (set marks n true)
marked-more nought mul inv number table place products count n marks h is = record {
  marked =
      below_more _ _ (λ row below. mark_stays marks n (number (forbidden_at nought mul inv table place products row)) (h.marked row below))
      (ap (λ k. get_or (set marks n true) k true) (sym is) ∙ mark_set marks n);
  few_marks = omega (arith, h.few_marks, count_by-mark marks n);
}

-- the number for one row more is past the marks
pub marked-past : {A : Type 0} (nought : A) (mul : A → A → A) (inv : A → A) (number : A → ℕ) (table : Grid A) (place : ℕ) (products : List A) (count n : ℕ) (marks : List Bool)
    → IsMarked nought mul inv number table place products count marks → n ≡ number (forbidden_at nought mul inv table place products count) → length marks ≤ n
    → IsMarked nought mul inv number table place products (count + 1) marks
marked-past nought mul inv number table place products count n marks h is past = record {
  marked = below_more _ _ h.marked (ap (λ k. get_or marks k true) (sym is) ∙ get_or_past marks n true past);
  few_marks = omega (arith, h.few_marks);
}

module _ {A : Type 0} {P : A → Type 0} {nought one : A} {add mul : A → A → A} {inv : A → A} (F : IsField P nought one add mul inv) where
  -- an element added at one place of a row adds its product with the other row's element there
  pub dot_of-added : (xs ys : List A) (place : ℕ) (x : A) → All P xs → All P ys → P x → place < length xs → place < length ys
      → dot_of nought add mul (set xs place (add (get_or xs place nought) x)) ys ≡ add (dot_of nought add mul xs ys) (mul x (get_or ys place nought))
  dot_of-added [] ys place x h k p within inside = absurd (omega arith)
  dot_of-added (a ∷ xs) [] place x h k p within inside = absurd (omega arith)
  dot_of-added (a ∷ xs) (b ∷ ys) zero x h k p within inside =
      let q = All-head P a xs h in
      let r = All-head P b ys k in
      let rest = dot_of nought add mul xs ys in
      let s = dot_of-element F xs ys (All-tail P a xs h) (All-tail P b ys k) in
      let a_b = F.mul_element a b q r in
      let x_b = F.mul_element x b p r in
      let first =
      F.mul_comm (add a x) b (F.add_element a x q p) r ∙ F.mul_add b a x r q p ∙ ap₂ add (F.mul_comm b a r q) (F.mul_comm b x r p)
      in
      ap (λ t. add t rest) first ∙ F.add_assoc (mul a b) (mul x b) rest a_b x_b s ∙ ap (add (mul a b)) (F.add_comm (mul x b) rest x_b s)
      ∙ sym (F.add_assoc (mul a b) rest (mul x b) a_b s x_b)
  dot_of-added (a ∷ xs) (b ∷ ys) (suc place) x h k p within inside =
      let q = All-head P a xs h in
      let r = All-head P b ys k in
      let h' = All-tail P a xs h in
      let k' = All-tail P b ys k in
      let y : A = get_or ys place nought in
      let within' : place < length ys = omega arith in
      let e : P y = All-get_or P ys place nought within' k' in
      ap (add (mul a b)) (dot_of-added xs ys place x h' k' p (omega arith) (omega arith))
      ∙ sym (F.add_assoc (mul a b) (dot_of nought add mul xs ys) (mul x y) (F.mul_element a b q r) (dot_of-element F xs ys h' k') (F.mul_element x y p e))

  -- the product of scaled coefficients plus a unit with a row
  pub dot_of-scaled_plus_unit : (xs ys : List A) (by : A) (place : ℕ) → All P xs → All P ys → P by → place < length xs → place < length ys
      → dot_of nought add mul (scaled_plus_unit nought one add mul by place xs) ys ≡ add (mul by (dot_of nought add mul xs ys)) (get_or ys place nought)
  dot_of-scaled_plus_unit xs ys by place h k p within inside =
      let long : place < length (multiple_of mul by xs) = omega (arith, length-multiple_of mul by xs) in
      let y = get_or ys place nought in
      dot_of-added (multiple_of mul by xs) ys place one (multiple_of-elements P mul F.mul_element by xs p h) k F.one_element long inside
      ∙ ap₂ add (dot_of-multiple_of F by xs ys p h k) (F.one_mul y (All-get_or P ys place nought inside k))

  -- scaled coefficients plus a unit are elements
  pub scaled_plus_unit-elements : (xs : List A) (by : A) (place : ℕ) → All P xs → P by → place < length xs → All P (scaled_plus_unit nought one add mul by place xs)
  scaled_plus_unit-elements xs by place h p within =
      let made = multiple_of mul by xs in
      let elements = multiple_of-elements P mul F.mul_element by xs p h in
      let long : place < length made = omega (arith, length-multiple_of mul by xs) in
      let x = get_or made place nought in
      All-set P made place (add x one) (F.add_element x one (All-get_or P made place nought long elements) F.one_element) elements

  -- with a multiplier that is not forbidden a product does not become zero
  pub allowed : (product entry by : A) → P product → P entry → P by → product ≢ nought → by ≢ mul entry (inv product) → add (mul by product) entry ≢ nought
  allowed product entry by p q r nonzero other e =
      let i = F.inv_element product p nonzero in
      let same = same_from_sum F (mul by product) entry (F.mul_element by product r p) q e in
      other
      (sym (mul-one F by r) ∙ ap (mul by) (sym (F.mul_inv product p nonzero)) ∙ sym (F.mul_assoc by product (inv product) r p i) ∙ ap (λ x. mul x (inv product)) same)

-- scaled coefficients plus a unit are as many
pub length-scaled_plus_unit : {A : Type 0} (nought one : A) (add mul : A → A → A) (xs : List A) (by : A) (place : ℕ) → length (scaled_plus_unit nought one add mul by place xs) ≡ length xs
length-scaled_plus_unit nought one add mul xs by place =
    let made = multiple_of mul by xs in
    length-set made place (add (get_or made place nought) one) ∙ length-multiple_of mul by xs

module _ {A : Type 0} {P : A → Type 0} {nought one : A} {add mul : A → A → A} {inv : A → A} (F : IsField P nought one add mul inv)
    {number : A → ℕ} {of_number : ℕ → A} {size : ℕ} {product : ℕ → ℕ → ℕ} (N : IsNumbering P nought one add mul number of_number size product)
    (table : Grid A) (h : IsMatrix P table) where
  -- where the multiplier is not forbidden, scaled coefficients plus a unit serve one row more
  pub choosing-changed : (count place n : ℕ) (by : A) (coefficients products : List A) (marks : List Bool) (new_coefficients new_products : List A) (new_marks : List Bool)
      → IsChoosing P nought add mul table count coefficients products marks → count < length table.rows → place < table.columns
      → entry_of nought table count place ≢ nought → dot_of nought add mul coefficients (row_of table count) ≡ nought
      → n < size → by ≡ of_number n → ((row : ℕ) → row < count → number (forbidden_at nought mul inv table place products row) ≢ n)
      → new_coefficients ≡ scaled_plus_unit nought one add mul by place coefficients
      → length new_products ≡ length products
      → ((row : ℕ) → row < count → get_or new_products row nought ≡ add (mul by (get_or products row nought)) (entry_of nought table row place))
      → get_or new_products count nought ≡ entry_of nought table count place
      → length new_marks ≡ length marks
      → IsChoosing P nought add mul table (count + 1) new_coefficients new_products new_marks
  choosing-changed count place n by coefficients products marks new_coefficients new_products new_marks s below inside nonzero is_zero small is other changed as_many followed last all_marks =
      let within : place < length coefficients = omega (arith, s.each_column) in
      let p : P by = subst P (sym is) (N.element_of_number n small) in
      let element = λ (row : ℕ) (under : row < length table.rows).
      let wide : place < length (row_of table row) = omega (arith, length-row_of table row h under) in
      All-get_or P (row_of table row) place nought wide (row_of-elements table row h under)
      in
      let made = λ (row : ℕ) (under : row < length table.rows).
      let wide : place < length (row_of table row) = omega (arith, length-row_of table row h under) in
      dot_of-scaled_plus_unit F coefficients (row_of table row) by place s.elements (row_of-elements table row h under) p within wide
      in
      record {
        each_column = ap length changed ∙ length-scaled_plus_unit nought one add mul coefficients by place ∙ s.each_column;
        elements = subst (All P) (sym changed) (scaled_plus_unit-elements F coefficients by place s.elements p within);
        each_row = as_many ∙ s.each_row;
        each_mark = all_marks ∙ s.each_mark;
        value =
            below_more _ _
            (λ row before.
            let under : row < length table.rows = omega arith in
            followed row before ∙ ap (λ x. add (mul by x) (entry_of nought table row place)) (s.value row before)
            ∙ sym (made row under) ∙ ap (λ c. dot_of nought add mul c (row_of table row)) (sym changed))
            (last ∙ sym (F.zero_add (entry_of nought table count place) (element count below))
            ∙ ap (λ x. add x (entry_of nought table count place)) (sym (ap (mul by) is_zero ∙ mul-nought F by p))
            ∙ sym (made count below) ∙ ap (λ c. dot_of nought add mul c (row_of table count)) (sym changed));
        nonzero =
            below_more _ _
            (λ row before e.
            let under : row < length table.rows = omega arith in
            let q = subst P (sym (s.value row before)) (dot_of-element F coefficients (row_of table row) s.elements (row_of-elements table row h under)) in
            allowed F (get_or products row nought) (entry_of nought table row place) by q (element row under) p (s.nonzero row before)
            (λ same. other row before (ap number (sym same ∙ is) ∙ N.number_of_number n small)) (sym (followed row before) ∙ e))
            (λ e. nonzero (sym last ∙ e));
      }
