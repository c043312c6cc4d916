-- Laws of the steps of elimination.
use Rattle.std.specs.Prelude.{◌≡◌, ◌≢◌, ℕ, ◌+◌, ◌<◌, ◌≤◌, List, [], All, length, get_or, set}
use Rattle.std.proofs.Common.{arith, refl, sym, ap, ◌∙◌, inl, inr}
use Rattle.std.proofs.Math.Path.{ap₂}
use Rattle.std.proofs.lemmas.Bool.{cases_eq}
use Rattle.std.proofs.lemmas.List.{length-set}
use Rattle.std.proofs.lemmas.List.Elements.{All-set, All-get_or, All-from_get_or}
use Rattle.gf_tables.specs.Field.{IsField, IsNumbering}
use Rattle.field_vectors.proofs.DotOfLaws.{add-nought, mul-nought, mul-one, dot_of-element, dot_of-plus_multiple, dot_of-multiple_of, identity_entry-off, identity_entry-on, identity_entry-element}
use Rattle.field_vectors.specs.Difference.{identity_entry}
use Rattle.field_vectors.specs.Elements.{dot_of, plus_multiple, multiple_of}
use Rattle.field_vectors.proofs.ElementsLaws.{length-plus_multiple, length-multiple_of, plus_multiple-elements, multiple_of-elements, get_or-plus_multiple, get_or-multiple_of}
use Rattle.field_vectors.specs.Elimination.{SendsToZero, IsStep, IsReduced}
use Rattle.field_vectors.specs.Grid.{Grid, row_of, entry_of, with_row, IsMatrix}
use Rattle.field_vectors.proofs.GridLaws.{length-row_of, row_of-elements, row_of-with_row, row_of-with_other, with_row-IsMatrix}

module _ {A : Type 0} {P : A → Type 0} {nought one : A} {add mul : A → A → A} {inv : A → A} (F : IsField P nought one add mul inv) where
  -- no step
  pub step-none : (m : Grid A) → IsMatrix P m → IsStep P nought add mul m m
  step-none m h = record { columns = refl; height = refl; kept = h; to = λ _ _ s. s; from = λ _ _ s. s }

  -- two steps in a row
  pub step-then : (old between new : Grid A) → IsStep P nought add mul old between → IsStep P nought add mul between new → IsStep P nought add mul old new
  step-then old between new s t = record {
    columns = t.columns ∙ s.columns;
    height = t.height ∙ s.height;
    kept = t.kept;
    to = λ z p h. t.to z p (s.to z p h);
    from = λ z p h. s.from z p (t.from z p h);
  }

  -- a step to another row, where each is zero with the others
  step-row : (m : Grid A) (i : ℕ) (row : List A) → IsMatrix P m → i < length m.rows → length row ≡ m.columns → All P row
      → ((z : List A) → All P z → SendsToZero nought add mul m.rows z → dot_of nought add mul row z ≡ nought)
      → ((z : List A) → All P z → SendsToZero nought add mul (with_row m i row).rows z → dot_of nought add mul (row_of m i) z ≡ nought)
      → IsStep P nought add mul m (with_row m i row)
  step-row m i row h below wide elements forth back = record {
    columns = refl;
    height = length-set m.rows i row;
    kept = with_row-IsMatrix m i row h wide elements;
    to = λ z p s. All-set (λ (r : List A). dot_of nought add mul r z ≡ nought) m.rows i row (forth z p s) s;
    from = λ z p s.
        All-from_get_or (λ (r : List A). dot_of nought add mul r z ≡ nought) m.rows [] (λ k inside.
        elim (cases_eq k i) [
          | inl same ↦ ap (λ n. dot_of nought add mul (row_of m n) z) same ∙ back z p s
          | inr other ↦
              (let far : k < length (set m.rows i row) = omega (arith, length-set m.rows i row) in
              ap (λ r. dot_of nought add mul r z) (sym (row_of-with_other m i k row other))
              ∙ All-get_or (λ (r : List A). dot_of nought add mul r z ≡ nought) (set m.rows i row) k [] far s)
        ]);
  }

  -- an entry of a matrix of elements is one
  pub entry_of-element : (m : Grid A) (i j : ℕ) → IsMatrix P m → i < length m.rows → j < m.columns → P (entry_of nought m i j)
  entry_of-element m i j h below inside =
      let wide : j < length (row_of m i) = omega (arith, length-row_of m i h below) in
      All-get_or P (row_of m i) j nought wide (row_of-elements m i h below)

  -- an entry of a row plus a multiple of another
  pub entry-added : (m : Grid A) (i : ℕ) (by : A) (j c : ℕ) → IsMatrix P m → i < length m.rows → j < length m.rows → c < m.columns
      → entry_of nought (with_row m i (plus_multiple add mul (row_of m i) by (row_of m j))) i c ≡ add (entry_of nought m i c) (mul by (entry_of nought m j c))
  entry-added m i by j c h below under inside =
      let wide : c < length (row_of m i) = omega (arith, length-row_of m i h below) in
      let long : c < length (row_of m j) = omega (arith, length-row_of m j h under) in
      ap (λ r. get_or r c nought) (row_of-with_row m i (plus_multiple add mul (row_of m i) by (row_of m j)) below)
      ∙ get_or-plus_multiple add mul (row_of m i) by (row_of m j) c nought wide long

  -- an entry of a multiple of a row
  pub entry-scaled : (m : Grid A) (i : ℕ) (by : A) (c : ℕ) → IsMatrix P m → i < length m.rows → c < m.columns
      → entry_of nought (with_row m i (multiple_of mul by (row_of m i))) i c ≡ mul by (entry_of nought m i c)
  entry-scaled m i by c h below inside =
      let wide : c < length (row_of m i) = omega (arith, length-row_of m i h below) in
      ap (λ r. get_or r c nought) (row_of-with_row m i (multiple_of mul by (row_of m i)) below) ∙ get_or-multiple_of mul by (row_of m i) c nought wide

  -- an entry of a row that stays
  pub entry-other : (m : Grid A) (i j c : ℕ) (row : List A) → j ≢ i → entry_of nought (with_row m i row) j c ≡ entry_of nought m j c
  entry-other m i j c row other = ap (λ r. get_or r c nought) (row_of-with_other m i j row other)

  -- adding a multiple of a row to another is a step
  pub step-add : (m : Grid A) (i : ℕ) (by : A) (j : ℕ) → IsMatrix P m → i < length m.rows → j < length m.rows → i ≢ j → P by
      → IsStep P nought add mul m (with_row m i (plus_multiple add mul (row_of m i) by (row_of m j)))
  step-add m i by j h below under other b =
      let r = row_of m i in
      let t = row_of m j in
      let made = plus_multiple add mul r by t in
      let wide = length-row_of m i h below in
      let long = length-row_of m j h under in
      let same : length r ≡ length t = omega arith in
      let h_r = row_of-elements m i h below in
      let h_t = row_of-elements m j h under in
      let sum = λ (z : List A) (p : All P z). dot_of-plus_multiple F r by t z h_r b h_t p same in
      step-row m i made h below (length-plus_multiple add mul r by t same ∙ wide) (plus_multiple-elements P add mul F.add_element F.mul_element r by t h_r b h_t)
      (λ z p s.
      let at_i = All-get_or (λ (x : List A). dot_of nought add mul x z ≡ nought) m.rows i [] below s in
      let at_j = All-get_or (λ (x : List A). dot_of nought add mul x z ≡ nought) m.rows j [] under s in
      sum z p ∙ ap₂ add at_i (ap (mul by) at_j ∙ mul-nought F by b) ∙ F.zero_add nought F.zero_element)
      (λ z p s.
      let far_i : i < length (set m.rows i made) = omega (arith, length-set m.rows i made) in
      let far_j : j < length (set m.rows i made) = omega (arith, length-set m.rows i made) in
      let at_i = All-get_or (λ (x : List A). dot_of nought add mul x z ≡ nought) (set m.rows i made) i [] far_i s in
      let at_j = All-get_or (λ (x : List A). dot_of nought add mul x z ≡ nought) (set m.rows i made) j [] far_j s in
      let here = ap (λ x. dot_of nought add mul x z) (sym (row_of-with_row m i made below)) ∙ at_i in
      let there = ap (λ x. dot_of nought add mul x z) (sym (row_of-with_other m i j made (λ e. other (sym e)))) ∙ at_j in
      sym (add-nought F (dot_of nought add mul r z) (dot_of-element F r z h_r p))
      ∙ ap (add (dot_of nought add mul r z)) (sym (ap (mul by) there ∙ mul-nought F by b)) ∙ sym (sum z p) ∙ here)

  -- an element whose product with a nonzero one is zero is zero
  nought_from_product : (by x : A) → P by → P x → by ≢ nought → mul by x ≡ nought → x ≡ nought
  nought_from_product by x b p nonzero e =
      let i = F.inv_element by b nonzero in
      sym (F.one_mul x p) ∙ ap (λ y. mul y x) (sym (F.mul_comm (inv by) by i b ∙ F.mul_inv by b nonzero)) ∙ F.mul_assoc (inv by) by x i b p ∙ ap (mul (inv by)) e
      ∙ mul-nought F (inv by) i

  -- multiplying a row by a nonzero element is a step
  pub step-scale : (m : Grid A) (i : ℕ) (by : A) → IsMatrix P m → i < length m.rows → P by → by ≢ nought → IsStep P nought add mul m (with_row m i (multiple_of mul by (row_of m i)))
  step-scale m i by h below b nonzero =
      let r = row_of m i in
      let made = multiple_of mul by r in
      let h_r = row_of-elements m i h below in
      let product = λ (z : List A) (p : All P z). dot_of-multiple_of F by r z b h_r p in
      step-row m i made h below (length-multiple_of mul by r ∙ length-row_of m i h below) (multiple_of-elements P mul F.mul_element by r b h_r)
      (λ z p s.
      let at_i = All-get_or (λ (x : List A). dot_of nought add mul x z ≡ nought) m.rows i [] below s in
      product z p ∙ ap (mul by) at_i ∙ mul-nought F by b)
      (λ z p s.
      let far : i < length (set m.rows i made) = omega (arith, length-set m.rows i made) in
      let at_i = All-get_or (λ (x : List A). dot_of nought add mul x z ≡ nought) (set m.rows i made) i [] far s in
      let here = ap (λ x. dot_of nought add mul x z) (sym (row_of-with_row m i made below)) ∙ at_i in
      nought_from_product by (dot_of nought add mul r z) b (dot_of-element F r z h_r p) nonzero (sym (product z p) ∙ here))

  -- the first columns stay those of the identity where the new row is so too
  reduced-with : (m : Grid A) (k i : ℕ) (row : List A) → IsReduced nought one m k → i < length m.rows → ((c : ℕ) → c < k → entry_of nought (with_row m i row) i c ≡ identity_entry nought one i c)
      → IsReduced nought one (with_row m i row) k
  reduced-with m k i row reduced below new = record {
    entry = λ r c inside within.
        let here : r < length m.rows = omega (arith, length-set m.rows i row) in
        elim (cases_eq r i) [
          | inl same ↦ ap (λ n. entry_of nought (with_row m i row) n c) same ∙ new c within ∙ ap (λ n. identity_entry nought one n c) (sym same)
          | inr other ↦ entry-other m i r c row other ∙ reduced.entry r c here within
        ];
  }

  -- adding a multiple of a row from k on keeps the first k columns
  pub reduced-add : (m : Grid A) (k i : ℕ) (by : A) (j : ℕ) → IsMatrix P m → IsReduced nought one m k → k ≤ m.columns → i < length m.rows → j < length m.rows → k ≤ j → P by
      → IsReduced nought one (with_row m i (plus_multiple add mul (row_of m i) by (row_of m j))) k
  reduced-add m k i by j h reduced wide below under behind b =
      reduced-with m k i (plus_multiple add mul (row_of m i) by (row_of m j)) reduced below
      (λ c within.
      entry-added m i by j c h below under (omega arith)
      ∙ ap₂ add (reduced.entry i c below within) (ap (mul by) (reduced.entry j c under within ∙ identity_entry-off nought one j c (λ e. omega arith)) ∙ mul-nought F by b)
      ∙ add-nought F (identity_entry nought one i c) (identity_entry-element F i c))

  -- multiplying a row from k on keeps the first k columns
  pub reduced-scale : (m : Grid A) (k i : ℕ) (by : A) → IsMatrix P m → IsReduced nought one m k → k ≤ m.columns → i < length m.rows → k ≤ i → P by
      → IsReduced nought one (with_row m i (multiple_of mul by (row_of m i))) k
  reduced-scale m k i by h reduced wide below behind b =
      reduced-with m k i (multiple_of mul by (row_of m i)) reduced below
      (λ c within.
      let off = identity_entry-off nought one i c (λ e. omega arith) in
      entry-scaled m i by c h below (omega arith) ∙ ap (mul by) (reduced.entry i c below within ∙ off) ∙ mul-nought F by b ∙ sym off)

  -- an entry that is zero, plus another
  pub entry-lifted : (m : Grid A) (k p : ℕ) → IsMatrix P m → k < length m.rows → p < length m.rows → k < m.columns → entry_of nought m k k ≡ nought
      → entry_of nought (with_row m k (plus_multiple add mul (row_of m k) one (row_of m p))) k k ≡ entry_of nought m p k
  entry-lifted m k p h below under inside zeroed =
      let e = entry_of-element m p k h under inside in
      entry-added m k one p k h below under inside ∙ ap₂ add zeroed (F.one_mul (entry_of nought m p k) e) ∙ F.zero_add (entry_of nought m p k) e

  -- an entry times its inverse
  pub entry-normalized : (m : Grid A) (k : ℕ) → IsMatrix P m → k < length m.rows → k < m.columns → entry_of nought m k k ≢ nought
      → entry_of nought (with_row m k (multiple_of mul (inv (entry_of nought m k k)) (row_of m k))) k k ≡ one
  entry-normalized m k h below inside nonzero =
      let x = entry_of nought m k k in
      let e = entry_of-element m k k h below inside in
      entry-scaled m k (inv x) k h below inside ∙ F.mul_comm (inv x) x (F.inv_element x e nonzero) e ∙ F.mul_inv x e nonzero

  -- an entry plus itself times one
  pub entry-cleared : (m : Grid A) (i k : ℕ) → IsMatrix P m → i < length m.rows → k < length m.rows → k < m.columns → entry_of nought m k k ≡ one
      → entry_of nought (with_row m i (plus_multiple add mul (row_of m i) (entry_of nought m i k) (row_of m k))) i k ≡ nought
  entry-cleared m i k h below under inside unit =
      let x = entry_of nought m i k in
      let e = entry_of-element m i k h below inside in
      entry-added m i x k k h below under inside ∙ ap (add x) (ap (mul x) unit ∙ mul-one F x e) ∙ F.add_self x e

  -- one more column is that of the identity where it has one on the diagonal and zeros elsewhere
  pub reduced-more : (m : Grid A) (k : ℕ) → IsReduced nought one m k → entry_of nought m k k ≡ one → ((i : ℕ) → i < length m.rows → i ≢ k → entry_of nought m i k ≡ nought)
      → IsReduced nought one m (k + 1)
  reduced-more m k reduced unit cleared = record {
    entry = λ i j below within.
        elim (cases_eq j k) [
          | inl same ↦
              ap (entry_of nought m i) same
              ∙ elim (cases_eq i k) [
                | inl on ↦ ap (λ n. entry_of nought m n k) on ∙ unit ∙ sym (identity_entry-on nought one k) ∙ ap (λ n. identity_entry nought one n k) (sym on)
                | inr off ↦ cleared i below off ∙ sym (identity_entry-off nought one i k off)
              ]
              ∙ ap (identity_entry nought one i) (sym same)
          | inr other ↦ (let before : j < k = omega arith in reduced.entry i j below before)
        ];
  }

-- one is not zero, by their numbers
pub one_not_nought : {A : Type 0} {P : A → Type 0} {nought one : A} {add mul : A → A → A} {number : A → ℕ} {of_number : ℕ → A} {size : ℕ} {product : ℕ → ℕ → ℕ}
    → IsNumbering P nought one add mul number of_number size product → one ≢ nought
one_not_nought {number = number} N e = let same : ◌≡◌ {A = ℕ} 1 0 = sym N.number_one ∙ ap number e ∙ N.number_zero in cc
