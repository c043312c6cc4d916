-- What elimination beside the identity leaves: the inverse, or a block that is sent to zero.
use Rattle.std.specs.Prelude.{◌≡◌, ◌≢◌, ℕ, ◌+◌, ◌-◌, ◌<◌, ◌≤◌, List, [], ◌∷◌, ◌++◌, All, length, map, get_or, take, drop, replicate}
use Rattle.std.proofs.Common.{arith, refl, sym, ap, ◌∙◌, inl, inr}
use Rattle.std.proofs.Math.Path.{ap₂}
use Rattle.std.specs.List.{range_with_len}
use Rattle.std.proofs.lemmas.Bool.{cases_lt}
use Rattle.std.proofs.lemmas.List.{append_assoc, length-append, length-take-le, length-replicate, get_or-take, get_or_at, take-append-drop, drop_more, ext_get_or, get_or-replicate, replicate-append-replicate}
use Rattle.std.proofs.lemmas.List.Elements.{All-append, All-cons, All-drop, All-map, All-get_or, All-from_get_or, All-replicate}
use Rattle.std.proofs.lemmas.List.FromFn.{length-map-range_with_len, get_or-map-range_with_len, length-range_with_len, get_or-range_with_len, fill_by_all}
use Rattle.gf_tables.specs.Field.{IsField}
use Rattle.field_vectors.specs.Difference.{identity_entry, product_entry}
use Rattle.field_vectors.proofs.DifferenceLaws.{get_or-column_of, length-column_of, product_of-identity}
use Rattle.field_vectors.proofs.DotOfLaws.{identity_entry-comm, identity_entry-off, length-unit_of, get_or-unit_of, add-nought, mul-one, same_from_sum, unit_of-elements, dot_of-element, dot_of-comm, dot_of-append, dot_of-zeros, dot_of-unit_of, unit_of-dot_of}
use Rattle.field_vectors.specs.Elements.{dot_of, column_of, product_of, unit_of}
use Rattle.field_vectors.specs.Elimination.{SendsToZero, IsStep, IsReduced, IsStuck, IsBeside}
use Rattle.field_vectors.proofs.EliminationLaws.{entry_of-element}
use Rattle.field_vectors.specs.Grid.{Grid, row_of, entry_of, IsMatrix}
use Rattle.field_vectors.proofs.GridLaws.{length-row_of, row_of-elements}
use Rattle.field_vectors.specs.Inverse.{IsInverse, IsSentToZero, IsRightHalf, block_of}

-- a column of a matrix of elements has elements
pub column_of-elements : {A : Type 0} {P : A → Type 0} (nought : A) (m : Grid A) (j : ℕ) → IsMatrix P m → j < m.columns → All P (column_of nought j m.rows)
column_of-elements {A} {P} nought m j h inside =
    All-map P (λ (row : List A). get_or row j nought) m.rows
    (λ k d below. let wide : j < length (get_or m.rows k d) = omega (arith, h.widths k d below) in All-get_or P (get_or m.rows k d) j nought wide (h.elements k d below))

-- a unit row with its one past the end is all zeros
unit_of-outside : {A : Type 0} (nought one : A) (n i : ℕ) → n ≤ i → unit_of nought one n i ≡ replicate n nought
unit_of-outside nought one n i past =
    ext_get_or nought (unit_of nought one n i) (replicate n nought) (length-unit_of nought one n i ∙ sym (length-replicate n nought))
    (λ j within.
    let below : j < n = omega (arith, length-unit_of nought one n i) in
    get_or-unit_of nought one n i j below ∙ identity_entry-off nought one i j (λ e. omega arith) ∙ sym (get_or-replicate n j nought nought below))

-- the first places of a row of a matrix whose first columns are those of the identity
reduced-row : {A : Type 0} {P : A → Type 0} {nought one : A} (m : Grid A) (k i : ℕ) → IsMatrix P m → IsReduced nought one m k → i < length m.rows → k ≤ m.columns
    → take k (row_of m i) ≡ unit_of nought one k i
reduced-row {nought = nought} {one = one} m k i h reduced below wide =
    let row = row_of m i in
    let long : k ≤ length row = omega (arith, length-row_of m i h below) in
    fill_by_all (identity_entry nought one i) (take k row) k nought (length-take-le k row long)
    (λ j within. get_or-take k row j nought within ∙ reduced.entry i j below within)

module _ {A : Type 0} {P : A → Type 0} {nought one : A} {add mul : A → A → A} {inv : A → A} (F : IsField P nought one add mul inv) where
  -- the product of unit rows
  pub unit_of-unit_of : (n i j : ℕ) → i < n → dot_of nought add mul (unit_of nought one n i) (unit_of nought one n j) ≡ identity_entry nought one i j
  unit_of-unit_of n i j below =
      unit_of-dot_of F (unit_of nought one n j) n i (unit_of-elements F n j) below ∙ get_or-unit_of nought one n j i below ∙ identity_entry-comm nought one j i

  -- the product of a row of the matrix beside the identity
  beside-dot : (a work : Grid A) (i : ℕ) (us vs : List A) → IsMatrix P a → a.columns ≡ length a.rows → IsBeside P nought one a work → i < length a.rows → All P us → All P vs
      → length us ≡ length a.rows
      → dot_of nought add mul (row_of work i) (us ++ vs) ≡ add (dot_of nought add mul (row_of a i) us) (dot_of nought add mul (unit_of nought one (length a.rows) i) vs)
  beside-dot a work i us vs h square beside below p q same =
      ap (λ row. dot_of nought add mul row (us ++ vs)) (beside.row i below)
      ∙ dot_of-append F (row_of a i) (unit_of nought one (length a.rows) i) us vs (row_of-elements a i h below) (unit_of-elements F (length a.rows) i) p q
      (length-row_of a i h below ∙ square ∙ sym same)

  -- the product of a row of what is left, where the inverse stands behind the identity
  reduced-dot : (work half : Grid A) (i : ℕ) (us vs : List A) → IsMatrix P work → length work.rows ≤ work.columns → IsReduced nought one work (length work.rows) → IsRightHalf P work half
      → i < length work.rows → All P us → All P vs → length us ≡ length work.rows
      → dot_of nought add mul (row_of work i) (us ++ vs) ≡ add (dot_of nought add mul (unit_of nought one (length work.rows) i) us) (dot_of nought add mul (row_of half i) vs)
  reduced-dot work half i us vs h wide reduced right below p q same =
      let n = length work.rows in
      let unit = unit_of nought one n i in
      let here : i < length half.rows = omega (arith, right.height) in
      ap (λ row. dot_of nought add mul row (us ++ vs))
      (sym (take-append-drop n (row_of work i)) ∙ ap₂ (λ xs ys. xs ++ ys) (reduced-row work n i h reduced below wide) (sym (right.row i below)))
      ∙ dot_of-append F unit (row_of half i) us vs (unit_of-elements F n i) (row_of-elements half i right.kept here) p q (length-unit_of nought one n i ∙ sym same)

  module _ (a start work half : Grid A) (h : IsMatrix P a) (square : a.columns ≡ length a.rows) (beside : IsBeside P nought one a start) (step : IsStep P nought add mul start work)
      (reduced : IsReduced nought one work (length work.rows)) (right : IsRightHalf P work half) where
    -- the sizes are all one
    same_size : length work.rows ≡ length a.rows
    same_size = step.height ∙ beside.height

    -- there are twice as many columns
    wide : length work.rows ≤ work.columns
    wide = omega (arith, same_size, step.columns, beside.columns)

    -- from the left
    left_entry : (i j : ℕ) → i < length a.rows → j < length a.rows → product_entry nought add mul half a i j ≡ identity_entry nought one i j
    left_entry i j below inside =
        let n = length a.rows in
        let col = column_of nought j a.rows in
        let unit = unit_of nought one n j in
        let p = unit_of-elements F n j in
        let q = column_of-elements nought a j h (omega (arith, square)) in
        let z = unit ++ col in
        let sent : SendsToZero nought add mul start.rows z =
        All-from_get_or (λ (row : List A). dot_of nought add mul row z ≡ nought) start.rows []
        (λ r within.
        let under : r < n = omega (arith, beside.height) in
        let x = entry_of nought a r j in
        let e = entry_of-element F a r j h under (omega (arith, square)) in
        beside-dot a start r unit col h square beside under p q (length-unit_of nought one n j)
        ∙ ap₂ add (dot_of-unit_of F (row_of a r) n j (row_of-elements a r h under) inside) (unit_of-dot_of F col n r q under ∙ get_or-column_of nought a.rows r j under)
        ∙ F.add_self x e)
        in
        let here : i < length work.rows = omega (arith, same_size) in
        let there : i < length half.rows = omega (arith, right.height) in
        let at = All-get_or (λ (row : List A). dot_of nought add mul row z ≡ nought) work.rows i [] here (step.to z (All-append P unit col p q) sent) in
        let long = length-unit_of nought one n j ∙ sym same_size in
        let u = unit_of-elements F (length work.rows) i in
        let split = sym (reduced-dot work half i unit col step.kept wide reduced right here p q long) ∙ at in
        let first = ap (λ m. dot_of nought add mul (unit_of nought one m i) unit) same_size ∙ unit_of-unit_of n i j below in
        sym (same_from_sum F (dot_of nought add mul (unit_of nought one (length work.rows) i) unit) (dot_of nought add mul (row_of half i) col)
        (dot_of-element F (unit_of nought one (length work.rows) i) unit u p) (dot_of-element F (row_of half i) col (row_of-elements half i right.kept there) q) split)
        ∙ first

    -- from the right
    right_entry : (i j : ℕ) → i < length a.rows → j < length a.rows → product_entry nought add mul a half i j ≡ identity_entry nought one i j
    right_entry i j below inside =
        let n = length a.rows in
        let col = column_of nought j half.rows in
        let unit = unit_of nought one n j in
        let p = unit_of-elements F n j in
        let narrow : j < half.columns = omega (arith, right.columns, same_size) in
        let q = column_of-elements nought half j right.kept narrow in
        let z = col ++ unit in
        let tall : length col ≡ length work.rows = length-column_of nought half.rows j ∙ right.height in
        let sent : SendsToZero nought add mul work.rows z =
        All-from_get_or (λ (row : List A). dot_of nought add mul row z ≡ nought) work.rows []
        (λ r within.
        let there : r < length half.rows = omega (arith, right.height) in
        let x = entry_of nought half r j in
        let e = entry_of-element F half r j right.kept there narrow in
        reduced-dot work half r col unit step.kept wide reduced right within q p tall
        ∙ ap₂ add (unit_of-dot_of F col (length work.rows) r q within ∙ get_or-column_of nought half.rows r j there)
        (dot_of-unit_of F (row_of half r) n j (row_of-elements half r right.kept there) inside)
        ∙ F.add_self x e)
        in
        let here : i < length start.rows = omega (arith, beside.height) in
        let at = All-get_or (λ (row : List A). dot_of nought add mul row z ≡ nought) start.rows i [] here (step.from z (All-append P col unit q p) sent) in
        let split = sym (beside-dot a start i col unit h square beside below q p (tall ∙ same_size)) ∙ at in
        same_from_sum F (dot_of nought add mul (row_of a i) col) (dot_of nought add mul (unit_of nought one n i) unit)
        (dot_of-element F (row_of a i) col (row_of-elements a i h below) q) (dot_of-element F (unit_of nought one n i) unit (unit_of-elements F n i) p) split
        ∙ unit_of-unit_of n i j below

    -- what stands behind the identity is the inverse
    pub half-IsInverse : IsInverse nought one add mul a half
    half-IsInverse =
        let n = length a.rows in
        let high : length half.rows ≡ n = right.height ∙ same_size in
        let narrow : half.columns ≡ n = right.columns ∙ same_size in
        record {
          height = high;
          columns = narrow;
          left = ap (λ m. product_of nought add mul m half.rows a.rows) (sym square) ∙ product_of-identity nought one add mul n half a high square left_entry;
          right = ap (λ m. product_of nought add mul m a.rows half.rows) (sym narrow) ∙ product_of-identity nought one add mul n a half refl narrow right_entry;
        }

    -- and only zeros are sent to zero
    pub only_zero : (block : List A) → All P block → length block ≡ length a.rows → SendsToZero nought add mul a.rows block → All (λ element. element ≡ nought) block
    only_zero block p same zeroed =
        let n = length a.rows in
        let zeros = replicate n nought in
        let q = All-replicate P n nought F.zero_element in
        let z = block ++ zeros in
        let sent : SendsToZero nought add mul start.rows z =
        All-from_get_or (λ (row : List A). dot_of nought add mul row z ≡ nought) start.rows []
        (λ r within.
        let under : r < n = omega (arith, beside.height) in
        beside-dot a start r block zeros h square beside under p q same
        ∙ ap₂ add (All-get_or (λ (row : List A). dot_of nought add mul row block ≡ nought) a.rows r [] under zeroed) (dot_of-zeros F (unit_of nought one n r) n (unit_of-elements F n r))
        ∙ F.zero_add nought F.zero_element)
        in
        let after = step.to z (All-append P block zeros p q) sent in
        All-from_get_or (λ x. x ≡ nought) block nought
        (λ i within.
        let here : i < length work.rows = omega (arith, same_size) in
        let there : i < length half.rows = omega (arith, right.height) in
        let at = All-get_or (λ (row : List A). dot_of nought add mul row z ≡ nought) work.rows i [] here after in
        let x = get_or block i nought in
        let e = All-get_or P block i nought within p in
        sym (add-nought F x e)
        ∙ ap₂ add (sym (unit_of-dot_of F block (length work.rows) i p here)) (sym (dot_of-zeros F (row_of half i) n (row_of-elements half i right.kept there)))
        ∙ sym (reduced-dot work half i block zeros step.kept wide reduced right here p q (same ∙ sym same_size)) ∙ at)

  -- the block of a column in which no pivot is met
  module _ (a start work : Grid A) (k : ℕ) (h : IsMatrix P a) (square : a.columns ≡ length a.rows) (beside : IsBeside P nought one a start) (step : IsStep P nought add mul start work)
      (below : k < length work.rows) (reduced : IsReduced nought one work k) (stuck : IsStuck nought work k) (other : one ≢ nought) where
    -- the sizes are one
    stuck_size : length work.rows ≡ length a.rows
    stuck_size = step.height ∙ beside.height

    -- the column is within
    stuck_wide : k < work.columns
    stuck_wide = omega (arith, stuck_size, step.columns, beside.columns)

    -- the entries above the diagonal
    above : List A
    above = map (λ i. entry_of nought work i k) (range_with_len 0 k)

    length-above : length above ≡ k
    unfolding above
    length-above = length-map-range_with_len (λ i. entry_of nought work i k) 0 k

    above-elements : All P above
    unfolding above
    above-elements =
        All-map P (λ i. entry_of nought work i k) (range_with_len 0 k)
        (λ j d within.
        let place : get_or (range_with_len 0 k) j d ≡ 0 + j = get_or-range_with_len 0 k j d (omega (arith, length-range_with_len 0 k)) in
        let short : get_or (range_with_len 0 k) j d < length work.rows = omega (arith, length-range_with_len 0 k, place) in
        entry_of-element F work (get_or (range_with_len 0 k) j d) k step.kept short stuck_wide)

    get_or-above : (i : ℕ) → i < k → get_or above i nought ≡ entry_of nought work i k
    unfolding above
    get_or-above i within = get_or-map-range_with_len (λ i. entry_of nought work i k) 0 k i i nought within (omega arith)

    -- the product of a row of what is left and a row that goes on with one and zeros
    stuck-dot : (r m : ℕ) → r < length work.rows → dot_of nought add mul (row_of work r) (above ++ (one ∷ replicate m nought)) ≡ nought
    stuck-dot r m under =
        let row = row_of work r in
        let q = row_of-elements work r step.kept under in
        let long : k < length row = omega (arith, length-row_of work r step.kept under, stuck_wide) in
        let x = entry_of nought work r k in
        let e = entry_of-element F work r k step.kept under stuck_wide in
        let unit = unit_of nought one k r in
        let rest = drop (k + 1) row in
        let p = All-drop P (k + 1) row q in
        let zeros = replicate m nought in
        let z = All-replicate P m nought F.zero_element in
        let narrow : k ≤ work.columns = omega (arith, stuck_wide) in
        let first : dot_of nought add mul unit above ≡ x =
        elim (cases_lt r k) [
          | inl up ↦ unit_of-dot_of F above k r above-elements up ∙ get_or-above r up
          | inr down ↦
              ap (λ u. dot_of nought add mul u above) (unit_of-outside nought one k r down) ∙ dot_of-comm F (replicate k nought) above (All-replicate P k nought F.zero_element) above-elements
              ∙ dot_of-zeros F above k above-elements ∙ sym (stuck.entry r down under)
        ]
        in
        ap (λ s. dot_of nought add mul s (above ++ (one ∷ zeros)))
        (sym (take-append-drop k row) ∙ ap₂ (λ xs ys. xs ++ ys) (reduced-row work k r step.kept reduced under narrow) (drop_more row k nought long))
        ∙ dot_of-append F unit (x ∷ rest) above (one ∷ zeros) (unit_of-elements F k r) (All-cons P x rest e p) above-elements (All-cons P one zeros F.one_element z)
        (length-unit_of nought one k r ∙ sym length-above)
        ∙ ap₂ add first (ap₂ add (mul-one F x e) (dot_of-zeros F rest m p) ∙ add-nought F x e) ∙ F.add_self x e

    -- it is sent to zero, and is not all zeros
    pub stuck-IsSentToZero : IsSentToZero P nought add mul a (block_of nought one work k)
    unfolding above
    stuck-IsSentToZero =
        let n = length a.rows in
        let m = length work.rows - k - 1 in
        let block = above ++ (one ∷ replicate m nought) in
        let zeros = replicate n nought in
        let q = All-replicate P n nought F.zero_element in
        let tail = All-cons P one (replicate m nought) F.one_element (All-replicate P m nought F.zero_element) in
        let p = All-append P above (one ∷ replicate m nought) above-elements tail in
        let size : length block ≡ n = omega (arith, length-append above (one ∷ replicate m nought), length-above, length-replicate m nought, stuck_size) in
        let z = block ++ zeros in
        let joined : z ≡ above ++ (one ∷ replicate (m + n) nought) =
        append_assoc above (one ∷ replicate m nought) zeros ∙ ap (λ l. above ++ (one ∷ l)) (replicate-append-replicate m n nought)
        in
        let sent : SendsToZero nought add mul work.rows z =
        All-from_get_or (λ (row : List A). dot_of nought add mul row z ≡ nought) work.rows [] (λ r under. ap (dot_of nought add mul (row_of work r)) joined ∙ stuck-dot r (m + n) under)
        in
        let before = step.from z (All-append P block zeros p q) sent in
        record {
          size = size;
          elements = p;
          nonzero = (k, omega (arith, size, stuck_size), λ e. other (sym (get_or_at above one (replicate m nought) nought k length-above) ∙ e));
          to_zero =
              All-from_get_or (λ (row : List A). dot_of nought add mul row block ≡ nought) a.rows []
              (λ i within.
              let here : i < length start.rows = omega (arith, beside.height) in
              let at = All-get_or (λ (row : List A). dot_of nought add mul row z ≡ nought) start.rows i [] here before in
              let d = dot_of-element F (row_of a i) block (row_of-elements a i h within) p in
              sym (add-nought F (dot_of nought add mul (row_of a i) block) d)
              ∙ ap (add (dot_of nought add mul (row_of a i) block)) (sym (dot_of-zeros F (unit_of nought one n i) n (unit_of-elements F n i)))
              ∙ sym (beside-dot a start i block zeros h square beside within p q size) ∙ at);
        }
