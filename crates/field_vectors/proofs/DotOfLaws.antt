-- Laws of products of rows over a field.
use Rattle.std.specs.Prelude.{◌≡◌, ◌≢◌, ℕ, zero, suc, ◌+◌, ◌<◌, ◌==◌, true, false, List, [], ◌∷◌, ◌++◌, All, length, map, get_or, set, drop, replicate, if◌then◌else◌}
use Rattle.std.proofs.Common.{arith, refl, sym, ap, ◌∙◌, inl, inr}
use borrow.Author.Tests.{eq-eqb}
use Rattle.std.proofs.Math.Path.{ap₂}
use Rattle.std.specs.List.{range_with_len}
use Rattle.std.proofs.lemmas.Bool.{ne_eqb}
use Rattle.std.proofs.lemmas.Bool.Decides.{eqb_tells}
use Rattle.std.proofs.lemmas.List.{drop_more, length-map}
use Rattle.std.proofs.lemmas.List.Elements.{All-head, All-tail, All-map, All-drop, All-set, All-get_or}
use Rattle.std.proofs.lemmas.List.FromFn.{length-map-range_with_len, get_or-map-range_with_len}
use Rattle.gf_tables.specs.Field.{IsField}
use Rattle.field_vectors.specs.Difference.{identity_entry}
use Rattle.field_vectors.specs.Elements.{dot_of, plus_multiple, multiple_of, column_of, unit_of}

-- the entries of the identity are the same in a row and a column
pub identity_entry-comm : {A : Type 0} (nought one : A) (i j : ℕ) → identity_entry nought one i j ≡ identity_entry nought one j i
identity_entry-comm nought one i j =
    let same : (i == j) ≡ (j == i) = elim (eqb_tells i j) [ inl p ↦ p.0 ∙ sym (eq-eqb j i (sym p.1)) | inr p ↦ p.0 ∙ sym (ne_eqb j i (λ e. p.1 (sym e))) ] in
    ap (λ b. if b then one else nought) same

-- an entry of the identity off the diagonal
pub identity_entry-off : {A : Type 0} (nought one : A) (i j : ℕ) → i ≢ j → identity_entry nought one i j ≡ nought
identity_entry-off nought one i j other = ap (λ b. if b then one else nought) (ne_eqb i j other)

-- an entry of the identity on the diagonal
pub identity_entry-on : {A : Type 0} (nought one : A) (i : ℕ) → identity_entry nought one i i ≡ one
identity_entry-on nought one i = ap (λ b. if b then one else nought) (eq-eqb i i refl)

-- the length of a unit row
pub length-unit_of : {A : Type 0} (nought one : A) (n i : ℕ) → length (unit_of nought one n i) ≡ n
length-unit_of nought one n i = length-map-range_with_len (identity_entry nought one i) 0 n

-- a place of a unit row
pub get_or-unit_of : {A : Type 0} (nought one : A) (n i j : ℕ) → j < n → get_or (unit_of nought one n i) j nought ≡ identity_entry nought one i j
get_or-unit_of nought one n i j below = get_or-map-range_with_len (identity_entry nought one i) 0 n j j nought below (omega arith)

-- the places of a unit row behind its one
unit-behind : {A : Type 0} (nought one : A) (j a n : ℕ) → j < a → map (identity_entry nought one j) (range_with_len a n) ≡ replicate n nought
unit-behind nought one j a zero below = refl
unit-behind nought one j a (suc n) below =
    ap₂ (λ (x l : _). x ∷ l) (identity_entry-off nought one j a (λ e. omega arith)) (unit-behind nought one j (a + 1) n (omega arith))

module _ {A : Type 0} {P : A → Type 0} {nought one : A} {add mul : A → A → A} {inv : A → A} (F : IsField P nought one add mul inv) where
  -- an element plus zero
  pub add-nought : (x : A) → P x → add x nought ≡ x
  add-nought x p = F.add_comm x nought p F.zero_element ∙ F.zero_add x p

  -- an element times zero
  pub mul-nought : (x : A) → P x → mul x nought ≡ nought
  mul-nought x p =
      ap (mul x) (sym (F.zero_add nought F.zero_element)) ∙ F.mul_add x nought nought p F.zero_element F.zero_element
      ∙ F.add_self (mul x nought) (F.mul_element x nought p F.zero_element)

  -- a row plus zero times another
  pub plus_multiple-nought : (row other : List A) → All P row → All P other → length row ≡ length other → plus_multiple add mul row nought other ≡ row
  plus_multiple-nought [] other h k same = refl
  plus_multiple-nought (x ∷ row) [] h k same = absurd (omega arith)
  plus_multiple-nought (x ∷ row) (y ∷ other) h k same =
      let p = All-head P x row h in
      let q = All-head P y other k in
      ap₂ (λ (a b : _). a ∷ b) (ap (add x) (F.mul_comm nought y F.zero_element q ∙ mul-nought y q) ∙ add-nought x p)
      (plus_multiple-nought row other (All-tail P x row h) (All-tail P y other k) (omega arith))

  -- an element times one
  pub mul-one : (x : A) → P x → mul x one ≡ x
  mul-one x p = F.mul_comm x one p F.one_element ∙ F.one_mul x p

  -- elements whose sum is zero are the same
  pub same_from_sum : (x y : A) → P x → P y → add x y ≡ nought → x ≡ y
  same_from_sum x y p q e =
      sym (add-nought x p) ∙ ap (add x) (sym (F.add_self y q)) ∙ sym (F.add_assoc x y y p q q) ∙ ap (λ s. add s y) e ∙ F.zero_add y q

  -- a sum of two sums, with the inner summands exchanged
  exchange : (a b c d : A) → P a → P b → P c → P d → add (add a b) (add c d) ≡ add (add a c) (add b d)
  exchange a b c d p q r s =
      F.add_assoc a b (add c d) p q (F.add_element c d r s)
      ∙ ap (add a) (sym (F.add_assoc b c d q r s) ∙ ap (λ t. add t d) (F.add_comm b c q r) ∙ F.add_assoc c b d r q s)
      ∙ sym (F.add_assoc a c (add b d) p r (F.add_element b d q s))

  -- zeros and ones are elements
  pub identity_entry-element : (i j : ℕ) → P (identity_entry nought one i j)
  identity_entry-element i j = elim (i == j) as (λ b. P (if b then one else nought)) [ true ↦ F.one_element | false ↦ F.zero_element ]

  -- a unit row has elements
  pub unit_of-elements : (n i : ℕ) → All P (unit_of nought one n i)
  unit_of-elements n i = All-map P (identity_entry nought one i) (range_with_len 0 n) (λ k d below. identity_entry-element i (get_or (range_with_len 0 n) k d))

  -- the product of rows of elements is one
  pub dot_of-element : (xs ys : List A) → All P xs → All P ys → P (dot_of nought add mul xs ys)
  dot_of-element [] ys h k = F.zero_element
  dot_of-element (x ∷ xs) [] h k = F.zero_element
  dot_of-element (x ∷ xs) (y ∷ ys) h k =
      F.add_element (mul x y) (dot_of nought add mul xs ys) (F.mul_element x y (All-head P x xs h) (All-head P y ys k)) (dot_of-element xs ys (All-tail P x xs h) (All-tail P y ys k))

  -- the product of rows in either order
  pub dot_of-comm : (xs ys : List A) → All P xs → All P ys → dot_of nought add mul xs ys ≡ dot_of nought add mul ys xs
  dot_of-comm [] [] h k = refl
  dot_of-comm [] (y ∷ ys) h k = refl
  dot_of-comm (x ∷ xs) [] h k = refl
  dot_of-comm (x ∷ xs) (y ∷ ys) h k = ap₂ add (F.mul_comm x y (All-head P x xs h) (All-head P y ys k)) (dot_of-comm xs ys (All-tail P x xs h) (All-tail P y ys k))

  -- the product of a row plus a multiple of another
  pub dot_of-plus_multiple : (xs : List A) (by : A) (ys zs : List A) → All P xs → P by → All P ys → All P zs → length xs ≡ length ys
      → dot_of nought add mul (plus_multiple add mul xs by ys) zs ≡ add (dot_of nought add mul xs zs) (mul by (dot_of nought add mul ys zs))
  dot_of-plus_multiple [] by [] zs h b k l same = sym (ap (add nought) (mul-nought by b) ∙ F.zero_add nought F.zero_element)
  dot_of-plus_multiple [] by (y ∷ ys) zs h b k l same = absurd (omega arith)
  dot_of-plus_multiple (x ∷ xs) by [] zs h b k l same = absurd (omega arith)
  dot_of-plus_multiple (x ∷ xs) by (y ∷ ys) [] h b k l same = sym (ap (add nought) (mul-nought by b) ∙ F.zero_add nought F.zero_element)
  dot_of-plus_multiple (x ∷ xs) by (y ∷ ys) (z ∷ zs) h b k l same =
      let p = All-head P x xs h in
      let q = All-head P y ys k in
      let r = All-head P z zs l in
      let h' = All-tail P x xs h in
      let k' = All-tail P y ys k in
      let l' = All-tail P z zs l in
      let D = dot_of nought add mul xs zs in
      let E = dot_of nought add mul ys zs in
      let d = dot_of-element xs zs h' l' in
      let e = dot_of-element ys zs k' l' in
      let b_y = F.mul_element by y b q in
      let y_z = F.mul_element y z q r in
      let first =
      F.mul_comm (add x (mul by y)) z (F.add_element x (mul by y) p b_y) r ∙ F.mul_add z x (mul by y) r p b_y
      ∙ ap₂ add (F.mul_comm z x r p) (F.mul_comm z (mul by y) r b_y ∙ F.mul_assoc by y z b q r)
      in
      ap₂ add first (dot_of-plus_multiple xs by ys zs h' b k' l' (omega arith))
      ∙ exchange (mul x z) (mul by (mul y z)) D (mul by E) (F.mul_element x z p r) (F.mul_element by (mul y z) b y_z) d (F.mul_element by E b e)
      ∙ ap (add (add (mul x z) D)) (sym (F.mul_add by (mul y z) E b y_z e))

  -- the product of a multiple of a row
  pub dot_of-multiple_of : (by : A) (xs zs : List A) → P by → All P xs → All P zs → dot_of nought add mul (multiple_of mul by xs) zs ≡ mul by (dot_of nought add mul xs zs)
  dot_of-multiple_of by [] zs b h l = sym (mul-nought by b)
  dot_of-multiple_of by (x ∷ xs) [] b h l = sym (mul-nought by b)
  dot_of-multiple_of by (x ∷ xs) (z ∷ zs) b h l =
      let p = All-head P x xs h in
      let r = All-head P z zs l in
      let h' = All-tail P x xs h in
      let l' = All-tail P z zs l in
      ap₂ add (F.mul_assoc by x z b p r) (dot_of-multiple_of by xs zs b h' l') ∙ sym (F.mul_add by (mul x z) (dot_of nought add mul xs zs) b (F.mul_element x z p r) (dot_of-element xs zs h' l'))

  -- the product of rows that each are two in a row, where the first two have one length
  pub dot_of-append : (xs ys us vs : List A) → All P xs → All P ys → All P us → All P vs → length xs ≡ length us
      → dot_of nought add mul (xs ++ ys) (us ++ vs) ≡ add (dot_of nought add mul xs us) (dot_of nought add mul ys vs)
  dot_of-append [] ys [] vs h k l m same = sym (F.zero_add (dot_of nought add mul ys vs) (dot_of-element ys vs k m))
  dot_of-append [] ys (u ∷ us) vs h k l m same = absurd (omega arith)
  dot_of-append (x ∷ xs) ys [] vs h k l m same = absurd (omega arith)
  dot_of-append (x ∷ xs) ys (u ∷ us) vs h k l m same =
      let h' = All-tail P x xs h in
      let l' = All-tail P u us l in
      ap (add (mul x u)) (dot_of-append xs ys us vs h' k l' m (omega arith))
      ∙ sym (F.add_assoc (mul x u) (dot_of nought add mul xs us) (dot_of nought add mul ys vs) (F.mul_element x u (All-head P x xs h) (All-head P u us l)) (dot_of-element xs us h' l') (dot_of-element ys vs k m))

  -- the product of a row and zeros
  pub dot_of-zeros : (xs : List A) (n : ℕ) → All P xs → dot_of nought add mul xs (replicate n nought) ≡ nought
  dot_of-zeros [] n h = refl
  dot_of-zeros (x ∷ xs) zero h = refl
  dot_of-zeros (x ∷ xs) (suc n) h = ap₂ add (mul-nought x (All-head P x xs h)) (dot_of-zeros xs n (All-tail P x xs h)) ∙ F.zero_add nought F.zero_element

  -- the product of a row and a part of a unit row
  dot-unit_from : (xs : List A) (a n j k : ℕ) → All P xs → a + k ≡ j → k < n → dot_of nought add mul xs (map (identity_entry nought one j) (range_with_len a n)) ≡ get_or xs k nought
  dot-unit_from [] a n j k h at below = refl
  dot-unit_from (x ∷ xs) a zero j k h at below = absurd (omega arith)
  dot-unit_from (x ∷ xs) a (suc n) j zero h at below =
      let p = All-head P x xs h in
      let here : j ≡ a = omega arith in
      let on : identity_entry nought one j a ≡ one = ap (λ i. identity_entry nought one i a) here ∙ identity_entry-on nought one a in
      ap₂ add (ap (mul x) on ∙ mul-one x p) (ap (dot_of nought add mul xs) (unit-behind nought one j (a + 1) n (omega arith)) ∙ dot_of-zeros xs n (All-tail P x xs h)) ∙ add-nought x p
  dot-unit_from (x ∷ xs) a (suc n) j (suc k) h at below =
      let rest = All-tail P x xs h in
      let off = identity_entry-off nought one j a (λ e. omega arith) in
      let behind = dot-unit_from xs (a + 1) n j k rest (omega arith) (omega arith) in
      ap₂ add (ap (mul x) off ∙ mul-nought x (All-head P x xs h)) refl
      ∙ F.zero_add _ (dot_of-element xs (map (identity_entry nought one j) (range_with_len (a + 1) n)) rest
      (All-map P (identity_entry nought one j) (range_with_len (a + 1) n) (λ k d below. identity_entry-element j (get_or (range_with_len (a + 1) n) k d))))
      ∙ behind

  -- the product of a row and a unit row is the element at its one
  pub dot_of-unit_of : (xs : List A) (n j : ℕ) → All P xs → j < n → dot_of nought add mul xs (unit_of nought one n j) ≡ get_or xs j nought
  dot_of-unit_of xs n j h below = dot-unit_from xs 0 n j j h (omega arith) below

  -- and in the other order
  pub unit_of-dot_of : (xs : List A) (n j : ℕ) → All P xs → j < n → dot_of nought add mul (unit_of nought one n j) xs ≡ get_or xs j nought
  unit_of-dot_of xs n j h below = dot_of-comm (unit_of nought one n j) xs (unit_of-elements n j) h ∙ dot_of-unit_of xs n j h below

  -- a sum of three, the first and the last exchanged
  turn : (a b c : A) → P a → P b → P c → add (add a b) c ≡ add (add c b) a
  turn a b c p q r = F.add_assoc a b c p q r ∙ ap (add a) (F.add_comm b c q r) ∙ F.add_comm a (add c b) p (F.add_element c b r q)

  -- the product of rows with another element at a place of each: its summand there takes that of the elements before
  pub dot_of-set : (xs ys : List A) (k : ℕ) (x y : A) → All P xs → All P ys → P x → P y → k < length xs → k < length ys
      → add (dot_of nought add mul (set xs k x) (set ys k y)) (mul (get_or xs k nought) (get_or ys k nought)) ≡ add (dot_of nought add mul xs ys) (mul x y)
  dot_of-set [] ys k x y h l p q below inside = absurd (omega arith)
  dot_of-set (a ∷ xs) [] k x y h l p q below inside = absurd (omega arith)
  dot_of-set (a ∷ xs) (b ∷ ys) zero x y h l p q below inside =
      turn (mul x y) (dot_of nought add mul xs ys) (mul a b) (F.mul_element x y p q) (dot_of-element xs ys (All-tail P a xs h) (All-tail P b ys l))
      (F.mul_element a b (All-head P a xs h) (All-head P b ys l))
  dot_of-set (a ∷ xs) (b ∷ ys) (suc k) x y h l p q below inside =
      let h' = All-tail P a xs h in
      let l' = All-tail P b ys l in
      let m = F.mul_element a b (All-head P a xs h) (All-head P b ys l) in
      let within : k < length xs = omega arith in
      let here : k < length ys = omega arith in
      let D = dot_of nought add mul (set xs k x) (set ys k y) in
      let d = dot_of-element (set xs k x) (set ys k y) (All-set P xs k x p h') (All-set P ys k y q l') in
      let E = mul (get_or xs k nought) (get_or ys k nought) in
      let e = F.mul_element (get_or xs k nought) (get_or ys k nought) (All-get_or P xs k nought within h') (All-get_or P ys k nought here l') in
      F.add_assoc (mul a b) D E m d e ∙ ap (add (mul a b)) (dot_of-set xs ys k x y h' l' p q within here)
      ∙ sym (F.add_assoc (mul a b) (dot_of nought add mul xs ys) (mul x y) m (dot_of-element xs ys h' l') (F.mul_element x y p q))

  -- the products of a row and parts of rows, by the first place
  row-split : (x : A) (row : List A) (a : ℕ) (rows : List (List A)) → P x → All P row → All (λ r. length r ≡ a + suc (length row)) rows → All (All P) rows
      → map (λ r. dot_of nought add mul (x ∷ row) (drop a r)) rows ≡ plus_multiple add mul (map (λ r. dot_of nought add mul row (drop (a + 1) r)) rows) x (column_of nought a rows)
  row-split x row a [] p h wide elements = refl
  row-split x row a (r ∷ rows) p h wide elements =
      let same : length r ≡ a + suc (length row) = All-head (λ (r : List A). length r ≡ a + suc (length row)) r rows wide in
      let long : a < length r = omega arith in
      let q = All-head (All P) r rows elements in
      let y = get_or r a nought in
      let rest = drop (a + 1) r in
      ap₂ (λ (z l : _). z ∷ l)
      (ap (dot_of nought add mul (x ∷ row)) (drop_more r a nought long)
      ∙ F.add_comm (mul x y) (dot_of nought add mul row rest) (F.mul_element x y p (All-get_or P r a nought long q)) (dot_of-element row rest h (All-drop P (a + 1) r q)))
      (row-split x row a rows p h (All-tail (λ (r : List A). length r ≡ a + suc (length row)) r rows wide) (All-tail (All P) r rows elements))

  -- zeros times a row
  dot-noughts : (rows : List (List A)) (ys : List A) → All P ys → dot_of nought add mul (map (λ (r : List A). nought) rows) ys ≡ nought
  dot-noughts [] ys k = refl
  dot-noughts (r ∷ rows) [] k = refl
  dot-noughts (r ∷ rows) (y ∷ ys) k =
      let p = All-head P y ys k in
      ap₂ add (F.mul_comm nought y F.zero_element p ∙ mul-nought y p) (dot-noughts rows ys (All-tail P y ys k)) ∙ F.zero_add nought F.zero_element

  -- the products of a row and parts of rows, times another row
  dot-rows_from : (row : List A) (rows : List (List A)) (ys : List A) (a : ℕ) → All P row → All (λ r. length r ≡ a + length row) rows → All (All P) rows → All P ys
      → dot_of nought add mul (map (λ r. dot_of nought add mul row (drop a r)) rows) ys
      ≡ dot_of nought add mul row (map (λ i. dot_of nought add mul (column_of nought i rows) ys) (range_with_len a (length row)))
  dot-rows_from [] rows ys a h wide elements k = dot-noughts rows ys k
  dot-rows_from (x ∷ row) rows ys a h wide elements k =
      let p = All-head P x row h in
      let h' = All-tail P x row h in
      let parts = map (λ r. dot_of nought add mul row (drop (a + 1) r)) rows in
      let column = column_of nought a rows in
      let made : All P parts =
      All-map P (λ r. dot_of nought add mul row (drop (a + 1) r)) rows
      (λ i d below. dot_of-element row (drop (a + 1) (get_or rows i d)) h' (All-drop P (a + 1) (get_or rows i d) (elements i d below)))
      in
      let col : All P column =
      All-map P (λ (r : List A). get_or r a nought) rows
      (λ i d below. let long : a < length (get_or rows i d) = omega (arith, wide i d below) in All-get_or P (get_or rows i d) a nought long (elements i d below))
      in
      let rest : All (λ r. length r ≡ a + 1 + length row) rows = λ i d below. omega (arith, wide i d below) in
      let first = dot_of nought add mul column ys in
      let more = dot_of nought add mul row (map (λ i. dot_of nought add mul (column_of nought i rows) ys) (range_with_len (a + 1) (length row))) in
      let behind = dot-rows_from row rows ys (a + 1) h' rest elements k in
      let f = dot_of-element column ys col k in
      let e : P (dot_of nought add mul parts ys) = dot_of-element parts ys made k in
      ap (λ l. dot_of nought add mul l ys) (row-split x row a rows p h' wide elements)
      ∙ dot_of-plus_multiple parts x column ys made p col k (length-map rows (λ r. dot_of nought add mul row (drop (a + 1) r)) ∙ sym (length-map rows (λ (r : List A). get_or r a nought)))
      ∙ F.add_comm (dot_of nought add mul parts ys) (mul x first) e (F.mul_element x first p f) ∙ ap (add (mul x first)) behind

  -- the products of a row and rows, times another row: that row times each column comes first
  pub dot_of-rows : (row : List A) (rows : List (List A)) (ys : List A) → All P row → All (λ r. length r ≡ length row) rows → All (All P) rows → All P ys
      → dot_of nought add mul (map (dot_of nought add mul row) rows) ys
      ≡ dot_of nought add mul row (map (λ i. dot_of nought add mul (column_of nought i rows) ys) (range_with_len 0 (length row)))
  dot_of-rows row rows ys h wide elements k = dot-rows_from row rows ys 0 h (λ i d below. omega (arith, wide i d below)) elements k
