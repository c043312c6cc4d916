-- Laws of links that are taken in one by one. The rows of those that are kept have the sums of all vectors and add up, so the
-- coefficients behind unit rows undo the vectors, and a block that is hidden under the rows is hidden under each link.
use Rattle.std.specs.Prelude.{◌≡◌, ◌<◌, ◌≤◌, ℕ, suc, Bool, true, false, IsTrue, get_or, nat_lt, reverse, List, [], ◌∷◌, ◌++◌, if◌then◌else◌, length, map, take}
use Rattle.std.specs.List.{AllByRecursion, Contains, list_all}
use Rattle.std.proofs.Common.{arith, refl, sym, ap, inl, inr, subst, ◌∙◌}
use Rattle.std.proofs.lemmas.Bool.{and_from, and_parts}
use Rattle.std.proofs.lemmas.List.{append-nil, get_or-map, length-append, length-map, map_push, reverse-append}
use Rattle.std.proofs.lemmas.List.Elements.{Contains-append_right, Contains-push_cases}
use Rattle.std.proofs.lemmas.List.Folds.{list_all-append}
use Rattle.std.proofs.lemmas.List.FromFn.{fill_by_all}
use Rattle.gf_tables.specs.declared.kind.FieldKind.{FieldKind}
use Rattle.linear_algebra.proofs.MatrixLaws.{length-times_rows}
use Rattle.linear_algebra.specs.Matrices.{identity, times_rows}
use Rattle.linear_algebra.specs.Rows.{AreRows, IsRow, combination, dot, unit_row}
use Rattle.net_model.specs.Lists.{is_rising}
use Rattle.row_spans.proofs.DecidedLaws.{is_sum-false, is_sum-true}
use Rattle.row_spans.proofs.SumLaws.{HaveSameSums-cons, HaveSameSums-same, HaveSameSums-sum, HaveSameSums-then, HaveSameSums-vectors, AreRows-vectors, IsSum-vectors, IsSum-get_or, dot-IsSum, each_of_same}
use Rattle.row_spans.specs.Decided.{is_sum}
use Rattle.row_spans.specs.Spans.{HaveSameSums, IsHidden, IsSum, vectors}
use Rattle.code_finish.proofs.AddsUpLaws.{AreRows-vectors_of, AddsUp-IsSum, AddsUp-more, AddsUp-row_of, each_more, take-row_of}
use Rattle.code_finish.specs.Taken.{AddsUp, AreTaken, IsRowOf, coefficients_of, raising}

-- the vector of each link is one of the sums
pub vector_sum : (field : FieldKind) (rate : ℕ) (vector : ℕ → List ℕ) → ((e : ℕ) → IsRow field rate (vector e)) → (links : List ℕ) (link : ℕ) → Contains links link
    → IsSum field rate (map vector links) (vector link)
vector_sum field rate vector are links link has =
    subst (IsSum field rate (map vector links)) (get_or-map vector links has.0 link [] has.1 ∙ ap vector has.2)
    (IsSum-get_or field rate (map vector links) (AreRows-vectors_of field rate vector are links) has.0 (omega (arith, has.1, length-map links vector)))

module _ (field : FieldKind) (rate : ℕ) (low : rate ≤ 32) (vector : ℕ → List ℕ) (are : (e : ℕ) → IsRow field rate (vector e)) where
  abbrev wide : ℕ
  wide = 64

  -- the vectors of links are rows
  vectors_are : (links : List ℕ) → AreRows field rate (map vector links)
  vectors_are = AreRows-vectors_of field rate vector are

  -- none is taken yet
  pub taken_none : AreTaken field rate vector [] [] []
  taken_none = record { are = tt; count = refl; kept_are = refl; sums = HaveSameSums-same field rate []; add_up = tt }

  -- the row of a link has its vector
  pub row_vector : (link count : ℕ) (row : List ℕ) → IsRowOf (vector link) count row → take rate row ≡ vector link
  row_vector link count row is = take-row_of rate count (vector link) row (are link).width is

  -- a link came whose vector is a sum of multiples of those that came
  pub taken_same : (earlier kept : List ℕ) (rows : List (List ℕ)) → AreTaken field rate vector earlier kept rows → (link : ℕ) (row : List ℕ)
      → take rate row ≡ vector link → IsSum field rate (vectors rate rows) (take rate row) → AreTaken field rate vector (link ∷ earlier) kept rows
  taken_same earlier kept rows taken link row same sum =
      let here : IsSum field rate (map vector earlier) (vector link) = (taken.sums (vector link)).0 (subst (IsSum field rate (vectors rate rows)) same sum) in
      let raised = raising field rate vector earlier in
      record {
        are = taken.are;
        count = taken.count;
        kept_are = taken.kept_are ∙ sym (append-nil raised)
            ∙ ap (λ b. raised ++ (if b then [] else link ∷ [])) (sym (is_sum-true field rate (map vector earlier) (vector link) here));
        sums = HaveSameSums-then field rate (vectors rate rows) (map vector earlier) (vector link ∷ map vector earlier) taken.sums
            (HaveSameSums-sum field rate (map vector earlier) (vector link) (vectors_are earlier) (are link) here);
        add_up = taken.add_up;
      }

  -- a link came whose vector is no such sum
  pub taken_more : (earlier kept : List ℕ) (old : List (List ℕ)) → AreTaken field rate vector earlier kept old → length kept < rate → (link : ℕ) (row : List ℕ) (new : List (List ℕ))
      → IsRowOf (vector link) (length kept) row → IsRow field 64 row → ¬ IsSum field rate (vectors rate old) (take rate row)
      → AreRows field 64 new → HaveSameSums field 64 new (row ∷ old) → length new ≡ suc (length old)
      → AreTaken field rate vector (link ∷ earlier) (kept ++ link ∷ []) new
  taken_more earlier kept old taken few link row new row_of is raises new_are same count =
      let within : rate ≤ 64 = omega (arith, low) in
      let vector_is = row_vector link (length kept) row row_of in
      let other : ¬ IsSum field rate (map vector earlier) (vector link) =
      λ sum. raises (subst (IsSum field rate (vectors rate old)) (sym vector_is) ((taken.sums (vector link)).1 sum))
      in
      let raised = raising field rate vector earlier in
      let first : HaveSameSums field rate (vectors rate new) (vector link ∷ vectors rate old) =
      subst (λ v. HaveSameSums field rate (vectors rate new) (v ∷ vectors rate old)) vector_is
      (HaveSameSums-vectors field wide rate new (row ∷ old) within new_are (is, taken.are) same)
      in
      let few_vectors : length (map vector kept) < rate = omega (arith, few, length-map kept vector) in
      let more : List (List ℕ) = map vector kept ++ vector link ∷ [] in
      let here : AddsUp field rate more row =
      AddsUp-row_of field rate low (map vector kept) (vectors_are kept) few_vectors (vector link) (are link) row (subst (λ n. IsRowOf (vector link) n row) (sym (length-map kept vector)) row_of)
      in
      let before : AllByRecursion (AddsUp field rate more) old =
      each_more field wide (AddsUp field rate (map vector kept)) (AddsUp field rate more)
      (AddsUp-more field rate low (map vector kept) (vectors_are kept) few_vectors (vector link) (are link)) old taken.are taken.add_up
      in
      let most : length (map vector (kept ++ link ∷ [])) ≤ rate = omega (arith, few, length-map (kept ++ link ∷ []) vector, length-append kept (link ∷ [])) in
      let all : AllByRecursion (AddsUp field rate (map vector (kept ++ link ∷ []))) (row ∷ old) =
      subst (λ vs. AllByRecursion (AddsUp field rate vs) (row ∷ old)) (sym (map_push vector kept link)) (here, before)
      in
      record {
        are = new_are;
        count = omega (arith, count, taken.count, length-append kept (link ∷ []));
        kept_are = ap (λ (links : List ℕ). links ++ link ∷ []) taken.kept_are
            ∙ ap (λ b. raised ++ (if b then [] else link ∷ [])) (sym (is_sum-false field rate (map vector earlier) (vector link) other));
        sums = HaveSameSums-then field rate (vectors rate new) (vector link ∷ vectors rate old) (vector link ∷ map vector earlier) first
            (HaveSameSums-cons field rate (vector link) (vectors rate old) (map vector earlier) (are link) (AreRows-vectors field wide rate old within taken.are) (vectors_are earlier) taken.sums);
        add_up = each_more field wide (IsSum field wide (row ∷ old)) (AddsUp field rate (map vector (kept ++ link ∷ [])))
            (λ some some_is. AddsUp-IsSum field rate low (map vector (kept ++ link ∷ [])) (vectors_are (kept ++ link ∷ [])) most (row ∷ old) (is, taken.are) all some)
            new new_are (each_of_same field wide new (row ∷ old) new_are same);
      }

  -- a block that is hidden under the rows is so under each link that came
  pub taken_hidden : (earlier kept : List ℕ) (rows : List (List ℕ)) → AreTaken field rate vector earlier kept rows → (block : List ℕ) → IsHidden field rate (vectors rate rows) block
      → (link : ℕ) → Contains earlier link → dot field (vector link) block ≡ 0
  taken_hidden earlier kept rows taken block hidden link has =
      dot-IsSum field rate (vectors rate rows) (AreRows-vectors field wide rate rows (omega (arith, low)) taken.are) block hidden.is hidden.products (vector link)
      ((taken.sums (vector link)).1 (vector_sum field rate vector are earlier link has))

  -- a sum of multiples of the rows adds up
  taken_sum : (earlier kept : List ℕ) (rows : List (List ℕ)) → AreTaken field rate vector earlier kept rows → length kept ≡ rate → (row : List ℕ) → IsSum field wide rows row
      → take rate row ≡ combination field rate (coefficients_of rate row) (map vector kept)
  taken_sum earlier kept rows taken full row sum =
      let long : length (map vector kept) ≡ rate = length-map kept vector ∙ full in
      (AddsUp-IsSum field rate low (map vector kept) (vectors_are kept) (omega (arith, long)) rows taken.are taken.add_up row sum).sum
      ∙ ap (λ (count : ℕ). combination field rate (coefficients_of count row) (map vector kept)) long

  -- the coefficients behind unit rows that are sums of the rows make the vectors of the kept links the identity
  pub taken_identity : (earlier kept : List ℕ) (rows : List (List ℕ)) → AreTaken field rate vector earlier kept rows → length kept ≡ rate
      → (matrix : List (List ℕ)) → length matrix ≡ rate
      → ((k : ℕ) → k < rate → (row : List ℕ) × IsSum field 64 rows row × (take rate row ≡ unit_row rate k) × (get_or matrix k [] ≡ coefficients_of rate row))
      → times_rows field rate matrix (map vector kept) ≡ identity rate
  taken_identity earlier kept rows taken full matrix square units =
      let product = times_rows field rate matrix (map vector kept) in
      let long : length product ≡ rate = length-times_rows field rate matrix (map vector kept) ∙ square in
      fill_by_all (unit_row rate) product rate [] long
      (λ k below.
      let found = units k below in
      get_or-map (λ (times : List ℕ). combination field rate times (map vector kept)) matrix k [] [] (omega (arith, below, square))
      ∙ ap (λ (times : List ℕ). combination field rate times (map vector kept)) found.3
      ∙ sym (taken_sum earlier kept rows taken full found.0 found.1)
      ∙ found.2)

  -- unit rows that are sums of the rows are sums of the vectors of the links that came
  pub taken_units : (earlier kept : List ℕ) (rows : List (List ℕ)) → AreTaken field rate vector earlier kept rows
      → ((k : ℕ) → k < rate → (row : List ℕ) × IsSum field 64 rows row × (take rate row ≡ unit_row rate k))
      → (k : ℕ) → k < rate → IsSum field rate (map vector earlier) (unit_row rate k)
  taken_units earlier kept rows taken units k below =
      let found = units k below in
      (taken.sums (unit_row rate k)).0
      (subst (IsSum field rate (vectors rate rows)) found.2 (IsSum-vectors field wide rate rows (omega (arith, low)) found.0 found.1))

-- rising numbers with one above them behind them rise
rising-push : (xs : List ℕ) (x : ℕ) → is_rising xs ≡ true → list_all (λ y. nat_lt y x) xs ≡ true → is_rising (xs ++ x ∷ []) ≡ true
rising-push [] x rising below = refl
rising-push (y ∷ ys) x rising below =
    let parts = and_parts (list_all (nat_lt y) ys) (is_rising ys) rising in
    let less = and_parts (nat_lt y x) (list_all (λ y. nat_lt y x) ys) below in
    and_from _ _ (list_all-append (nat_lt y) ys (x ∷ []) ∙ and_from _ _ parts.0 (and_from _ _ less.0 refl)) (rising-push ys x parts.1 less.1)

-- where numbers with one behind them rise, they do without it and are below it
rising-pushed : (xs : List ℕ) (x : ℕ) → is_rising (xs ++ x ∷ []) ≡ true → (is_rising xs ≡ true) × (list_all (λ y. nat_lt y x) xs ≡ true)
rising-pushed [] x rising = (refl, refl)
rising-pushed (y ∷ ys) x rising =
    let parts = and_parts (list_all (nat_lt y) (ys ++ x ∷ [])) (is_rising (ys ++ x ∷ [])) rising in
    let above = and_parts (list_all (nat_lt y) ys) (list_all (nat_lt y) (x ∷ [])) (sym (list_all-append (nat_lt y) ys (x ∷ [])) ∙ parts.0) in
    let rest = rising-pushed ys x parts.1 in
    (and_from _ _ above.0 rest.0, and_from _ _ (and_parts (nat_lt y x) true above.1).0 rest.1)

-- a link more, or none
more_or_none : (b : Bool) (links : List ℕ) (link : ℕ) (P : List ℕ → Type 0) → P links → P (links ++ link ∷ []) → P (links ++ (if b then [] else link ∷ []))
more_or_none true links link P same more = subst P (sym (append-nil links)) same
more_or_none false links link P same more = more

module _ (field : FieldKind) (rate : ℕ) (vector : ℕ → List ℕ) where
  -- each link that is kept is one that came
  pub raising_within : (earlier : List ℕ) (link : ℕ) → Contains (raising field rate vector earlier) link → Contains earlier link
  raising_within [] link = λ has. has
  raising_within (first ∷ earlier) link =
      let kept = raising field rate vector earlier in
      let behind : Contains kept link → Contains (first ∷ earlier) link = λ has. Contains-append_right (first ∷ []) earlier link (raising_within earlier link has) in
      more_or_none (is_sum field rate (map vector earlier) (vector first)) kept first (λ links. Contains links link → Contains (first ∷ earlier) link) behind
      (λ has. elim (Contains-push_cases kept first link has) [ inl old ↦ behind old | inr here ↦ (0, omega arith, here) ])

  -- at most as many are kept
  pub length-raising : (earlier : List ℕ) → length (raising field rate vector earlier) ≤ length earlier
  length-raising [] = omega arith
  length-raising (first ∷ earlier) =
      let kept = raising field rate vector earlier in
      let fewer = length-raising earlier in
      more_or_none (is_sum field rate (map vector earlier) (vector first)) kept first (λ links. length links ≤ suc (length earlier)) (omega (arith, fewer))
      (omega (arith, fewer, length-append kept (first ∷ [])))

  -- a test that each link passes that came is passed by each that is kept
  raising-passes : (test : ℕ → Bool) (earlier : List ℕ) → list_all test (reverse earlier) ≡ true → list_all test (raising field rate vector earlier) ≡ true
  raising-passes test [] passes = refl
  raising-passes test (first ∷ earlier) passes =
      let kept = raising field rate vector earlier in
      let parts = and_parts (list_all test (reverse earlier)) (list_all test (first ∷ []))
      (sym (ap (list_all test) (reverse-append (first ∷ []) earlier) ∙ list_all-append test (reverse earlier) (first ∷ [])) ∙ passes)
      in
      let old = raising-passes test earlier parts.0 in
      more_or_none (is_sum field rate (map vector earlier) (vector first)) kept first (λ links. list_all test links ≡ true) old
      (list_all-append test kept (first ∷ []) ∙ and_from _ _ old parts.1)

  -- they rise where the links that came do
  pub is_rising-raising : (earlier : List ℕ) → IsTrue (is_rising (reverse earlier)) → IsTrue (is_rising (raising field rate vector earlier))
  is_rising-raising [] rising = refl
  is_rising-raising (first ∷ earlier) rising =
      let kept = raising field rate vector earlier in
      let parts = rising-pushed (reverse earlier) first (sym (ap is_rising (reverse-append (first ∷ []) earlier)) ∙ rising) in
      let old = is_rising-raising earlier parts.0 in
      more_or_none (is_sum field rate (map vector earlier) (vector first)) kept first (λ links. is_rising links ≡ true) old
      (rising-push kept first old (raising-passes (λ y. nat_lt y first) earlier parts.1))
