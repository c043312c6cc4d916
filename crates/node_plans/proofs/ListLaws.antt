-- Laws of lists: what passes a test, and numbers of a range that do.
use Rattle.std.specs.Prelude.{◌≡◌, ℕ, zero, suc, ◌+◌, ◌<◌, ◌≤◌, ◌==◌, Bool, true, false, cond, nat_lt, List, [], ◌∷◌, All, filter, length, map}
use Rattle.std.specs.List.{list_all, position_or_len, range_with_len}
use Rattle.std.proofs.Common.{refl, ◌∙◌, ap, arith}
use Rattle.std.proofs.lemmas.Bool.{and_from, and_parts, eq-eqb, lt-ltb, ltb-true, ne_eqb}
use Rattle.std.proofs.lemmas.List.Elements.{All-filter, All-head, All-tail, filter_passes}
use Rattle.std.proofs.lemmas.List.FromFn.{get_or-range_with_len, length-range_with_len}
use Rattle.std.proofs.lemmas.List.Sums.{count_by-le-length, length-filter}
use Rattle.net_model.specs.Lists.{is_rising}

-- where no item passes a test, none is left
pub filter-none : {X : Type 0} (test : X → Bool) (xs : List X) → All (λ x. test x ≡ false) xs → filter test xs ≡ []
filter-none test [] none = refl
filter-none test (x ∷ xs) none =
    rw (All-head (λ x. test x ≡ false) x xs none) (filter-none test xs (All-tail (λ x. test x ≡ false) x xs none))

-- tests that agree on each item keep the same
pub filter-agree : {X : Type 0} (p q : X → Bool) (P : X → Type 0) → ((x : X) → P x → p x ≡ q x) → (xs : List X) → All P xs → filter p xs ≡ filter q xs
filter-agree p q P agree [] all = refl
filter-agree p q P agree (x ∷ xs) all =
    rw (agree x (All-head P x xs all), filter-agree p q P agree xs (All-tail P x xs all)) refl

-- no more are left than there were
pub length-filter-le : {X : Type 0} (test : X → Bool) (xs : List X) → length (filter test xs) ≤ length xs
length-filter-le test xs = omega (arith, length-filter test xs, count_by-le-length test xs)

-- a test of a part of each item is one of the parts
pub map-filter : {X Y : Type 0} (part : X → Y) (test : Y → Bool) (xs : List X) → map part (filter (λ x. test (part x)) xs) ≡ filter test (map part xs)
map-filter part test [] = refl
map-filter part test (x ∷ xs) = by (test (part x)) (map-filter part test xs)
  where
    by : (b : Bool) → map part (filter (λ x. test (part x)) xs) ≡ filter test (map part xs)
        → map part (cond b (x ∷ filter (λ x. test (part x)) xs) (filter (λ x. test (part x)) xs)) ≡ cond b (part x ∷ filter test (map part xs)) (filter test (map part xs))
    by true rest = ap (λ ys. part x ∷ ys) rest
    by false rest = rest

-- where numbers of items rise, so do others that rise with them
module _ {X : Type 0} (f g : X → ℕ) (P : X → Type 0) (rises : (x y : X) → P x → P y → f x < f y → g x < g y) where
  above_each : (x : X) (xs : List X) → P x → All P xs → list_all (nat_lt (f x)) (map f xs) ≡ true → list_all (nat_lt (g x)) (map g xs) ≡ true
  above_each x [] is all above = refl
  above_each x (y ∷ ys) is all above =
      let parts = and_parts _ _ above in
      and_from _ _ (lt-ltb _ _ (rises x y is (All-head P y ys all) (ltb-true _ _ parts.0))) (above_each x ys is (All-tail P y ys all) parts.1)

  pub is_rising-map : (xs : List X) → All P xs → is_rising (map f xs) ≡ true → is_rising (map g xs) ≡ true
  is_rising-map [] all rising = refl
  is_rising-map (x ∷ xs) all rising =
      let parts = and_parts _ _ rising in
      let rest = All-tail P x xs all in
      and_from _ _ (above_each x xs (All-head P x xs all) rest parts.0) (is_rising-map xs rest parts.1)

-- the numbers of a range are below its end
pub range-below : (n : ℕ) → All (λ k. k < n) (range_with_len 0 n)
range-below n k d within =
    let inside : k < n = omega (arith, length-range_with_len 0 n) in
    omega (arith, get_or-range_with_len 0 n k d inside)

-- those that pass a test are, and pass
pub filter_range-each : (test : ℕ → Bool) (n : ℕ) → All (λ k. (k < n) × (test k ≡ true)) (filter test (range_with_len 0 n))
filter_range-each test n k d within =
    (All-filter test (λ k. k < n) (range_with_len 0 n) (range-below n) k d within, filter_passes test (range_with_len 0 n) k d within)

-- one that passes has as many before it as pass before it
pub position-filter_range : (test : ℕ → Bool) (a n m number : ℕ) → a + m ≡ number → m < n → test number ≡ true
    → position_or_len (λ one. one == number) (filter test (range_with_len a n)) ≡ length (filter test (range_with_len a m))
position-filter_range test a zero m number at below passes = absurd (omega arith)
position-filter_range test a (suc n) zero number at below passes =
    let same : a ≡ number = omega arith in
    rw (ap test same ∙ passes, eq-eqb a number same) refl
position-filter_range test a (suc n) (suc m) number at below passes =
    by (test a) (position-filter_range test (a + 1) n m number (omega arith) (omega arith) passes)
  where
    other : (a == number) ≡ false
    other = ne_eqb a number (λ same. absurd (omega arith))

    by : (b : Bool) → position_or_len (λ one. one == number) (filter test (range_with_len (a + 1) n)) ≡ length (filter test (range_with_len (a + 1) m))
        → position_or_len (λ one. one == number) (cond b (a ∷ filter test (range_with_len (a + 1) n)) (filter test (range_with_len (a + 1) n)))
        ≡ length (cond b (a ∷ filter test (range_with_len (a + 1) m)) (filter test (range_with_len (a + 1) m)))
    by true rest = rw other (omega (arith, rest))
    by false rest = rest

-- and those are fewer than pass up to a later one
pub passing-before : (test : ℕ → Bool) (a n m number : ℕ) → a + m ≡ number → m < n → test number ≡ true
    → length (filter test (range_with_len a m)) < length (filter test (range_with_len a n))
passing-before test a zero m number at below passes = absurd (omega arith)
passing-before test a (suc n) zero number at below passes =
    let same : a ≡ number = omega arith in
    rw (ap test same ∙ passes) (omega arith)
passing-before test a (suc n) (suc m) number at below passes =
    by (test a) (passing-before test (a + 1) n m number (omega arith) (omega arith) passes)
  where
    by : (b : Bool) → length (filter test (range_with_len (a + 1) m)) < length (filter test (range_with_len (a + 1) n))
        → length (cond b (a ∷ filter test (range_with_len (a + 1) m)) (filter test (range_with_len (a + 1) m)))
        < length (cond b (a ∷ filter test (range_with_len (a + 1) n)) (filter test (range_with_len (a + 1) n)))
    by true rest = omega (arith, rest)
    by false rest = rest
